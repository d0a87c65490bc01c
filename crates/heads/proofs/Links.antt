-- For a link: the table of this crate's functions, what it asks of the crates below it, and that each function that another crate calls is found with its own code and all that it calls.
-- `possible` puts the tables together and runs the entry points.
use mathlib.Core.Bool.{true}
use prog.Linked.{Tree, World, Holds, in_world}
use prog.LinkedThreads.{HasT}
use prog.Wired.{Code}
use Rattle.heads.proofs.TheLink as link
use Rattle.heads.proofs.TheLinks.heads-link-Link-fresh
use Rattle.heads.proofs.TheLinks.heads-link-LinkWordsFromLink-from
use Rattle.heads.proofs.TheLinks.heads-link-is_state
use Rattle.heads.proofs.TheLinks.heads-link-link_from
use Rattle.heads.proofs.TheLinks.heads-link-state_number
use Rattle.heads.proofs.TheLinks.heads-link-stopped
use Rattle.heads.proofs.TheLinks.heads-link-with_attempt
use Rattle.heads.proofs.TheLinks.heads-link-with_state
use Rattle.heads.proofs.TheLinks.heads-link-with_version
use Rattle.heads.proofs.TheLinks.heads-options-check_options
use Rattle.heads.proofs.TheLinks.heads-progress-Progress-fresh
use Rattle.heads.proofs.TheLinks.heads-progress-ProgressWordsFromProgress-from
use Rattle.heads.proofs.TheLinks.heads-progress-progress_from
use Rattle.heads.proofs.TheLinks.heads-progress-with_phase
use Rattle.heads.proofs.TheLinks.heads-progress-with_round
use Rattle.heads.proofs.TheLinks.heads-progress-with_writing
use Rattle.heads.proofs.TheLinks.heads-stats-Stats-fresh
use Rattle.heads.proofs.TheLinks.heads-stats-StatsWordsFromStats-from
use Rattle.heads.proofs.TheLinks.heads-stats-more
use Rattle.heads.proofs.TheLinks.heads-stats-read_stats
use Rattle.heads.proofs.TheLinks.heads-stats-reconnected
use Rattle.heads.proofs.TheLinks.heads-stats-reloaded
use Rattle.heads.proofs.TheLinks.heads-stats-stats_from
use Rattle.heads.proofs.TheLinks.heads-stats-tail_stats
use Rattle.heads.proofs.TheLinks.heads-version-is_changed
use Rattle.heads.proofs.TheLinks.heads-version-is_reloaded

abbrev pub table : Tree
table = link.table

abbrev pub Below : World → Type 0
Below W = link.Below W

abbrev pub Linked : Code → Type 0
Linked c = (W : World) → Holds W "heads" table → Below W → HasT (in_world W) true c

pub link_Link_fresh : Linked heads-link-Link-fresh.code
link_Link_fresh = link.linked-heads::link::Link::fresh

pub link_LinkWordsFromLink_from : Linked heads-link-LinkWordsFromLink-from.code
link_LinkWordsFromLink_from = link.linked-heads::link::LinkWordsFromLink::from

pub link_is_state : Linked heads-link-is_state.code
link_is_state = link.linked-heads::link::is_state

pub link_link_from : Linked heads-link-link_from.code
link_link_from = link.linked-heads::link::link_from

pub link_state_number : Linked heads-link-state_number.code
link_state_number = link.linked-heads::link::state_number

pub link_stopped : Linked heads-link-stopped.code
link_stopped = link.linked-heads::link::stopped

pub link_with_attempt : Linked heads-link-with_attempt.code
link_with_attempt = link.linked-heads::link::with_attempt

pub link_with_state : Linked heads-link-with_state.code
link_with_state = link.linked-heads::link::with_state

pub link_with_version : Linked heads-link-with_version.code
link_with_version = link.linked-heads::link::with_version

pub options_check_options : Linked heads-options-check_options.code
options_check_options = link.linked-heads::options::check_options

pub progress_Progress_fresh : Linked heads-progress-Progress-fresh.code
progress_Progress_fresh = link.linked-heads::progress::Progress::fresh

pub progress_ProgressWordsFromProgress_from : Linked heads-progress-ProgressWordsFromProgress-from.code
progress_ProgressWordsFromProgress_from = link.linked-heads::progress::ProgressWordsFromProgress::from

pub progress_progress_from : Linked heads-progress-progress_from.code
progress_progress_from = link.linked-heads::progress::progress_from

pub progress_with_phase : Linked heads-progress-with_phase.code
progress_with_phase = link.linked-heads::progress::with_phase

pub progress_with_round : Linked heads-progress-with_round.code
progress_with_round = link.linked-heads::progress::with_round

pub progress_with_writing : Linked heads-progress-with_writing.code
progress_with_writing = link.linked-heads::progress::with_writing

pub stats_Stats_fresh : Linked heads-stats-Stats-fresh.code
stats_Stats_fresh = link.linked-heads::stats::Stats::fresh

pub stats_StatsWordsFromStats_from : Linked heads-stats-StatsWordsFromStats-from.code
stats_StatsWordsFromStats_from = link.linked-heads::stats::StatsWordsFromStats::from

pub stats_more : Linked heads-stats-more.code
stats_more = link.linked-heads::stats::more

pub stats_read_stats : Linked heads-stats-read_stats.code
stats_read_stats = link.linked-heads::stats::read_stats

pub stats_reconnected : Linked heads-stats-reconnected.code
stats_reconnected = link.linked-heads::stats::reconnected

pub stats_reloaded : Linked heads-stats-reloaded.code
stats_reloaded = link.linked-heads::stats::reloaded

pub stats_stats_from : Linked heads-stats-stats_from.code
stats_stats_from = link.linked-heads::stats::stats_from

pub stats_tail_stats : Linked heads-stats-tail_stats.code
stats_tail_stats = link.linked-heads::stats::tail_stats

pub version_is_changed : Linked heads-version-is_changed.code
version_is_changed = link.linked-heads::version::is_changed

pub version_is_reloaded : Linked heads-version-is_reloaded.code
version_is_reloaded = link.linked-heads::version::is_reloaded
