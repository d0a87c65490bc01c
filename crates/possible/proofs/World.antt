-- The functions that the entry points reach, in one look-up: a table for each crate, and each function found there with its own code. So there is an environment in which every call of this
-- code runs what it names, and the theorem of each entry point that may write the memory holds there.
use mathlib.Core.Path.{refl}
use mathlib.Core.Bool.{true}
use mathlib.Core.List.{[], ◌∷◌}
use lib.Chars.{codes}
use prog.Linked.{World, Holds, in_world}
use prog.LinkedThreads.{HasT, tie_t, tie_t-follows, tie_t-threads, has-wired_t}
use prog.Routine.{Env}
use ghost.Model as Closed
use contract.Closed.{model⁺, real⁺}
use contract.Running.{Running, within}
use prog.Wired.{Code, Wired}
use Rattle.apply.proofs.Links as apply
use Rattle.board.proofs.Links as board
use Rattle.capi.proofs.Links as capi
use Rattle.checks.proofs.Links as checks
use Rattle.cycles.proofs.Links as cycles
use Rattle.descriptions.proofs.Links as descriptions
use Rattle.engine.proofs.Links as engine
use Rattle.entries.proofs.Links as entries
use Rattle.fields.proofs.Links as fields
use Rattle.fresh.proofs.Links as fresh
use Rattle.groups.proofs.Links as groups
use Rattle.heads.proofs.Links as heads
use Rattle.ieee.proofs.Links as ieee
use Rattle.lent.proofs.Links as lent
use Rattle.memory.proofs.Links as memory
use Rattle.names.proofs.Links as names
use Rattle.panel.proofs.Links as panel
use Rattle.queue.proofs.Links as queue
use Rattle.ranks.proofs.Links as ranks
use Rattle.readings.proofs.Links as readings
use Rattle.refusals.proofs.Links as refusals
use Rattle.removal.proofs.Links as removal
use Rattle.replies.proofs.Links as replies
use Rattle.results.proofs.Links as results
use Rattle.rounds.proofs.Links as rounds
use Rattle.settings.proofs.Links as settings
use Rattle.shown.proofs.Links as shown
use Rattle.slices.proofs.Links as slices
use Rattle.stale.proofs.Links as stale
use Rattle.statistics.proofs.Links as statistics
use Rattle.step_answers.proofs.Links as step_answers
use Rattle.step_checks.proofs.Links as step_checks
use Rattle.table.proofs.Links as table
use Rattle.tags.proofs.Links as tags
use Rattle.tiers.proofs.Links as tiers
use Rattle.values.proofs.Links as values
use Rattle.versions.proofs.Links as versions
use Rattle.words.proofs.Links as words
use Rattle.worker.proofs.Links as worker
use Rattle.writes.proofs.Links as writes
use Rattle.capi.proofs.calls.wz_set_tier.Symbol as wz_set_tier
use Rattle.capi.proofs.calls.wz_load.Symbol as wz_load
use Rattle.capi.proofs.calls.wz_write.Symbol as wz_write
use Rattle.capi.proofs.calls.wz_stop.Symbol as wz_stop
use Rattle.capi.proofs.calls.wz_step.Symbol as wz_step
use Rattle.capi.proofs.creation.wz_create.Symbol as wz_create

infixr 36 ◌&◌
abbrev ◌&◌ : {A B : Type 0} → A → B → A × B
a & b = (a, b)

-- the table of each crate
unfoldable world : World
world =
    (codes "apply", apply.table)
    ∷ (codes "board", board.table)
    ∷ (codes "capi", capi.table)
    ∷ (codes "checks", checks.table)
    ∷ (codes "cycles", cycles.table)
    ∷ (codes "descriptions", descriptions.table)
    ∷ (codes "engine", engine.table)
    ∷ (codes "entries", entries.table)
    ∷ (codes "fields", fields.table)
    ∷ (codes "fresh", fresh.table)
    ∷ (codes "groups", groups.table)
    ∷ (codes "heads", heads.table)
    ∷ (codes "ieee", ieee.table)
    ∷ (codes "lent", lent.table)
    ∷ (codes "memory", memory.table)
    ∷ (codes "names", names.table)
    ∷ (codes "panel", panel.table)
    ∷ (codes "queue", queue.table)
    ∷ (codes "ranks", ranks.table)
    ∷ (codes "readings", readings.table)
    ∷ (codes "refusals", refusals.table)
    ∷ (codes "removal", removal.table)
    ∷ (codes "replies", replies.table)
    ∷ (codes "results", results.table)
    ∷ (codes "rounds", rounds.table)
    ∷ (codes "settings", settings.table)
    ∷ (codes "shown", shown.table)
    ∷ (codes "slices", slices.table)
    ∷ (codes "stale", stale.table)
    ∷ (codes "statistics", statistics.table)
    ∷ (codes "step_answers", step_answers.table)
    ∷ (codes "step_checks", step_checks.table)
    ∷ (codes "table", table.table)
    ∷ (codes "tags", tags.table)
    ∷ (codes "tiers", tiers.table)
    ∷ (codes "values", values.table)
    ∷ (codes "versions", versions.table)
    ∷ (codes "words", words.table)
    ∷ (codes "worker", worker.table)
    ∷ (codes "writes", writes.table)
    ∷ []

-- a function of the world, with its own code and all that it calls
abbrev Has : Code → Type 0
Has c = HasT (in_world world) true c

-- What each crate asks of those below it, lowest first, and then what it gives to those above.
below_memory : memory.Below world
below_memory = tt

in_memory : {T : World → Type 0} → ((W : World) → Holds W "memory" memory.table → memory.Below W → T W) → T world
unfolding world
in_memory f = f world refl below_memory

below_words : words.Below world
below_words = tt

in_words : {T : World → Type 0} → ((W : World) → Holds W "words" words.table → words.Below W → T W) → T world
unfolding world
in_words f = f world refl below_words

below_entries : entries.Below world
below_entries =
    in_memory memory.rows_put_row_cell & in_memory memory.rows_row_cell & in_words words.entry_EntryWordsFromEntry_from
    & in_words words.entry_held_from & tt

in_entries : {T : World → Type 0} → ((W : World) → Holds W "entries" entries.table → entries.Below W → T W) → T world
unfolding world
in_entries f = f world refl below_entries

below_table : table.Below world
below_table =
    in_memory memory.rows_put_row & in_memory memory.rows_row & in_words words.entry_EntryWordsFromOptionEntry_from & in_words words.entry_held_from
    & in_words words.scalar_float_of_word & in_words words.scalar_word_of_flag & in_words words.scalar_word_of_float
    & in_words words.time_TimeWordsFromOptionF64_from & in_words words.time_time_from & tt

in_table : {T : World → Type 0} → ((W : World) → Holds W "table" table.table → table.Below W → T W) → T world
unfolding world
in_table f = f world refl below_table

below_fields : fields.Below world
below_fields =
    in_memory memory.rows_put_row_cell & in_memory memory.rows_row_cell & in_table table.codec_GraceWordsFromOptionGrace_from
    & in_table table.codec_description_from & in_table table.codec_description_word & in_table table.codec_grace_from
    & in_table table.codec_settings_from & in_table table.codec_timing_from & in_words words.scalar_word_of_flag & in_words words.scalar_word_of_float
    & in_words words.time_TimeWordsFromOptionF64_from & tt

in_fields : {T : World → Type 0} → ((W : World) → Holds W "fields" fields.table → fields.Below W → T W) → T world
unfolding world
in_fields f = f world refl below_fields

below_groups : groups.Below world
below_groups =
    in_memory memory.cells_cell & in_memory memory.cells_put_cell & in_words words.time_TimeWordsFromOptionF64_from & in_words words.time_time_from
    & tt

in_groups : {T : World → Type 0} → ((W : World) → Holds W "groups" groups.table → groups.Below W → T W) → T world
unfolding world
in_groups f = f world refl below_groups

below_tags : tags.Below world
below_tags =
    in_memory memory.bytes_half & in_memory memory.bytes_put_half & in_memory memory.halves_half & in_memory memory.halves_put_half & tt

in_tags : {T : World → Type 0} → ((W : World) → Holds W "tags" tags.table → tags.Below W → T W) → T world
unfolding world
in_tags f = f world refl below_tags

below_lent : lent.Below world
below_lent =
    in_entries entries.published_of & in_tags tags.at & in_tags tags.count & in_words words.entry_EntryWordsFromOptionEntry_from & tt

in_lent : {T : World → Type 0} → ((W : World) → Holds W "lent" lent.table → lent.Below W → T W) → T world
unfolding world
in_lent f = f world refl below_lent

below_queue : queue.Below world
below_queue =
    in_memory memory.cells_cell & in_memory memory.cells_places & in_memory memory.cells_put_cell & in_tags tags.clear & in_tags tags.push
    & in_words words.value_ValueWordsFromValue_from & in_words words.value_value_from & tt

in_queue : {T : World → Type 0} → ((W : World) → Holds W "queue" queue.table → queue.Below W → T W) → T world
unfolding world
in_queue f = f world refl below_queue

below_removal : removal.Below world
below_removal =
    in_memory memory.bytes_half & in_memory memory.bytes_put_half & in_memory memory.halves_put_half & in_tags tags.count & tt

in_removal : {T : World → Type 0} → ((W : World) → Holds W "removal" removal.table → removal.Below W → T W) → T world
unfolding world
in_removal f = f world refl below_removal

below_board : board.Below world
below_board =
    in_entries entries.cached_of & in_entries entries.forget & in_fields fields.added_of & in_fields fields.description_of
    & in_fields fields.forget_last & in_fields fields.grace_of & in_fields fields.put_after & in_fields fields.put_description
    & in_fields fields.put_standing & in_fields fields.settings_of & in_fields fields.tier_of & in_fields fields.timing_of & in_fields fields.wants_of
    & in_groups groups.read_at & in_lent lent.put_bytes & in_memory memory.halves_half & in_queue queue.clear & in_queue queue.pop
    & in_queue queue.push & in_queue queue.queued & in_removal removal.remove & in_table table.put_tag & in_table table.tag_of & in_tags tags.at
    & in_tags tags.clear & in_tags tags.contains & in_tags tags.count & in_tags tags.push & in_tags tags.shorten & tt

in_board : {T : World → Type 0} → ((W : World) → Holds W "board" board.table → board.Below W → T W) → T world
unfolding world
in_board f = f world refl below_board

below_ieee : ieee.Below world
below_ieee = tt

in_ieee : {T : World → Type 0} → ((W : World) → Holds W "ieee" ieee.table → ieee.Below W → T W) → T world
unfolding world
in_ieee f = f world refl below_ieee

below_heads : heads.Below world
below_heads =
    in_ieee ieee.round_round1 & in_words words.scalar_float_of_word & in_words words.scalar_int_of_word & in_words words.scalar_word_of_flag
    & in_words words.scalar_word_of_float & in_words words.scalar_word_of_int & tt

in_heads : {T : World → Type 0} → ((W : World) → Holds W "heads" heads.table → heads.Below W → T W) → T world
unfolding world
in_heads f = f world refl below_heads

below_names : names.Below world
below_names = tt

in_names : {T : World → Type 0} → ((W : World) → Holds W "names" names.table → names.Below W → T W) → T world
unfolding world
in_names f = f world refl below_names

below_tiers : tiers.Below world
below_tiers =
    in_board board.tag_added_of & in_board board.tag_forget & in_board board.tag_forget_last & in_board board.tag_grace_of & in_board board.tag_is_bit
    & in_board board.tag_put_after & in_board board.tag_put_standing & in_board board.tag_tier_of & in_board board.tag_wants_of
    & in_board board.tag_lists_push_grace & in_board board.tag_lists_push_order & in_board board.tag_lists_remove_grace
    & in_board board.tag_lists_remove_order & tt

in_tiers : {T : World → Type 0} → ((W : World) → Holds W "tiers" tiers.table → tiers.Below W → T W) → T world
unfolding world
in_tiers f = f world refl below_tiers

below_panel : panel.Below world
below_panel =
    in_fields fields.tier_of & in_tags tags.at & in_tags tags.count & in_tiers tiers.grace_set_tier & tt

in_panel : {T : World → Type 0} → ((W : World) → Holds W "panel" panel.table → panel.Below W → T W) → T world
unfolding world
in_panel f = f world refl below_panel

below_results : results.Below world
below_results =
    in_ieee ieee.number_is_finite & in_memory memory.cells_cell & in_words words.error_error_from & in_words words.scalar_float_of_word
    & in_words words.value_value_from & tt

in_results : {T : World → Type 0} → ((W : World) → Holds W "results" results.table → results.Below W → T W) → T world
unfolding world
in_results f = f world refl below_results

below_settings : settings.Below world
below_settings =
    in_ieee ieee.number_is_finite & in_memory memory.cells_cell & in_memory memory.cells_places & in_memory memory.cells_put_cell
    & in_table table.codec_settings_from & in_table table.tag_Settings_none & in_words words.scalar_float_of_word & tt

in_settings : {T : World → Type 0} → ((W : World) → Holds W "settings" settings.table → settings.Below W → T W) → T world
unfolding world
in_settings f = f world refl below_settings

below_checks : checks.Below world
below_checks =
    in_board board.tag_lists_order_count & in_board board.waiting_queued & in_heads heads.link_is_state & in_heads heads.options_check_options
    & in_ieee ieee.times_is_clock & in_names names.directory_Directory_check & in_names names.directory_Directory_count
    & in_panel panel.check_check_panel & in_results results.check_is_finite_value & in_settings settings.configured_check_configured
    & in_settings settings.setting_check_settings & tt

in_checks : {T : World → Type 0} → ((W : World) → Holds W "checks" checks.table → checks.Below W → T W) → T world
unfolding world
in_checks f = f world refl below_checks

below_engine : engine.Below world
below_engine =
    in_heads heads.link_Link_fresh & in_heads heads.link_LinkWordsFromLink_from & in_heads heads.link_link_from
    & in_heads heads.progress_Progress_fresh & in_heads heads.progress_ProgressWordsFromProgress_from & in_heads heads.progress_progress_from
    & in_heads heads.stats_Stats_fresh & in_heads heads.stats_StatsWordsFromStats_from & in_heads heads.stats_stats_from
    & in_memory memory.rows_put_row & in_memory memory.rows_put_row_cell & in_memory memory.rows_row & in_words words.scalar_float_of_word
    & in_words words.scalar_word_of_float & in_words words.time_TimeWordsFromOptionF64_from & in_words words.time_time_from & tt

in_engine : {T : World → Type 0} → ((W : World) → Holds W "engine" engine.table → engine.Below W → T W) → T world
unfolding world
in_engine f = f world refl below_engine

below_ranks : ranks.Below world
below_ranks =
    in_memory memory.halves_put_half & in_names names.directory_Directory_count & in_names names.directory_Directory_is_bit
    & in_names names.directory_Directory_sort_key & in_names names.directory_Directory_word_of & tt

in_ranks : {T : World → Type 0} → ((W : World) → Holds W "ranks" ranks.table → ranks.Below W → T W) → T world
unfolding world
in_ranks f = f world refl below_ranks

below_versions : versions.Below world
below_versions =
    in_board board.starts_tags_in & in_board board.tag_is_bit & in_board board.tag_put_tag & in_board board.tag_tag_of
    & in_heads heads.version_is_changed & in_settings settings.setting_setting_at & tt

in_versions : {T : World → Type 0} → ((W : World) → Holds W "versions" versions.table → versions.Below W → T W) → T world
unfolding world
in_versions f = f world refl below_versions

below_fresh : fresh.Below world
below_fresh =
    in_board board.starts_configured_start & in_board board.starts_keys_start & in_board board.starts_queue_start & in_board board.starts_words_start
    & in_ranks ranks.fill_keys & in_ranks ranks.fill_words & in_settings settings.configured_keep_configured & in_versions versions.check_take_all
    & tt

in_fresh : {T : World → Type 0} → ((W : World) → Holds W "fresh" fresh.table → fresh.Below W → T W) → T world
unfolding world
in_fresh f = f world refl below_fresh

below_refusals : refusals.Below world
below_refusals = tt

in_refusals : {T : World → Type 0} → ((W : World) → Holds W "refusals" refusals.table → refusals.Below W → T W) → T world
unfolding world
in_refusals f = f world refl below_refusals

below_values : values.Below world
below_values =
    in_ieee ieee.band_is_within & in_ieee ieee.round_from_i64 & tt

in_values : {T : World → Type 0} → ((W : World) → Holds W "values" values.table → values.Below W → T W) → T world
unfolding world
in_values f = f world refl below_values

below_apply : apply.Below world
below_apply =
    in_engine engine.Engine_retry_at & in_entries entries.cached_of & in_entries entries.cached_words & in_entries entries.published_of
    & in_entries entries.put_cached & in_entries entries.put_published & in_fields fields.put_mark & in_fields fields.settings_of
    & in_fields fields.tier_of & in_memory memory.cells_cell & in_results results.result_result_at & in_values values.deadband_within_deadband
    & in_values values.entry_merge & in_values values.entry_same & in_words words.scalar_float_of_word & tt

in_apply : {T : World → Type 0} → ((W : World) → Holds W "apply" apply.table → apply.Below W → T W) → T world
unfolding world
in_apply f = f world refl below_apply

below_readings : readings.Below world
below_readings =
    in_apply apply.reading_apply_result & in_board board.parts_back_of & in_board board.parts_table_of & in_board board.starts_order_start
    & in_board board.starts_table_start & in_board board.tag_lists_asked_at & in_board board.tag_lists_asked_count & in_lent lent.changes_put_changes
    & in_lent lent.put_bytes & in_tags tags.at & in_tags tags.clear & in_tags tags.contains & in_tags tags.count & in_tags tags.push & tt

in_readings : {T : World → Type 0} → ((W : World) → Holds W "readings" readings.table → readings.Below W → T W) → T world
unfolding world
in_readings f = f world refl below_readings

below_stale : stale.Below world
below_stale =
    in_board board.parts_table_of & in_board board.starts_order_start & in_board board.starts_table_start & in_readings readings.changes_tell_changes
    & in_table table.put_tag & in_table table.tag_of & in_tags tags.clear & in_tags tags.push & tt

in_stale : {T : World → Type 0} → ((W : World) → Holds W "stale" stale.table → stale.Below W → T W) → T world
unfolding world
in_stale f = f world refl below_stale

below_writes : writes.Below world
below_writes =
    in_board board.parts_asked_of & in_board board.parts_queue_of & in_board board.tag_word_of & in_board board.tag_lists_asked_count
    & in_board board.tag_lists_clear_asked & in_board board.tag_lists_push_asked & in_board board.tag_lists_shorten_asked
    & in_board board.waiting_clear_queue & in_board board.waiting_put_back & in_lent lent.put_tags & in_queue queue.list_queued
    & in_results results.result_result_at & in_tags tags.count & tt

in_writes : {T : World → Type 0} → ((W : World) → Holds W "writes" writes.table → writes.Below W → T W) → T world
unfolding world
in_writes f = f world refl below_writes

below_replies : replies.Below world
below_replies =
    in_board board.waiting_queued & in_engine engine.Engine_backoff & in_engine engine.with_link & in_engine engine.with_progress
    & in_heads heads.link_is_state & in_heads heads.link_state_number & in_heads heads.link_with_attempt & in_heads heads.link_with_state
    & in_heads heads.progress_with_phase & in_heads heads.stats_more & in_refusals refusals.Refusal_number & in_stale stale.mark_stale
    & in_words words.value_ValueWordsFromValue_from & in_writes writes.failing_fail_writes & tt

in_replies : {T : World → Type 0} → ((W : World) → Holds W "replies" replies.table → replies.Below W → T W) → T world
unfolding world
in_replies f = f world refl below_replies

below_statistics : statistics.Below world
below_statistics =
    in_fields fields.settings_of & in_fields fields.tier_of & in_groups groups.group_of & in_ieee ieee.round_round1 & in_lent lent.put_record
    & in_settings settings.configured_configured_at & in_settings settings.configured_configured_count & in_tags tags.at & in_tags tags.contains
    & in_tags tags.count & in_words words.scalar_word_of_float & tt

in_statistics : {T : World → Type 0} → ((W : World) → Holds W "statistics" statistics.table → statistics.Below W → T W) → T world
unfolding world
in_statistics f = f world refl below_statistics

below_shown : shown.Below world
below_shown =
    in_board board.parts_configured_of & in_board board.parts_groups_of & in_board board.parts_order_of & in_board board.parts_recorded_of
    & in_board board.parts_table_of & in_board board.tag_cached_of & in_board board.tag_description_of & in_board board.tag_tier_of
    & in_board board.tag_lists_order_at & in_board board.tag_lists_order_count & in_heads heads.link_state_number & in_lent lent.put_record
    & in_panel panel.write_write_panel & in_statistics statistics.counts_tier_count & in_statistics statistics.group_stats
    & in_words words.entry_EntryWordsFromOptionEntry_from & tt

in_shown : {T : World → Type 0} → ((W : World) → Holds W "shown" shown.table → shown.Below W → T W) → T world
unfolding world
in_shown f = f world refl below_shown

below_step_checks : step_checks.Below world
below_step_checks =
    in_board board.tag_lists_asked_count & in_ieee ieee.times_is_clock & in_results results.check_check_results
    & in_settings settings.setting_check_settings & tt

in_step_checks : {T : World → Type 0} → ((W : World) → Holds W "step_checks" step_checks.table → step_checks.Below W → T W) → T world
unfolding world
in_step_checks f = f world refl below_step_checks

below_descriptions : descriptions.Below world
below_descriptions =
    in_board board.parts_table_of & in_board board.starts_order_start & in_board board.starts_table_start & in_board board.starts_tags_in
    & in_board board.tag_put_description & in_board board.tag_lists_asked_at & in_board board.tag_lists_asked_count
    & in_board board.tag_lists_clear_asked & in_board board.tag_lists_push_asked & in_fields fields.description_of & in_fields fields.put_wants
    & in_fields fields.settings_of & in_fields fields.wants_of & in_memory memory.cells_cell & tt

in_descriptions : {T : World → Type 0} → ((W : World) → Holds W "descriptions" descriptions.table → descriptions.Below W → T W) → T world
unfolding world
in_descriptions f = f world refl below_descriptions

below_slices : slices.Below world
below_slices =
    in_fields fields.tier_of & in_ieee ieee.round_slices & in_memory memory.halves_half & in_memory memory.halves_put_half & in_tags tags.at
    & in_tags tags.clear & in_tags tags.count & in_tags tags.insert_at & in_tags tags.push & in_tags tags.room_of & tt

in_slices : {T : World → Type 0} → ((W : World) → Holds W "slices" slices.table → slices.Below W → T W) → T world
unfolding world
in_slices f = f world refl below_slices

below_rounds : rounds.Below world
below_rounds =
    in_board board.parts_graces_of & in_board board.parts_keys_of & in_board board.parts_order_of & in_board board.parts_table_of
    & in_board board.recording_note & in_board board.starts_order_start & in_board board.starts_table_start & in_board board.tag_grace_of
    & in_board board.tag_settings_of & in_board board.tag_timing_of & in_board board.tag_lists_clear_asked & in_board board.tag_lists_push_asked
    & in_fields fields.added_of & in_fields fields.grace_of & in_fields fields.put_added & in_fields fields.put_last & in_fields fields.settings_of
    & in_fields fields.tier_of & in_fields fields.timing_of & in_ieee ieee.times_is_due & in_ieee ieee.times_is_held_back & in_ieee ieee.times_lesser
    & in_ieee ieee.times_rate_seconds & in_slices slices.slice_take_slice & in_tags tags.at & in_tags tags.clear & in_tags tags.contains
    & in_tags tags.count & in_tags tags.push & in_tiers tiers.set_set & tt

in_rounds : {T : World → Type 0} → ((W : World) → Holds W "rounds" rounds.table → rounds.Below W → T W) → T world
unfolding world
in_rounds f = f world refl below_rounds

below_cycles : cycles.Below world
below_cycles =
    in_board board.tag_lists_asked_count & in_board board.waiting_pop_write & in_descriptions descriptions.ask_descriptions
    & in_engine engine.with_cycle & in_engine engine.with_progress & in_engine engine.with_stats & in_heads heads.progress_with_round
    & in_heads heads.progress_with_writing & in_heads heads.stats_read_stats & in_heads heads.stats_tail_stats & in_replies replies.losing_ended
    & in_replies replies.losing_phased & in_rounds rounds.round_cycle_tags & in_writes writes.request_put_asked & tt

in_cycles : {T : World → Type 0} → ((W : World) → Holds W "cycles" cycles.table → cycles.Below W → T W) → T world
unfolding world
in_cycles f = f world refl below_cycles

below_step_answers : step_answers.Below world
below_step_answers =
    in_board board.waiting_queued & in_cycles cycles.polling_polls & in_cycles cycles.polling_reading & in_cycles cycles.polling_writing
    & in_descriptions descriptions.learn & in_descriptions descriptions.learn_none & in_engine engine.with_link & in_engine engine.with_stats
    & in_heads heads.link_is_state & in_heads heads.link_with_attempt & in_heads heads.link_with_state & in_heads heads.link_with_version
    & in_heads heads.stats_reconnected & in_heads heads.stats_reloaded & in_heads heads.version_is_reloaded & in_readings readings.kept_apply_back
    & in_readings readings.listed_apply & in_replies replies.losing_down & in_replies replies.losing_ended & in_replies replies.losing_failing
    & in_replies replies.losing_phased & in_replies replies.losing_top & in_versions versions.check_check_version
    & in_writes writes.readback_ask_read_back & in_writes writes.readback_keep_back & in_writes writes.readback_read_back_value
    & in_writes writes.request_put_asked & tt

in_step_answers : {T : World → Type 0} → ((W : World) → Holds W "step_answers" step_answers.table → step_answers.Below W → T W) → T world
unfolding world
in_step_answers f = f world refl below_step_answers

below_worker : worker.Below world
below_worker =
    in_cycles cycles.polling_checking & in_cycles cycles.polling_finish & in_cycles cycles.polling_polls & in_cycles cycles.polling_reading
    & in_cycles cycles.polling_writing & in_engine engine.with_clock & in_replies replies.losing_backing_off & in_replies replies.losing_disconnected
    & in_replies replies.losing_down & in_replies replies.losing_phased & in_replies replies.losing_staling & in_replies replies.losing_top
    & in_step_answers step_answers.answers_back_applied & in_step_answers step_answers.answers_backed_off
    & in_step_answers step_answers.answers_connected & in_step_answers step_answers.answers_descriptions
    & in_step_answers step_answers.answers_open_version & in_step_answers step_answers.answers_opened & in_step_answers step_answers.answers_read_back
    & in_step_answers step_answers.answers_results & in_step_answers step_answers.answers_round_version & in_step_answers step_answers.answers_waited
    & in_step_answers step_answers.answers_written & in_step_checks step_checks.awaiting_step_check & tt

in_worker : {T : World → Type 0} → ((W : World) → Holds W "worker" worker.table → worker.Below W → T W) → T world
unfolding world
in_worker f = f world refl below_worker

below_capi : capi.Below world
below_capi =
    in_board board.starts_is_board_size & in_board board.starts_size_for & in_board board.waiting_push_write & in_checks checks.calls_load_check
    & in_checks checks.calls_tier_check & in_checks checks.calls_write_check & in_checks checks.creation_creation_check
    & in_engine engine.Engine_fresh & in_engine engine.load & in_engine engine.put_clock & in_engine engine.store & in_engine engine.with_link
    & in_fresh fresh.create & in_heads heads.link_stopped & in_panel panel.load_load_panel & in_refusals refusals.Refusal_number
    & in_replies replies.reply_Reply_refused & in_replies replies.response_Response_reply & in_shown shown.counts_counts_of
    & in_shown shown.counts_no_counts & in_shown shown.head_no_state & in_shown shown.head_no_stats & in_shown shown.head_state_of
    & in_shown shown.head_stats_of & in_shown shown.list_looks_group_stats & in_shown shown.list_looks_listed & in_shown shown.list_looks_panel
    & in_shown shown.list_looks_table & in_shown shown.tag_no_look & in_shown shown.tag_tag & in_step_checks step_checks.answer_kind_from
    & in_tiers tiers.grace_set_tier & in_words words.value_value_from & in_worker worker.steps_step & tt

in_capi : {T : World → Type 0} → ((W : World) → Holds W "capi" capi.table → capi.Below W → T W) → T world
unfolding world
in_capi f = f world refl below_capi

-- ---- an environment of this look-up
pub env : Env
env = tie_t (in_world world)

-- the machine of the closed model, where the names of a theorem are read in it
abbrev pub running : Running Closed.𝓤 Closed.H model⁺
running = within Closed.𝓤 Closed.H model⁺ real⁺ env

wired : (c : Code) → Has c → Wired env c
unfolding env
wired c has = has-wired_t (in_world world) (tie_t (in_world world)) (tie_t-follows (in_world world)) (tie_t-threads (in_world world)) c has

pub wz_set_tier_wired : Wired env wz_set_tier.code
wz_set_tier_wired = wired wz_set_tier.code (in_capi capi.calls_wz_set_tier)

pub wz_load_wired : Wired env wz_load.code
wz_load_wired = wired wz_load.code (in_capi capi.calls_wz_load)

pub wz_write_wired : Wired env wz_write.code
wz_write_wired = wired wz_write.code (in_capi capi.calls_wz_write)

pub wz_stop_wired : Wired env wz_stop.code
wz_stop_wired = wired wz_stop.code (in_capi capi.calls_wz_stop)

pub wz_step_wired : Wired env wz_step.code
wz_step_wired = wired wz_step.code (in_capi capi.calls_wz_step)

pub wz_create_wired : Wired env wz_create.code
wz_create_wired = wired wz_create.code (in_capi capi.creation_wz_create)
