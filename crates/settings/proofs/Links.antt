-- For a link: the table of this crate's functions, what it asks of the crates below it, and that each function that another crate calls is found with its own code and all that it calls.
-- `possible` puts the tables together and runs the entry points.
use mathlib.Core.Bool.{true}
use prog.Linked.{Tree, World, Holds, in_world}
use prog.LinkedThreads.{HasT}
use prog.Wired.{Code}
use Rattle.settings.proofs.TheLink as link
use Rattle.settings.proofs.TheLinks.settings-configured-check_configured
use Rattle.settings.proofs.TheLinks.settings-configured-configured_at
use Rattle.settings.proofs.TheLinks.settings-configured-configured_count
use Rattle.settings.proofs.TheLinks.settings-configured-keep_configured
use Rattle.settings.proofs.TheLinks.settings-setting-check_settings
use Rattle.settings.proofs.TheLinks.settings-setting-setting_at

abbrev pub table : Tree
table = link.table

abbrev pub Below : World → Type 0
Below W = link.Below W

abbrev pub Linked : Code → Type 0
Linked c = (W : World) → Holds W "settings" table → Below W → HasT (in_world W) true c

pub configured_check_configured : Linked settings-configured-check_configured.code
configured_check_configured = link.linked-settings::configured::check_configured

pub configured_configured_at : Linked settings-configured-configured_at.code
configured_configured_at = link.linked-settings::configured::configured_at

pub configured_configured_count : Linked settings-configured-configured_count.code
configured_configured_count = link.linked-settings::configured::configured_count

pub configured_keep_configured : Linked settings-configured-keep_configured.code
configured_keep_configured = link.linked-settings::configured::keep_configured

pub setting_check_settings : Linked settings-setting-check_settings.code
setting_check_settings = link.linked-settings::setting::check_settings

pub setting_setting_at : Linked settings-setting-setting_at.code
setting_setting_at = link.linked-settings::setting::setting_at
