-- The code meets the contracts that the claim cites: the theorem of each entry point, passed on.
use Rattle.capi.proofs.creation.wz_create.Met as create
use Rattle.capi.proofs.creation.wz_create.Statement as create-statement
use Rattle.capi.proofs.calls.wz_set_tier.Met as tier
use Rattle.capi.proofs.calls.wz_set_tier.Statement as tier-statement
use Rattle.capi.proofs.calls.wz_load.Met as load
use Rattle.capi.proofs.calls.wz_load.Statement as load-statement
use Rattle.capi.proofs.calls.wz_write.Met as write
use Rattle.capi.proofs.calls.wz_write.Statement as write-statement
use Rattle.capi.proofs.calls.wz_stop.Met as stop
use Rattle.capi.proofs.calls.wz_stop.Statement as stop-statement
use Rattle.capi.proofs.calls.wz_step.Met as step
use Rattle.capi.proofs.calls.wz_step.Statement as step-statement
use Rattle.capi.proofs.looks.wz_state.Met as state
use Rattle.capi.proofs.looks.wz_state.Statement as state-statement
use Rattle.capi.proofs.looks.wz_stats.Met as stats
use Rattle.capi.proofs.looks.wz_stats.Statement as stats-statement
use Rattle.capi.proofs.looks.wz_tier_counts.Met as counts
use Rattle.capi.proofs.looks.wz_tier_counts.Statement as counts-statement
use Rattle.capi.proofs.looks.wz_group_stats.Met as groups
use Rattle.capi.proofs.looks.wz_group_stats.Statement as groups-statement
use Rattle.capi.proofs.looks.wz_table.Met as table
use Rattle.capi.proofs.looks.wz_table.Statement as table-statement
use Rattle.capi.proofs.looks.wz_panel.Met as panel
use Rattle.capi.proofs.looks.wz_panel.Statement as panel-statement
use Rattle.capi.proofs.looks.wz_tag.Met as tag
use Rattle.capi.proofs.looks.wz_tag.Statement as tag-statement

pub create_met : {M : Type 1} → create-statement.statement M
create_met = create.met

pub tier_met : {M : Type 1} → tier-statement.statement M
tier_met = tier.met

pub load_met : {M : Type 1} → load-statement.statement M
load_met = load.met

pub write_met : {M : Type 1} → write-statement.statement M
write_met = write.met

pub stop_met : {M : Type 1} → stop-statement.statement M
stop_met = stop.met

pub step_met : {M : Type 1} → step-statement.statement M
step_met = step.met

pub state_met : {M : Type 1} → state-statement.statement M
state_met = state.met

pub stats_met : {M : Type 1} → stats-statement.statement M
stats_met = stats.met

pub counts_met : {M : Type 1} → counts-statement.statement M
counts_met = counts.met

pub groups_met : {M : Type 1} → groups-statement.statement M
groups_met = groups.met

pub table_met : {M : Type 1} → table-statement.statement M
table_met = table.met

pub panel_met : {M : Type 1} → panel-statement.statement M
panel_met = panel.met

pub tag_met : {M : Type 1} → tag-statement.statement M
tag_met = tag.met
