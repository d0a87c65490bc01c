-- A list of calls with a full turn in it, computed: inside the turn there are two looks, a write, a refused tier call, a lost connection and a new connect.
use mathlib.Core.Path.{◌≡◌, refl}
use mathlib.Core.Bool.{Bool, true, false}
use mathlib.Core.List.{List, [], ◌∷◌, map}
use Prim.Native.Nat.{ℕ}
use lib.Ieee as ieee-lib
use lib.IntN.{pos}
use lib.ListN.{replicate}
use Rattle.ieee.specs.Round.{float}
use Rattle.checks.specs.Creation.{creation_check}
use Rattle.capi.specs.Creation.{fresh_worker}
use Rattle.histories.specs.Events.{BoundaryRound, boundary_rounds}
use Rattle.histories.specs.Histories.{answers, trace}
use Rattle.turns.specs.Calls.{Call, tier, steps, write, look, look_state, look_panel, Answer, number_is, told, state_is, stats_are, counts_are, list_is, tag_is, answer, after}
use Rattle.turns.specs.Demand.{round_in, event}
use Rattle.possible.proofs.Fresh.{setup}
use Rattle.lists.specs.Keep as lists_Keep
use Rattle.lists.specs.Slices as lists_Slices
use Rattle.lists.specs.Sort as lists_Sort
use Rattle.histories.specs.Events as histories_Events
use Rattle.histories.specs.Histories as histories_Histories
use Rattle.histories.specs.Respects as histories_Respects
use Rattle.ieee.specs.Band as ieee_Band
use Rattle.ieee.specs.Round as ieee_Round
use Rattle.ieee.specs.Times as ieee_Times
use Rattle.names.specs.Order as names_Order
use Rattle.names.specs.Bits as names_Bits
use Rattle.names.specs.Directory as names_Directory
use Rattle.names.specs.Keys as names_Keys
use Rattle.words.specs.Entry as words_Entry
use Rattle.memory.specs.Blocks as memory_Blocks
use Rattle.memory.specs.Cells as memory_Cells
use Rattle.memory.specs.Halves as memory_Halves
use Rattle.tags.specs.Lists as tags_Lists
use Rattle.table.specs.Row as table_Row
use Rattle.table.specs.Table as table_Table
use Rattle.tiers.specs.Tiers as tiers_Tiers
use Rattle.groups.specs.Groups as groups_Groups
use Rattle.slices.specs.Slice as slices_Slice
use Rattle.heads.specs.Options as heads_Options
use Rattle.rounds.specs.Tick as rounds_Tick
use Rattle.rounds.specs.Graces as rounds_Graces
use Rattle.rounds.specs.Due as rounds_Due
use Rattle.rounds.specs.Round as rounds_Round
use Rattle.settings.specs.Records as settings_Records
use Rattle.settings.specs.Settings as settings_Settings
use Rattle.settings.specs.Configured as settings_Configured
use Rattle.versions.specs.Versions as versions_Versions
use Rattle.heads.specs.Progress as heads_Progress
use Rattle.heads.specs.Stats as heads_Stats
use Rattle.engine.specs.Engine as engine_Engine
use Rattle.panel.specs.Panel as panel_Panel
use Rattle.results.specs.Results as results_Results
use Rattle.apply.specs.Apply as apply_Apply
use Rattle.readings.specs.Listed as readings_Listed
use Rattle.lent.specs.Lent as lent_Lent
use Rattle.queue.specs.Queue as queue_Queue
use Rattle.descriptions.specs.Descriptions as descriptions_Descriptions
use Rattle.board.specs.Layout as board_Layout
use Rattle.board.specs.Board as board_Board
use Rattle.readings.specs.Changes as readings_Changes
use Rattle.stale.specs.Stale as stale_Stale
use Rattle.fresh.specs.Fresh as fresh_Fresh
use Rattle.replies.specs.Losing as replies_Losing
use Rattle.cycles.specs.Polling as cycles_Polling
use Rattle.step_checks.specs.Kinds as step_checks_Kinds
use Rattle.step_checks.specs.Awaited as step_checks_Awaited
use Rattle.step_answers.specs.Answers as step_answers_Answers
use Rattle.worker.specs.Steps as worker_Steps
use Rattle.capi.specs.Memory.{list_size}
use Rattle.capi.specs.Memory as capi_Memory
use Rattle.checks.specs.Calls as checks_Calls
use Rattle.checks.specs.Creation as checks_Creation

-- a step at the clock reading n with an answer of this kind
abbrev pub step_at : ℕ → ℕ → Call
step_at n kind = steps (float n) (pos 0) kind 7 0 (replicate 96 0) (replicate list_size 0)

-- three tags in tier 2, a connect, and a round; then looks, a write, a refused tier call, a lost connection, a new connect, and a round
abbrev pub some_calls : List Call
some_calls =
    tier (float 0) 0 2 ∷ tier (float 0) 1 2 ∷ tier (float 0) 2 2
    ∷ step_at 0 0 ∷ step_at 0 1 ∷ step_at 0 4 ∷ step_at 0 12
    ∷ look look_state ∷ look (look_panel []) ∷ write 0 0 0 ∷ tier (float 0) 9 2
    ∷ step_at 0 6 ∷ step_at 0 12 ∷ step_at 0 12 ∷ step_at 1 11 ∷ step_at 1 12
    ∷ step_at 1 1 ∷ step_at 1 4 ∷ step_at 1 12 ∷ []

-- the number of an answer, or the kind of what a step tells
abbrev number_of : Answer → ℕ
number_of (number_is n) = n
number_of (told r left) = r.kind
number_of (state_is x) = x.state
number_of (stats_are x) = x.code
number_of (counts_are x) = x.code
number_of (list_is x left) = x.code
number_of (tag_is x) = x.code

abbrev numbers : List Answer → List ℕ
numbers l = map number_of l

abbrev since : List BoundaryRound → List Bool
since rs = map (λ (r : BoundaryRound). r.retiered_since) rs

abbrev taken : List BoundaryRound → List (List ℕ)
taken rs = map (λ (r : BoundaryRound). r.names) rs

abbrev rounds : List BoundaryRound
rounds = boundary_rounds false (trace after event some_calls (fresh_worker setup))

-- creation accepts it; each call answers as told above; the two boundary rounds are a turn, and nothing disturbs the second
a_turn : (creation_check setup ≡ 0)
    × (numbers (answers after answer some_calls (fresh_worker setup)) ≡ 0 ∷ 0 ∷ 0 ∷ 1 ∷ 2 ∷ 9 ∷ 3 ∷ 1 ∷ 43 ∷ 0 ∷ 23 ∷ 13 ∷ 9 ∷ 7 ∷ 9 ∷ 1 ∷ 2 ∷ 9 ∷ 3 ∷ [])
    × (taken rounds ≡ (0 ∷ 1 ∷ []) ∷ (2 ∷ []) ∷ [])
    × (since rounds ≡ true ∷ false ∷ [])
unfolding lists_Keep.keep lists_Keep.up_to lists_Slices.slice lists_Slices.next lists_Slices.slices lists_Sort.insert lists_Sort.sort_onto histories_Events.boundary_rounds histories_Events.all_names histories_Events.Each histories_Events.RestUndisturbed histories_Events.EveryTurnOfRounds histories_Histories.Ready histories_Histories.Happened histories_Histories.at_each histories_Respects.Respects ieee_Band.magnitude ieee_Band.within ieee_Round.round_ties_even ieee_Round.slices_of ieee_Round.round1_of ieee_Times.clock_ok names_Order.compared names_Order.lower_of names_Bits.last_dot names_Bits.all_digits names_Bits.split_bit names_Directory.cut names_Directory.good_ends names_Directory.good_bytes names_Directory.good_names names_Directory.rising_from names_Directory.rising names_Directory.directory_check names_Keys.below names_Keys.find words_Entry.entry_from words_Entry.entry_words_of memory_Blocks.blocks memory_Cells.cells_in memory_Cells.rows_in memory_Halves.halves_in tags_Lists.list_in table_Row.tag_from table_Table.table_in tiers_Tiers.timing_set tiers_Tiers.tag_set tiers_Tiers.order_set tiers_Tiers.grace_ended tiers_Tiers.put_table tiers_Tiers.enter_grace tiers_Tiers.set_tier groups_Groups.group_from groups_Groups.groups_in groups_Groups.group_read groups_Groups.noted heads_Options.options_check rounds_Tick.least_rate rounds_Graces.run_out rounds_Due.marked rounds_Due.recorded_due slices_Slice.place_of rounds_Round.round settings_Records.records_of settings_Records.every settings_Settings.setting_from settings_Settings.setting_in settings_Settings.setting_ok settings_Settings.settings_ok settings_Configured.configured_from settings_Configured.given_groups settings_Configured.group_ok settings_Configured.configured_ok settings_Configured.group_places settings_Configured.configured_in versions_Versions.tag_taken versions_Versions.each_at versions_Versions.version_table heads_Progress.phase_from heads_Stats.tail_stats engine_Engine.engine_from engine_Engine.engine_in engine_Engine.stored panel_Panel.panel_of panel_Panel.written panel_Panel.written_length panel_Panel.tags_of panel_Panel.tiers_of panel_Panel.entry_check panel_Panel.panel_check panel_Panel.loaded apply_Apply.timing_read apply_Apply.is_entry_sent apply_Apply.tag_read apply_Apply.applied_at apply_Apply.sent_at stale_Stale.tag_stale results_Results.result_in results_Results.first_ok readings_Listed.apply_next readings_Listed.apply_from lent_Lent.cell_bytes lent_Lent.over_bytes lent_Lent.wrote_all lent_Lent.cell_put lent_Lent.record_put lent_Lent.records queue_Queue.write_from queue_Queue.places_in queue_Queue.queue_in descriptions_Descriptions.known_from board_Layout.parts_in board_Board.board_from board_Board.board_in readings_Changes.applied_to stale_Stale.staled_in fresh_Fresh.fresh_board replies_Losing.disconnected replies_Losing.staling replies_Losing.down replies_Losing.top cycles_Polling.idle cycles_Polling.tail cycles_Polling.resume cycles_Polling.writing_of cycles_Polling.checking cycles_Polling.reading cycles_Polling.polled cycles_Polling.poll cycles_Polling.finished step_checks_Kinds.kind_from step_checks_Awaited.awaited step_checks_Awaited.answers step_checks_Awaited.contents step_checks_Awaited.step_check step_answers_Answers.connected step_answers_Answers.reconnecting step_answers_Answers.opened step_answers_Answers.open_version step_answers_Answers.round_version step_answers_Answers.results step_answers_Answers.descriptions step_answers_Answers.written step_answers_Answers.read_back step_answers_Answers.back_applied step_answers_Answers.waited step_answers_Answers.backed_off worker_Steps.taken worker_Steps.handled worker_Steps.stepped worker_Steps.step capi_Memory.worker_in checks_Calls.clock_check checks_Calls.tier_check checks_Calls.load_check checks_Calls.write_check checks_Creation.creation_check ieee-lib.eq ieee-lib.le ieee-lib.lt ieee-lib.add ieee-lib.sub ieee-lib.mul ieee-lib.div ieee-lib.neg ieee-lib.of_int ieee-lib.round ieee-lib.to_unsigned ieee-lib.of_bits ieee-lib.to_bits after event answer round_in
a_turn = (refl, refl, refl, refl)
