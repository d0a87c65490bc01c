-- A memory that creation leaves, computed.
use mathlib.Core.Path.{◌≡◌, refl, ap, sym, ◌∙◌}
use mathlib.Core.List.{List, [], ◌∷◌, ◌++◌}
use Prim.Native.Nat.{ℕ, ◌-◌}
use lib.Ieee as ieee-lib
use lib.ListN.{length, length-replicate, replicate}
use Rattle.ieee.specs.Round.{float}
use Rattle.board.specs.Layout.{board_size}
use Rattle.checks.specs.Creation.{Setup}
use Rattle.capi.specs.Creation.{fresh_worker, creation_answer}
use Rattle.capi.specs.Memory.{memory_size, worker_in}
use Rattle.turns.specs.EntryContracts.{CreateMet}
use Rattle.possible.proofs.PossibleLaws.{ref, mut_ref}
use Rattle.lists.specs.Keep as lists_Keep
use Rattle.names.specs.Order as names_Order
use Rattle.names.specs.Bits as names_Bits
use Rattle.names.specs.Directory as names_Directory
use Rattle.names.specs.Keys as names_Keys
use Rattle.words.specs.Entry as words_Entry
use Rattle.memory.specs.Blocks as memory_Blocks
use Rattle.memory.specs.Cells as memory_Cells
use Rattle.memory.specs.Halves as memory_Halves
use Rattle.tags.specs.Lists as tags_Lists
use Rattle.table.specs.Row as table_Row
use Rattle.table.specs.Table as table_Table
use Rattle.groups.specs.Groups as groups_Groups
use Rattle.heads.specs.Options as heads_Options
use Rattle.settings.specs.Records as settings_Records
use Rattle.settings.specs.Settings as settings_Settings
use Rattle.settings.specs.Configured as settings_Configured
use Rattle.versions.specs.Versions as versions_Versions
use Rattle.heads.specs.Progress as heads_Progress
use Rattle.heads.specs.Stats as heads_Stats
use Rattle.engine.specs.Engine as engine_Engine
use Rattle.queue.specs.Queue as queue_Queue
use Rattle.board.specs.Layout as board_Layout
use Rattle.board.specs.Board as board_Board
use Rattle.fresh.specs.Fresh as fresh_Fresh
use Rattle.capi.specs.Memory as capi_Memory
use Rattle.checks.specs.Creation as checks_Creation

abbrev pub setup : Setup
setup = record {
  names = 65 ∷ 66 ∷ 67 ∷ [];
  ends = 1 ∷ 2 ∷ 3 ∷ [];
  options = record { cycle = float 1; period = float 2; grace = float 0 };
  settings = replicate 96 0;
  groups = [];
}

-- the head: cycle, period, five cells of 0, the number of names
abbrev pub head_bytes : List ℕ
head_bytes = replicate 6 0 ++ (240 ∷ 63 ∷ replicate 7 0 ++ (64 ∷ replicate 40 0 ++ (3 ∷ replicate 199 0)))

-- the board: nothing but the sort keys, two bytes each, and behind them the words, as many bytes of 0
abbrev pub board_bytes : List ℕ
board_bytes = replicate (board_size 3 - 12) 0 ++ (0 ∷ 0 ∷ 1 ∷ 0 ∷ 2 ∷ 0 ∷ replicate 6 0)

abbrev pub fresh : List ℕ
fresh = head_bytes ++ board_bytes

abbrev pub lent : List ℕ
lent = replicate (memory_size 3) 0

-- creation accepts this setup; the memory holds a fresh engine, and is as long as the one that was lent
computed : (creation_answer setup (memory_size 3) ≡ 0) × (worker_in fresh ≡ fresh_worker setup) × (length fresh ≡ memory_size 3)
unfolding lists_Keep.keep lists_Keep.up_to names_Order.compared names_Order.lower_of names_Bits.last_dot names_Bits.all_digits names_Bits.split_bit names_Directory.cut names_Directory.good_ends names_Directory.good_bytes names_Directory.good_names names_Directory.rising_from names_Directory.rising names_Directory.directory_check names_Keys.below names_Keys.find words_Entry.entry_from words_Entry.entry_words_of memory_Blocks.blocks memory_Cells.cells_in memory_Cells.rows_in memory_Halves.halves_in tags_Lists.list_in table_Row.tag_from table_Table.table_in groups_Groups.group_from groups_Groups.groups_in groups_Groups.group_read heads_Options.options_check settings_Records.records_of settings_Records.every settings_Settings.setting_from settings_Settings.setting_in settings_Settings.setting_ok settings_Settings.settings_ok settings_Configured.configured_from settings_Configured.given_groups settings_Configured.group_ok settings_Configured.configured_ok settings_Configured.group_places settings_Configured.configured_in versions_Versions.tag_taken versions_Versions.each_at versions_Versions.version_table heads_Progress.phase_from heads_Stats.tail_stats engine_Engine.engine_from engine_Engine.engine_in engine_Engine.stored queue_Queue.write_from queue_Queue.places_in queue_Queue.queue_in board_Layout.parts_in board_Board.board_from board_Board.board_in fresh_Fresh.fresh_board capi_Memory.worker_in creation_answer checks_Creation.creation_check ieee-lib.eq ieee-lib.le ieee-lib.lt ieee-lib.add ieee-lib.sub ieee-lib.mul ieee-lib.div ieee-lib.neg ieee-lib.of_int ieee-lib.round ieee-lib.to_unsigned ieee-lib.of_bits ieee-lib.to_bits
computed = (refl, refl, refl)

pub fresh_long : length fresh ≡ memory_size 3
fresh_long = computed.2

-- so its contract allows that creation answers 0 and leaves this memory
pub created : CreateMet setup lent fresh 0
created =
    let size : length lent ≡ memory_size 3 = length-replicate {A = ℕ} (memory_size 3) 0 in
    record {
      lifetimes = (0 ∷ [], (1 ∷ [], (2 ∷ [], (3 ∷ [], tt))));
      names = ref setup.names;
      ends = ref setup.ends;
      settings = ref setup.settings;
      groups = ref setup.groups;
      mem = mut_ref lent;
      mem_exit = mut_ref fresh;
      names_is = refl;
      ends_is = refl;
      settings_is = refl;
      groups_is = refl;
      mem_is = refl;
      mem_left = refl;
      met = record {
        code = sym (ap (creation_answer setup) size ∙ computed.0);
        done = λ e. computed.1;
        kept = λ z. absurd (z refl);
        long = computed.2 ∙ sym size;
      };
    }
