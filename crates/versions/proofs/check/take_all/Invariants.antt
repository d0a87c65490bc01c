use mathlib.Core.Path.{◌≡◌}
use lib.ListN.{length}
use lib.Seq.{paste}
use Rattle.board.specs.Board.{Holds, board_in, with_records}
use Rattle.versions.specs.Versions.{table_taken}
use Rattle.versions.proofs.check.take_all.Given as goal

abbrev pub invariant-loop-k : goal.invariant-loop-k
invariant-loop-k l =
    (length l.b ≡ length l.initial.b) × Holds l.b (with_records (board_in l.initial.b) (paste (board_in l.initial.b).table.tags 0 (table_taken l.changed l.settings (board_in l.initial.b).table.words (board_in l.initial.b).table.tags) l.k))
