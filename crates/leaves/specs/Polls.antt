-- Rules 5 and 6 on a board in lent memory, and the state of the rounds from its C structs.
use Rattle.std.specs.Prelude.{◌&&◌, cond, List, ◌≡◌, ℕ, eqb, leb, Float, length, Some, None}
use Rattle.names.specs.Directory.{max_names}
use Rattle.lent.specs.Lent.{over_bytes}
use Rattle.board.specs.Layout.{board_size, is_board_size, tags_in, parts_in}
use Rattle.board.specs.Board.{Board, Holds, board_in, tag_at}
use Rattle.rounds.specs.Round.{round_of}
use Rattle.rounds.specs.Memory.{Worked}
use Rattle.heads.specs.declared.options.Options.{Options}
use Rattle.heads.specs.declared.cycle.Cycle.{Cycle}
use Rattle.rounds.specs.declared.round.CycleTags.{CycleTags}
use Rattle.leaves.specs.declared.polls.LeafCycle.{LeafCycle}
use Rattle.leaves.specs.declared.polls.LeafRound.{LeafRound}

-- how many bytes a board for so many tags has; 0 for a count that no directory has
abbrev pub size_for : ℕ → ℕ
size_for count = cond (leb 1 count && leb count max_names) (board_size count) 0

-- Memory of a length that no board has is answered with a number outside document 01's table, and nothing is written.
abbrev pub not_aBoard : ℕ
not_aBoard = 100

unfoldable pub size_check : List ℕ → ℕ
size_check mem = cond (is_board_size (length mem)) 0 not_aBoard

-- A fresh board is for as many tags as there are names.
unfoldable pub fresh_check : List ℕ → List ℕ → ℕ
fresh_check mem ends = cond (eqb (size_check mem) 0 && eqb (tags_in mem) (length ends)) 0 not_aBoard

-- A call whose check came to n, and which leaves the board B where that is 0.
pub record Called (old new : List ℕ) (r n : ℕ) (B : Board) : Type 0 where
  pub code : r ≡ n
  pub done : n ≡ 0 → Holds new B
  pub kept : (n ≡ 0 → ⊥) → new ≡ old

-- what a look finds in a board
abbrev pub tier_look : List ℕ → ℕ → ℕ
tier_look mem k = cond (eqb (size_check mem) 0) (tag_at (board_in mem).table k).tier not_aBoard

-- a list lent for writing, after a look at a part of the board
abbrev pub part_left : List ℕ → ℕ → List ℕ → List ℕ
part_left mem i out = cond (eqb (size_check mem) 0) (over_bytes out (parts_in mem i)) out

-- ---- rounds

abbrev pub cycle_of : LeafCycle → Cycle
cycle_of c = record { last = cond c.begun (Some c.last) None; index = c.index }

abbrev pub tags_of : LeafRound → CycleTags
tags_of r = record { tick = r.tick; boundary = r.boundary; cycle = record { last = cond r.begun (Some r.last) None; index = r.index } }

-- A round on a board; `listed` is how many tags it reads.
pub record Rounded (old new : List ℕ) (r : LeafRound) (o : Options) (c : LeafCycle) (clock : Float) : Type 0 where
  pub code : r.code ≡ size_check old
  pub done : size_check old ≡ 0 → Worked (board_in old) (round_of (board_in old) o (cycle_of c) clock) (tags_of r) new
  pub listed : size_check old ≡ 0 → r.listed ≡ length (board_in new).asked
  pub kept : (size_check old ≡ 0 → ⊥) → new ≡ old
