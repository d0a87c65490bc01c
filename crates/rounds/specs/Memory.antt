-- Rule 6 on the board in memory.
use Rattle.std.specs.Prelude.{List, ◌≡◌, ℕ}
use Rattle.board.specs.Board.{Board, Holds}
use Rattle.rounds.specs.Round.{Round, with_polled}
use Rattle.rounds.specs.declared.round.CycleTags.{CycleTags}

-- What was worked out is the round R of the board B, which memory holds afterwards.
pub record Worked (B : Board) (R : Round) (r : CycleTags) (bs' : List ℕ) : Type 0 where
  pub tick_is : r.tick ≡ R.tick
  pub boundary_is : r.boundary ≡ R.boundary
  pub cycle_is : r.cycle ≡ R.after.cycle
  pub holds : Holds bs' (with_polled B R.after R.list)
