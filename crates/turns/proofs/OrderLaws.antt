-- The list of a round names no tag twice, so rule 7's law `tag_order` holds for a round.
use mathlib.Core.Path.{◌≡◌}
use mathlib.Core.Bool.{Bool}
use mathlib.Core.List.{List}
use Prim.Native.Nat.{ℕ}
use lib.IntN.{ℤ}
use lib.Ieee.{Float}
use Rattle.tiers.specs.Listed.{Listed}
use Rattle.board.specs.Board.{board_in, with_records}
use Rattle.rounds.specs.Round.{Polling, round}
use Rattle.heads.specs.declared.options.Options.{Options}
use Rattle.rounds.proofs.OnceLaws.{round_once}
use Rattle.readings.specs.Changes.{applied_to}
use Rattle.tag_order.specs.Order.{apply_in_order}
use Rattle.tag_order.proofs.OrderLaws.{applied_in_order}

-- Rules 6 and 7: the readings of a round's list are applied in tag order.
pub round_in_order : (bs results : List ℕ) (start : Float) (t : ℤ) (polled : Bool)
    → (less : ℕ → ℕ → Bool) (o : Options) (P : Polling) (clock : Float) → Listed P.table → (board_in bs).asked ≡ (round less o P clock).list
    → ((applied_to (board_in bs) results start t polled).board ≡ with_records (board_in bs) (apply_in_order results start t polled (board_in bs).asked (board_in bs).table.tags).tags)
    × ((applied_to (board_in bs) results start t polled).changes ≡ (apply_in_order results start t polled (board_in bs).asked (board_in bs).table.tags).sent)
round_in_order bs results start t polled less o P clock l e =
    applied_in_order start t polled bs results (λ k. rw e (round_once less o P clock l k))
