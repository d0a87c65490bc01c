-- `rounds::missing::drop_missing` meets its contract.
use mathlib.Core.Path.{◌≡◌, refl, ap, sym, ◌∙◌}
use mathlib.Core.Bool.{Bool, not}
use mathlib.Core.List.{List}
use Prim.Native.Nat.{ℕ, ◌<◌, ◌%◌}
use native.Mathlib.Omega.{arith}
use lib.Ieee.{Float}
use lib.ListN.{length, take}
use lib.Seq.{take-nil}
use Rattle.lists.specs.Keep.{keep}
use Rattle.tags.specs.Lists.{list_in, pushed}
use Rattle.tags.proofs.ListLaws.{list_small}
use Rattle.tags.proofs.CollectLaws.{collect_none, clipped_yes, clipped_no}
use Rattle.board.specs.Board.{Board, board_in, tag_at, with_asked}
use Rattle.rounds.specs.Missing.{is_held_back}
use Rattle.rounds.proofs.missing.drop_missing.Goals as goal
use Rattle.rounds.proofs.missing.drop_missing.Goals.{else-not-is_tag_held_back, then-not-is_tag_held_back}

-- the test that the loop collects by, and what it has collected of a list
abbrev test : Board → Float → ℕ → Bool
test B clock k = not (is_held_back (tag_at B.table k) clock)

abbrev kept : Board → Float → List ℕ → List ℕ
kept B clock xs = take B.table.room (keep (test B clock) xs)

pub loop-i-init : goal.loop-i-init
loop-i-init c =
    let a = c.args in
    let start = c.clear_asked in
    let B = board_in a.b.now in
    let xs = list_in a.wanted.now in
    let none = sym (take-nil B.table.room) ∙ ap (take B.table.room) (collect_none (test B a.clock) xs) in
    let cleared = start.ensures.board in
    (refl, record { still = start.ensures.still; board = cleared ∙ ap (λ (l : List ℕ). with_asked B l) none ∙ sym (ap (λ (X : Board). with_asked X (kept X a.clock (take 0 xs))) cleared) })

pub loop-i-preserved : goal.loop-i-preserved
loop-i-preserved c =
    let a = c.args in
    let l = c.loop-i in
    let k = c.at-k in
    let held = c.is_tag_held_back in
    let B = board_in c.clear_asked.new.b in
    let xs = list_in a.wanted.now in
    let p = test B a.clock in
    let n = B.table.room in
    let o = kept B a.clock (take l.i xs) in
    let done = l.invariant.1.board in
    let small : k.result < 65536 = rw k.ensures (list_small a.wanted.now l.i) in
    let tested : p k.result ≡ not held.result = ap (λ (X : Board). test X a.clock k.result) (sym done) ∙ ap not (sym held.ensures) in elim c.if-not-is_tag_held_back.branch [
      | then-not-is_tag_held_back w ↦ (
        ap length w.b-is ∙ w.push_asked.auto.b ∙ l.invariant.0,
        record {
          still = rw w.b-is w.push_asked.ensures.still;
          board = ap board_in w.b-is ∙ w.push_asked.ensures.board
              ∙ ap (λ (X : Board). with_asked X (pushed X.table.room X.asked (k.result % 65536))) done
              ∙ ap (λ (r : List ℕ). with_asked B r) (clipped_yes p xs n l.i o refl k.result 0 (omega arith) small k.ensures (tested ∙ ap not w.if-not-is_tag_held_back.true));
        },
      )
      | else-not-is_tag_held_back w ↦ (
        ap length w.b-is ∙ l.invariant.0,
        record {
          still = rw w.b-is l.invariant.1.still;
          board = ap board_in w.b-is ∙ done
              ∙ ap (λ (r : List ℕ). with_asked B r) (clipped_no p xs n l.i o refl k.result 0 (omega arith) k.ensures (tested ∙ ap not w.if-not-is_tag_held_back.false));
        },
      )
    ]
