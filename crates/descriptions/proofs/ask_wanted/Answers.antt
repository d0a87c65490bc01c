-- `descriptions::ask_wanted` meets its contract.
use mathlib.Core.Path.{◌≡◌, refl, ap, sym, ◌∙◌}
use mathlib.Core.Bool.{Bool}
use mathlib.Core.List.{List}
use Prim.Native.Nat.{ℕ, ◌≤◌, ◌<◌, min}
use native.Mathlib.Nat.{mod-eq_of_lt}
use native.Mathlib.Omega.{arith}
use lib.ListN.{length, get_or, take}
use Rattle.lists.specs.Keep.{keep, up_to}
use Rattle.lists.proofs.KeepLaws.{length-up_to, up_to-at}
use Rattle.tags.specs.Lists.{pushed}
use Rattle.tags.proofs.CollectLaws.{collect_yes, collect_no, collect_all}
use Rattle.board.specs.Board.{Board, board_in, tag_at, with_asked}
use Rattle.board.proofs.BoardLaws.{tags_counted, tag_read, room_is}
use Rattle.descriptions.specs.Descriptions.{is_asked}
use Rattle.descriptions.proofs.ask_wanted.Goals as goal
use Rattle.descriptions.proofs.ask_wanted.Goals.{else-is_asked, then-is_asked}

-- the test that the loop collects by
abbrev test : Board → ℕ → Bool
test B k = is_asked (tag_at B.table k)

-- the board B once the tags below k of n were looked at
abbrev looked : Board → ℕ → ℕ → Board
looked B n k = with_asked B (keep (test B) (take k (up_to n)))

pub loop-k-init : goal.loop-k-init
unfolding keep
loop-k-init c =
    let clear = c.clear_asked in
    let B = board_in clear.new.b in
    (refl, record { still = clear.ensures.still; board = ap (λ (X : Board). with_asked B X.asked) clear.ensures.board })

pub loop-k-preserved : goal.loop-k-preserved
loop-k-preserved c =
    let clear = c.clear_asked in
    let l = c.loop-k in
    let B = board_in clear.new.b in
    let n = c.tags_in-n.result in
    let p = test B in
    let o = keep p (take l.k (up_to n)) in
    let done = l.invariant.1 in
    let fits : length (up_to n) ≤ B.table.room = omega (arith, length-up_to n, c.tags_in-n.ensures, room_is clear.new.b clear.ensures.still) in
    let h : l.k < length (up_to n) = omega (arith, length-up_to n) in
    let small : l.k < 65536 = omega (arith, c.tags_in-n.ensures, clear.ensures.still) in
    let here : l.k ≡ get_or (up_to n) l.k 0 = sym (up_to-at n l.k (omega arith)) in
    let t = c.table_of in
    let asked : p l.k ≡ c.is_asked.result =
    sym (c.is_asked.ensures ∙ ap is_asked (tag_read l.b t.result.now l.k t.ensures) ∙ ap (λ (X : Board). test X l.k) done.board) in elim c.if-is_asked.branch [
      | then-is_asked w ↦ (
        ap length w.b-is ∙ w.push_asked.auto.b ∙ l.invariant.0,
        rw w.b-is (record {
          still = w.push_asked.ensures.still;
          board =
              w.push_asked.ensures.board
              ∙ ap (λ (X : Board). with_asked X (pushed X.table.room X.asked l.k)) done.board
              ∙ ap (λ (z : ℕ). with_asked B (pushed B.table.room o z)) (sym (mod-eq_of_lt small))
              ∙ ap (λ (z : List ℕ). with_asked B z) (collect_yes p (up_to n) l.k o refl B.table.room l.k 0 h fits small here (asked ∙ w.if-is_asked.true));
        }),
      )
      | else-is_asked w ↦ (
        ap length w.b-is ∙ l.invariant.0,
        rw w.b-is (record {
          still = done.still;
          board = done.board ∙ ap (λ (z : List ℕ). with_asked B z) (collect_no p (up_to n) l.k o refl l.k 0 h here (asked ∙ w.if-is_asked.false));
        }),
      )
    ]

pub returns : goal.returns
returns c =
    let clear = c.clear_asked in
    let l = c.loop-k in
    let old = board_in c.args.b.now in
    let B = board_in clear.new.b in
    let n = c.tags_in-n.result in
    let same : length B.table.tags ≡ length old.table.tags = ap (λ (X : Board). length X.table.tags) clear.ensures.board in
    let all : n ≡ min (length old.table.tags) 65536 = omega (arith, c.tags_in-n.ensures, tags_counted clear.new.b clear.ensures.still, clear.ensures.still, same) in
    record {
      still = l.invariant.1.still;
      board =
          l.invariant.1.board
          ∙ ap (λ (z : List ℕ). with_asked B z) (collect_all (test B) (up_to n) l.k (keep (test B) (take l.k (up_to n))) refl (omega (arith, length-up_to n)))
          ∙ ap (λ (X : Board). with_asked X (keep (test X) (up_to n))) clear.ensures.board
          ∙ ap (λ (m : ℕ). with_asked old (keep (test old) (up_to m))) all;
    }
