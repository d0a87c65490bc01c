-- `stale::list_staled` meets its contract.
use Rattle.stale.specs.Stale.{is_staled}
use Rattle.table.proofs.RowLaws.{length-table}
use Rattle.table.specs.Table.{table_in}
use Rattle.table.specs.Tag.{fresh_tag}
use Rattle.tags.proofs.CollectLaws.{clipped_yes, clipped_no, clipped_all}
use Rattle.tags.proofs.ListLaws.{room_same}
use Rattle.tags.specs.Lists.{list_in, room, pushed}
use Rattle.lists.proofs.KeepLaws.{length-up_to, up_to-at}
use Rattle.lists.specs.Keep.{keep, up_to}
use lib.Seq.{take-nil}
use lib.ListN.{length, get_or, take}
use Prim.Native.Nat.{ℕ, ◌<◌, ◌%◌, min}
use mathlib.Core.List.{List}
use mathlib.Core.Bool.{Bool}
use mathlib.Core.Path.{◌≡◌, refl, ap, sym, ◌∙◌}
use native.Mathlib.Omega.{arith}
use Rattle.stale.proofs.list_staled.Goals as goal
use Rattle.stale.proofs.list_staled.Goals.{else-is_staled, else-rows-lt65536, then-is_staled, then-rows-lt65536}

-- the test that the loop collects by
abbrev test : List ℕ → ℕ → Bool
test t k = is_staled (get_or (table_in t) k fresh_tag)

pub shape_of-changes : goal.shape_of-changes
shape_of-changes c =
    c.loop-k.invariant.1.0 ∙ c.clear.auto.s

pub returns : goal.returns
returns c =
    let a = c.args in
    let l = c.loop-k in
    let n = c.if-rows-lt65536.n in
    let first = c.clear.new.s in
    let p = test a.table.now in
    let all : n ≡ min (length (table_in a.table.now)) 65536 = omega (arith, length-table a.table.now) in
    clipped_all p (up_to n) (room first) l.k (list_in l.changes) l.invariant.1.1 (omega (arith, length-up_to n))
    ∙ ap (λ (m : ℕ). take m (keep p (up_to n))) (room_same first a.changes.now c.clear.auto.s)
    ∙ ap (λ (m : ℕ). take (room a.changes.now) (keep p (up_to m))) all

pub loop-k-init : goal.loop-k-init
unfolding keep
loop-k-init c = (
  elim c.if-rows-lt65536.branch [ then-rows-lt65536 w ↦ omega (arith, w.n-is) | else-rows-lt65536 w ↦ omega (arith, w.n-is) ],
  (refl, c.clear.ensures ∙ sym (take-nil (room c.clear.new.s))),
)

pub loop-k-preserved : goal.loop-k-preserved
loop-k-preserved c =
    let a = c.args in
    let l = c.loop-k in
    let n = c.if-rows-lt65536.n in
    let first = c.clear.new.s in
    let p = test a.table.now in
    let o = list_in l.changes in
    let done = l.invariant.1.1 in
    let h : l.k < length (up_to n) = omega (arith, length-up_to n) in
    let here : l.k ≡ get_or (up_to n) l.k 0 = sym (up_to-at n l.k (omega arith)) in
    let staled = sym (c.is_staled.ensures ∙ ap is_staled c.tag_of.ensures) in (
      l.invariant.0,
      elim c.if-is_staled.branch [
        | then-is_staled w ↦ (
          ap length w.changes-is ∙ w.push.auto.s ∙ l.invariant.1.0,
          ap list_in w.changes-is ∙ w.push.ensures
              ∙ ap (λ (m : ℕ). pushed m o (l.k % 65536)) (room_same l.changes first l.invariant.1.0)
              ∙ clipped_yes p (up_to n) (room first) l.k o done l.k 0 h (omega arith) here (staled ∙ w.if-is_staled.true),
        )
        | else-is_staled w ↦ (
          ap length w.changes-is ∙ l.invariant.1.0,
          ap list_in w.changes-is ∙ clipped_no p (up_to n) (room first) l.k o done l.k 0 h here (staled ∙ w.if-is_staled.false),
        )
      ],
    )
