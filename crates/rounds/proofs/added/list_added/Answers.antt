-- `rounds::added::list_added` meets its contract.
use mathlib.Core.Path.{◌≡◌, refl, ap, sym, ◌∙◌}
use mathlib.Core.List.{◌++◌}
use Prim.Native.Nat.{ℕ, ◌≤◌, ◌<◌, ◌%◌, min}
use native.Mathlib.Omega.{arith}
use lib.ListN.{length, take}
use Rattle.lists.specs.Keep.{keep}
use Rattle.tags.specs.Lists.{list_in, room, pushed}
use Rattle.tags.proofs.ListLaws.{room_same, list_short}
use Rattle.table.specs.Table.{table_in}
use Rattle.table.proofs.RowLaws.{length-table}
use Rattle.slices.proofs.SliceLaws.{fitted_none}
use Rattle.rounds.specs.Added.{is_added}
use Rattle.lists.specs.Keep.{up_to}
use Rattle.rounds.proofs.AddedLaws.{added_none, added_yes, added_listed, added_no}
use Rattle.rounds.proofs.added.list_added.Goals as goal
use Rattle.rounds.proofs.added.list_added.Goals.{then-added_of+then-not-contains, else-added_of, else-added_of-via-then-added_of+else-not-contains, else-added_of-via-else-added_of, else-rows-lt65536, then-rows-lt65536}

pub returns : goal.returns
returns c =
    let a = c.args in
    let l = c.loop-k in
    let tags = table_in a.t.now in
    let b = list_in a.list.now in
    let all : l.k ≡ min (length tags) 65536 = omega (arith, length-table a.t.now) in
    l.invariant.1.1 ∙ ap (λ (m : ℕ). take (room a.list.now) (b ++ keep (is_added tags b) (up_to m))) all

pub loop-k-init : goal.loop-k-init
loop-k-init c =
    let a = c.args in
    let p = is_added (table_in a.t.now) (list_in a.list.now) in (
      elim c.if-rows-lt65536.branch [ then-rows-lt65536 w ↦ omega (arith, w.n-is) | else-rows-lt65536 w ↦ omega (arith, w.n-is) ],
      (refl, fitted_none a.list.now (keep p (up_to 0)) (added_none p)),
    )

pub loop-k-preserved : goal.loop-k-preserved
loop-k-preserved c =
    let a = c.args in
    let l = c.loop-k in
    let flag = c.added_of in
    let tags = table_in a.t.now in
    let start = a.list.now in
    let b = list_in start in
    let o = list_in l.list in
    let done = l.invariant.1.1 in
    let same : room l.list ≡ room start = room_same l.list start l.invariant.1.0 in
    let short : length b ≤ room start = list_short start in
    let small : l.k < 65536 = omega arith in (
      l.invariant.0,
      elim c.if-added_of.branch [
        | then-added_of+then-not-contains w ↦ (
          ap length w.list-is ∙ w.push.auto.s ∙ l.invariant.1.0,
          ap list_in w.list-is ∙ w.push.ensures ∙ ap (λ (m : ℕ). pushed m o (l.k % 65536)) same
              ∙ added_yes tags b (room start) l.k o done short small (sym flag.ensures ∙ w.if-added_of.true) (sym w.contains.ensures ∙ w.if-not-contains.true),
        )
        | else-added_of w ↦ (
          ap length w.list-is ∙ l.invariant.1.0,
          ap list_in w.list-is ∙ elim w.else-added_of.branch [
            | else-added_of-via-then-added_of+else-not-contains w' ↦
                added_listed tags b (room start) l.k o done short (sym flag.ensures ∙ w'.if-added_of.true) (sym w'.contains.ensures ∙ w'.if-not-contains.false)
            | else-added_of-via-else-added_of w' ↦ added_no tags b (room start) l.k o done (sym flag.ensures ∙ w'.if-added_of.false)
          ],
        )
      ],
    )
