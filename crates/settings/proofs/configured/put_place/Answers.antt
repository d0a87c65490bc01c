-- `settings::configured::put_place` meets its contract.
use mathlib.Core.Path.{ap, ◌∙◌}
use mathlib.Core.List.{List}
use Prim.Native.Nat.{ℕ, ◌+◌, ◌*◌}
use lib.ListN.{set}
use Rattle.settings.proofs.GroupLaws.{group_put}
use Rattle.settings.proofs.configured.put_place.Goals as goal

pub returns : goal.returns
returns c =
    let a = c.args in
    let first = c.put_cell in
    let second = c.put_cell-2 in
    group_put a.c.now second.new.s a.i a.number a.rate c.requires
    (second.ensures ∙ ap (λ (ws : List ℕ). set ws (2 + 2 * a.i) a.rate) first.ensures)
