use mathlib.Core.Path.{sym, ◌∙◌}
use native.Mathlib.Omega.{arith}
use Rattle.groups.specs.Groups.{group_from}
use Rattle.groups.proofs.Laws.{group_read, group_none}
use Rattle.groups.proofs.group_of.Goals as goal

pub returns-then-s-g : goal.returns-then-s-g
returns-then-s-g c =
    let a = c.args in
    c.fresh.ensures ∙ sym (group_none a.s.now a.g (omega arith))

pub returns : goal.returns
unfolding group_from
returns c =
    let a = c.args in
    rw (c.time_from.ensures, c.time_from-2.ensures, c.cell.ensures, c.cell-2.ensures, c.cell-3.ensures, c.cell-4.ensures, c.cell-5.ensures)
    (sym (group_read a.s.now a.g (omega arith)))
