use Prim.Native.Nat.{◌<◌}
use native.Mathlib.Omega.{arith}
use borrow.Author.Rules.{rules}
use Rattle.groups.proofs.Laws.{rate_put, group_kept}
use Rattle.groups.proofs.put_rate.Goals as goal

pub returns-then-g-s : goal.returns-then-g-s
returns-then-g-s c =
    let a = c.args in
    let small : a.rate < 0x1_0000_0000 = search rules in
    rate_put a.s.now c.put_cell.new.s a.g a.rate c.put_cell.auto.s (omega arith) small c.put_cell.ensures

pub returns-else-g-s : goal.returns-else-g-s
returns-else-g-s c = group_kept c.args.s.now c.args.g _ (omega arith)
