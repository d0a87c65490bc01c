-- `settings::configured::configured_at` meets its contract.
use native.Mathlib.Omega.{arith}
use Rattle.settings.proofs.GroupLaws.{length-kept, kept_at}
use Rattle.settings.proofs.configured.configured_at.Goals as goal

pub overflow_mul-i : goal.overflow_mul-i
overflow_mul-i c = omega (arith, length-kept c.args.c.now)

pub overflow_add-i : goal.overflow_add-i
overflow_add-i c = omega (arith, length-kept c.args.c.now)

pub overflow_mul-i-2 : goal.overflow_mul-i-2
overflow_mul-i-2 c = omega (arith, length-kept c.args.c.now)

pub overflow_add-i-2 : goal.overflow_add-i-2
overflow_add-i-2 c = omega (arith, length-kept c.args.c.now)

pub returns : goal.returns
returns c =
    let a = c.args in
    rw (c.configured_from.ensures, c.cell-2.ensures, c.cell.ensures) (kept_at a.c.now a.i (omega arith))
