-- `memory::halves::half` meets its contract.
use mathlib.Core.Path.{sym}
use Rattle.memory.proofs.HalfLaws.{halves_none}
use Rattle.memory.proofs.halves.half.Goals as goal

pub returns-else-i-s : goal.returns-else-i-s
returns-else-i-s c =
    let a = c.args in
    sym (halves_none a.s.now a.i c.if-i-s.false)
