-- `memory::halves::put_half` meets its contract.
use Prim.Native.Nat.{◌%◌}
use Rattle.memory.proofs.HalfLaws.{halves_kept}
use Rattle.memory.proofs.halves.put_half.Goals as goal

pub returns-else-i-s : goal.returns-else-i-s
returns-else-i-s c =
    let a = c.args in
    halves_kept a.s.now a.i (a.v % 65536) c.if-i-s.false
