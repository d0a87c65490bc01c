-- `memory::bytes::put_half` meets its contract.
use native.Mathlib.Numerals.{add-one}
use Rattle.memory.proofs.HalfLaws.{halves_put}
use Rattle.memory.proofs.bytes.put_half.Goals as goal

pub returns : goal.returns
returns c =
    let a = c.args in
    rw (← halves_put a.s.now a.i a.v c.requires) (simp add-one)
