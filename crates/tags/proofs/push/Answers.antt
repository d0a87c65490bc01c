-- `tags::push` meets its contract.
use Prim.Native.Nat.{◌%◌}
use native.Mathlib.Omega.{arith}
use Rattle.tags.proofs.ListLaws.{push_put}
use Rattle.tags.proofs.push.Goals as goal

pub returns-then-n-room_of : goal.returns-then-n-room_of
returns-then-n-room_of c =
    let a = c.args in
    let n = c.count-n in
    let put = c.put_half in
    let put2 = c.put_half-then-n-room_of in
    push_put a.s.now put.new.s put2.new.s n.result (a.k % 65536) n.ensures (omega arith) put.ensures put2.ensures
