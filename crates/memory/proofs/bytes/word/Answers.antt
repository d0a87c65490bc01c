-- `memory::bytes::word` meets its contract.
use Prim.Native.Nat.{◌*◌}
use Rattle.memory.proofs.CellLaws.{word_quads, cells_at}
use Rattle.memory.proofs.bytes.word.Goals as goal

pub returns : goal.returns
returns c =
    let s = c.args.s.now in
    rw (c.quad.ensures.0, c.quad-2.ensures.0, cells_at s c.args.i c.requires) (word_quads s (8 * c.args.i))
