-- `memory::bytes::half` meets its contract.
use Rattle.memory.proofs.HalfLaws.{halves_at}
use borrow.Author.Rules.{rules}
use Rattle.memory.proofs.bytes.half.Goals as goal

pub returns : goal.returns
returns c =
    rw (halves_at c.args.s.now c.args.i c.requires) (search rules)
