-- `tags::shorten` meets its contract.
use native.Mathlib.Omega.{arith}
use Rattle.tags.proofs.ListLaws.{shortened}
use Rattle.tags.proofs.shorten.Goals as goal

pub returns-then-n-count : goal.returns-then-n-count
returns-then-n-count c =
    let put = c.put_half in
    shortened c.args.s.now put.new.s c.args.n (omega (arith, c.if-n-count.true, c.count.ensures)) put.ensures
