-- `fresh::clear` meets its contract.
use Rattle.fresh.proofs.FreshLaws.{cleared}
use Rattle.fresh.proofs.clear.Goals as goal

pub returns : goal.returns
returns c =
    let z = c.zero in
    cleared c.args.b.now z.new.s c.requires z.ensures
