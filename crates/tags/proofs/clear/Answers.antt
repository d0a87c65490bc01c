-- `tags::clear` meets its contract.
use Rattle.tags.proofs.ListLaws.{recount}
use Rattle.tags.proofs.clear.Goals as goal

pub returns : goal.returns
returns c =
    let put = c.put_half in
    recount c.args.s.now put.new.s 0 put.ensures
