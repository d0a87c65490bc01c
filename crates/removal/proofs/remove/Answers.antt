-- `removal::remove` meets its contract.
use Rattle.std.proofs.Common.{sym, ◌∙◌, arith}
use Rattle.tags.specs.Lists.{list_in}
use Rattle.removal.proofs.RemoveLaws.{without_none, without_once}
use Rattle.removal.proofs.remove.Goals as goal

pub returns-in-0 : goal.returns-in-0
returns-in-0 c =
    let a = c.args in
    let found = c.places_of-found.ensures in
    sym (without_none a.k (list_in a.s.now) (sym found.counted ∙ omega arith))

pub returns-in-1 : goal.returns-in-1
returns-in-1 c =
    let a = c.args in
    let y = c.places_of-found in
    let there = y.ensures.once (omega arith) in
    c.remove_at.ensures ∙ without_once a.k y.result.sum (list_in a.s.now) (sym y.ensures.counted ∙ omega arith) there.0 there.1
