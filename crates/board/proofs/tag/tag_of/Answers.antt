-- `board::tag::tag_of` meets its contract.
use mathlib.Core.Path.{◌∙◌}
use Rattle.board.proofs.BoardLaws.{tag_read}
use Rattle.board.proofs.tag.tag_of.Goals as goal

pub returns : goal.returns
returns c =
    let a = c.args in
    let t = c.table_of in
    c.tag_of.ensures ∙ tag_read a.b.now t.result.now a.k t.ensures
