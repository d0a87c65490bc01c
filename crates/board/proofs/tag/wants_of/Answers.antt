-- `board::tag::wants_of` meets its contract.
use mathlib.Core.Path.{ap, ◌∙◌}
use Rattle.table.specs.declared.tag.Tag.{Tag}
use Rattle.board.proofs.BoardLaws.{tag_read}
use Rattle.board.proofs.tag.wants_of.Goals as goal

pub returns : goal.returns
returns c =
    let a = c.args in
    let t = c.table_of in
    c.wants_of.ensures ∙ ap (λ (x : Tag). x.wants) (tag_read a.b.now t.result.now a.k t.ensures)
