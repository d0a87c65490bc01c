-- `board::tag::word_of` meets its contract.
use mathlib.Core.Path.{◌∙◌}
use Rattle.board.proofs.BoardLaws.{word_read}
use Rattle.board.proofs.tag.word_of.Goals as goal

pub returns : goal.returns
returns c =
    let a = c.args in
    let w = c.words_of in
    c.half.ensures ∙ word_read a.b.now w.result.now a.k w.ensures
