use Rattle.std.proofs.Common.{◌∙◌, sym, arith}
use Rattle.frames.proofs.AnswerLaws.{cells_cut, cells_same, cells_other, cells_all, cells_more}
use Rattle.frames.proofs.answer.compare_numbers.Goals as goal

pub returns-then-recorded-index : goal.returns-then-recorded-index
returns-then-recorded-index c =
    sym (c.loop-index.invariant ∙ cells_cut c.args.numbers.now c.args.recorded.now c.loop-index.index c.loop-index-test.true (omega arith))

pub returns-then-is-recorded : goal.returns-then-is-recorded
returns-then-is-recorded c =
    let numbers = c.args.numbers.now in
    let recorded = c.args.recorded.now in
    sym (c.loop-index.invariant ∙ cells_other numbers recorded c.loop-index.index _ c.eight-recorded.ensures c.loop-index-test.true (omega arith) c.if-is-recorded.true)

pub loop-index-preserved : goal.loop-index-preserved
loop-index-preserved c =
    let numbers = c.args.numbers.now in
    let recorded = c.args.recorded.now in
    c.loop-index.invariant ∙ cells_same numbers recorded c.loop-index.index _ c.eight-recorded.ensures c.loop-index-test.true (omega arith) c.if-is-recorded.false

pub returns-then-recorded-numbers : goal.returns-then-recorded-numbers
returns-then-recorded-numbers c =
    sym (c.loop-index.invariant ∙ cells_more c.args.numbers.now c.args.recorded.now c.loop-index.index c.loop-index-test.false (λ e. omega (arith, e)))

pub returns : goal.returns
returns c =
    sym (c.loop-index.invariant ∙ cells_all c.args.numbers.now c.args.recorded.now c.loop-index.index c.loop-index-test.false (omega arith))
