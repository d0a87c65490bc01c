use mathlib.Core.Path.{sym, ◌∙◌}
use native.Mathlib.Omega.{arith}
use Rattle.names.proofs.Loops.{compared_less, compared_greater, compared_on, compared_alike, compared_long, compared_short, compared_end}
use Rattle.names.proofs.order.compare_cased.Goals as goal
use Rattle.names.proofs.order.compare_cased.Goals.{then-a-i+else-x-y+else-y-x, else-a-i}

pub returns-then-x-y : goal.returns-then-x-y
returns-then-x-y c =
    let args = c.args in
    let loop = c.loop-i in
    sym (loop.invariant.1.1 ∙ compared_less _ args.a.now args.b.now loop.i (omega arith) (omega arith) (omega arith))

pub returns-then-y-x : goal.returns-then-y-x
returns-then-y-x c =
    let args = c.args in
    let loop = c.loop-i in
    sym (loop.invariant.1.1 ∙ compared_greater _ args.a.now args.b.now loop.i (omega arith) (omega arith) (omega arith))

pub loop-i-preserved : goal.loop-i-preserved
loop-i-preserved c =
    let args = c.args in
    let loop = c.loop-i in
    elim c.if-a-i.branch [
      | then-a-i+else-x-y+else-y-x w ↦ (omega arith, (omega arith, loop.invariant.1.1 ∙ compared_on _ args.a.now args.b.now loop.i (omega arith) (omega arith) (omega arith) (omega arith)))
      | else-a-i w ↦ (omega arith, (omega arith, loop.invariant.1.1 ∙ compared_alike _ args.a.now args.b.now loop.i (omega arith) (omega arith) (omega arith)))
    ]

pub returns-then-a-b-2 : goal.returns-then-a-b-2
returns-then-a-b-2 c =
    let args = c.args in
    let loop = c.loop-i in
    sym (loop.invariant.1.1 ∙ compared_short _ args.a.now args.b.now loop.i (omega arith) (omega arith))

pub returns-then-b-a : goal.returns-then-b-a
returns-then-b-a c =
    let args = c.args in
    let loop = c.loop-i in
    sym (loop.invariant.1.1 ∙ compared_long _ args.a.now args.b.now loop.i (omega arith) (omega arith))

pub returns-else-b-a : goal.returns-else-b-a
returns-else-b-a c =
    let args = c.args in
    let loop = c.loop-i in
    sym (loop.invariant.1.1 ∙ compared_end _ args.a.now args.b.now loop.i (omega arith) (omega arith))
