use mathlib.Core.Path.{sym, ◌∙◌}
use native.Mathlib.Omega.{arith}
use Rattle.names.proofs.Loops.{ends_back, ends_past, ends_long, ends_on, ends_end}
use Rattle.names.proofs.directory.good_ends.Goals as goal
use Rattle.names.proofs.directory.good_ends.Goals.{then-end-at-via-then-end-at, then-end-at-via-else-end-at+then-size-end, then-end-at-via-else-end-at+else-size-end+then-end-at-gt-MAX_NAME_LENGTH}

pub returns-then-end-at : goal.returns-then-end-at
returns-then-end-at c =
    let ends = c.args.ends.now in
    let loop = c.loop-place in
    sym
    (loop.invariant.1
    ∙ elim c.then-end-at.branch [
      | then-end-at-via-then-end-at w ↦ ends_back _ _ loop.at loop.place-index ends (omega arith) w.if-end-at.true
      | then-end-at-via-else-end-at+then-size-end w ↦ ends_past _ _ loop.at loop.place-index ends (omega arith) w.if-end-at.false w.if-size-end.true
      | then-end-at-via-else-end-at+else-size-end+then-end-at-gt-MAX_NAME_LENGTH w ↦ ends_long _ _ loop.at loop.place-index ends (omega arith) w.if-end-at.false w.if-size-end.false w.if-end-at-gt-MAX_NAME_LENGTH.true
    ])

pub loop-place-preserved : goal.loop-place-preserved
loop-place-preserved c =
    let ends = c.args.ends.now in
    let loop = c.loop-place in
    (omega arith, loop.invariant.1 ∙ ends_on _ _ loop.at loop.place-index ends (omega arith) c.if-end-at.false c.if-size-end.false c.if-end-at-gt-MAX_NAME_LENGTH.false)

pub returns : goal.returns
returns c = sym (c.loop-place.invariant.1 ∙ ends_end _ _ _ c.loop-place.place-index c.args.ends.now c.loop-place-test.false)
