-- Each return is a case of `bit_at` at the last dot, which stands within the name, so that the place after it fits.
use native.Mathlib.Omega.{arith}
use borrow.Author.Tests.{lt-ltb, le-ltb}
use Rattle.names.specs.Bits.{split_bit}
use Rattle.names.proofs.BitLaws.{dot_within}
use Rattle.names.proofs.bits.split_bit.Goals as goal
use Rattle.names.proofs.bits.split_bit.Goals.{else-dot-gt0-via-then-dot-gt0+then-dot-s+else-digits_from, else-dot-gt0-via-then-dot-gt0+else-dot-s, else-dot-gt0-via-else-dot-gt0}

pub overflow_add-dot : goal.overflow_add-dot
overflow_add-dot c = omega (arith, c.last_dot-dot.ensures, dot_within c.args.s.now (λ e. omega (arith, e, c.last_dot-dot.ensures)))

pub returns-then-digits_from : goal.returns-then-digits_from
unfolding split_bit
returns-then-digits_from c = simp (← c.last_dot-dot.ensures, lt-ltb _ _ c.if-dot-gt0.true, lt-ltb _ _ c.if-dot-s.true, ← c.digits_from.ensures, c.if-digits_from.true)

pub returns-else-dot-gt0 : goal.returns-else-dot-gt0
unfolding split_bit
returns-else-dot-gt0 c =
    let dot = c.last_dot-dot.ensures in
    elim c.else-dot-gt0.branch [
      | else-dot-gt0-via-then-dot-gt0+then-dot-s+else-digits_from w ↦ simp (← dot, lt-ltb _ _ w.if-dot-gt0.true, lt-ltb _ _ w.if-dot-s.true, ← w.digits_from.ensures, w.if-digits_from.false)
      | else-dot-gt0-via-then-dot-gt0+else-dot-s w ↦ simp (← dot, lt-ltb _ _ w.if-dot-gt0.true, le-ltb _ _ w.if-dot-s.false)
      | else-dot-gt0-via-else-dot-gt0 w ↦ simp (← dot, le-ltb _ _ w.if-dot-gt0.false)
    ]
