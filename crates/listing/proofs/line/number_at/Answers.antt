-- `listing::line::number_at` meets its contract.
use mathlib.Core.Path.{◌≡◌, ap, sym, ◌∙◌}
use Prim.Native.Nat.{ℕ, suc, ◌+◌, ◌*◌, ◌-◌}
use native.Mathlib.Omega.{arith}
use lib.Dec.{eqb}
use lib.ListN.{length, get_or}
use mathlib.Core.Bool.{cond}
use Rattle.std.specs.Prelude.{Option, Some, None}
use Rattle.listing.proofs.Fields.{ahead, ahead_start, ahead_end, ahead_space, ahead_below, ahead_above, ahead_full, ahead_digit, value_grows, value_fits}
use Rattle.listing.proofs.line.number_at.Goals as goal

pub loop-i-init : goal.loop-i-init
loop-i-init c =
    let at = c.args.at in
    let z : at - at ≡ 0 = omega arith in
    (omega arith, omega arith, rw z (omega arith), ahead_start c.args.line.now at)

pub returns-in-32 : goal.returns-in-32
returns-in-32 c =
    let l = c.loop-i in
    let a = c.args in
    c.ended.ensures
    ∙ sym (l.invariant.3 ∙ ahead_space a.line.now a.at l.i l.value c.loop-i-test.true l.invariant.0 l.invariant.1 c.in-32.is)

pub returns-in_default : goal.returns-in_default
returns-in_default c =
    let l = c.loop-i in
    let a = c.args in
    sym (l.invariant.3 ∙ ahead_below a.line.now a.at l.i l.value c.loop-i-test.true (omega arith) (omega arith))

pub returns-in_default-2 : goal.returns-in_default-2
returns-in_default-2 c =
    let l = c.loop-i in
    let a = c.args in
    sym (l.invariant.3 ∙ ahead_full a.line.now a.at l.i l.value c.loop-i-test.true (omega arith) (omega arith))

pub returns-in_default-3 : goal.returns-in_default-3
returns-in_default-3 c =
    let l = c.loop-i in
    let a = c.args in
    sym (l.invariant.3 ∙ ahead_above a.line.now a.at l.i l.value c.loop-i-test.true (omega arith) (omega arith))

pub overflow_mul-value : goal.overflow_mul-value
overflow_mul-value c =
    let l = c.loop-i in
    omega (arith, value_fits l.value _ l.invariant.2 l.invariant.1)

pub overflow_add-value : goal.overflow_add-value
overflow_add-value c =
    let l = c.loop-i in
    omega (arith, value_fits l.value _ l.invariant.2 l.invariant.1)

pub loop-i-preserved : goal.loop-i-preserved
loop-i-preserved c =
    let l = c.loop-i in
    let a = c.args in
    let b : c.from.result ≡ get_or a.line.now l.i 0 - 48 = c.from.ensures in
    let next : l.i + 1 - a.at ≡ suc (l.i - a.at) = omega arith in (
      omega arith,
      omega arith,
      value_grows l.value _ (l.i - a.at) _ l.invariant.2 (omega arith) next,
      l.invariant.3
          ∙ ahead_digit a.line.now a.at l.i l.value c.loop-i-test.true (omega arith) l.invariant.0 (omega arith) (omega arith)
          ∙ ap (λ (x : ℕ). ahead a.line.now a.at (l.i + 1) (l.value * 10 + x)) (sym b),
    )

pub returns : goal.returns
returns c =
    let l = c.loop-i in
    let a = c.args in
    let e : length a.line.now ≡ l.i = omega arith in
    c.ended-2.ensures
    ∙ ap (λ (n : ℕ). cond {A = Option (ℕ × ℕ)} (eqb a.at n) None (Some (l.value, n))) e
    ∙ sym (l.invariant.3 ∙ ahead_end a.line.now a.at l.i l.value l.invariant.0 l.invariant.1 (omega arith))
