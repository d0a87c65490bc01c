-- `leaves::polls::leaf_tier` meets its contract.
use mathlib.Core.Path.{◌≡◌, refl, sym, ◌∙◌}
use borrow.Author.Tests.{ne_eqb}
use Rattle.leaves.specs.Polls.{size_check}
use Rattle.leaves.proofs.Laws.{size_passed, size-refused}
use Rattle.leaves.proofs.polls.leaf_tier.Goals as goal

pub returns-then-code-ne0 : goal.returns-then-code-ne0
returns-then-code-ne0 c =
    let mem = c.args.mem.now in
    let z : size_check mem ≡ 0 → ⊥ = λ g. c.if-code-ne0.true (c.size_check-code.ensures ∙ g) in
    c.size_check-code.ensures ∙ size-refused mem z ∙ rw (ne_eqb (size_check mem) 0 z) refl

pub tier_of-requires : goal.tier_of-requires
tier_of-requires c = size_passed c.args.mem.now (sym c.size_check-code.ensures ∙ c.if-code-ne0.false)
