-- `leaves::polls::fresh_check` meets its contract.
use mathlib.Core.Path.{◌≡◌, refl, sym, ◌∙◌}
use mathlib.Core.Bool.{true, false}
use borrow.Author.Tests.{eq-eqb, ne_eqb}
use lib.ListN.{length}
use Rattle.board.specs.Layout.{tags_in}
use Rattle.leaves.specs.Polls.{size_check}
use Rattle.leaves.proofs.Laws.{size_passed, size-refused, fresh_checked}
use Rattle.leaves.proofs.polls.fresh_check.Goals as goal

pub returns-then-code-ne0 : goal.returns-then-code-ne0
returns-then-code-ne0 c =
    let a = c.args in
    let mem = a.mem.now in
    let z : size_check mem ≡ 0 → ⊥ = λ g. c.if-code-ne0.true (c.size_check-code.ensures ∙ g) in
    c.size_check-code.ensures ∙ size-refused mem z ∙ fresh_checked mem a.ends.now false _ (ne_eqb (size_check mem) 0 z) refl

pub tags_in-requires : goal.tags_in-requires
tags_in-requires c = size_passed c.args.mem.now (sym c.size_check-code.ensures ∙ c.if-code-ne0.false)

pub returns-then-tags_in-ends : goal.returns-then-tags_in-ends
returns-then-tags_in-ends c =
    let a = c.args in
    let mem = a.mem.now in
    fresh_checked mem a.ends.now true false (eq-eqb (size_check mem) 0 (sym c.size_check-code.ensures ∙ c.if-code-ne0.false))
    (ne_eqb (tags_in mem) (length a.ends.now) (λ g. c.if-tags_in-ends.true (c.tags_in.ensures ∙ g)))

pub returns : goal.returns
returns c =
    let a = c.args in
    let mem = a.mem.now in
    fresh_checked mem a.ends.now true true (eq-eqb (size_check mem) 0 (sym c.size_check-code.ensures ∙ c.if-code-ne0.false))
    (eq-eqb (tags_in mem) (length a.ends.now) (sym c.tags_in.ensures ∙ c.if-tags_in-ends.false))
