-- The two lists are read one after the other; what is found of them is what the definition finds.
use Rattle.std.proofs.Common.{◌+◌, ◌∙◌, ap, sym, length}
use Rattle.std.specs.Prelude.{⊤, Result, Ok}
use Rattle.frames.specs.Answer.{compare_list, first}
use Rattle.frames.specs.declared.answer.Difference.{Difference}
use Rattle.frames.specs.declared.answer.Difference.TheVariants.{Malformed}
use Rattle.frames.proofs.AnswerLaws.{refused, compare_cut, compare_short, compare_more, compare_both}
use Rattle.frames.proofs.answer.compare.Goals as goal

pub returns-in_err-answer : goal.returns-in_err-answer
returns-in_err-answer c =
    let a = c.args in
    refused Malformed _ c.from_residual.ensures.1 ∙ sym (compare_cut a.numbers.now a.out.now a.frame.rest.now c.in_err-answer.ensures.0)

pub returns-in_err-list : goal.returns-in_err-list
returns-in_err-list c =
    let a = c.args in
    refused Malformed _ c.from_residual-in_err-list.ensures.1
    ∙ sym (compare_short a.numbers.now a.out.now a.frame.rest.now c.in_ok-answer.answer.now c.list.new.self.rest.now c.in_ok-answer.ensures c.in_err-list.ensures.0)

pub returns-then-not-is_empty : goal.returns-then-not-is_empty
returns-then-not-is_empty c =
    let a = c.args in
    sym (compare_more a.numbers.now a.out.now a.frame.rest.now c.in_ok-answer.answer.now c.list.new.self.rest.now c.in_ok-answer.ensures
    c.in_ok-list.list.now c.list-2.new.self.rest.now c.in_ok-list.ensures c.if-not-is_empty.ensures)

pub returns-in_err-compare_numbers : goal.returns-in_err-compare_numbers
returns-in_err-compare_numbers c =
    let a = c.args in
    let answer = c.in_ok-answer.answer.now in
    let list = c.in_ok-list.list.now in
    let both = compare_both a.numbers.now a.out.now a.frame.rest.now answer c.list.new.self.rest.now c.in_ok-answer.ensures list c.list-2.new.self.rest.now c.in_ok-list.ensures c.if-not-is_empty.ensures in
    refused _ _ c.from_residual-in_err-compare_numbers.ensures.1
    ∙ sym (both ∙ ap (λ (r : Result ⊤ Difference). first r (compare_list a.out.now list) (length answer + length a.out.now)) (sym c.in_err-compare_numbers.ensures))

pub returns-in_err-compare_list : goal.returns-in_err-compare_list
returns-in_err-compare_list c =
    let a = c.args in
    let answer = c.in_ok-answer.answer.now in
    let list = c.in_ok-list.list.now in
    let both = compare_both a.numbers.now a.out.now a.frame.rest.now answer c.list.new.self.rest.now c.in_ok-answer.ensures list c.list-2.new.self.rest.now c.in_ok-list.ensures c.if-not-is_empty.ensures in
    refused _ _ c.from_residual-in_err-compare_list.ensures.1
    ∙ sym (both ∙ ap (λ (r : Result ⊤ Difference). first r (compare_list a.out.now list) (length answer + length a.out.now)) (sym c.in_ok-compare_numbers.ensures)
    ∙ ap (λ (r : Result ⊤ Difference). first (Ok tt) r (length answer + length a.out.now)) (sym c.in_err-compare_list.ensures))

pub returns : goal.returns
returns c =
    let a = c.args in
    let answer = c.in_ok-answer.answer.now in
    let list = c.in_ok-list.list.now in
    let both = compare_both a.numbers.now a.out.now a.frame.rest.now answer c.list.new.self.rest.now c.in_ok-answer.ensures list c.list-2.new.self.rest.now c.in_ok-list.ensures c.if-not-is_empty.ensures in
    sym (both ∙ ap (λ (r : Result ⊤ Difference). first r (compare_list a.out.now list) (length answer + length a.out.now)) (sym c.in_ok-compare_numbers.ensures)
    ∙ ap (λ (r : Result ⊤ Difference). first (Ok tt) r (length answer + length a.out.now)) (sym c.in_ok-compare_list.ensures))
