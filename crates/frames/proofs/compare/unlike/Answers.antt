-- What the search finds is the first other byte.
use mathlib.Core.Path.{sym, ◌∙◌, refl}
use mathlib.Core.Logic.{◌≢◌}
use borrow.Author.Tests.{tests}
use Rattle.std.proofs.Common.{rules, ◌≡◌, ℕ}
use Rattle.std.proofs.lemmas.Iterator.{IsFirst-from_position, YieldsList-from_slice, index_from_first}
use Rattle.frames.specs.Compare.{unlike}
use Rattle.frames.proofs.Laws.{unlike_hit, unlike_miss}
use Rattle.frames.proofs.compare.unlike.Goals as goal

pub returns : goal.returns
unfolding unlike
returns c =
    let b = c.args.b in
    let first = IsFirst-from_position _ _ _ (λ (x : ℕ). x ≢ b) (λ (x : ℕ). x ≡ b) c.position.ensures.ran (YieldsList-from_slice c.args.s.now cc) (λ x q k. search (rules, tests)) (λ x q k. search (rules, tests)) in
    c.unwrap_or.ensures ∙ sym (index_from_first (λ (s : _). unlike 0 s b) _ _ refl (λ x s h. unlike_hit b x s h) (λ x s h. unlike_miss b x s h) c.args.s.now _ first)
