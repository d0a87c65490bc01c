-- What the search finds is the first pair whose bytes differ.
use mathlib.Core.Path.{sym, ◌∙◌, ap}
use mathlib.Core.Logic.{◌≢◌}
use native.Mathlib.Omega.{arith}
use borrow.Author.Tests.{tests}
use Rattle.std.proofs.Common.{rules, ◌≡◌, ℕ, length}
use Rattle.std.specs.List.{zip}
use Rattle.std.specs.Option.{unwrap_or}
use Rattle.std.proofs.lemmas.Slice.Zip.{length-zip}
use Rattle.std.proofs.lemmas.Iterator.{IsFirst-from_position, YieldsList-from_slice, YieldsList-from_zip, index_from_first}
use Rattle.frames.proofs.Laws.{paired, paired_none, paired_hit, paired_miss, paired-zip}
use Rattle.frames.proofs.compare.parting.Goals as goal

pub returns : goal.returns
returns c =
    let a = c.args.a.now in
    let b = c.args.b.now in
    let shorter : c.min.result ≡ length (zip a b) = omega (arith, c.min.ensures, length-zip a b) in
    let first = IsFirst-from_position c.position.new.self _ _ (λ (p : ℕ × ℕ). p.0 ≢ p.1) (λ (p : ℕ × ℕ). p.0 ≡ p.1) c.position.ensures.ran (YieldsList-from_zip (YieldsList-from_slice a cc) (YieldsList-from_slice b cc)) (λ x q k. search (rules, tests)) (λ x q k. search (rules, tests)) in
    c.unwrap_or.ensures ∙ ap (unwrap_or c.position.result) shorter ∙ sym (index_from_first (paired 0) _ _ paired_none paired_hit paired_miss (zip a b) _ first) ∙ paired-zip 0 a b
