-- `panel::check::check_entries` meets its contract.
use mathlib.Core.Path.{sym, ◌∙◌}
use native.Mathlib.Omega.{arith}
use borrow.Author.Tests.{le-leb, lt-leb}
use Rattle.panel.proofs.PanelLaws.{tiers_fewer, check_more, check_end}
use Rattle.panel.specs.Panel.{tags_of, tiers_of}
use Rattle.panel.proofs.check.check_entries.Goals as goal

pub returns-then-count-k : goal.returns-then-count-k
returns-then-count-k c =
    let a = c.args in
    let l = c.loop-i in
    let s = a.list.now in
    let more = check_more a.count (tags_of s) (tiers_of s) l.i (omega (arith, tiers_fewer s)) (omega arith) in
    let k = c.tag_at-k.ensures in
    sym (l.invariant ∙ more ∙ rw (← k, le-leb _ _ c.if-count-k.true))

pub seen-requires : goal.seen-requires
seen-requires c = omega (arith, tiers_fewer c.args.list.now)

pub returns-then-seen : goal.returns-then-seen
returns-then-seen c =
    let a = c.args in
    let l = c.loop-i in
    let s = a.list.now in
    let more = check_more a.count (tags_of s) (tiers_of s) l.i (omega (arith, tiers_fewer s)) (omega arith) in
    let k = c.tag_at-k.ensures in
    sym (l.invariant ∙ more ∙ rw (← k, lt-leb _ _ c.if-count-k.false, ← c.seen.ensures, c.if-seen.true))

pub returns-then-bad_tier : goal.returns-then-bad_tier
returns-then-bad_tier c =
    let a = c.args in
    let l = c.loop-i in
    let s = a.list.now in
    let more = check_more a.count (tags_of s) (tiers_of s) l.i (omega (arith, tiers_fewer s)) (omega arith) in
    let k = c.tag_at-k.ensures in
    sym (l.invariant ∙ more ∙ rw (← k, lt-leb _ _ c.if-count-k.false, ← c.seen.ensures, c.if-seen.false, ← c.tier_at.ensures, ← c.bad_tier.ensures, c.if-bad_tier.true))

pub loop-i-preserved : goal.loop-i-preserved
loop-i-preserved c =
    let a = c.args in
    let l = c.loop-i in
    let s = a.list.now in
    let more = check_more a.count (tags_of s) (tiers_of s) l.i (omega (arith, tiers_fewer s)) (omega arith) in
    let k = c.tag_at-k.ensures in
    l.invariant ∙ more ∙ rw (← k, lt-leb _ _ c.if-count-k.false, ← c.seen.ensures, c.if-seen.false, ← c.tier_at.ensures, ← c.bad_tier.ensures, c.if-bad_tier.false)

pub returns : goal.returns
returns c =
    let a = c.args in
    let l = c.loop-i in
    let s = a.list.now in
    sym (l.invariant ∙ check_end a.count (tags_of s) (tiers_of s) l.i (omega arith))
