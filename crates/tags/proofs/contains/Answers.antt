-- `tags::contains` meets its contract.
use mathlib.Core.Path.{sym, ◌∙◌}
use native.Mathlib.Omega.{arith}
use Rattle.tags.specs.Lists.{list_in}
use Rattle.tags.proofs.ListLaws.{list_half, list_at, member_yes, member_no}
use Rattle.tags.proofs.contains.Goals as goal

pub half-requires : goal.half-requires
half-requires c = list_half c.args.s.now c.loop-i.i (omega arith)

pub returns-then-half-k : goal.returns-then-half-k
returns-then-half-k c =
    let a = c.args in
    let l = c.loop-i in
    let s = a.s.now in
    sym (l.invariant ∙ member_yes a.k (list_in s) l.i (omega arith) (sym c.if-half-k.true ∙ c.half.ensures ∙ list_at s l.i (omega arith)))

pub loop-i-preserved : goal.loop-i-preserved
loop-i-preserved c =
    let a = c.args in
    let l = c.loop-i in
    let s = a.s.now in
    let read = c.half.ensures ∙ list_at s l.i (omega arith) in
    l.invariant ∙ member_no a.k (list_in s) l.i (omega arith) (λ e. c.if-half-k.false (read ∙ sym e))
