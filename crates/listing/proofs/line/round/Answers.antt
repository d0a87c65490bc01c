-- `listing::line::round` meets its contract.
use mathlib.Core.Path.{ap, sym, ◌∙◌}
use Rattle.listing.specs.Line.{fields, as_round}
use Rattle.listing.specs.declared.line.Line.TheVariants.{Round}
use Rattle.listing.proofs.Fields.{got, not_all}
use Rattle.listing.proofs.Lines.{round_none, round_more, round_is}
use Rattle.listing.proofs.line.round.Goals as goal

pub returns-in-Some : goal.returns-in-Some
returns-in-Some c =
    let x = got c.args.line.now 0 _ _ c.in-Some.ensures in
    sym (ap as_round (x.last c.if-line-end.true) ∙ round_is x.field x.number ∙ ap Round x.value)

pub returns-in_default : goal.returns-in_default
returns-in_default c =
    let x = got c.args.line.now 0 _ _ c.in-Some.ensures in
    sym (ap as_round (x.more c.if-line-end.false) ∙ round_more x.field _)

pub returns-in_default-2 : goal.returns-in_default-2
returns-in_default-2 c =
    let line = c.args.line.now in
    sym (round_none (fields line) (not_all 0 line (sym c.in_default.is ∙ c.number_at.ensures)))
