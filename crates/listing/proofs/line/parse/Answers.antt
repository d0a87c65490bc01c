-- `listing::line::parse` meets its contract.
use mathlib.Core.Path.{ap, sym, ◌∙◌}
use native.Mathlib.Omega.{arith}
use Rattle.listing.specs.declared.line.Line.TheVariants.{Options, Set}
use Rattle.listing.proofs.Lines.{told, options_told, set_told, line_short, line_joined, line_rest, line_unlettered}
use Rattle.listing.proofs.line.parse.Goals as goal

pub returns-in_default-letter : goal.returns-in_default-letter
returns-in_default-letter c = sym (line_unlettered c.args.line.now c.in-32.len_at_least (omega arith) (omega arith) (omega arith) (omega arith) (omega arith))

pub returns-in_default : goal.returns-in_default
returns-in_default c = sym (line_short c.args.line.now c.in_default.len_below)

pub returns-in_default-2 : goal.returns-in_default-2
returns-in_default-2 c = sym (line_joined c.args.line.now c.in_default.len_at_least (omega arith))

pub returns-in-110 : goal.returns-in-110
returns-in-110 c = c.name.ensures ∙ sym (line_rest c.args.line.now 110 c.in-32.len_at_least (omega arith) c.in-110.is)

pub returns-in-99 : goal.returns-in-99
returns-in-99 c = c.round.ensures ∙ sym (line_rest c.args.line.now 99 c.in-32.len_at_least (omega arith) c.in-99.is)

pub returns-in-Some : goal.returns-in-Some
returns-in-Some c =
    ap (told Options) c.in-Some.ensures
    ∙ sym (line_rest c.args.line.now 111 c.in-32.len_at_least (omega arith) c.in-111.is ∙ options_told _)

pub returns-in-None : goal.returns-in-None
returns-in-None c =
    ap (told Options) c.in-None.ensures
    ∙ sym (line_rest c.args.line.now 111 c.in-32.len_at_least (omega arith) c.in-111.is ∙ options_told _)

pub returns-in-Some-three : goal.returns-in-Some-three
returns-in-Some-three c =
    ap (told Set) c.in-Some-three.ensures
    ∙ sym (line_rest c.args.line.now 115 c.in-32.len_at_least (omega arith) c.in-115.is ∙ set_told _)

pub returns-in-None-three : goal.returns-in-None-three
returns-in-None-three c =
    ap (told Set) c.in-None-three.ensures
    ∙ sym (line_rest c.args.line.now 115 c.in-32.len_at_least (omega arith) c.in-115.is ∙ set_told _)
