use mathlib.Core.Path.{ap, ◌∙◌}
use lib.Dec.{T}
use lib.Ieee.{binary64, fits, of_bits}
use lib.Ieee.Bits.{of_bits-to_bits}
use borrow.Author.Rules.{rules}
use Rattle.words.proofs.Laws.{no_nan, nan_bits_lem}
use Rattle.words.proofs.scalar.word_of_float.Goals as goal

pub float_to_bits-result : goal.float_to_bits-result
float_to_bits-result c = no_nan c.args.x c.if-x.false

pub returns-then-x-clause-bits : goal.returns-then-x-clause-bits
returns-then-x-clause-bits c = nan_bits_lem c.args.x c.if-x.true

pub returns-then-x-clause-back : goal.returns-then-x-clause-back
returns-then-x-clause-back c =
    let fit : T (fits binary64 c.args.x) = search rules in
    ap (of_bits binary64) (nan_bits_lem c.args.x c.if-x.true) ∙ of_bits-to_bits binary64 c.args.x fit

pub returns-else-x-clause-back : goal.returns-else-x-clause-back
returns-else-x-clause-back c =
    let fit : T (fits binary64 c.args.x) = search rules in
    of_bits-to_bits binary64 c.args.x fit
