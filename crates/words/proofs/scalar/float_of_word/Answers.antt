-- `words::scalar::float_of_word` meets its contract.
use Rattle.words.proofs.Laws.{no_nan_of, nan_of}
use Rattle.words.proofs.scalar.float_of_word.Goals as goal

pub returns-then-n-gt9218868437227405312 : goal.returns-then-n-gt9218868437227405312
returns-then-n-gt9218868437227405312 c = nan_of c.args.n c.if-n-gt9218868437227405312.true

pub float_from_bits-result : goal.float_from_bits-result
float_from_bits-result c = no_nan_of c.args.n c.if-n-gt9218868437227405312.false
