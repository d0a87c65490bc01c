-- `writes::readback::ask_read_back` meets its contract.
use native.Mathlib.Omega.{arith}
use Rattle.board.proofs.BoardLaws.{word_small}
use Rattle.writes.proofs.readback.ask_read_back.Goals as goal

pub overflow_cast-code : goal.overflow_cast-code
overflow_cast-code c = omega (arith, c.word_of-code.ensures, word_small c.push_asked.new.b c.args.k)
