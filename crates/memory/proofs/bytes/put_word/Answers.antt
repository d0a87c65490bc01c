-- `memory::bytes::put_word` meets its contract.
use native.Mathlib.Numerals.{add-one, add-two, add-three, add-four, add_five, add_six, add_seven}
use Rattle.memory.proofs.CellLaws.{cells_put}
use borrow.Author.Rules.{rules}
use Rattle.memory.proofs.bytes.put_word.Goals as goal

pub returns : goal.returns
returns c =
    let a = c.args in
    rw (← cells_put a.s.now a.i a.v (search rules) c.requires)
    (simp (add-one, add-two, add-three, add-four, add_five, add_six, add_seven))
