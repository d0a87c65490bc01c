-- `table::codec::description_word` meets its contract.
use mathlib.Core.Path.{sym, ◌∙◌}
use Prim.Native.Nat.{◌<◌}
use Rattle.table.proofs.Laws.{description_coded}
use borrow.Author.Rules.{rules}
use Rattle.table.proofs.codec.description_word.Goals as goal

pub returns-in-Is : goal.returns-in-Is
returns-in-Is c =
    let n = c.in-Is.n in
    let small : n < 0x1_0000_0000 = search rules in
    description_coded n small ∙ sym c.in-Is.is
