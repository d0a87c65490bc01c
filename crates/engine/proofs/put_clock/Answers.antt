use Rattle.engine.proofs.Laws.{clock_stored}
use Rattle.engine.proofs.put_clock.Goals as goal

pub returns : goal.returns
returns c =
    let a = c.args in
    let v = c.word_of_float in
    let p = c.put_row_cell in
    clock_stored a.s.now p.new.s v.result a.clock p.auto.s p.ensures v.ensures.back
