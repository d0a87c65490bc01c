-- `engine::store` meets its contract.
use Rattle.engine.proofs.Laws.{engine_put}
use Rattle.engine.proofs.store.Goals as goal

pub returns : goal.returns
returns c =
    let a = c.args in
    let w = c.engine_words in
    engine_put a.s.now c.put_row.new.s w.result a.x c.put_row.auto.s c.put_row.ensures w.ensures
