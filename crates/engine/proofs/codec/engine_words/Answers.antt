use mathlib.Core.Path.{refl}
use Prim.Native.Nat.{◌<◌}
use native.Mathlib.Nat.{mod-eq_of_lt}
use borrow.Author.Rules.{rules}
use Rattle.engine.proofs.Laws.{engine_coded}
use Rattle.engine.proofs.codec.engine_words.Goals as goal

pub returns : goal.returns
returns c =
    let small : c.args.x.count < 65536 = search rules in
    engine_coded c.args.x _ _ _ _ _ _ _ _ _ _ _ _ _ _ _ _ _ _ _ _ _ _ _ _ _ _
    c.word_of_float.ensures.back c.word_of_float-2.ensures.back c.word_of_float-3.ensures.back c.from-last.ensures refl
    c.word_of_float-4.ensures.back (mod-eq_of_lt small) c.from-link.ensures c.from-progress.ensures c.from-stats.ensures
