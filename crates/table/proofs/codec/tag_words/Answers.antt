use Prim.Native.Nat.{◌<◌}
use native.Mathlib.Nat.{mod-eq_of_lt}
use Rattle.table.proofs.Laws.{tag_coded}
use borrow.Author.Rules.{rules}
use Rattle.table.proofs.codec.tag_words.Goals as goal

pub returns : goal.returns
returns c =
    let small : c.args.x.tier < 256 = search rules in
    tag_coded c.args.x _ _ _ _ _ _ _ _ _ _ _ _ _ _ _ _ c.from-cached.result c.from-published.result
    (mod-eq_of_lt small) c.from-grace.ensures c.from-last.ensures c.from-retry.ensures
    c.word_of_flag.ensures c.word_of_flag-2.ensures c.description_word.ensures
    c.word_of_float.ensures.back c.from-group.ensures c.word_of_flag-3.ensures
    c.from-cached.ensures.0 c.from-published.ensures.0
