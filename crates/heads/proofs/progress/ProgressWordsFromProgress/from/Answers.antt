use Prim.Native.Nat.{◌<◌}
use native.Mathlib.Nat.{mod-eq_of_lt}
use borrow.Author.Rules.{rules}
use Rattle.heads.proofs.Laws.{progress_coded}
use Rattle.heads.proofs.progress.ProgressWordsFromProgress.from.Goals as goal

pub returns : goal.returns
returns c =
    let small : c.args.x.tag < 65536 = search rules in
    progress_coded c.args.x _ _ _ _ c.word_of_flag.result _ c.phase_number.ensures c.after_number.ensures
    c.word_of_float.ensures.back c.word_of_float-2.ensures.back c.word_of_flag.ensures (mod-eq_of_lt small)
