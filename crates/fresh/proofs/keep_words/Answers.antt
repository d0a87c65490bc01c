-- `fresh::keep_words` meets its contract.
use mathlib.Core.List.{List}
use Prim.Native.Nat.{ℕ}
use Rattle.names.specs.Directory.{names_of}
use Rattle.ranks.specs.Ranks.{over, words_of}
use native.Mathlib.Omega.{arith}
use lib.ListN.{length}
use Rattle.board.proofs.BoardLaws.{words_put}
use Rattle.fresh.proofs.keep_words.Goals as goal

pub returns : goal.returns
returns c =
    let a = c.args in
    let from = c.words_start-start in
    let put = c.fill_words in
    words_put a.b.now put.new.words c.requires from.result (length a.b.now) from.ensures (omega (arith, c.requires.0)) (λ (l : List ℕ). over l (words_of (names_of a.directory.names.now a.directory.ends.now))) put.auto.words put.ensures
