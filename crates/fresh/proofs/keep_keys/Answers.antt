-- `fresh::keep_keys` meets its contract.
use mathlib.Core.List.{List}
use Prim.Native.Nat.{ℕ}
use Rattle.names.specs.Directory.{names_of}
use Rattle.ranks.specs.Ranks.{over, keys_of}
use Rattle.board.proofs.BoardLaws.{keys_put}
use Rattle.fresh.proofs.keep_keys.Goals as goal

pub returns : goal.returns
returns c =
    let a = c.args in
    let from = c.keys_start-start in
    let to = c.words_start-end in
    let put = c.fill_keys in
    keys_put a.b.now put.new.keys c.requires from.result to.result from.ensures to.ensures (λ (l : List ℕ). over l (keys_of (names_of a.directory.names.now a.directory.ends.now))) put.auto.keys put.ensures
