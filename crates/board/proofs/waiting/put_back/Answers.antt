-- `board::waiting::put_back` meets its contract.
use mathlib.Core.Path.{refl}
use mathlib.Core.List.{List}
use Prim.Native.Nat.{ℕ}
use Rattle.lent.specs.Lent.{over_bytes}
use Rattle.board.proofs.BoardLaws.{back_put}
use Rattle.board.proofs.waiting.put_back.Goals as goal

pub returns : goal.returns
returns c =
    let a = c.args in
    let to = c.recorded_start-end in
    let put = c.put_bytes in
    back_put a.b.now put.new.out c.requires 0 to.result refl to.ensures (λ (z : List ℕ). over_bytes z a.results.now) put.auto.out put.ensures
