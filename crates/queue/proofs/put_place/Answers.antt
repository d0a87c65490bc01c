-- `queue::put_place` meets its contract.
use mathlib.Core.Path.{ap, ◌∙◌}
use mathlib.Core.List.{List}
use Prim.Native.Nat.{ℕ, ◌+◌, ◌*◌, ◌<◌}
use native.Mathlib.Nat.{mod-eq_of_lt}
use native.Mathlib.Omega.{arith}
use lib.ListN.{set}
use Rattle.queue.specs.Queue.{places_in}
use Rattle.queue.proofs.QueueLaws.{place_put, place_kept, write_coded}
use borrow.Author.Rules.{rules}
use Rattle.queue.proofs.put_place.Goals as goal

pub returns-then-room_of-i : goal.returns-then-room_of-i
returns-then-room_of-i c =
    let a = c.args in
    place_kept a.q.now a.i a.w (omega arith)

pub returns : goal.returns
returns c =
    let a = c.args in
    let q = a.q.now in
    let v = c.from-v in
    let i = a.i in
    let small : a.w.tag < 65536 = search rules in
    place_put q c.put_cell-3.new.s i a.w.tag v.result.kind v.result.word (c.put_cell-3.auto.s ∙ c.put_cell-2.auto.s ∙ c.put_cell.auto.s) (omega arith)
    (c.put_cell-3.ensures ∙ ap (λ (cs : List ℕ). set cs (3 * i + 3) v.result.word) (c.put_cell-2.ensures ∙ ap (λ (cs : List ℕ). set cs (3 * i + 2) v.result.kind) c.put_cell.ensures))
    ∙ ap (set (places_in q) i) (write_coded a.w a.w.tag v.result.kind v.result.word (mod-eq_of_lt small) v.ensures.0)
