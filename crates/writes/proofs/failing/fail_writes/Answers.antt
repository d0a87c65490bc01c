-- `writes::failing::fail_writes` meets its contract.
use mathlib.Core.Path.{◌≡◌, ap, ◌∙◌}
use mathlib.Core.List.{List}
use Prim.Native.Nat.{ℕ}
use native.Mathlib.Omega.{arith}
use lib.ListN.{length, replicate}
use Rattle.tags.specs.Lists.{list_in}
use Rattle.lent.specs.Lent.{tag_bytes, wrote_all}
use Rattle.board.specs.Board.{board_in}
use Rattle.writes.specs.Failing.{queued_tags}
use Rattle.writes.proofs.FailLaws.{all_queued}
use Rattle.writes.proofs.failing.fail_writes.Goals as goal

pub returns : goal.returns
returns c =
    let bs = c.args.b.now in
    let q = c.queue_of in
    let list = c.list_queued in
    let tags : list_in list.new.list ≡ queued_tags (board_in bs) = list.ensures ∙ all_queued bs q.result.now (replicate 256 0) c.requires q.ensures (omega arith) in (
      c.count.ensures ∙ ap (λ (l : List ℕ). length l) tags,
      (c.clear_queue.ensures, c.put_tags.ensures ∙ ap (λ (l : List ℕ). wrote_all c.args.out.now (tag_bytes l)) tags),
    )
