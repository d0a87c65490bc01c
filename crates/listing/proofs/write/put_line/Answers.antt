-- `listing::write::put_line` meets its contract.
use mathlib.Core.Path.{◌≡◌, ap}
use mathlib.Core.List.{[], ◌∷◌}
use Prim.Native.Nat.{◌+◌}
use native.Mathlib.Omega.{arith}
use lib.ListN.{length}
use Rattle.tags.specs.Lists.{list_in}
use Rattle.listing.specs.Write.{line_of}
use Rattle.listing.proofs.Joined.{later, so_far, so_far_more, so_far_all, so_far_within}
use Rattle.listing.proofs.Put.{put_more, put_none}
use Rattle.listing.proofs.write.put_line.Goals as goal

pub returns-in_err-put_head : goal.returns-in_err-put_head
returns-in_err-put_head g c =
    let a = c.args in
    let tags = list_in a.list.now in
    let few = rw c.count-count.ensures at c.in_err-put_head.ensures in
    put_none g.row.N a.out.now.items _ (line_of a.ms a.boundary tags) _ c.from_residual.ensures.0 few.0 (omega (arith, few.1, so_far_within a.ms a.boundary tags 0))

pub returns-in_err-or_truncate : goal.returns-in_err-or_truncate
returns-in_err-or_truncate g c =
    let l = c.loop-i in
    let a = c.args in
    let tags = list_in a.list.now in
    let old = a.out.now.items in
    let n : c.count-count.result ≡ length tags = c.count-count.ensures in
    let back = c.or_truncate.ensures in
    let here = so_far a.ms a.boundary tags l.i in
    let more = put_more g.row.N old _ _ _ here (later c.at.result) _ _ _ c.len-len.ensures.value l.invariant c.put_field.ensures back.value back.line in
    let few = rw (c.in_err-or_truncate.was, c.at.ensures) at more in
    put_none g.row.N old _ (line_of a.ms a.boundary tags) _ c.from_residual-in_err-or_truncate.ensures.0 few.0
    (omega (arith, few.1, ap length (so_far_more a.ms a.boundary tags l.i (omega arith)), so_far_within a.ms a.boundary tags (l.i + 1)))

pub loop-i-preserved : goal.loop-i-preserved
loop-i-preserved g c =
    let l = c.loop-i in
    let a = c.args in
    let tags = list_in a.list.now in
    let n : c.count-count.result ≡ length tags = c.count-count.ensures in
    let back = c.or_truncate.ensures in
    let here = so_far a.ms a.boundary tags l.i in
    let more = put_more g.row.N a.out.now.items _ _ _ here (later c.at.result) _ _ _ c.len-len.ensures.value l.invariant c.put_field.ensures back.value back.line in
    let both = rw (c.in_ok-or_truncate.was, c.at.ensures) at more in
    rw (so_far_more a.ms a.boundary tags l.i (omega arith)) both.0

pub returns : goal.returns
returns g c =
    let l = c.loop-i in
    let a = c.args in
    let tags = list_in a.list.now in
    let n : c.count-count.result ≡ length tags = c.count-count.ensures in
    let back = c.or_truncate-2.ensures in
    rw (so_far_all a.ms a.boundary tags l.i (omega arith))
    (put_more g.row.N a.out.now.items _ _ _ (so_far a.ms a.boundary tags l.i) (10 ∷ []) _ _ _ c.len-len.ensures.value l.invariant c.put_byte.ensures back.value back.line)
