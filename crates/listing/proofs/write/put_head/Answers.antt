-- `listing::write::put_head` meets its contract.
use mathlib.Core.Path.{◌≡◌, refl, ◌∙◌}
use mathlib.Core.List.{◌++◌}
use mathlib.Core.Bool.{Bool, true, false, cond}
use mir.Val.{bool_byte}
use native.Mathlib.Omega.{arith}
use lib.ListN.{length-append}
use Rattle.listing.specs.Write.{decimal_of}
use Rattle.listing.proofs.Joined.{later, head_fields}
use Rattle.listing.proofs.Put.{put_more, put_none}
use Rattle.listing.proofs.write.put_head.Goals as goal

-- a boundary's mark
marked : (b : Bool) → bool_byte b ≡ cond b 1 0
marked true = refl
marked false = refl

pub returns-in_err-put_number : goal.returns-in_err-put_number
returns-in_err-put_number g c =
    let a = c.args in
    let xs = decimal_of a.ms in
    let ys = later (cond a.boundary 1 0) in
    let zs = later a.count in
    let few = c.in_err-put_number.ensures in
    rw (head_fields a.ms a.boundary a.count)
    (put_none g.row.N a.out.now.items _ (xs ++ ys ++ zs) _ c.from_residual.ensures.0 few.0 (omega (arith, few.1, length-append (xs ++ ys) zs, length-append xs ys)))

pub returns-in_err-or_truncate : goal.returns-in_err-or_truncate
returns-in_err-or_truncate g c =
    let a = c.args in
    let m : c.from.result ≡ cond a.boundary 1 0 = c.from.ensures ∙ marked a.boundary in
    let old = a.out.now.items in
    let xs = decimal_of a.ms in
    let ys = later c.from.result in
    let zs = later a.count in
    let back = c.or_truncate.ensures in
    let two = put_more g.row.N old _ _ _ xs ys _ _ _ c.len-len.ensures.value c.in_ok-put_number.ensures.0 c.put_field.ensures back.value back.line in
    let few = rw c.in_err-or_truncate.was at two in
    rw (head_fields a.ms a.boundary a.count, ← m)
    (put_none g.row.N old _ (xs ++ ys ++ zs) _ c.from_residual-in_err-or_truncate.ensures.0 few.0 (omega (arith, few.1, length-append (xs ++ ys) zs)))

pub returns : goal.returns
returns g c =
    let a = c.args in
    let m : c.from.result ≡ cond a.boundary 1 0 = c.from.ensures ∙ marked a.boundary in
    let old = a.out.now.items in
    let xs = decimal_of a.ms in
    let ys = later c.from.result in
    let zs = later a.count in
    let back = c.or_truncate.ensures in
    let last = c.or_truncate-2.ensures in
    let two = put_more g.row.N old _ _ _ xs ys _ _ _ c.len-len.ensures.value c.in_ok-put_number.ensures.0 c.put_field.ensures back.value back.line in
    let both = rw c.in_ok-or_truncate.was at two in
    rw (head_fields a.ms a.boundary a.count, ← m)
    (put_more g.row.N old _ _ _ (xs ++ ys) zs _ _ _ c.len-len.ensures.value both.0 c.put_field-2.ensures last.value last.line)
