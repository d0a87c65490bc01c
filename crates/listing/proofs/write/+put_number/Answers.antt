-- The digits before the last are those of the tenth.
use mathlib.Core.List.{[], append-nil}
use Rattle.std.proofs.Common.{◌∙◌, ap, sym, ◌/◌, arith}
use native.Mathlib.Nat.{mod-eq_of_lt}
use Rattle.listing.specs.Write.{decimal_of}
use Rattle.listing.proofs.Decimal.{decimal_one, decimal_more, width_more}
use Rattle.listing.proofs.Put.{put_more, put_none}
use Rattle.listing.proofs.write.+put_number.Goals as goal
use Rattle.listing.proofs.write.+put_number.Goals.{then-n-ge10+in_ok-put_number, else-n-ge10}

pub returns-in_err-put_number : goal.returns-in_err-put_number
returns-in_err-put_number g t c =
    let n = c.args.n in
    put_none g.row.N c.args.out.now.items _ (decimal_of n) _ c.from_residual.ensures.0 c.in_err-put_number.ensures.0 (omega (arith, c.in_err-put_number.ensures.1, width_more n c.if-n-ge10.true))

pub returns : goal.returns
returns g t c =
    let old = c.args.out.now.items in
    let n = c.args.n in
    let last = rw c.digit.ensures at c.put_byte.ensures in
    let back = c.or_truncate.ensures in
    elim c.if-n-ge10.branch [
      | then-n-ge10+in_ok-put_number w ↦
          let first = ap (λ v. v.items) w.out-is ∙ w.in_ok-put_number.ensures.0 in
          rw (decimal_more n w.if-n-ge10.true) (put_more g.row.N old _ _ _ (decimal_of (n / 10)) _ _ _ _ c.len-len.ensures.value first last back.value back.line)
      | else-n-ge10 w ↦
          let first = ap (λ v. v.items) w.out-is ∙ sym (append-nil old) in
          let only = rw (mod-eq_of_lt w.if-n-ge10.false) at last in
          rw (decimal_one n w.if-n-ge10.false) (put_more g.row.N old _ _ _ [] _ _ _ _ c.len-len.ensures.value first only back.value back.line)
    ]
