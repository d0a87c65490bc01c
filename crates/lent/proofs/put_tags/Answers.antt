-- `lent::put_tags` meets its contract.
use mathlib.Core.Path.{refl, ap, sym, ◌∙◌}
use mathlib.Core.List.{List}
use Prim.Native.Nat.{ℕ, ◌+◌, ◌*◌, ◌/◌, ◌%◌}
use native.Mathlib.Omega.{arith}
use lib.ListN.{set, take, length-set}
use lib.Seq.{take_all}
use Rattle.tags.specs.Lists.{list_in}
use Rattle.lent.specs.Lent.{over_bytes, tag_bytes}
use Rattle.lent.proofs.LentLaws.{tags_none, tag_next, length_tags, all_fits, all-kept}
use Rattle.lent.proofs.put_tags.Goals as goal

pub returns-then-out-n : goal.returns-then-out-n
returns-then-out-n c =
    let a = c.args in
    let xs = list_in a.list.now in
    sym (all-kept a.out.now (tag_bytes xs) (omega (arith, length_tags xs)))

pub loop-i-init : goal.loop-i-init
loop-i-init c =
    (refl, tags_none c.args.out.now)

pub loop-i-preserved : goal.loop-i-preserved
loop-i-preserved c =
    let a = c.args in
    let l = c.loop-i in
    let xs = list_in a.list.now in
    let out = a.out.now in
    let i = l.i in
    let k = c.at-k.result in (
      length-set (set l.out (2 * i) (k % 256)) (2 * i + 1) (k / 0x100 % 256) ∙ length-set l.out (2 * i) (k % 256) ∙ l.invariant.0,
      ap (λ (o : List ℕ). set (set o (2 * i) (k % 256)) (2 * i + 1) (k / 0x100 % 256)) l.invariant.1
          ∙ ap (λ (n : ℕ). set (set (over_bytes out (tag_bytes (take i xs))) (2 * i) (n % 256)) (2 * i + 1) (n / 0x100 % 256)) c.at-k.ensures
          ∙ tag_next out xs i (omega arith) (omega arith),
    )

pub returns : goal.returns
returns c =
    let a = c.args in
    let l = c.loop-i in
    let xs = list_in a.list.now in
    l.invariant.1
    ∙ ap (λ (ks : List ℕ). over_bytes a.out.now (tag_bytes ks)) (take_all l.i xs (omega arith))
    ∙ sym (all_fits a.out.now (tag_bytes xs) (omega (arith, length_tags xs)))
