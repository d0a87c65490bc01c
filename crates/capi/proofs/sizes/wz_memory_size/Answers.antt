-- `capi::sizes::wz_memory_size` meets its contract.
use mathlib.Core.Path.{refl, sym, ◌∙◌}
use native.Mathlib.Omega.{arith}
use borrow.Author.Tests.{le-leb, lt-leb}
use Rattle.names.specs.Directory.{max_names}
use Rattle.capi.proofs.sizes.wz_memory_size.Goals as goal

pub returns-then-count-eq0 : goal.returns-then-count-eq0
returns-then-count-eq0 c = rw (lt-leb 1 c.args.count (omega (arith, c.if-count-eq0.true))) refl

pub returns-then-count : goal.returns-then-count
returns-then-count c =
    let n = c.args.count in
    rw (le-leb 1 n (omega (arith, c.if-count-eq0.false)), lt-leb n max_names (omega arith)) refl

pub returns : goal.returns
returns c =
    let n = c.args.count in
    c.memory_size.ensures ∙ sym (rw (le-leb 1 n (omega (arith, c.if-count-eq0.false)), le-leb n max_names (omega (arith, c.if-count.false))) refl)
