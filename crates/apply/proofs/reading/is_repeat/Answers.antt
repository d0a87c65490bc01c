-- `apply::reading::is_repeat` meets its contract.
use mathlib.Core.Path.{sym, ◌∙◌}
use Prim.Native.Nat.{◌/◌}
use native.Mathlib.Omega.{arith}
use borrow.Author.Tests.{ne_eqb, lt-ltb}
use lib.ListN.{length, get_or}
use Rattle.table.specs.Tag.{fresh_tag}
use Rattle.table.specs.Table.{table_in}
use Rattle.results.specs.Results.{result_in}
use Rattle.apply.proofs.RepeatLaws.{repeated}
use Rattle.apply.proofs.reading.is_repeat.Goals as goal

pub returns-then-is_good_as : goal.returns-then-is_good_as
unfolding result_in
returns-then-is_good_as c = λ e.
    let a = c.args in
    let x = get_or (table_in a.table.now) a.k fresh_tag in
    let some = lt-ltb a.i (length a.results.now / 32) (omega arith) in
    let tiered = ne_eqb _ _ (λ f. c.if-tier_of-eq0.false (c.tier_of.ensures ∙ f)) in
    let kind = c.cell-kind in
    let word = c.cell-word in
    repeated x c.cached_words.result kind.result word.result c.cached_words.ensures (c.is_good_as.ensures c.if-is_good_as.true) (result_in a.results.now a.i)
    tiered (sym c.is_same_as_itself.ensures ∙ e) (rw (some, kind.ensures, word.ensures, sym c.cell.ensures ∙ c.if-cell-ne0.false))
