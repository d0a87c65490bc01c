-- `panel::write::write_panel` meets its contract.
use mathlib.Core.Path.{◌∙◌}
use native.Mathlib.Omega.{arith}
use borrow.Author.Rules.{rules}
use Rattle.panel.proofs.WriteLaws.{length_panel, short_length, short_kept, full_length, full_put}
use Rattle.tags.specs.Lists.{list_in}
use Rattle.tags.proofs.ListLaws.{list_short}
use Rattle.table.specs.Table.{table_in}
use Rattle.panel.specs.Panel.{panel_of}
use Rattle.memory.proofs.LoopLaws.{fill_more}
use Rattle.panel.proofs.write.write_panel.Goals as goal

pub overflow_mul-size : goal.overflow_mul-size
overflow_mul-size c = omega (arith, list_short c.args.order.now)

pub overflow_add-size : goal.overflow_add-size
overflow_add-size c = omega (arith, list_short c.args.order.now)

pub returns-then-out-size : goal.returns-then-out-size
returns-then-out-size c =
    let a = c.args in
    let bytes = panel_of (table_in a.t.now) (list_in a.order.now) in
    let long = length_panel (table_in a.t.now) (list_in a.order.now) in
    record { value = short_length a.out.now bytes (omega arith); out_after = short_kept a.out.now bytes (omega arith) }

pub loop-p-preserved : goal.loop-p-preserved
loop-p-preserved c =
    let a = c.args in
    let bytes = panel_of (table_in a.t.now) (list_in a.order.now) in
    let long = length_panel (table_in a.t.now) (list_in a.order.now) in
    let l = c.loop-p in
    (search rules, fill_more a.out.now bytes l.out l.p l.invariant.1 c.byte_of.result 0 c.byte_of.ensures (omega arith) (omega arith))

pub returns : goal.returns
returns c =
    let a = c.args in
    let bytes = panel_of (table_in a.t.now) (list_in a.order.now) in
    let long = length_panel (table_in a.t.now) (list_in a.order.now) in
    let l = c.loop-p in
    record { value = omega (arith, full_length a.out.now bytes (omega arith)); out_after = l.invariant.1 ∙ full_put a.out.now bytes l.p (omega arith) (omega arith) }
