-- `panel::write::byte_of` meets its contract.
use mathlib.Core.Path.{ap, ◌∙◌}
use Prim.Native.Nat.{ℕ, ◌-◌}
use native.Mathlib.Omega.{arith}
use lib.ListN.{get_or}
use Rattle.panel.proofs.WriteLaws.{panel_count, panel_tag, panel_tier, panel_past}
use Rattle.tags.specs.Lists.{list_in}
use Rattle.table.specs.Table.{table_in}
use Rattle.panel.specs.Panel.{tier_in}
use Prim.Native.Nat.{◌%◌}
use Rattle.panel.proofs.write.byte_of.Goals as goal

pub returns-then-p-eq0 : goal.returns-then-p-eq0
returns-then-p-eq0 c =
    let a = c.args in
    let tags = table_in a.t.now in
    let order = list_in a.order.now in
    let n = c.count-n.ensures in
    ap (λ (m : ℕ). m % 256) n ∙ panel_count tags order a.p c.if-p-eq0.true

pub returns-then-p-n : goal.returns-then-p-n
returns-then-p-n c =
    let a = c.args in
    let tags = table_in a.t.now in
    let order = list_in a.order.now in
    let n = c.count-n.ensures in
    ap (λ (m : ℕ). m % 256) c.at.ensures ∙ panel_tag tags order a.p c.if-p-eq0.false (omega arith)

pub returns-then-p-n-2 : goal.returns-then-p-n-2
returns-then-p-n-2 c =
    let a = c.args in
    let tags = table_in a.t.now in
    let order = list_in a.order.now in
    let n = c.count-n.ensures in
    c.tier_of.ensures
    ∙ ap (tier_in tags) (c.at-then-p-n-2.ensures ∙ ap (λ (m : ℕ). get_or order (a.p - m - 1) 0) n)
    ∙ panel_tier tags order a.p (omega arith) (omega arith)

pub returns-else-p-n-2 : goal.returns-else-p-n-2
returns-else-p-n-2 c =
    let a = c.args in
    let tags = table_in a.t.now in
    let order = list_in a.order.now in
    let n = c.count-n.ensures in
    panel_past tags order a.p (omega arith) (omega arith)
