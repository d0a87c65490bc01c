-- `panel::form::entries` meets its contract.
use native.Mathlib.Omega.{arith}
use Rattle.panel.proofs.PanelLaws.{tiers_none, tiers_some, tiers_all}
use Rattle.panel.proofs.form.entries.Goals as goal

pub returns-then-list-n : goal.returns-then-list-n
returns-then-list-n c = tiers_none c.args.list.now (omega arith)

pub returns-then-list-n-2 : goal.returns-then-list-n-2
returns-then-list-n-2 c =
    let s = c.args.list.now in
    omega (arith, tiers_some s (omega arith) (omega arith))

pub returns-else-list-n-2 : goal.returns-else-list-n-2
returns-else-list-n-2 c =
    let s = c.args.list.now in
    omega (arith, tiers_all s (omega arith) (omega arith))
