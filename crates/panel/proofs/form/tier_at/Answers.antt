-- `panel::form::tier_at` meets its contract.
use mathlib.Core.Path.{ap, sym, ◌∙◌}
use Prim.Native.Nat.{ℕ, ◌+◌}
use native.Mathlib.Omega.{arith}
use lib.ListN.{get_or}
use Rattle.panel.proofs.PanelLaws.{tiers_at, tiers_past}
use Rattle.panel.proofs.form.tier_at.Goals as goal

pub returns-then-i-n : goal.returns-then-i-n
returns-then-i-n c =
    let a = c.args in
    let n = c.byte-n.ensures in
    c.byte.ensures ∙ ap (λ (n : ℕ). get_or a.list.now (1 + n + a.i) 0) n ∙ sym (tiers_at a.list.now a.i (omega arith))

pub returns-else-i-n : goal.returns-else-i-n
returns-else-i-n c =
    let a = c.args in
    sym (tiers_past a.list.now a.i (omega arith))
