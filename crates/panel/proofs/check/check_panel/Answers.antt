-- `panel::check::check_panel` meets its contract.
use mathlib.Core.Path.{ap, sym, ◌∙◌}
use Prim.Native.Nat.{ℕ, ◌+◌, ◌*◌}
use Rattle.panel.proofs.PanelLaws.{form_empty, form_bad, form_good}
use Rattle.panel.proofs.check.check_panel.Goals as goal
use Rattle.panel.proofs.check.check_panel.Goals.{then-list-eq0-via-then-list-eq0, then-list-eq0-via-else-list-eq0+then-list-byte}

pub returns-then-list-eq0 : goal.returns-then-list-eq0
returns-then-list-eq0 c =
    let a = c.args in elim c.then-list-eq0.branch [
      | then-list-eq0-via-then-list-eq0 w ↦ form_empty a.count a.list.now w.if-list-eq0.true
      | then-list-eq0-via-else-list-eq0+then-list-byte w ↦
          form_bad a.count a.list.now w.if-list-eq0.false (λ e. w.if-list-byte.true (e ∙ ap (λ (n : ℕ). 1 + 2 * n) (sym w.byte.ensures)))
    ]

pub returns : goal.returns
returns c =
    let a = c.args in
    c.check_entries.ensures ∙ form_good a.count a.list.now c.if-list-eq0.false (c.if-list-byte.false ∙ ap (λ (n : ℕ). 1 + 2 * n) c.byte.ensures)
