-- `settings::setting::setting_at` meets its contract.
use mathlib.Core.Path.{◌≡◌, sym, ◌∙◌}
use Prim.Native.Nat.{◌-◌}
use native.Mathlib.Omega.{arith}
use Rattle.settings.specs.Settings.{setting_from}
use Rattle.settings.proofs.SettingLaws.{setting_at, setting_none}
use Rattle.settings.proofs.setting.setting_at.Goals as goal
use Rattle.settings.proofs.setting.setting_at.Goals.{else-group-eq0, then-group-eq0}

pub returns-then-s-i : goal.returns-then-s-i
returns-then-s-i c =
    let a = c.args in
    c.none.ensures ∙ sym (setting_none a.s.now a.i (omega arith))

pub returns : goal.returns
unfolding setting_from
returns c =
    let a = c.args in
    let group = c.cell-group in
    let number : c.if-group-eq0.number ≡ group.result - 1 =
    elim c.if-group-eq0.branch [ then-group-eq0 w ↦ omega (arith, w) | else-group-eq0 w ↦ omega (arith, w) ] in
    rw (setting_at a.s.now a.i (omega arith), c.settings_from.ensures, number, c.cell-3.ensures, c.cell-2.ensures, c.cell-group.ensures, c.cell.ensures)
