-- `settings::setting::is_setting_at` meets its contract.
use Rattle.settings.proofs.SettingLaws.{setting_cells}
use Rattle.settings.proofs.setting.is_setting_at.Goals as goal

pub returns : goal.returns
returns c =
    let a = c.args in
    rw (setting_cells a.s.now a.i c.requires, c.is_setting.ensures, c.cell-4.ensures, c.cell-3.ensures, c.cell-2.ensures, c.cell.ensures)
