-- `settings::setting::check_settings` meets its contract.
use Prim.Native.Nat.{◌*◌}
use native.Mathlib.Omega.{arith}
use borrow.Author.Rules.{rules}
use borrow.Author.Tests.{eq-eqb}
use lib.ListN.{length}
use Rattle.settings.specs.Records.{records_in}
use Rattle.settings.specs.Settings.{settings_ok, setting_ok}
use Rattle.settings.proofs.SettingLaws.{length_settings}
use Rattle.settings.proofs.setting.check_settings.Goals as goal

pub returns : goal.returns
unfolding settings_ok
returns c =
    let a = c.args in
    rw (eq-eqb (length a.s.now) (32 * a.count) (omega arith)) (c.check_each.ensures setting_ok (records_in 4 c.args.s.now) (omega (arith, length_settings c.args.s.now)) (λ i r h e. search rules))
