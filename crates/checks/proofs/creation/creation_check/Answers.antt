-- `checks::creation::creation_check` meets its contract.
use mathlib.Core.Path.{refl, ap, sym, ◌∙◌}
use Prim.Native.Nat.{ℕ}
use Rattle.names.proofs.DirectoryLaws.{length_names}
use Rattle.settings.specs.Settings.{settings_ok}
use Rattle.checks.specs.Creation.{creation_check}
use Rattle.checks.proofs.Laws.{first_refusal, first_passed, settings_fail, groups_fail, both_pass}
use Rattle.checks.proofs.creation.creation_check.Goals as goal
use Rattle.checks.proofs.creation.creation_check.Goals.{then-not-check_settings-via-then-not-check_settings, then-not-check_settings-via-else-not-check_settings+then-not-check_configured}

pub returns-in-Err : goal.returns-in-Err
unfolding creation_check
returns-in-Err c = first_refusal c.in-Err.refusal _ _ c.in-Err.ensures

pub returns-in-Err-check_options : goal.returns-in-Err-check_options
unfolding creation_check
returns-in-Err-check_options c = first_passed _ _ _ _ c.in_default.ensures refl (first_refusal c.in-Err-check_options.refusal _ _ c.in-Err-check_options.ensures)

pub returns-then-not-check_settings : goal.returns-then-not-check_settings
unfolding creation_check
returns-then-not-check_settings c =
    let a = c.args in
    let count = length_names a.directory.names.now a.directory.ends.now in
    let settings = c.check_settings.ensures in
    first_passed _ _ _ _ c.in_default.ensures refl
    (first_passed _ _ _ _ c.in_default-check_options.ensures refl
    (elim c.then-not-check_settings.branch [
      | then-not-check_settings-via-then-not-check_settings w ↦ settings_fail _ _ (ap (λ (n : ℕ). settings_ok n a.settings.now) (sym (c.count.ensures ∙ count)) ∙ sym settings ∙ w.if-not-check_settings.true)
      | then-not-check_settings-via-else-not-check_settings+then-not-check_configured w ↦ groups_fail _ _ (ap (λ (n : ℕ). settings_ok n a.settings.now) (sym (c.count.ensures ∙ count)) ∙ sym settings ∙ w.if-not-check_settings.false) (sym w.check_configured.ensures ∙ w.if-not-check_configured.true)
    ]))

pub returns : goal.returns
unfolding creation_check
returns c =
    let a = c.args in
    let count = length_names a.directory.names.now a.directory.ends.now in
    first_passed _ _ _ _ c.in_default.ensures refl
    (first_passed _ _ _ _ c.in_default-check_options.ensures refl
    (both_pass _ _ (ap (λ (n : ℕ). settings_ok n a.settings.now) (sym (c.count.ensures ∙ count)) ∙ sym c.check_settings.ensures ∙ c.if-not-check_settings.false) (sym c.check_configured.ensures ∙ c.if-not-check_configured.false)))
