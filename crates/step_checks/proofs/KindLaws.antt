-- A kind that is not the one asked for.
use mathlib.Core.Path.{◌≡◌, refl}
use mathlib.Core.Bool.{false}
use Rattle.step_checks.specs.Kinds.{is_opened, is_lost, is_descriptions}
use Rattle.step_checks.specs.declared.answer.Kind.{Kind}
use Rattle.step_checks.specs.declared.answer.Kind.TheVariants.{Opened, Lost, Descriptions}

pub not_opened : (k : Kind) → (k ≡ Opened → ⊥) → is_opened k ≡ false
not_opened Opened h = absurd (h refl)
not_opened k h = refl

pub not_lost : (k : Kind) → (k ≡ Lost → ⊥) → is_lost k ≡ false
not_lost Lost h = absurd (h refl)
not_lost k h = refl

pub not_descriptions : (k : Kind) → (k ≡ Descriptions → ⊥) → is_descriptions k ≡ false
not_descriptions Descriptions h = absurd (h refl)
not_descriptions k h = refl
