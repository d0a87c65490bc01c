-- The numbers that answers of rule 1 have in C.
use Rattle.std.specs.Prelude.{ℕ, ◌-◌, ◌^◌, Option, Some, None}
use Rattle.std.specs.declared.cmp.Ordering.{Ordering}
use Rattle.std.specs.declared.cmp.Ordering.TheVariants.{Less, Equal, Greater}

abbrev pub order_number : Ordering → ℕ
order_number Less = 0
order_number Equal = 1
order_number Greater = 2

abbrev pub word_length : Option ℕ → ℕ
word_length None = 0
word_length (Some w) = w

abbrev pub found_tag : Option ℕ → ℕ
found_tag (Some tag) = tag
found_tag None = 2 ^ 64 - 1
