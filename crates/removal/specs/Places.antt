-- The places of a tag in a list.
use Rattle.std.specs.Prelude.{◌≡◌, ℕ, ◌<◌, List, length, slice_index}
use Rattle.lists.specs.Keep.{count}

-- how many places hold k, and, where it is one, which
pub record Placed (k : ℕ) (xs : List ℕ) (hits sum : ℕ) : Type 0 where
  pub counted : hits ≡ count k xs
  pub once : hits ≡ 1 → (sum < length xs) × (slice_index xs sum ≡ k)
