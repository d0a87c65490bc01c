-- A test as code answers it.
use Rattle.std.specs.Prelude.{ℕ, ◌<◌, Bool, ◌≡◌}

-- Whatever a call of the code answers at a tag is what the test p says.
abbrev pub Decides : (ℕ → Bool → Type 0) → (ℕ → Bool) → Type 0
Decides post p = (k : ℕ) (r : Bool) → k < 65536 → post k r → r ≡ p k
