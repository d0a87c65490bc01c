-- A list cut into blocks of one width; the bytes of memory.
use Rattle.std.specs.Prelude.{List, [], ◌∷◌, ℕ, zero, suc, ◌%◌, get_or, drop}

-- n blocks of w places, each as f reads it from its start on
unfoldable pub blocks {ℓ κ} : {A : Type ℓ} {B : Type κ} → (List A → B) → ℕ → ℕ → List A → List B
blocks f w zero l = []
blocks f w (suc n) l = f l ∷ blocks f w n (drop w l)

-- modulo 256, so that every list of numbers is some memory
abbrev pub byte_at : List ℕ → ℕ → ℕ
byte_at s at = get_or s at 0 % 256
