-- Rule 8: the version of a controller's tag table.
use Rattle.std.specs.Prelude.{Bool, true, false, not, ◌&&◌, cond, ℕ, eqb, Option, Some, None}

abbrev pub is_null : Option ℕ → Bool
is_null None = true
is_null (Some n) = false

-- Rule 8: whether the version changed, from old to new
abbrev pub is_changed : Option ℕ → Option ℕ → Bool
is_changed None None = false
is_changed None (Some b) = true
is_changed (Some a) None = true
is_changed (Some a) (Some b) = not (eqb a b)

-- Rule 8: a version change from non-null counts a reload
abbrev pub is_reloaded : Option ℕ → Option ℕ → Bool
is_reloaded old new = is_changed old new && not (is_null old)

-- two words: 0 for null, and the number
abbrev pub version_from : ℕ → ℕ → Option ℕ
version_from known number = cond (eqb known 0) None (Some number)
