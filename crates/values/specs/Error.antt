-- Rule 2: errors.
use Rattle.std.specs.Prelude.{Bool, true, false, ◌&&◌, ℕ, ◌+◌, eqb, Option, Some, None}
use Rattle.values.specs.declared.error.ErrorKind.{ErrorKind}
use Rattle.values.specs.declared.error.ErrorKind.TheVariants.{NotFound, Access, Other}
use Rattle.values.specs.declared.error.TagError.{TagError}

-- A kind's number: 0 for NotFound, 1 for Access, and its 16-bit code plus 2 for another.
abbrev pub kind_number : ErrorKind → ℕ
kind_number NotFound = 0
kind_number Access = 1
kind_number (Other code) = code + 2

abbrev pub same_tag_error : TagError → TagError → Bool
same_tag_error a b = eqb (kind_number a.kind) (kind_number b.kind) && eqb a.message b.message

-- Rule 2: errors are the same if both are none, or kind and message are equal.
abbrev pub same_error : Option TagError → Option TagError → Bool
same_error None None = true
same_error None (Some b) = false
same_error (Some a) None = false
same_error (Some a) (Some b) = same_tag_error a b
