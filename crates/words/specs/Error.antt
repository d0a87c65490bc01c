-- Errors as two words: 0 for none or the kind's number and 1, and the message.
use Rattle.std.specs.Prelude.{cond, ℕ, ◌+◌, ◌-◌, ◌%◌, eqb, ltb, Option, Some, None}
use Rattle.values.specs.Error.{kind_number}
use Rattle.values.specs.declared.error.ErrorKind.{ErrorKind}
use Rattle.values.specs.declared.error.ErrorKind.TheVariants.{NotFound, Access, Other}
use Rattle.words.specs.declared.error.ErrorWords.{ErrorWords}
use Rattle.values.specs.declared.error.TagError.{TagError}

abbrev pub kind_from : ℕ → ErrorKind
kind_from n = cond (eqb n 2) Access (cond (ltb n 3) NotFound (Other ((n - 3) % 0x1_0000)))

-- the error that two words hold
abbrev pub error_from : ℕ → ℕ → Option TagError
error_from kind message = cond (eqb kind 0) None (Some (record { kind = kind_from kind; message = message % 0x1_0000_0000 }))

-- the words of an error
abbrev pub error_words_of : Option TagError → ErrorWords
error_words_of None = record { kind = 0; message = 0 }
error_words_of (Some x) = record { kind = kind_number x.kind + 1; message = x.message }
