-- Rules 6 and 8: what the names say, as a two-byte number for each tag.
use Rattle.std.specs.Prelude.{cond, List, [], ◌∷◌, map, ℕ, ◌+◌, ◌%◌, length, get_or, Option, Some, None}
use Rattle.lists.specs.Keep.{up_to}
use Rattle.names.specs.Bits.{split_bit, is_bit}
use Rattle.names.specs.Keys.{key_of, word_of}

-- the numbers xs over the first places of a list
unfoldable pub over : List ℕ → List ℕ → List ℕ
over [] xs = []
over (o ∷ os) [] = o ∷ os
over (o ∷ os) (x ∷ xs) = x ∷ over os xs

abbrev pub found_code : Option ℕ → ℕ
found_code (Some tag) = tag % 65536 + 2
found_code None = 1

-- Rule 8: 0 for a tag that is no bit, 1 for a bit whose word the directory lacks, and otherwise the word's tag and 2.
abbrev pub word_code : List (List ℕ) → ℕ → ℕ
word_code ns tag = cond (is_bit (split_bit (get_or ns tag []))) (found_code (word_of ns tag)) 0

-- f of each tag of a directory
abbrev pub each_tag : (ℕ → ℕ) → ℕ → List ℕ
each_tag f n = map (λ (tag : ℕ). f tag % 65536) (up_to n)

-- Rule 6: the sort key of each tag.
abbrev pub keys_of : List (List ℕ) → List ℕ
keys_of ns = each_tag (key_of ns) (length ns)

-- Rule 8: the word of each tag.
abbrev pub words_of : List (List ℕ) → List ℕ
words_of ns = each_tag (word_code ns) (length ns)
