-- Where each part of a board lies in its memory, whose length says how many tags the board is for.
use Rattle.std.specs.Prelude.{Bool, ◌&&◌, List, [], ◌∷◌, ◌≡◌, ℕ, ◌+◌, ◌*◌, ◌-◌, ◌/◌, ◌≤◌, eqb, leb, length}
use Rattle.layout.specs.Parts.{parts, total}
use Rattle.names.specs.Directory.{max_names}

-- The parts of a board for c tags, in bytes. A new part is a line here and a number below.
abbrev pub sizes : ℕ → List ℕ
sizes c =
    256
    ∷ 64
    ∷ 512
    ∷ 1024
    ∷ 1024
    ∷ 256 * c
    ∷ (2 * c + 2)
    ∷ (2 * c + 2)
    ∷ (2 * c + 2)
    ∷ 2 * c
    ∷ 2 * c
    ∷ []

-- the results of a read-back whose outcome has not been taken yet
abbrev pub back : ℕ
back = 0

-- the groups in the order of their first reading
abbrev pub recorded : ℕ
recorded = 1

abbrev pub configured : ℕ
configured = 2

abbrev pub queue : ℕ
queue = 3

abbrev pub groups : ℕ
groups = 4

abbrev pub table : ℕ
table = 5

abbrev pub order : ℕ
order = 6

abbrev pub graces : ℕ
graces = 7

-- the tags of the request in hand
abbrev pub asked : ℕ
asked = 8

abbrev pub keys : ℕ
keys = 9

abbrev pub words : ℕ
words = 10

-- how many bytes a board for c tags has
abbrev pub board_size : ℕ → ℕ
board_size c = total (sizes c)

-- what each tag adds to it
abbrev pub tag_size : ℕ
tag_size = board_size 1 - board_size 0

-- how many tags memory of n bytes is for
abbrev pub tags_for : ℕ → ℕ
tags_for n = (n - board_size 0) / tag_size

abbrev pub tags_in : List ℕ → ℕ
tags_in bs = tags_for (length bs)

-- whether a board has n bytes
abbrev pub is_board_size : ℕ → Bool
is_board_size n = leb 1 (tags_for n) && (leb (tags_for n) max_names && eqb n (board_size (tags_for n)))

-- memory of such a length is a board
abbrev pub IsBoard : List ℕ → Type 0
IsBoard bs = (length bs ≡ board_size (tags_in bs)) × ((1 ≤ tags_in bs) × (tags_in bs ≤ max_names))

-- the bytes of each part, by its number
unfoldable pub parts_in : List ℕ → ℕ → List ℕ
parts_in bs = parts (sizes (tags_in bs)) bs
