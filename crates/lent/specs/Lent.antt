-- Lists lent for writing: cells of eight bytes and tags of two, the low byte first, over the first bytes of a list.
use Rattle.std.specs.Prelude.{Bool, cond, List, [], ◌∷◌, ◌++◌, ℕ, ◌+◌, ◌*◌, leb, length, take, drop}
use Rattle.memory.specs.Cells.{bytes_of}
use Rattle.memory.specs.Halves.{half_bytes}

-- the bytes of a list of cells, eight each
unfoldable pub cell_bytes : List ℕ → List ℕ
cell_bytes [] = []
cell_bytes (v ∷ cells) = bytes_of v ++ cell_bytes cells

-- the bytes of a list of tags, two each
unfoldable pub tag_bytes : List ℕ → List ℕ
tag_bytes [] = []
tag_bytes (k ∷ tags) = half_bytes k ++ tag_bytes tags

-- The bytes over the first places of a list. The places past them keep their contents, and bytes past its end are not written.
unfoldable pub over_bytes : List ℕ → List ℕ → List ℕ
over_bytes [] bytes = []
over_bytes (o ∷ out) [] = o ∷ out
over_bytes (o ∷ out) (b ∷ bytes) = b ∷ over_bytes out bytes

-- whether there is room for all of the bytes
abbrev pub has_room : List ℕ → List ℕ → Bool
has_room out bytes = leb (length bytes) (length out)

-- bytes written from the front where there is room for all of them, and nothing otherwise
unfoldable pub wrote_all : List ℕ → List ℕ → List ℕ
wrote_all out bytes = cond (has_room out bytes) (over_bytes out bytes) out

-- cell i replaced where it lies whole within the list, and nothing otherwise
unfoldable pub cell_put : List ℕ → ℕ → ℕ → List ℕ
cell_put out i v = cond (leb (8 * i + 8) (length out)) (take (8 * i) out ++ (bytes_of v ++ drop (8 * i + 8) out)) out

-- the cells from i on replaced where all of them lie within the list, and nothing otherwise
unfoldable pub record_put : List ℕ → ℕ → List ℕ → List ℕ
record_put out i cells =
    cond (leb (8 * (i + length cells)) (length out)) (take (8 * i) out ++ (cell_bytes cells ++ drop (8 * (i + length cells)) out)) out

-- the cells of a run of records, one after the other: f of each number
unfoldable pub records : (ℕ → List ℕ) → List ℕ → List ℕ
records f [] = []
records f (k ∷ ks) = f k ++ records f ks
