-- Entries that the machine can hold: their words are of 64 bits, and hold them. The entries of a table in memory are such.
use mathlib.Core.Path.{◌≡◌, refl, ap}
use mathlib.Core.Bool.{Bool, true, false, cond}
use mathlib.Core.List.{List}
use Prim.Native.Nat.{ℕ, ◌+◌, ◌-◌, ◌*◌, ◌/◌, ◌%◌, ◌<◌, ◌^◌}
use native.Mathlib.Nat.{mod-lt}
use native.Mathlib.Omega.{arith}
use lib.Dec.{T, eqb, ltb}
use lib.Ieee.{binary64, fits, of_bits}
use lib.Ieee.Bits.{of_bits-to_bits, to_bits-lt, of_bits-fits}
use lib.ListN.{length, get_or}
use borrow.Author.Tests.{ltb-true, ltb-false}
use mir.Val.{SFits, to_z}
use mir.Syntax.{w64}
use mir.Facts.{to_z-of_z, sfits_to_z, Fits-of_z}
use Rattle.std.specs.Prelude.{Option, Some, None}
use Rattle.lists.specs.Keep.{Below}
use Rattle.values.specs.Entry.{quality_number}
use Rattle.values.specs.Error.{kind_number}
use Rattle.values.specs.declared.value.Value.{Value}
use Rattle.values.specs.declared.value.Value.TheVariants.{Null, Bool as Flag, Int, Float}
use Rattle.values.specs.declared.error.ErrorKind.{ErrorKind}
use Rattle.values.specs.declared.error.ErrorKind.TheVariants.{NotFound, Access, Other}
use Rattle.values.specs.declared.entry.Quality.{Quality}
use Rattle.values.specs.declared.entry.Quality.TheVariants.{Good, Bad, Missing, Stale}
use Rattle.values.specs.declared.entry.Entry.{Entry}
use Rattle.words.specs.Value.{value_from, value_words_of}
use Rattle.words.specs.Error.{kind_from, error_from, error_words_of}
use Rattle.words.specs.Entry.{entry_from, held_from, entry_words_of, held_words_of, entry_cells}
use Rattle.words.specs.declared.entry.EntryWords.{EntryWords}
use Rattle.words.proofs.Laws.{kind_other, error_coded, quality_coded}
use Rattle.memory.specs.Cells.{cells_in, rows_in, no_row, word_at}
use Rattle.memory.proofs.CellLaws.{cells_at, cells_none}
use Rattle.memory.proofs.RowLaws.{row_cell_at, row_none_cell}
use Rattle.table.specs.Tag.{fresh_tag}
use Rattle.table.specs.Row.{tag_from, entry_words_at}
use Rattle.table.specs.Table.{table_in}
use Rattle.table.proofs.RowLaws.{table_at}
use Rattle.changes.specs.Changes.{entry_of}
use Rattle.values.specs.declared.error.TagError.{TagError}

abbrev FitValue : Value → Type 0
FitValue Null = Unit {0}
FitValue (Flag b) = Unit {0}
FitValue (Int n) = SFits w64 n
FitValue (Float x) = T (fits binary64 x)

abbrev FitKind : ErrorKind → Type 0
FitKind NotFound = Unit {0}
FitKind Access = Unit {0}
FitKind (Other code) = code < 0x1_0000

abbrev FitError : Option TagError → Type 0
FitError None = Unit {0}
FitError (Some x) = FitKind x.kind × (x.message < 0x1_0000_0000)

abbrev pub FitEntry : Entry → Type 0
FitEntry e = FitValue e.value × SFits w64 e.t × FitError e.error

abbrev pub Fit : Option Entry → Type 0
Fit None = Unit {0}
Fit (Some e) = FitEntry e

-- ---- the words of such an entry hold it

value-back : (v : Value) → FitValue v → value_from (value_words_of v).kind (value_words_of v).word ≡ v
value-back Null f = refl
value-back (Flag true) f = refl
value-back (Flag false) f = refl
value-back (Int n) f = ap Int (to_z-of_z f)
value-back (Float x) f = ap Float (of_bits-to_bits binary64 x f)

kind_back : (k : ErrorKind) → FitKind k → kind_from (kind_number k + 1) ≡ k
kind_back NotFound f = refl
kind_back Access f = refl
kind_back (Other code) f = let same : code + 2 + 1 ≡ code + 3 = omega arith in rw (same) (kind_other code f)

error_back : (e : Option TagError) → FitError e → error_from (error_words_of e).kind (error_words_of e).message ≡ e
error_back None f = refl
error_back (Some x) f = error_coded x (kind_number x.kind + 1) (omega arith) (kind_back x.kind f.0) f.1

entry_back : (e : Entry) → FitEntry e → entry_from (entry_words_of e) ≡ e
unfolding entry_from entry_words_of
entry_back e f = rw (quality_coded e.quality, value-back e.value f.0, to_z-of_z f.1, error_back e.error f.2)

pub held_back : (h : Option Entry) → Fit h → entry_from (held_words_of h) ≡ entry_of h
unfolding entry_from
held_back None f = refl
held_back (Some e) f = entry_back e f

-- ---- they are of 64 bits

quality_small : (q : Quality) → quality_number q + 1 < 2 ^ 64
quality_small Good = omega arith
quality_small Bad = omega arith
quality_small Missing = omega arith
quality_small Stale = omega arith

value_small : (v : Value) → FitValue v → ((value_words_of v).kind < 2 ^ 64) × ((value_words_of v).word < 2 ^ 64)
value_small Null f = (omega arith, omega arith)
value_small (Flag true) f = (omega arith, omega arith)
value_small (Flag false) f = (omega arith, omega arith)
value_small (Int n) f = (omega arith, (Fits-of_z f).fits)
value_small (Float x) f = (omega arith, to_bits-lt binary64 x f)

kind_small : (k : ErrorKind) → FitKind k → kind_number k + 1 < 2 ^ 64
kind_small NotFound f = omega arith
kind_small Access f = omega arith
kind_small (Other code) f = omega arith

error_small : (e : Option TagError) → FitError e → ((error_words_of e).kind < 2 ^ 64) × ((error_words_of e).message < 2 ^ 64)
error_small None f = (omega arith, omega arith)
error_small (Some x) f = (kind_small x.kind f.0, omega (arith, f.1))

pub cells_small : (h : Option Entry) → Fit h → Below (2 ^ 64) (entry_cells h)
unfolding entry_words_of
cells_small None f = (omega arith, (omega arith, (omega arith, (omega arith, (omega arith, (omega arith, (omega arith, (omega arith, tt))))))))
cells_small (Some e) f =
    let v = value_small e.value f.0 in
    let x = error_small e.error f.2 in
    (quality_small e.quality, (v.0, (v.1, ((Fits-of_z f.1).fits, (x.0, (x.1, (omega arith, (omega arith, tt))))))))

-- ---- words of 64 bits hold such entries

value_fit : (kind word : ℕ) → word < 2 ^ 64 → FitValue (value_from kind word)
value_fit kind word h = go (eqb kind 1) (eqb kind 2) (eqb kind 3)
  where
    go : (a b c : Bool) → FitValue (cond a (Flag (ltb 0 word)) (cond b (Int (to_z w64 word)) (cond c (Float (of_bits binary64 word)) Null)))
    go true b c = tt
    go false true c = sfits_to_z (record { fits = h })
    go false false true = of_bits-fits binary64 word
    go false false false = tt

kind_fit : (n : ℕ) → FitKind (kind_from n)
kind_fit n = go (eqb n 2) (ltb n 3)
  where
    go : (a b : Bool) → FitKind (cond a Access (cond b NotFound (Other ((n - 3) % 0x1_0000))))
    go true b = tt
    go false true = tt
    go false false = mod-lt (n - 3) (omega arith)

error_fit : (kind message : ℕ) → FitError (error_from kind message)
error_fit kind message = go (eqb kind 0)
  where
    go : (a : Bool) → FitError (cond a None (Some (record { kind = kind_from kind; message = message % 0x1_0000_0000 })))
    go true = tt
    go false = (kind_fit kind, mod-lt message (omega arith))

held_fit : (w : EntryWords) → w.word < 2 ^ 64 → w.t < 2 ^ 64 → Fit (held_from w)
unfolding entry_from
held_fit w a b = go (eqb w.held 0)
  where
    go : (z : Bool) → Fit (cond z None (Some (entry_from w)))
    go true = tt
    go false = (value_fit w.kind w.word a, sfits_to_z (record { fits = b }), error_fit w.error w.message)

-- ---- so do those of a table in memory

eight_small : (a b c d e f g h : ℕ) → a < 256 → b < 256 → c < 256 → d < 256 → e < 256 → f < 256 → g < 256 → h < 256
    → (a + b * 0x100 + c * 0x1_0000 + d * 0x100_0000) + (e + f * 0x100 + g * 0x1_0000 + h * 0x100_0000) * 0x1_0000_0000 < 2 ^ 64
eight_small a b c d e f g h p q r s t u v w = omega arith

word_small : (bs : List ℕ) (at : ℕ) → word_at bs at < 2 ^ 64
word_small bs at = eight_small _ _ _ _ _ _ _ _ (byte at) (byte (at + 1)) (byte (at + 2)) (byte (at + 3)) (byte (at + 4)) (byte (at + 5)) (byte (at + 6)) (byte (at + 7))
  where
    byte : (i : ℕ) → get_or bs i 0 % 256 < 256
    byte i = mod-lt (get_or bs i 0) (omega arith)

cell_small : (bs : List ℕ) (i : ℕ) → get_or (cells_in bs) i 0 < 2 ^ 64
cell_small bs i = go (ltb i (length bs / 8)) refl
  where
    go : (z : Bool) → ltb i (length bs / 8) ≡ z → get_or (cells_in bs) i 0 < 2 ^ 64
    go true e = rw (cells_at bs i (ltb-true i (length bs / 8) e)) (word_small bs (8 * i))
    go false e = let zero : get_or (cells_in bs) i 0 ≡ 0 = cells_none bs i (ltb-false i (length bs / 8) e) in omega (arith, zero)

row_small : (bs : List ℕ) (k j : ℕ) → j < 32 → get_or (get_or (rows_in bs) k no_row) j 0 < 2 ^ 64
row_small bs k j h = go (ltb k (length bs / 256)) refl
  where
    go : (z : Bool) → ltb k (length bs / 256) ≡ z → get_or (get_or (rows_in bs) k no_row) j 0 < 2 ^ 64
    go true e = rw (row_cell_at bs k j (ltb-true k (length bs / 256) e) h) (cell_small bs (32 * k + j))
    go false e = let zero : get_or (get_or (rows_in bs) k no_row) j 0 ≡ 0 = row_none_cell bs k j (ltb-false k (length bs / 256) e) in omega (arith, zero)

pub table_fit : (bs : List ℕ) (k : ℕ) → Fit (get_or (table_in bs) k fresh_tag).published
unfolding tag_from
table_fit bs k =
    rw (table_at bs k) (held_fit (entry_words_at (get_or (rows_in bs) k no_row) 24) (row_small bs k 26 (omega arith)) (row_small bs k 27 (omega arith)))
