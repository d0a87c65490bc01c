-- The starred lines of document 01's 'Cases at the edges', with the answers that it gives.
use Rattle.std.specs.Prelude.{Bool, true, false, ◌&&◌, cond, List, [], ◌∷◌, ℕ, suc, eqb, pos, Float, length, None}
use Rattle.std.specs.Float.{binary64}
use Rattle.std.specs.Float.Ieee.{round}
use Rattle.ieee.specs.Round.{slices_of}
use Rattle.lists.specs.Keep.{up_to}
use Rattle.lists.specs.Slices.{slice}
use Rattle.values.specs.Entry.{same_entry}
use Rattle.values.specs.Deadband.{within_deadband}
use Rattle.values.specs.declared.value.Value.{Value}
use Rattle.values.specs.declared.value.Value.TheVariants.{Int as I, Float as F}
use Rattle.values.specs.declared.entry.Quality.TheVariants.{Good}
use Rattle.values.specs.declared.entry.Entry.{Entry}

-- The float that the decimal fraction n / d is read as: the nearest.
abbrev pub decimal : ℕ → ℕ → Float
decimal n d = round binary64 false n d

abbrev pub minus_zero : Float
minus_zero = round binary64 true 0 1

-- What becomes of a good reading where the published entry is the cached one: nothing, if the two are the same; else it is withheld or sent.
pub data Outcome : Type 0 where
  same withheld sent : Outcome

abbrev pub is_outcome : Outcome → Outcome → Bool
is_outcome same same = true
is_outcome same withheld = false
is_outcome same sent = false
is_outcome withheld same = false
is_outcome withheld withheld = true
is_outcome withheld sent = false
is_outcome sent same = false
is_outcome sent withheld = false
is_outcome sent sent = true

abbrev pub good : Value → Entry
good v = record { value = v; quality = Good; t = pos 0; error = None }

abbrev pub outcome : Float → Value → Value → Outcome
outcome band published read = cond (same_entry (good published) (good read)) same (cond (within_deadband band (good published) (good read)) withheld sent)

-- Whether the slices of l from index i on, one for each number named, have these sizes.
unfoldable pub have_sizes : ℕ → List ℕ → ℕ → List ℕ → Bool
have_sizes S l i [] = true
have_sizes S l i (n ∷ ns) = eqb (length (slice S l i)) n && have_sizes S l (suc i) ns

pub data Case : Type 0 where
  -- period, cycle, S
  slices : Float → Float → ℕ → Case
  -- how many tags, S, the size of each slice
  sizes : ℕ → ℕ → List ℕ → Case
  -- band, published, read, what becomes of it
  reading : Float → Value → Value → Outcome → Case

unfoldable pub right : Case → Bool
right (slices period cycle s) = eqb (slices_of period cycle) s
right (sizes n S ns) = eqb (length ns) S && have_sizes S (up_to n) 0 ns
right (reading band a b o) = is_outcome (outcome band a b) o

unfoldable pub all_right : List Case → Bool
all_right [] = true
all_right (c ∷ cs) = right c && all_right cs

unfoldable pub starred : List Case
starred =
    slices (decimal 30 1) (decimal 1 1) 30
    ∷ slices (decimal 25 10) (decimal 1 1) 2
    ∷ slices (decimal 35 10) (decimal 1 1) 4
    ∷ slices (decimal 4 10) (decimal 1 1) 1
    ∷ slices (decimal 5 1) (decimal 0 1) 1
    ∷ sizes 7 3 (3 ∷ 3 ∷ 1 ∷ [])
    ∷ sizes 4 3 (2 ∷ 2 ∷ 0 ∷ [])
    ∷ reading (decimal 5 10) (F (decimal 100 10)) (F (decimal 1025 100)) withheld
    ∷ reading (decimal 5 10) (F (decimal 100 10)) (F (decimal 105 10)) sent
    ∷ reading (decimal 0 1) (I (pos 1)) (F (decimal 10 10)) sent
    ∷ reading (decimal 0 1) (F (decimal 0 1)) (F minus_zero) same
    ∷ reading (decimal 1 1) (I (pos 9007199254740992)) (I (pos 9007199254740993)) withheld
    ∷ []
