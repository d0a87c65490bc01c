-- What a call answered, held to what was recorded: the first difference, if there is one.
use Rattle.std.specs.Prelude.{⊤, ℕ, suc, ◌+◌, ◌*◌, ◌/◌, List, [], ◌∷◌, cond, eqb, ltb, length, get_or, take, drop, Result, Ok, Err}
use Rattle.frames.specs.Numbers.{four_at, eight_at}
use Rattle.frames.specs.Compare.{parting, unlike}
use Rattle.frames.specs.declared.answer.Difference.{Difference}
use Rattle.frames.specs.declared.answer.Difference.TheVariants.{Cell, Byte, Malformed}

-- every byte of a lent list before its call
abbrev pub before : ℕ
before = 0xa5

-- the numbers from the one at i on, each beside the eight bytes that were recorded of it, as long as there are some; then as many must be recorded as there are. Fewer than eight bytes behind them are no number, and passed over
unfoldable pub cells_from : ℕ → List ℕ → List ℕ → Result ⊤ Difference
cells_from i [] recorded = cond (eqb (length recorded / 8) i) (Ok tt) (Err Malformed)
cells_from i (n ∷ numbers) recorded =
    cond (ltb i (length recorded / 8))
    (cond (eqb n (eight_at recorded (8 * i))) (cells_from (suc i) numbers recorded) (Err (Cell i n (eight_at recorded (8 * i)))))
    (Err Malformed)

abbrev pub compare_numbers : List ℕ → List ℕ → Result ⊤ Difference
compare_numbers numbers recorded = cells_from 0 numbers recorded

-- the byte at a place of the lent list, beside the recorded one
abbrev pub byte : List ℕ → ℕ → ℕ → Difference
byte out i recorded = Byte i (get_or out i before) recorded

-- behind what is recorded all is as before: n bytes from the front on are passed
abbrev pub compare_rest : List ℕ → ℕ → Result ⊤ Difference
compare_rest out n = cond (ltb (unlike 0 (drop n out) before) (length (drop n out))) (Err (byte out (n + unlike 0 (drop n out) before) before)) (Ok tt)

-- what is recorded stands at the front
abbrev pub compare_list : List ℕ → List ℕ → Result ⊤ Difference
compare_list out recorded = cond (ltb (parting 0 recorded out) (length recorded)) (Err (byte out (parting 0 recorded out) (get_or recorded (parting 0 recorded out) 0))) (compare_rest out (length recorded))

-- the first of two differences, or n
abbrev pub first : Result ⊤ Difference → Result ⊤ Difference → ℕ → Result ℕ Difference
first (Err d) r n = Err d
first (Ok u) (Err d) n = Err d
first (Ok u) (Ok v) n = Ok n

-- the list behind the four bytes of its length, at the front of some bytes; and what stands behind it
unfoldable pub list_in : List ℕ → List ℕ
list_in bytes = take (four_at bytes 0) (drop 4 bytes)

unfoldable pub behind : List ℕ → List ℕ
behind bytes = drop (4 + four_at bytes 0) bytes

-- the recorded numbers and the recorded list, and nothing more; the numbers are compared first. Without a difference: how many bytes were compared
unfoldable pub compare : List ℕ → List ℕ → List ℕ → Result ℕ Difference
compare numbers out frame =
    cond (ltb (length frame) (4 + four_at frame 0)) (Err Malformed)
    (cond (eqb (length (behind frame)) (4 + four_at (behind frame) 0))
    (first (compare_numbers numbers (list_in frame)) (compare_list out (list_in (behind frame))) (four_at frame 0 + length out))
    (Err Malformed))
