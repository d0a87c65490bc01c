-- Cells, records and tags written one after the other.
use mathlib.Core.Path.{◌≡◌, refl, ap, sym, ◌∙◌}
use mathlib.Core.Bool.{cond}
use mathlib.Core.List.{List, [], ◌∷◌, ◌++◌, append_assoc, append-nil}
use Prim.Native.Nat.{ℕ, zero, suc, ◌+◌, ◌*◌, ◌/◌, ◌%◌, ◌≤◌, ◌<◌, min}
use native.Mathlib.Nat.{mul-zero, mul-suc, mul-le-mul_left}
use native.Mathlib.Numerals.{add-one}
use native.Mathlib.Omega.{arith}
use borrow.Author.Tests.{le-leb, lt-leb}
use lib.Dec.{leb}
use lib.ListN.{length, get_or, set, take, drop, length-append, length-drop, take-append-drop}
use lib.Seq.{sets, sets-eq, take_at, drop-drop, drop-append-add, take-suc, length-take-le}
use Rattle.memory.specs.Cells.{bytes_of}
use Rattle.memory.specs.Halves.{half_bytes}
use Rattle.lent.specs.Lent.{cell_bytes, tag_bytes, over_bytes, wrote_all, cell_put, record_put, records}

-- ---- bytes over the front of a list

pub over_none : (out : List ℕ) → over_bytes out [] ≡ out
unfolding over_bytes
over_none [] = refl
over_none (o ∷ out) = refl

pub over-length : (out bytes : List ℕ) → length (over_bytes out bytes) ≡ length out
unfolding over_bytes
over-length [] bytes = refl
over-length (o ∷ out) [] = refl
over-length (o ∷ out) (b ∷ bytes) = ap suc (over-length out bytes)

-- where there is room for all of them
over_fits : (out bytes : List ℕ) → length bytes ≤ length out → over_bytes out bytes ≡ bytes ++ drop (length bytes) out
unfolding over_bytes
over_fits [] [] h = refl
over_fits [] (b ∷ bytes) h = absurd (omega arith)
over_fits (o ∷ out) [] h = refl
over_fits (o ∷ out) (b ∷ bytes) h = ap (λ (r : List ℕ). b ∷ r) (over_fits out bytes (omega arith))

-- no byte yet
pub over_start : (out bytes : List ℕ) → out ≡ over_bytes out (take 0 bytes)
over_start out bytes = sym (over_none out)

-- one byte more
pub over-next : (out bytes : List ℕ) (i : ℕ) → i < length out → i < length bytes → set (over_bytes out (take i bytes)) i (get_or bytes i 0) ≡ over_bytes out (take (suc i) bytes)
unfolding over_bytes
over-next [] bytes i h g = absurd (omega arith)
over-next (o ∷ out) [] i h g = absurd (omega arith)
over-next (o ∷ out) (b ∷ bytes) zero h g = ap (λ (r : List ℕ). b ∷ r) (sym (over_none out))
over-next (o ∷ out) (b ∷ bytes) (suc i) h g = ap (λ (r : List ℕ). b ∷ r) (over-next out bytes i (omega arith) (omega arith))

-- bytes past the end of the list don't count
pub over-cut : (out bytes : List ℕ) (i : ℕ) → min (length out) (length bytes) ≤ i → over_bytes out (take i bytes) ≡ over_bytes out bytes
unfolding over_bytes
over-cut [] bytes i h = refl
over-cut (o ∷ out) [] zero h = refl
over-cut (o ∷ out) [] (suc i) h = refl
over-cut (o ∷ out) (b ∷ bytes) zero h = absurd (omega arith)
over-cut (o ∷ out) (b ∷ bytes) (suc i) h = ap (λ (r : List ℕ). b ∷ r) (over-cut out bytes i (omega arith))

-- ---- the bytes of cells

pub length_bytes : (cells : List ℕ) → length (cell_bytes cells) ≡ 8 * length cells
unfolding cell_bytes
length_bytes [] = refl
length_bytes (v ∷ cells) = length-append (bytes_of v) (cell_bytes cells) ∙ omega (arith, length_bytes cells)

pub bytes_append : (a b : List ℕ) → cell_bytes (a ++ b) ≡ cell_bytes a ++ cell_bytes b
unfolding cell_bytes
bytes_append [] b = refl
bytes_append (v ∷ a) b = ap (λ (r : List ℕ). bytes_of v ++ r) (bytes_append a b) ∙ sym (append_assoc (bytes_of v) (cell_bytes a) (cell_bytes b))

one_cell : (v : ℕ) → cell_bytes (v ∷ []) ≡ bytes_of v
unfolding cell_bytes
one_cell v = append-nil (bytes_of v)

-- ---- cells written from the front

pub wrote_none : (out : List ℕ) → over_bytes out (cell_bytes []) ≡ out
unfolding cell_bytes
wrote_none out = over_none out

pub wrote-length : (out cells : List ℕ) → length (over_bytes out (cell_bytes cells)) ≡ length out
wrote-length out cells = over-length out (cell_bytes cells)

pub wrote_fits : (out cells : List ℕ) → 8 * length cells ≤ length out → over_bytes out (cell_bytes cells) ≡ cell_bytes cells ++ drop (8 * length cells) out
wrote_fits out cells h =
    over_fits out (cell_bytes cells) (omega (arith, length_bytes cells))
    ∙ ap (λ (n : ℕ). cell_bytes cells ++ drop n out) (length_bytes cells)

-- ---- a record

pub record_fits : (out : List ℕ) (i : ℕ) (cells : List ℕ) → 8 * (i + length cells) ≤ length out
    → record_put out i cells ≡ take (8 * i) out ++ (cell_bytes cells ++ drop (8 * (i + length cells)) out)
unfolding record_put
record_fits out i cells h = rw (le-leb _ _ h)

pub record_kept : (out : List ℕ) (i : ℕ) (cells : List ℕ) → length out < 8 * (i + length cells) → out ≡ record_put out i cells
unfolding record_put
record_kept out i cells h = rw (lt-leb _ _ h)

pub record_none : (out : List ℕ) (i : ℕ) → 8 * i ≤ length out → out ≡ record_put out i []
unfolding cell_bytes
record_none out i h =
    sym
    (record_fits out i [] (omega arith)
    ∙ ap (λ (n : ℕ). take (8 * i) out ++ drop n out) (let e : 8 * (i + 0) ≡ 8 * i = omega arith in e)
    ∙ take-append-drop (8 * i) out)

pub record_length : (out : List ℕ) (i : ℕ) (cells : List ℕ) → 8 * (i + length cells) ≤ length out → length (record_put out i cells) ≡ length out
record_length out i cells h =
    let n = 8 * (i + length cells) in
    ap length (record_fits out i cells h)
    ∙ length-append (take (8 * i) out) (cell_bytes cells ++ drop n out)
    ∙ omega (arith, length-append (cell_bytes cells) (drop n out), length_bytes cells, length-drop n out, length-take-le (8 * i) out (omega arith))

-- a record after a record
pub record_more : (out : List ℕ) (i : ℕ) (a b : List ℕ) → 8 * (i + length a + length b) ≤ length out
    → record_put (record_put out i a) (i + length a) b ≡ record_put out i (a ++ b)
record_more out i a b h =
    let front = take (8 * i) out ++ cell_bytes a in
    let n = 8 * (i + length a) in
    let m = 8 * (i + length a + length b) in
    let long : length front ≡ n = length-append (take (8 * i) out) (cell_bytes a) ∙ omega (arith, length_bytes a, length-take-le (8 * i) out (omega arith)) in
    let whole : record_put out i a ≡ front ++ drop n out =
    record_fits out i a (omega arith) ∙ sym (append_assoc (take (8 * i) out) (cell_bytes a) (drop n out))
    in
    let past : m ≡ length front + 8 * length b = omega arith in
    let rest : drop m (front ++ drop n out) ≡ drop m out =
    ap (λ (j : ℕ). drop j (front ++ drop n out)) past
    ∙ drop-append-add front (drop n out) (8 * length b)
    ∙ drop-drop (8 * length b) n out
    ∙ ap (λ (j : ℕ). drop j out) (let e : n + 8 * length b ≡ m = omega arith in e)
    in
    let both : 8 * (i + length (a ++ b)) ≡ m = omega (arith, length-append a b) in
    record_fits (record_put out i a) (i + length a) b (omega (arith, record_length out i a (omega arith)))
    ∙ ap (λ (l : List ℕ). take n l ++ (cell_bytes b ++ drop m l)) whole
    ∙ ap (λ (l : List ℕ). l ++ (cell_bytes b ++ drop m (front ++ drop n out))) (take_at front (drop n out) n long)
    ∙ ap (λ (l : List ℕ). front ++ (cell_bytes b ++ l)) rest
    ∙ append_assoc (take (8 * i) out) (cell_bytes a) (cell_bytes b ++ drop m out)
    ∙ ap (λ (l : List ℕ). take (8 * i) out ++ l)
    (sym (append_assoc (cell_bytes a) (cell_bytes b) (drop m out)) ∙ ap (λ (l : List ℕ). l ++ drop m out) (sym (bytes_append a b)))
    ∙ ap (λ (j : ℕ). take (8 * i) out ++ (cell_bytes (a ++ b) ++ drop j out)) (sym both)
    ∙ sym (record_fits out i (a ++ b) (omega arith))

-- cells written from the front are a record at 0
wrote_record : (out cells : List ℕ) → 8 * length cells ≤ length out → over_bytes out (cell_bytes cells) ≡ record_put out 0 cells
wrote_record out cells h =
    wrote_fits out cells h
    ∙ ap (λ (j : ℕ). cell_bytes cells ++ drop j out) (let e : 8 * length cells ≡ 8 * (0 + length cells) = omega arith in e)
    ∙ sym (record_fits out 0 cells (omega arith))

-- a record after cells written from the front
pub put_record : (out cells more : List ℕ) → 8 * (length cells + length more) ≤ length out
    → record_put (over_bytes out (cell_bytes cells)) (length cells) more ≡ over_bytes out (cell_bytes (cells ++ more))
put_record out cells more h =
    let none : length cells ≡ 0 + length cells = omega arith in
    ap (λ (l : List ℕ). record_put l (length cells) more) (wrote_record out cells (omega arith))
    ∙ ap (λ (i : ℕ). record_put (record_put out 0 cells) i more) none
    ∙ record_more out 0 cells more (omega arith)
    ∙ sym (wrote_record out (cells ++ more) (omega (arith, length-append cells more)))

-- ---- a cell is a record of one

pub cell_record : (out : List ℕ) (i v : ℕ) → cell_put out i v ≡ record_put out i (v ∷ [])
unfolding cell_put record_put
cell_record out i v =
    let more : 8 * i + 8 ≡ 8 * (i + 1) = omega arith in
    ap (λ (n : ℕ). cond (leb n (length out)) (take (8 * i) out ++ (bytes_of v ++ drop n out)) out) more
    ∙ ap (λ (l : List ℕ). cond (leb (8 * (i + 1)) (length out)) (take (8 * i) out ++ (l ++ drop (8 * (i + 1)) out)) out) (sym (one_cell v))

-- one cell more at the end
pub put_next : (out cells : List ℕ) (v : ℕ) → 8 * (length cells + 1) ≤ length out → cell_put (over_bytes out (cell_bytes cells)) (length cells) v ≡ over_bytes out (cell_bytes (cells ++ (v ∷ [])))
put_next out cells v h = cell_record (over_bytes out (cell_bytes cells)) (length cells) v ∙ put_record out cells (v ∷ []) h

-- one cell more of a record
pub cell_more : (out : List ℕ) (i : ℕ) (cells : List ℕ) (v : ℕ) → 8 * (i + length cells + 1) ≤ length out
    → cell_put (record_put out i cells) (i + length cells) v ≡ record_put out i (cells ++ (v ∷ []))
cell_more out i cells v h = cell_record (record_put out i cells) (i + length cells) v ∙ record_more out i cells (v ∷ []) h

-- a cell stored byte by byte
pub cell_stored : (out : List ℕ) (i v : ℕ) → i < length out / 8 → sets out (8 * i) (bytes_of v) ≡ cell_put out i v
unfolding cell_put
cell_stored out i v h =
    rw (le-leb (8 * i + 8) (length out) (omega arith))
    (sets-eq (bytes_of v) out (8 * i) (omega arith) ∙ append_assoc (take (8 * i) out) (bytes_of v) (drop (8 * i + 8) out))

pub cell_kept : (out : List ℕ) (i v : ℕ) → length out / 8 ≤ i → out ≡ cell_put out i v
unfolding cell_put
cell_kept out i v h = rw (lt-leb (8 * i + 8) (length out) (omega arith))

-- ---- all or nothing

pub all_fits : (out bytes : List ℕ) → length bytes ≤ length out → wrote_all out bytes ≡ over_bytes out bytes
unfolding wrote_all
all_fits out bytes h = rw (le-leb _ _ h)

pub all-kept : (out bytes : List ℕ) → length out < length bytes → wrote_all out bytes ≡ out
unfolding wrote_all
all-kept out bytes h = rw (lt-leb _ _ h)

-- the same of cells
pub cells_fit : (out cells : List ℕ) → 8 * length cells ≤ length out → wrote_all out (cell_bytes cells) ≡ over_bytes out (cell_bytes cells)
cells_fit out cells h = all_fits out (cell_bytes cells) (omega (arith, length_bytes cells))

pub cells_left : (out cells : List ℕ) → length out < 8 * length cells → wrote_all out (cell_bytes cells) ≡ out
cells_left out cells h = all-kept out (cell_bytes cells) (omega (arith, length_bytes cells))

-- ---- tags of two bytes

pub length_tags : (tags : List ℕ) → length (tag_bytes tags) ≡ 2 * length tags
unfolding tag_bytes
length_tags [] = refl
length_tags (k ∷ tags) = length-append (half_bytes k) (tag_bytes tags) ∙ omega (arith, length_tags tags)

tags_next : (tags : List ℕ) (k : ℕ) → tag_bytes (tags ++ (k ∷ [])) ≡ tag_bytes tags ++ half_bytes k
unfolding tag_bytes
tags_next [] k = refl
tags_next (x ∷ tags) k =
    ap (λ (r : List ℕ). half_bytes x ++ r) (tags_next tags k) ∙ sym (append_assoc (half_bytes x) (tag_bytes tags) (half_bytes k))

pub tags_none : (out : List ℕ) → out ≡ over_bytes out (tag_bytes [])
unfolding tag_bytes
tags_none out = sym (over_none out)

-- two bytes more at the end
two_more : (out bytes : List ℕ) (a b : ℕ) → length bytes + 2 ≤ length out
    → set (set (over_bytes out bytes) (length bytes) a) (suc (length bytes)) b ≡ over_bytes out (bytes ++ (a ∷ b ∷ []))
unfolding over_bytes
two_more [] bytes a b h = absurd (omega arith)
two_more (o ∷ []) [] a b h = absurd (omega arith)
two_more (o ∷ p ∷ out) [] a b h = ap (λ (r : List ℕ). a ∷ b ∷ r) (sym (over_none out))
two_more (o ∷ out) (c ∷ bytes) a b h = ap (λ (r : List ℕ). c ∷ r) (two_more out bytes a b (omega arith))

-- the tag at i, after those before it
pub tag_next : (out xs : List ℕ) (i : ℕ) → i < length xs → 2 * length xs ≤ length out
    → set (set (over_bytes out (tag_bytes (take i xs))) (2 * i) (get_or xs i 0 % 256)) (2 * i + 1) (get_or xs i 0 / 0x100 % 256) ≡ over_bytes out (tag_bytes (take (i + 1) xs))
tag_next out xs i h fits =
    let done = take i xs in
    let k = get_or xs i 0 in
    let long : length (tag_bytes done) ≡ 2 * i = omega (arith, length_tags done, length-take-le i xs (omega arith)) in
    let past : 2 * i + 1 ≡ suc (length (tag_bytes done)) = omega (arith, long) in
    ap (λ (n : ℕ). set (set (over_bytes out (tag_bytes done)) (2 * i) (k % 256)) n (k / 0x100 % 256)) past
    ∙ ap (λ (n : ℕ). set (set (over_bytes out (tag_bytes done)) n (k % 256)) (suc (length (tag_bytes done))) (k / 0x100 % 256)) (sym long)
    ∙ two_more out (tag_bytes done) (k % 256) (k / 0x100 % 256) (omega (arith, long))
    ∙ ap (over_bytes out) (sym (tags_next done k))
    ∙ ap (λ (l : List ℕ). over_bytes out (tag_bytes l)) (sym (ap (λ (j : ℕ). take j xs) (add-one i) ∙ take-suc xs i 0 h))

-- ---- a run of records of n cells

module _ (f : ℕ → List ℕ) where
  records-append : (a b : List ℕ) → records f (a ++ b) ≡ records f a ++ records f b
  unfolding records
  records-append [] b = refl
  records-append (k ∷ a) b = ap (λ (l : List ℕ). f k ++ l) (records-append a b) ∙ sym (append_assoc (f k) (records f a) (records f b))

  pub records_none : (out xs : List ℕ) → out ≡ over_bytes out (cell_bytes (records f (take 0 xs)))
  unfolding records
  records_none out xs = sym (wrote_none out)

  records-next : (ks : List ℕ) (k : ℕ) → records f (ks ++ (k ∷ [])) ≡ records f ks ++ f k
  unfolding records
  records-next ks k = records-append ks (k ∷ []) ∙ ap (λ (l : List ℕ). records f ks ++ l) (append-nil (f k))

  module _ (n : ℕ) (each : (k : ℕ) → length (f k) ≡ n) where
    pub length-records : (xs : List ℕ) → length (records f xs) ≡ n * length xs
    unfolding records
    length-records [] = sym (mul-zero n)
    length-records (k ∷ xs) =
        length-append (f k) (records f xs) ∙ omega (arith, each k, length-records xs, mul-suc n (length xs))

    -- the record of one number more
    pub put_after : (out ks : List ℕ) (k : ℕ) → 8 * (n * (length ks + 1)) ≤ length out
        → record_put (over_bytes out (cell_bytes (records f ks))) (n * length ks) (f k) ≡ over_bytes out (cell_bytes (records f (ks ++ (k ∷ []))))
    put_after out ks k fits =
        let long = length-records ks in
        let next : n * (length ks + 1) ≡ n * length ks + n = ap (λ (m : ℕ). n * m) (add-one (length ks)) ∙ mul-suc n (length ks) in
        ap (λ (j : ℕ). record_put (over_bytes out (cell_bytes (records f ks))) j (f k)) (sym long)
        ∙ put_record out (records f ks) (f k) (omega (arith, long, each k, next))
        ∙ ap (λ (l : List ℕ). over_bytes out (cell_bytes l)) (sym (records-next ks k))

    -- the record of the number at i, after those before it
    pub put_nth : (out xs : List ℕ) (i d : ℕ) → i < length xs → 8 * (n * length xs) ≤ length out
        → record_put (over_bytes out (cell_bytes (records f (take i xs)))) (n * i) (f (get_or xs i d)) ≡ over_bytes out (cell_bytes (records f (take (i + 1) xs)))
    put_nth out xs i d h fits =
        let ks = take i xs in
        let long : length ks ≡ i = length-take-le i xs (omega arith) in
        let most : n * (length ks + 1) ≤ n * length xs = mul-le-mul_left n (omega arith) in
        ap (λ (j : ℕ). record_put (over_bytes out (cell_bytes (records f ks))) (n * j) (f (get_or xs i d))) (sym long)
        ∙ put_after out ks (get_or xs i d) (omega (arith, most))
        ∙ ap (λ (l : List ℕ). over_bytes out (cell_bytes (records f l))) (sym (ap (λ (j : ℕ). take j xs) (add-one i) ∙ take-suc xs i d h))
