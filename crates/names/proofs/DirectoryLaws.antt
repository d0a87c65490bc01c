-- The names of a directory, and what a directory that the checks accept is.
use mathlib.Core.Path.{◌≡◌, refl, ap, sym, ◌∙◌}
use mathlib.Core.Bool.{Bool, true, false, cond, not, true≢false, ◌&&◌, ◌||◌}
use mathlib.Core.List.{List, [], ◌∷◌, ◌++◌}
use Prim.Native.Nat.{ℕ, zero, suc, ◌+◌, ◌-◌, ◌≤◌, ◌<◌}
use native.Mathlib.Nat.{not-suc-le-zero, le_of_suc-le-suc}
use native.Mathlib.Omega.{arith}
use borrow.Author.Tests.{lt-ltb, le-ltb, ltb-true, ltb-false, leb-true, eqb-true, eqb-false, eq-eqb, ne_eqb}
use lib.Dec.{ltb, leb, eqb}
use lib.ListN.{length, drop, get_or, length-take, length-drop, drop_of_length-le, take-append-drop, get_or-eq_default}
use lib.Seq.{drop-drop, take_all, take-nil}
use Rattle.names.specs.Directory.{piece, cut, names_of, name_at, good_ends, good_bytes, good_names, rising, directory_check}
use Rattle.names.proofs.Loops.{bytes_end}

-- ---- parts of the buffer, and the names

pub piece_none : (from end : ℕ) (s : List ℕ) → end ≤ from → piece from end s ≡ []
piece_none from end s h = let z : end - from ≡ 0 = omega arith in rw z

pub piece_past : (from end : ℕ) (s : List ℕ) → length s ≤ from → piece from end s ≡ []
piece_past from end s h = rw (drop_of_length-le s h) (take-nil (end - from))

-- an end past the buffer's is the buffer's
pub piece_long : (from end : ℕ) (s : List ℕ) → length s ≤ end → piece from (length s) s ≡ piece from end s
piece_long from end s h =
    take_all (length s - from) (drop from s) (simp length-drop (omega arith)) ∙ sym (take_all (end - from) (drop from s) (simp length-drop (omega arith)))

length_cut : (at : ℕ) (ends s : List ℕ) → length (cut at ends s) ≡ length ends
unfolding cut
length_cut at [] s = refl
length_cut at (e ∷ es) s = ap suc (length_cut e es s)

-- as many names as end places
pub length_names : (s ends : List ℕ) → length (names_of s ends) ≡ length ends
length_names s ends = length_cut 0 ends s

cut-first : (at : ℕ) (ends s : List ℕ) → 0 < length ends → get_or (cut at ends s) 0 [] ≡ piece at (get_or ends 0 0) s
unfolding cut
cut-first at [] s h = absurd (not-suc-le-zero h)
cut-first at (e ∷ es) s h = refl

cut-next : (at : ℕ) (ends s : List ℕ) (i : ℕ) → suc i < length ends → get_or (cut at ends s) (suc i) [] ≡ piece (get_or ends i 0) (get_or ends (suc i) 0) s
unfolding cut
cut-next at [] s i h = absurd (not-suc-le-zero h)
cut-next at (e ∷ es) s zero h = cut-first e es s (le_of_suc-le-suc h)
cut-next at (e ∷ es) s (suc i) h = cut-next e es s i (le_of_suc-le-suc h)

pub name_past : (s ends : List ℕ) (tag : ℕ) → length ends ≤ tag → name_at s ends tag ≡ []
name_past s ends tag h = get_or-eq_default (names_of s ends) [] (rw length_names h)

pub name_first : (s ends : List ℕ) (tag : ℕ) → tag ≡ 0 → tag < length ends → name_at s ends tag ≡ piece 0 (get_or ends tag 0) s
name_first s ends zero e h = cut-first 0 ends s h
name_first s ends (suc i) e h = let z : true ≡ false = cc in absurd (true≢false z)

pub name_later : (s ends : List ℕ) (tag : ℕ) → (tag ≡ 0 → ⊥) → tag < length ends → name_at s ends tag ≡ piece (get_or ends (tag - 1) 0) (get_or ends tag 0) s
name_later s ends zero n h = absurd (n refl)
name_later s ends (suc i) n h = let e : suc i - 1 ≡ i = omega arith in rw e (cut-next 0 ends s i h)

-- ---- check 2: what good end places are

both : (a b : Bool) → (a && b) ≡ true → (a ≡ true) × (b ≡ true)
both true b e = (refl, e)
both false b e = absurd (true≢false (sym e))

-- what check 2 asks of one end place, and of those after it
record GoodEnd (long at e : ℕ) (es : List ℕ) (size : ℕ) : Type 0 where
  above : at < e
  within : e ≤ size
  short : e - at ≤ long
  rest : good_ends long e es size ≡ true

good_end : (long at e : ℕ) (es : List ℕ) (size : ℕ) → good_ends long at (e ∷ es) size ≡ true → GoodEnd long at e es size
unfolding good_ends
good_end long at e es size h =
    let g = both (leb at e) _ h in
    let g2 = both (leb e size) _ g.1 in
    let g3 = both (ltb 0 (e - at)) _ g2.1 in
    let g4 = both (leb (e - at) long) _ g3.1 in
    let some : 0 < e - at = ltb-true _ _ g3.0 in
    record { above = omega arith; within = leb-true _ _ g2.0; short = leb-true _ _ g4.0; rest = g4.1 }

size-cut : (long at : ℕ) (ends s : List ℕ) → good_ends long at ends (length s) ≡ true → (k : ℕ) → k < length ends
    → (1 ≤ length (get_or (cut at ends s) k [])) × (length (get_or (cut at ends s) k []) ≤ long)
unfolding cut
size-cut long at [] s h k l = absurd (not-suc-le-zero l)
size-cut long at (e ∷ es) s h zero l =
    let g = good_end long at e es (length s) h in
    simp (length-take, length-drop) (omega arith)
size-cut long at (e ∷ es) s h (suc k) l = size-cut long e es s (good_end long at e es (length s) h).rest k (le_of_suc-le-suc l)

-- ---- check 3: the bytes of the names

bytes_append : (a b : List ℕ) → good_bytes (a ++ b) ≡ (good_bytes a && good_bytes b)
unfolding good_bytes
bytes_append [] b = refl
bytes_append (x ∷ a) b = go (leb 33 x) (leb x 126) (bytes_append a b)
  where
    go : (t u : Bool) → good_bytes (a ++ b) ≡ (good_bytes a && good_bytes b) → (t && (u && good_bytes (a ++ b))) ≡ ((t && (u && good_bytes a)) && good_bytes b)
    go true true e = e
    go true false e = refl
    go false u e = refl

drop-piece : (at e : ℕ) (s : List ℕ) → at ≤ e → drop at s ≡ piece at e s ++ drop e s
drop-piece at e s h =
    let z : at + (e - at) ≡ e = omega arith in
    sym (take-append-drop (e - at) (drop at s)) ∙ rw (drop-drop, z)

bytes_cut : (long at : ℕ) (ends s : List ℕ) → good_ends long at ends (length s) ≡ true → good_names (cut at ends s) ≡ good_bytes (drop at s)
unfolding good_ends good_names cut
bytes_cut long at [] s h = let e : at ≡ length s = eqb-true _ _ h in sym (bytes_end s at (omega arith))
bytes_cut long at (e ∷ es) s h =
    let g = good_end long at e es (length s) h in
    ap (λ (t : Bool). good_bytes (piece at e s) && t) (bytes_cut long e es s g.rest)
    ∙ sym (bytes_append (piece at e s) (drop e s)) ∙ ap good_bytes (sym (drop-piece at e s (omega arith)))

-- under good end places the bytes of the names are those of the buffer
pub names_bytes : (long : ℕ) (s ends : List ℕ) → good_ends long 0 ends (length s) ≡ true → good_names (names_of s ends) ≡ good_bytes s
names_bytes long s ends h = bytes_cut long 0 ends s h

good-at : (ns : List (List ℕ)) → good_names ns ≡ true → (k : ℕ) → k < length ns → good_bytes (get_or ns k []) ≡ true
unfolding good_names
good-at [] h k l = absurd (not-suc-le-zero l)
good-at (n ∷ ns) h zero l = (both (good_bytes n) _ h).0
good-at (n ∷ ns) h (suc k) l = good-at ns (both (good_bytes n) _ h).1 k (le_of_suc-le-suc l)

-- ---- the answer of the checks, lowest number first

module _ (most long : ℕ) (s ends : List ℕ) where
  pub check_none : length ends ≡ 0 → directory_check most long s ends ≡ 1
  unfolding directory_check
  check_none h = simp (eq-eqb _ _ h)

  module _ (some : length ends ≡ 0 → ⊥) where
    pub check_many : most < length ends → directory_check most long s ends ≡ 1
    unfolding directory_check
    check_many h = simp (ne_eqb _ _ some, lt-ltb _ _ h)

    module _ (few : length ends ≤ most) where
      pub check_2 : good_ends long 0 ends (length s) ≡ false → directory_check most long s ends ≡ 2
      unfolding directory_check
      check_2 h = simp (ne_eqb _ _ some, le-ltb _ _ few, h)

      module _ (good : good_ends long 0 ends (length s) ≡ true) where
        pub check_3 : good_bytes s ≡ false → directory_check most long s ends ≡ 3
        unfolding directory_check
        check_3 h = simp (ne_eqb _ _ some, le-ltb _ _ few, good, names_bytes long s ends good, h)

        module _ (plain : good_bytes s ≡ true) where
          pub check_4 : rising (names_of s ends) ≡ false → directory_check most long s ends ≡ 4
          unfolding directory_check
          check_4 h = simp (ne_eqb _ _ some, le-ltb _ _ few, good, names_bytes long s ends good, plain, h)

          pub check_0 : rising (names_of s ends) ≡ true → directory_check most long s ends ≡ 0
          unfolding directory_check
          check_0 h = simp (ne_eqb _ _ some, le-ltb _ _ few, good, names_bytes long s ends good, plain, h)

-- what an accepted directory is
pub record Checked (most long : ℕ) (s ends : List ℕ) : Type 0 where
  pub some : 0 < length ends
  pub few : length ends ≤ most
  pub cuts : good_ends long 0 ends (length s) ≡ true
  pub plain : good_names (names_of s ends) ≡ true
  pub rises : rising (names_of s ends) ≡ true

pub checked : (most long : ℕ) (s ends : List ℕ) → directory_check most long s ends ≡ 0 → Checked most long s ends
unfolding directory_check
checked most long s ends e =
    go (eqb (length ends) 0) refl (ltb most (length ends)) refl (good_ends long 0 ends (length s)) refl (good_names (names_of s ends)) refl (rising (names_of s ends)) refl e
  where
    no : {A : Type 0} (n : ℕ) → suc n ≡ 0 → A
    no n p = let z : true ≡ false = cc in absurd (true≢false z)

    go : (a : Bool) → eqb (length ends) 0 ≡ a → (b : Bool) → ltb most (length ends) ≡ b → (c : Bool) → good_ends long 0 ends (length s) ≡ c
        → (d : Bool) → good_names (names_of s ends) ≡ d → (f : Bool) → rising (names_of s ends) ≡ f
        → ◌≡◌ {A = ℕ} (cond (a || b) 1 (cond (not c) 2 (cond (not d) 3 (cond (not f) 4 0)))) 0 → Checked most long s ends
    go true p b p2 c p3 d p4 f p5 q = no 0 q
    go false p true p2 c p3 d p4 f p5 q = no 0 q
    go false p false p2 false p3 d p4 f p5 q = no 1 q
    go false p false p2 true p3 false p4 f p5 q = no 2 q
    go false p false p2 true p3 true p4 false p5 q = no 3 q
    go false p false p2 true p3 true p4 true p5 q = record { some = above (length ends) (eqb-false _ _ p); few = ltb-false _ _ p2; cuts = p3; plain = p4; rises = p5 }
      where
        above : (m : ℕ) → (m ≡ 0 → ⊥) → 0 < m
        above zero n = absurd (n refl)
        above (suc m) n = omega arith

module _ (most long : ℕ) (s ends : List ℕ) (ok : Checked most long s ends) (tag : ℕ) (h : tag < length ends) where
  -- a name has no fewer bytes than one and no more than the longest
  pub name_size : (1 ≤ length (name_at s ends tag)) × (length (name_at s ends tag) ≤ long)
  name_size = size-cut long 0 ends s ok.cuts tag h

  -- each of its bytes is one of 33 to 126
  pub name_bytes : good_bytes (name_at s ends tag) ≡ true
  name_bytes = good-at (names_of s ends) ok.plain tag (rw length_names h)
