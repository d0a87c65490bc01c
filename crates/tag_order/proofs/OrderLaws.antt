-- Rule 7: a reading changes its own tag alone, so readings applied in the order of a list that names no tag twice, and their changes put in tag order,
-- come to the same as readings applied in tag order.
use mathlib.Core.Path.{◌≡◌, refl, ap, sym, ◌∙◌}
use mathlib.Core.Bool.{Bool, true, false, not, ◌&&◌, cond, true≢false}
use mathlib.Core.List.{List, [], ◌∷◌, ◌++◌, append-nil}
use Prim.Native.Nat.{ℕ, zero, suc, ◌+◌, ◌≤◌, ◌<◌, min}
use native.Mathlib.Nat.{add-zero, zero-add}
use native.Mathlib.Omega.{arith}
use borrow.Author.Tests.{eqb-true, eqb-false, eq-eqb, ne_eqb, ltb-true, ltb-false}
use lib.Dec.{eqb, ltb}
use lib.IntN.{ℤ}
use lib.Ieee.{Float}
use lib.ListN.{length, get_or, set, take, length-set, get_or-eq_default}
use lib.Seq.{get_or-set_same, get_or-set_other, ext_get_or}
use Rattle.lists.specs.Keep.{keep, count, Below, up_to}
use Rattle.lists.proofs.KeepLaws.{count-take, keep_append, below-take}
use Rattle.values.specs.Entry.{TagResult}
use Rattle.tags.specs.Lists.{member, fitted}
use Rattle.table.specs.Tag.{fresh_tag}
use Rattle.table.specs.Table.{by_rank}
use Rattle.table.specs.declared.tag.Tag.{Tag}
use Rattle.apply.specs.Apply.{tag_applied, is_sent, applied_at, sent_at}
use Rattle.results.specs.Results.{result_count, result_in}
use Rattle.ranks.specs.Ranks.{over, words_of}
use Rattle.board.specs.Board.{board_in, with_records}
use Rattle.board.proofs.BoardLaws.{asked-below}
use Rattle.writes.specs.ReadBack.{read_back_tags}
use Rattle.writes.proofs.OnceLaws.{directory_once}
use Rattle.readings.specs.Listed.{Applying, apply_next, apply_from, apply_all, in_tag_order}
use Rattle.tag_order.specs.Order.{place_in, own_result, apply_turn, apply_turns, apply_in_order}
use Rattle.readings.specs.Changes.{applied_to}

-- ---- which tags a list names

member_none : (k : ℕ) (l : List ℕ) → count k l ≡ 0 → member k l ≡ false
member_none k [] e = refl
member_none k (x ∷ l) e = go (eqb k x) refl e (member_none k l)
  where
    go : (b : Bool) → eqb k x ≡ b → cond b 1 0 + count k l ≡ 0 → (count k l ≡ 0 → member k l ≡ false) → cond (eqb k x) true (member k l) ≡ false
    go true f z ih = absurd (omega arith)
    go false f z ih = rw f (ih (omega arith))

-- the first of a list without doubles is not named again
first_alone : (k : ℕ) (l : List ℕ) → count k (k ∷ l) ≤ 1 → member k l ≡ false
first_alone k l h = let h' : cond true 1 0 + count k l ≤ 1 = rw (eq-eqb k k refl) at h in member_none k l (omega arith)

member_above : (n k : ℕ) (l : List ℕ) → n ≤ k → Below n l → member k l ≡ false
member_above n k [] h b = refl
member_above n k (x ∷ l) h b = rw (ne_eqb k x (λ e. omega (arith, b.0))) (member_above n k l h b.1)

member_snoc : (j k : ℕ) (l : List ℕ) → member j (l ++ (k ∷ [])) ≡ cond (eqb j k) true (member j l)
member_snoc j k [] = refl
member_snoc j k (x ∷ l) = ap (λ (b : Bool). cond (eqb j x) true b) (member_snoc j k l) ∙ go (eqb j x) (eqb j k)
  where
    go : (a b : Bool) → cond a true (cond b true (member j l)) ≡ cond b true (cond a true (member j l))
    go true true = refl
    go true false = refl
    go false b = refl

keep_same : (p q : ℕ → Bool) → ((k : ℕ) → p k ≡ q k) → (l : List ℕ) → keep p l ≡ keep q l
unfolding keep
keep_same p q h [] = refl
keep_same p q h (x ∷ l) = rw (h x, keep_same p q h l)

module _ (start : Float) (t : ℤ) (polled : Bool) where
  -- ---- one reading

  -- the tag after a reading of it
  abbrev tag_after : Tag → TagResult → Tag
  tag_after x r = cond (eqb x.tier 0) x (tag_applied x r start t polled)

  module _ (tags : List Tag) (k : ℕ) (r : TagResult) where
    applied_long : length (applied_at tags k r start t polled) ≡ length tags
    unfolding applied_at
    applied_long = go (eqb (get_or tags k fresh_tag).tier 0)
      where
        go : (b : Bool) → length (cond b tags (set tags k (tag_applied (get_or tags k fresh_tag) r start t polled))) ≡ length tags
        go true = refl
        go false = length-set tags k (tag_applied (get_or tags k fresh_tag) r start t polled)

    -- a tag with a tier is in the table
    inside : eqb (get_or tags k fresh_tag).tier 0 ≡ false → k < length tags
    inside e = go (ltb k (length tags)) refl
      where
        go : (b : Bool) → ltb k (length tags) ≡ b → k < length tags
        go true f = ltb-true k (length tags) f
        go false f =
            let fresh : eqb (get_or tags k fresh_tag).tier 0 ≡ true = ap (λ (x : Tag). eqb x.tier 0) (get_or-eq_default tags fresh_tag (ltb-false k (length tags) f)) in
            absurd (true≢false (sym fresh ∙ e))

    applied_here : get_or (applied_at tags k r start t polled) k fresh_tag ≡ tag_after (get_or tags k fresh_tag) r
    unfolding applied_at
    applied_here = go (eqb (get_or tags k fresh_tag).tier 0) refl
      where
        new : Tag
        new = tag_applied (get_or tags k fresh_tag) r start t polled

        go : (b : Bool) → eqb (get_or tags k fresh_tag).tier 0 ≡ b → get_or (cond b tags (set tags k new)) k fresh_tag ≡ cond b (get_or tags k fresh_tag) new
        go true e = refl
        go false e = get_or-set_same tags k new fresh_tag (inside e)

    applied_other : (j : ℕ) → (j ≡ k → ⊥) → get_or (applied_at tags k r start t polled) j fresh_tag ≡ get_or tags j fresh_tag
    unfolding applied_at
    applied_other j d = go (eqb (get_or tags k fresh_tag).tier 0)
      where
        go : (b : Bool) → get_or (cond b tags (set tags k (tag_applied (get_or tags k fresh_tag) r start t polled))) j fresh_tag ≡ get_or tags j fresh_tag
        go true = refl
        go false = get_or-set_other tags k j (tag_applied (get_or tags k fresh_tag) r start t polled) fresh_tag d

  -- whether a reading is sent goes by its own tag
  sent_by : (a b : List Tag) (k : ℕ) (r : TagResult) → get_or a k fresh_tag ≡ get_or b k fresh_tag → sent_at a k r t polled ≡ sent_at b k r t polled
  unfolding sent_at
  sent_by a b k r e = ap (λ (x : Tag). not (eqb x.tier 0) && is_sent x r t polled) e

  -- ---- the readings in the order of the list

  module _ (results : List ℕ) where
    listed_long : (l : List ℕ) (i : ℕ) (S : Applying) → length (apply_from results start t polled i l S).tags ≡ length S.tags
    unfolding apply_from apply_next
    listed_long [] i S = refl
    listed_long (k ∷ l) i S = listed_long l (suc i) (apply_next S k (result_in results i) start t polled) ∙ applied_long S.tags k (result_in results i)

    -- each tag of the list is changed by its own reading, and no other is
    listed_tag : (l : List ℕ) → ((k : ℕ) → count k l ≤ 1) → (i : ℕ) (S : Applying) (j : ℕ)
        → get_or (apply_from results start t polled i l S).tags j fresh_tag
        ≡ cond (member j l) (tag_after (get_or S.tags j fresh_tag) (result_in results (i + place_in j l))) (get_or S.tags j fresh_tag)
    unfolding apply_from apply_next place_in
    listed_tag [] once i S j = refl
    listed_tag (k ∷ l) once i S j = go (eqb j k) refl (listed_tag l (λ x. omega (arith, once x)) (suc i) (apply_next S k (result_in results i) start t polled) j)
      where
        old : Tag
        old = get_or S.tags j fresh_tag

        next : Tag
        next = get_or (applied_at S.tags k (result_in results i) start t polled) j fresh_tag

        last : Tag
        last = get_or (apply_from results start t polled (suc i) l (apply_next S k (result_in results i) start t polled)).tags j fresh_tag

        go : (b : Bool) → eqb j k ≡ b → last ≡ cond (member j l) (tag_after next (result_in results (suc i + place_in j l))) next
            → last ≡ cond (cond b true (member j l)) (tag_after old (result_in results (i + cond b 0 (suc (place_in j l))))) old
        go true e ih =
            let s : j ≡ k = eqb-true j k e in
            let alone : member j l ≡ false = rw s (first_alone k l (once k)) in
            let here : next ≡ tag_after old (result_in results i) = rw s (applied_here S.tags k (result_in results i)) in
            ih
            ∙ ap (λ (b : Bool). cond b (tag_after next (result_in results (suc i + place_in j l))) next) alone
            ∙ here
            ∙ ap (λ (m : ℕ). tag_after old (result_in results m)) (sym (add-zero i))
        go false e ih =
            let same : next ≡ old = applied_other S.tags k (result_in results i) j (eqb-false j k e) in
            let place : suc i + place_in j l ≡ i + suc (place_in j l) = omega arith in
            ih
            ∙ ap (λ (m : ℕ). cond (member j l) (tag_after next (result_in results m)) next) place
            ∙ ap (λ (x : Tag). cond (member j l) (tag_after x (result_in results (i + suc (place_in j l)))) x) same

    next_other : (S : Applying) (k : ℕ) (r : TagResult) (j : ℕ) → (j ≡ k → ⊥) → get_or (apply_next S k r start t polled).tags j fresh_tag ≡ get_or S.tags j fresh_tag
    unfolding apply_next
    next_other S k r j d = applied_other S.tags k r j d

    next-member : (S : Applying) (k : ℕ) (r : TagResult) (j : ℕ) → member j (apply_next S k r start t polled).sent ≡ cond (eqb j k && sent_at S.tags k r t polled) true (member j S.sent)
    unfolding apply_next
    next-member S k r j = go (sent_at S.tags k r t polled)
      where
        both : (a : Bool) → cond a true (member j S.sent) ≡ cond (a && true) true (member j S.sent)
        both true = refl
        both false = refl

        neither : (a : Bool) → member j S.sent ≡ cond (a && false) true (member j S.sent)
        neither true = refl
        neither false = refl

        go : (b : Bool) → member j (cond b (S.sent ++ (k ∷ [])) S.sent) ≡ cond (eqb j k && b) true (member j S.sent)
        go true = member_snoc j k S.sent ∙ both (eqb j k)
        go false = neither (eqb j k)

    -- a tag of the list is sent if its own reading is
    listed_sent : (l : List ℕ) → ((k : ℕ) → count k l ≤ 1) → (i : ℕ) (S : Applying) (j : ℕ)
        → member j (apply_from results start t polled i l S).sent
        ≡ cond (member j l && sent_at S.tags j (result_in results (i + place_in j l)) t polled) true (member j S.sent)
    unfolding apply_from place_in
    listed_sent [] once i S j = refl
    listed_sent (k ∷ l) once i S j = go (eqb j k) refl (listed_sent l (λ x. omega (arith, once x)) (suc i) next j)
      where
        next : Applying
        next = apply_next S k (result_in results i) start t polled

        came : (j : ℕ) → member j next.sent ≡ cond (eqb j k && sent_at S.tags k (result_in results i) t polled) true (member j S.sent)
        came j = next-member S k (result_in results i) j

        go : (b : Bool) → eqb j k ≡ b
            → member j (apply_from results start t polled (suc i) l next).sent ≡ cond (member j l && sent_at next.tags j (result_in results (suc i + place_in j l)) t polled) true (member j next.sent)
            → member j (apply_from results start t polled (suc i) l next).sent
            ≡ cond (cond b true (member j l) && sent_at S.tags j (result_in results (i + cond b 0 (suc (place_in j l)))) t polled) true (member j S.sent)
        go true e ih =
            let s : j ≡ k = eqb-true j k e in
            let alone : member j l ≡ false = rw s (first_alone k l (once k)) in
            ih
            ∙ ap (λ (b : Bool). cond (b && sent_at next.tags j (result_in results (suc i + place_in j l)) t polled) true (member j next.sent)) alone
            ∙ came j
            ∙ ap (λ (b : Bool). cond (b && sent_at S.tags k (result_in results i) t polled) true (member j S.sent)) e
            ∙ ap (λ (x : ℕ). cond (sent_at S.tags x (result_in results i) t polled) true (member j S.sent)) (sym s)
            ∙ ap (λ (m : ℕ). cond (sent_at S.tags j (result_in results m) t polled) true (member j S.sent)) (sym (add-zero i))
        go false e ih =
            let place : suc i + place_in j l ≡ i + suc (place_in j l) = omega arith in
            let kept : member j next.sent ≡ member j S.sent = came j ∙ ap (λ (b : Bool). cond (b && sent_at S.tags k (result_in results i) t polled) true (member j S.sent)) e in
            ih
            ∙ ap (λ (m : ℕ). cond (member j l && sent_at next.tags j (result_in results m) t polled) true (member j next.sent)) place
            ∙ ap (λ (b : Bool). cond (member j l && b) true (member j next.sent)) (sent_by next.tags S.tags j (result_in results (i + suc (place_in j l))) (next_other S k (result_in results i) j (eqb-false j k e)))
            ∙ ap (λ (b : Bool). cond (member j l && sent_at S.tags j (result_in results (i + suc (place_in j l))) t polled) true b) kept

  -- ---- the readings in tag order

  module _ (results tags : List ℕ) where
    turns_append : (a b : List ℕ) (S : Applying) → apply_turns results tags start t polled (a ++ b) S ≡ apply_turns results tags start t polled b (apply_turns results tags start t polled a S)
    unfolding apply_turns
    turns_append [] b S = refl
    turns_append (k ∷ a) b S = turns_append a b (apply_turn results tags start t polled S k)

    -- whether the reading of the tag k of a table is sent
    abbrev sends : List Tag → ℕ → Bool
    sends T k = member k tags && sent_at T k (own_result results tags k) t polled

    module _ (S : Applying) (k : ℕ) where
      turn_tags : (apply_turn results tags start t polled S k).tags ≡ cond (member k tags) (applied_at S.tags k (own_result results tags k) start t polled) S.tags
      unfolding apply_turn
      turn_tags = go (member k tags)
        where
          go : (b : Bool)
              → (cond b
              (record {
                tags = applied_at S.tags k (own_result results tags k) start t polled;
                sent = cond (sent_at S.tags k (own_result results tags k) t polled) (S.sent ++ (k ∷ [])) S.sent;
              })
              S).tags
              ≡ cond b (applied_at S.tags k (own_result results tags k) start t polled) S.tags
          go true = refl
          go false = refl

      turn_long : length (apply_turn results tags start t polled S k).tags ≡ length S.tags
      turn_long = ap length turn_tags ∙ go (member k tags)
        where
          go : (b : Bool) → length (cond b (applied_at S.tags k (own_result results tags k) start t polled) S.tags) ≡ length S.tags
          go true = applied_long S.tags k (own_result results tags k)
          go false = refl

      turn_here : get_or (apply_turn results tags start t polled S k).tags k fresh_tag
          ≡ cond (member k tags) (tag_after (get_or S.tags k fresh_tag) (own_result results tags k)) (get_or S.tags k fresh_tag)
      turn_here = ap (λ (l : List Tag). get_or l k fresh_tag) turn_tags ∙ go (member k tags)
        where
          go : (b : Bool) → get_or (cond b (applied_at S.tags k (own_result results tags k) start t polled) S.tags) k fresh_tag
              ≡ cond b (tag_after (get_or S.tags k fresh_tag) (own_result results tags k)) (get_or S.tags k fresh_tag)
          go true = applied_here S.tags k (own_result results tags k)
          go false = refl

      turn_other : (j : ℕ) → (j ≡ k → ⊥) → get_or (apply_turn results tags start t polled S k).tags j fresh_tag ≡ get_or S.tags j fresh_tag
      turn_other j d = ap (λ (l : List Tag). get_or l j fresh_tag) turn_tags ∙ go (member k tags)
        where
          go : (b : Bool) → get_or (cond b (applied_at S.tags k (own_result results tags k) start t polled) S.tags) j fresh_tag ≡ get_or S.tags j fresh_tag
          go true = applied_other S.tags k (own_result results tags k) j d
          go false = refl

      turn_sent : (apply_turn results tags start t polled S k).sent ≡ S.sent ++ cond (sends S.tags k) (k ∷ []) []
      unfolding apply_turn
      turn_sent = go (member k tags) (sent_at S.tags k (own_result results tags k) t polled)
        where
          go : (a b : Bool) → (cond a (record { tags = applied_at S.tags k (own_result results tags k) start t polled; sent = cond b (S.sent ++ (k ∷ [])) S.sent }) S).sent ≡ S.sent ++ cond (a && b) (k ∷ []) []
          go true true = refl
          go true false = sym (append-nil S.sent)
          go false b = sym (append-nil S.sent)

    -- the first n tags had their turn
    module _ (table : List Tag) where
      abbrev turned : ℕ → Applying
      turned n = apply_turns results tags start t polled (up_to n) (record { tags = table; sent = [] })

      turned_none : turned 0 ≡ record { tags = table; sent = [] }
      unfolding apply_turns up_to
      turned_none = refl

      turned_more : (n : ℕ) → turned (suc n) ≡ apply_turn results tags start t polled (turned n) n
      unfolding apply_turns up_to
      turned_more n = turns_append (up_to n) (n ∷ []) (record { tags = table; sent = [] })

      turned_long : (n : ℕ) → length (turned n).tags ≡ length table
      turned_long zero = ap (λ (S : Applying). length S.tags) turned_none
      turned_long (suc n) = ap (λ (S : Applying). length S.tags) (turned_more n) ∙ turn_long (turned n) n ∙ turned_long n

      turned_later : (n j : ℕ) → n ≤ j → get_or (turned n).tags j fresh_tag ≡ get_or table j fresh_tag
      turned_later zero j h = ap (λ (S : Applying). get_or S.tags j fresh_tag) turned_none
      turned_later (suc n) j h =
          ap (λ (S : Applying). get_or S.tags j fresh_tag) (turned_more n)
          ∙ turn_other (turned n) n j (λ e. omega arith)
          ∙ turned_later n j (omega arith)

      turned_tag : (n j : ℕ) → j < n → get_or (turned n).tags j fresh_tag ≡ cond (member j tags) (tag_after (get_or table j fresh_tag) (own_result results tags j)) (get_or table j fresh_tag)
      turned_tag zero j h = absurd (omega arith)
      turned_tag (suc n) j h = ap (λ (S : Applying). get_or S.tags j fresh_tag) (turned_more n) ∙ go (eqb j n) refl (turned_tag n j)
        where
          own : Tag → Tag
          own x = cond (member j tags) (tag_after x (own_result results tags j)) x

          go : (b : Bool) → eqb j n ≡ b → (j < n → get_or (turned n).tags j fresh_tag ≡ own (get_or table j fresh_tag))
              → get_or (apply_turn results tags start t polled (turned n) n).tags j fresh_tag ≡ own (get_or table j fresh_tag)
          go true e ih =
              let s : n ≡ j = sym (eqb-true j n e) in
              ap (λ (k : ℕ). get_or (apply_turn results tags start t polled (turned n) k).tags j fresh_tag) s
              ∙ turn_here (turned n) j
              ∙ ap own (turned_later n j (omega arith))
          go false e ih =
              let d : j ≡ n → ⊥ = eqb-false j n e in
              turn_other (turned n) n j d ∙ ih (omega arith)

      turned_sent : (n : ℕ) → (turned n).sent ≡ keep (sends table) (up_to n)
      unfolding keep up_to
      turned_sent zero = ap (λ (S : Applying). S.sent) turned_none
      turned_sent (suc n) =
          let same : sends (turned n).tags n ≡ sends table n =
          ap (λ (b : Bool). member n tags && b) (sent_by (turned n).tags table n (own_result results tags n) (turned_later n n (omega arith))) in
          ap (λ (S : Applying). S.sent) (turned_more n)
          ∙ turn_sent (turned n) n
          ∙ ap (λ (b : Bool). (turned n).sent ++ cond b (n ∷ []) []) same
          ∙ ap (λ (l : List ℕ). l ++ cond (sends table n) (n ∷ []) []) (turned_sent n)
          ∙ sym (keep_append (sends table) (up_to n) (n ∷ []))

  -- ---- both come to the same

  module _ (results l : List ℕ) (table : List Tag) (once : (k : ℕ) → count k l ≤ 1) where
    abbrev by_list : Applying
    by_list = apply_from results start t polled 0 l (record { tags = table; sent = [] })

    abbrev in_order : Applying
    in_order = apply_turns results l start t polled (by_rank table) (record { tags = table; sent = [] })

    same_tags : Below 65536 l → by_list.tags ≡ in_order.tags
    same_tags small = ext_get_or fresh_tag by_list.tags in_order.tags (long ∙ sym (turned_long results l table last)) (λ j h. go j (omega (arith, long)) (ltb j 65536) refl)
      where
        last : ℕ
        last = min (length table) 65536

        long : length by_list.tags ≡ length table
        long = listed_long results l 0 (record { tags = table; sent = [] })

        own : ℕ → Bool → ℕ → Tag
        own j named place = cond named (tag_after (get_or table j fresh_tag) (result_in results place)) (get_or table j fresh_tag)

        at : (j : ℕ) → get_or by_list.tags j fresh_tag ≡ own j (member j l) (place_in j l)
        at j = listed_tag results l once 0 (record { tags = table; sent = [] }) j ∙ ap (own j (member j l)) (zero-add (place_in j l))

        go : (j : ℕ) → j < length table → (b : Bool) → ltb j 65536 ≡ b → get_or by_list.tags j fresh_tag ≡ get_or in_order.tags j fresh_tag
        go j h true e = at j ∙ sym (turned_tag results l table last j (omega (arith, ltb-true j 65536 e)))
        go j h false e =
            let past : 65536 ≤ j = ltb-false j 65536 e in
            at j ∙ ap (λ (b : Bool). own j b (place_in j l)) (member_above 65536 j l past small) ∙ sym (turned_later results l table last j (omega arith))

    same_sent : in_tag_order table by_list.sent ≡ in_order.sent
    same_sent =
        keep_same (λ (k : ℕ). member k by_list.sent) (sends results l table) same (by_rank table) ∙ sym (turned_sent results l table (min (length table) 65536))
      where
        as_is : (b : Bool) → cond b true false ≡ b
        as_is true = refl
        as_is false = refl

        same : (k : ℕ) → member k by_list.sent ≡ sends results l table k
        same k =
            listed_sent results l once 0 (record { tags = table; sent = [] }) k
            ∙ as_is (member k l && sent_at table k (result_in results (0 + place_in k l)) t polled)
            ∙ ap (λ (m : ℕ). member k l && sent_at table k (result_in results m) t polled) (zero-add (place_in k l))

  -- Rule 7: in tag order. The tags that the results cover are named once.
  pub tag_order : (results tags : List ℕ) (table : List Tag) → ((k : ℕ) → count k (take (result_count results) tags) ≤ 1) → Below 65536 (take (result_count results) tags)
      → ((apply_all results start t polled tags table).tags ≡ (apply_in_order results start t polled tags table).tags)
      × (in_tag_order table (apply_all results start t polled tags table).sent ≡ (apply_in_order results start t polled tags table).sent)
  tag_order results tags table once small = (
    same_tags results (take (result_count results) tags) table once small,
    same_sent results (take (result_count results) tags) table once,
  )

  -- Rule 7: so what the contract of `apply` says of the board is rule 7 taken tag by tag.
  pub applied_in_order : (bs results : List ℕ) → ((k : ℕ) → count k (board_in bs).asked ≤ 1)
      → ((applied_to (board_in bs) results start t polled).board ≡ with_records (board_in bs) (apply_in_order results start t polled (board_in bs).asked (board_in bs).table.tags).tags)
      × ((applied_to (board_in bs) results start t polled).changes ≡ (apply_in_order results start t polled (board_in bs).asked (board_in bs).table.tags).sent)
  unfolding applied_to
  applied_in_order bs results once =
      let B = board_in bs in
      let m = result_count results in
      let same = tag_order results B.asked B.table.tags (λ k. omega (arith, once k, count-take k m B.asked)) (below-take 65536 m B.asked (asked-below bs)) in
      (ap (λ (z : List Tag). with_records B z) same.0, same.1)

-- Rules 7 and 8: the tags of a read-back are named once, so its readings are applied in tag order.
pub read-back_in_order : (bs results : List ℕ) (start : Float) (t : ℤ)
    → (n : ℕ) (old : List ℕ) (ns : List (List ℕ)) → length ns ≤ length old → length ns ≤ 65534 → (k : ℕ) → k < length ns
    → (board_in bs).asked ≡ fitted n (read_back_tags (over old (words_of ns)) k)
    → ((applied_to (board_in bs) results start t false).board ≡ with_records (board_in bs) (apply_in_order results start t false (board_in bs).asked (board_in bs).table.tags).tags)
    × ((applied_to (board_in bs) results start t false).changes ≡ (apply_in_order results start t false (board_in bs).asked (board_in bs).table.tags).sent)
read-back_in_order bs results start t n old ns few small k h e =
    applied_in_order start t false bs results
    (λ j. rw e (omega (arith, count-take j n (read_back_tags (over old (words_of ns)) k), directory_once old ns few small k h j)))
