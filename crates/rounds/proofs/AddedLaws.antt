-- Tags new in tier 2: pushed one by one onto a list that grows, and settled.
use mathlib.Core.Path.{◌≡◌, refl, ap, sym, ◌∙◌}
use mathlib.Core.Bool.{Bool, true, false, cond, true≢false}
use mathlib.Core.List.{List, [], ◌∷◌, ◌++◌, map, append_assoc, append-nil}
use Prim.Native.Nat.{ℕ, zero, suc, ◌+◌, ◌-◌, ◌%◌, ◌≤◌, ◌<◌}
use native.Mathlib.Nat.{mod-eq_of_lt}
use native.Mathlib.Numerals.{add-one}
use native.Mathlib.Omega.{arith}
use borrow.Author.Tests.{ne_eqb}
use lib.Dec.{eqb}
use lib.ListN.{length, get_or, set, take, drop, drop_of_length-le}
use lib.Seq.{take-append-add, set-get_or}
use Rattle.lists.specs.Keep.{keep, Below}
use Rattle.lists.proofs.KeepLaws.{keep_append, below-append, below-keep}
use Rattle.memory.proofs.LoopLaws.{mapped, mapped_read, mapped_more}
use Rattle.tags.specs.Lists.{pushed, member}
use Rattle.tags.proofs.CollectLaws.{pushed_clipped}
use Rattle.table.specs.Tag.{fresh_tag}
use Rattle.table.specs.declared.tag.Tag.{Tag}
use Rattle.rounds.specs.Added.{is_added, any_added, settled}
use Rattle.lists.specs.Keep.{up_to}

-- ---- what is pushed is below k, so it does not name k

below_more : (n m : ℕ) (l : List ℕ) → n ≤ m → Below n l → Below m l
below_more n m [] h b = tt
below_more n m (x ∷ l) h b = (omega (arith, b.0), below_more n m l h b.1)

pub below_up_to : (k : ℕ) → Below k (up_to k)
unfolding up_to
below_up_to zero = tt
below_up_to (suc k) = below-append (suc k) (up_to k) (k ∷ []) (below_more k (suc k) (up_to k) (omega arith) (below_up_to k)) (omega arith, tt)

below-take : (n m : ℕ) (l : List ℕ) → Below n l → Below n (take m l)
below-take n zero l b = tt
below-take n (suc m) [] b = tt
below-take n (suc m) (x ∷ l) b = (b.0, below-take n m l b.1)

member_below : (k : ℕ) (l : List ℕ) → Below k l → member k l ≡ false
member_below k [] b = refl
member_below k (x ∷ l) b = rw (ne_eqb k x (λ e. omega (arith, b.0))) (member_below k l b.1)

member-append : (k : ℕ) (a b : List ℕ) → member k b ≡ false → member k (a ++ b) ≡ member k a
member-append k [] b e = e
member-append k (x ∷ a) b e = ap (λ (t : Bool). cond (eqb k x) true t) (member-append k a b e)

-- b has room for itself, so what is cut off is cut off the rest
member-cut : (k n : ℕ) (b l : List ℕ) → length b ≤ n → Below k l → member k (take n (b ++ l)) ≡ member k b
member-cut k n b l h s =
    let e : n ≡ length b + (n - length b) = omega arith in
    ap (λ (m : ℕ). member k (take m (b ++ l))) e
    ∙ ap (member k) (take-append-add b l (n - length b))
    ∙ member-append k b (take (n - length b) l) (member_below k (take (n - length b) l) (below-take k (n - length b) l s))

-- ---- a list o onto which the new tags below k are pushed, after b; there is room for n

pub added_none : (p : ℕ → Bool) → keep p (up_to 0) ≡ []
unfolding keep up_to
added_none p = refl

module _ (tags : List Tag) (b : List ℕ) (n k : ℕ) (o : List ℕ) (done : o ≡ take n (b ++ keep (is_added tags b) (up_to k))) where
  more : keep (is_added tags b) (up_to (k + 1)) ≡ keep (is_added tags b) (up_to k) ++ keep (is_added tags b) (k ∷ [])
  unfolding up_to
  more = rw (add-one k) (keep_append (is_added tags b) (up_to k) (k ∷ []))

  listed : length b ≤ n → member k o ≡ member k b
  listed h = ap (member k) done ∙ member-cut k n b (keep (is_added tags b) (up_to k)) h (below-keep k (is_added tags b) (up_to k) (below_up_to k))

  pub added_yes : length b ≤ n → k < 65536 → (get_or tags k fresh_tag).added ≡ true → member k o ≡ false
      → pushed n o (k % 65536) ≡ take n (b ++ keep (is_added tags b) (up_to (k + 1)))
  unfolding keep
  added_yes h small flag new =
      let passes : is_added tags b k ≡ true = rw (flag, ← (listed h), new) in
      let one : keep (is_added tags b) (k ∷ []) ≡ k ∷ [] = ap (λ (t : Bool). cond t (k ∷ []) []) passes in
      ap (pushed n o) (mod-eq_of_lt small)
      ∙ ap (λ (r : List ℕ). pushed n r k) done
      ∙ pushed_clipped n (b ++ keep (is_added tags b) (up_to k)) k
      ∙ ap (take n) (append_assoc b (keep (is_added tags b) (up_to k)) (k ∷ []) ∙ ap (λ (r : List ℕ). b ++ r) (sym (more ∙ ap (λ (r : List ℕ). keep (is_added tags b) (up_to k) ++ r) one)))

  added_other : is_added tags b k ≡ false → o ≡ take n (b ++ keep (is_added tags b) (up_to (k + 1)))
  unfolding keep
  added_other fails =
      let none : keep (is_added tags b) (k ∷ []) ≡ [] = ap (λ (t : Bool). cond t (k ∷ []) []) fails in
      done ∙ ap (λ (r : List ℕ). take n (b ++ r)) (sym (more ∙ ap (λ (r : List ℕ). keep (is_added tags b) (up_to k) ++ r) none ∙ append-nil (keep (is_added tags b) (up_to k))))

  pub added_listed : length b ≤ n → (get_or tags k fresh_tag).added ≡ true → member k o ≡ true → o ≡ take n (b ++ keep (is_added tags b) (up_to (k + 1)))
  added_listed h flag there = added_other (rw (flag, ← (listed h), there))

  pub added_no : (get_or tags k fresh_tag).added ≡ false → o ≡ take n (b ++ keep (is_added tags b) (up_to (k + 1)))
  added_no flag = added_other (rw flag)

-- ---- settled

settled_already : (x : Tag) → x.added ≡ false → settled x ≡ x
settled_already x e = rw (← e)

-- a table T whose first i tags of l are settled: one more, where it is new and where it is not
module _ (l : List Tag) (i : ℕ) (T : List Tag) (done : T ≡ mapped settled i l) (h : i < length l) where
  settled-read : get_or T i fresh_tag ≡ get_or l i fresh_tag
  settled-read = ap (λ (r : List Tag). get_or r i fresh_tag) done ∙ mapped_read settled l i fresh_tag h

  pub settled_put : set T i (settled (get_or T i fresh_tag)) ≡ mapped settled (i + 1) l
  settled_put =
      ap (λ (x : Tag). set T i (settled x)) settled-read
      ∙ ap (λ (r : List Tag). set r i (settled (get_or l i fresh_tag))) done
      ∙ mapped_more settled l i fresh_tag h

  pub settled-kept : (get_or T i fresh_tag).added ≡ false → T ≡ mapped settled (i + 1) l
  settled-kept e =
      sym (set-get_or T i fresh_tag)
      ∙ ap (set T i) (sym (settled_already (get_or T i fresh_tag) e))
      ∙ settled_put

-- ---- whether a tag is new, looked for row by row

module _ (l : List Tag) (i : ℕ) where
  pub any_end : length l ≤ i → any_added (drop i l) ≡ false
  any_end h = ap any_added (drop_of_length-le l {i = i} h)

-- ---- none is new

none_first : (b c : Bool) → cond b true c ≡ false → b ≡ false
none_first true c e = absurd (true≢false e)
none_first false c e = refl

none_rest : (b c : Bool) → cond b true c ≡ false → c ≡ false
none_rest true c e = absurd (true≢false e)
none_rest false c e = e

none_at : (l : List Tag) (k : ℕ) → any_added l ≡ false → (get_or l k fresh_tag).added ≡ false
none_at [] k e = refl
none_at (x ∷ l) zero e = none_first x.added (any_added l) e
none_at (x ∷ l) (suc k) e = none_at l k (none_rest x.added (any_added l) e)

pub none_settled : (l : List Tag) → any_added l ≡ false → l ≡ map settled l
none_settled [] e = refl
none_settled (x ∷ l) e =
    ap (λ (y : Tag). y ∷ l) (sym (settled_already x (none_first x.added (any_added l) e)))
    ∙ ap (λ (r : List Tag). settled x ∷ r) (none_settled l (none_rest x.added (any_added l) e))

keep_none : (p : ℕ → Bool) (l : List ℕ) → ((k : ℕ) → p k ≡ false) → keep p l ≡ []
unfolding keep
keep_none p [] h = refl
keep_none p (x ∷ l) h = rw (h x) (keep_none p l h)

pub none_listed : (tags : List Tag) (b ks : List ℕ) → any_added tags ≡ false → b ≡ b ++ keep (is_added tags b) ks
none_listed tags b ks e = sym (ap (λ (r : List ℕ). b ++ r) (keep_none (is_added tags b) ks (λ k. rw (none_at tags k e))) ∙ append-nil b)
