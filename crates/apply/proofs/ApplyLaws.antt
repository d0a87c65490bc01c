-- The steps in which a reading is applied, one after the other.
use mathlib.Core.Path.{◌≡◌, refl, ap, sym, ◌∙◌}
use mathlib.Core.Bool.{Bool, true, false, not, ◌&&◌}
use mathlib.Core.List.{List, [], ◌∷◌}
use Prim.Native.Nat.{ℕ, zero, suc, ◌<◌}
use native.Mathlib.Omega.{arith}
use lib.Dec.{eqb}
use lib.IntN.{ℤ}
use lib.Ieee.{Float}
use lib.ListN.{length, get_or, set}
use lib.Seq.{get_or-set_same}
use Rattle.std.specs.Prelude.{Option, None}
use Rattle.values.specs.Entry.{TagResult, merged}
use Rattle.values.specs.declared.entry.Quality.{Quality}
use Rattle.values.specs.declared.entry.Entry.{Entry}
use Rattle.table.specs.Tag.{fresh_tag}
use Rattle.table.specs.Table.{with_mark}
use Rattle.table.specs.declared.tag.Tag.{Tag}
use Rattle.table.proofs.RowLaws.{set_again}
use Rattle.apply.specs.Apply.{is_same_as, timing_read, is_stopped, is_entry_sent, held_put, tag_read, applied_at, sent_at}
use Rattle.apply.specs.Steps.{marked, cached_over, is_withheld_from, published_over, Repeated}

-- past the end no tag has a tier
tiered_in : (tags : List Tag) (k : ℕ) → eqb (get_or tags k fresh_tag).tier 0 ≡ false → k < length tags
tiered_in [] k e = absurd (let z : ◌≡◌ {A = Bool} true false = e in let y : ◌≡◌ {A = ℕ} 0 1 = cc in omega arith)
tiered_in (x ∷ tags) zero e = omega arith
tiered_in (x ∷ tags) (suc k) e = let h : k < length tags = tiered_in tags k e in omega arith

pub known_on : (polled known : Bool) → polled ≡ false → polled && known ≡ false
known_on polled known e = rw e

pub new_on : (polled known : Bool) → known ≡ false → polled && known ≡ false
new_on true known e = e
new_on false known e = refl

-- ---- one tag

module _ (x : Tag) (e : Entry) (start : Float) (polled : Bool) where
  -- a reading that stops
  stopped_tag : polled ≡ true → is_same_as x.cached e ≡ true → cached_over x.cached (marked x e.quality start) e ≡ tag_read x e start polled
  unfolding cached_over tag_read is_entry_sent
  stopped_tag p s = rw (p, s)

  stopped_sent : polled ≡ true → is_same_as x.cached e ≡ true → is_entry_sent x e polled ≡ false
  unfolding is_entry_sent
  stopped_sent p s = rw (p, s)

  -- one that goes on
  on_sent : is_stopped polled x.cached e ≡ false → not (is_withheld_from (cached_over x.cached (marked x e.quality start) e) e polled) ≡ is_entry_sent x e polled
  unfolding cached_over is_entry_sent
  on_sent n = rw n (go (is_same_as x.cached e) refl)
    where
      go : (b : Bool) → is_same_as x.cached e ≡ b → not (is_withheld_from (cached_over x.cached (marked x e.quality start) e) e polled) ≡ not (is_withheld_from x e polled)
      go true s = rw s
      go false s = rw s

  on_tag : is_stopped polled x.cached e ≡ false → published_over (cached_over x.cached (marked x e.quality start) e) e polled ≡ tag_read x e start polled
  unfolding cached_over published_over tag_read is_entry_sent
  on_tag n = rw n (go (is_same_as x.cached e) refl (is_withheld_from x e polled) refl)
    where
      go : (b : Bool) → is_same_as x.cached e ≡ b → (d : Bool) → is_withheld_from x e polled ≡ d → published_over (cached_over x.cached (marked x e.quality start) e) e polled ≡ record {
        tier = x.tier;
        grace = x.grace;
        timing = timing_read x.timing e.quality start;
        added = x.added;
        wants = x.wants;
        description = x.description;
        settings = x.settings;
        cached = held_put (not (is_same_as x.cached e)) x.cached e;
        published = held_put (not (is_withheld_from x e polled)) x.published e;
      }
      go true s true d = rw (s, d)
      go true s false d = rw (s, d)
      go false s true d = rw (s, d)
      go false s false d = rw (s, d)

-- ---- the table

module _ (tags : List Tag) (k : ℕ) (r : TagResult) (start : Float) (t : ℤ) (polled : Bool) (tiered : eqb (get_or tags k fresh_tag).tier 0 ≡ false) where
  -- `old` is the cached entry, and `one` and `two` are the table once the tag is marked and the entry e is cached
  module _ (old : Option Entry) (e : Entry) (one two : List Tag)
      (cached : old ≡ (get_or tags k fresh_tag).cached)
      (read : e ≡ merged (get_or tags k fresh_tag).cached r t)
      (mark : one ≡ set tags k (marked (get_or tags k fresh_tag) e.quality start))
      (cache : two ≡ set one k (cached_over old (get_or one k fresh_tag) e)) where
    made : Tag
    made = cached_over (get_or tags k fresh_tag).cached (marked (get_or tags k fresh_tag) e.quality start) e

    after : two ≡ set tags k made
    unfolding made
    after =
        cache
        ∙ ap (λ (h : Option Entry). set one k (cached_over h (get_or one k fresh_tag) e)) cached
        ∙ ap (λ (l : List Tag). set l k (cached_over (get_or tags k fresh_tag).cached (get_or l k fresh_tag) e)) mark
        ∙ set_again (λ (y : Tag). cached_over (get_or tags k fresh_tag).cached y e) tags k (marked (get_or tags k fresh_tag) e.quality start) fresh_tag

    pub applied_stopped : polled ≡ true → is_same_as old e ≡ true → (two ≡ applied_at tags k r start t polled) × (false ≡ sent_at tags k r t polled)
    unfolding applied_at sent_at made
    applied_stopped p s =
        let x = get_or tags k fresh_tag in
        let known : is_same_as x.cached e ≡ true = ap (λ (h : Option Entry). is_same_as h e) (sym cached) ∙ s in (
          rw tiered (after ∙ ap (set tags k) (stopped_tag x e start polled p known ∙ ap (λ (e : Entry). tag_read x e start polled) read)),
          rw tiered (sym (stopped_sent x e start polled p known) ∙ ap (λ (e : Entry). is_entry_sent x e polled) read),
        )

    pub applied_on : (three : List Tag) (sent : Bool)
        → is_stopped polled old e ≡ false
        → three ≡ set two k (published_over (get_or two k fresh_tag) e polled)
        → sent ≡ not (is_withheld_from (get_or two k fresh_tag) e polled)
        → (three ≡ applied_at tags k r start t polled) × (sent ≡ sent_at tags k r t polled)
    unfolding applied_at sent_at made
    applied_on three sent n publish told =
        let x = get_or tags k fresh_tag in
        let on : is_stopped polled x.cached e ≡ false = ap (λ (h : Option Entry). is_stopped polled h e) (sym cached) ∙ n in
        let here : get_or two k fresh_tag ≡ made = ap (λ (l : List Tag). get_or l k fresh_tag) after ∙ get_or-set_same tags k made fresh_tag (tiered_in tags k tiered) in (
          rw tiered (
              publish
              ∙ ap (λ (l : List Tag). set l k (published_over (get_or l k fresh_tag) e polled)) after
              ∙ set_again (λ (y : Tag). published_over y e polled) tags k made fresh_tag
              ∙ ap (set tags k) (on_tag x e start polled on ∙ ap (λ (e : Entry). tag_read x e start polled) read)
              ),
          rw tiered (
              told
              ∙ ap (λ (y : Tag). not (is_withheld_from y e polled)) here
              ∙ on_sent x e start polled on
              ∙ ap (λ (e : Entry). is_entry_sent x e polled) read
              ),
        )

-- a polled reading that comes again only clears the mark
pub applied_again : (tags : List Tag) (k : ℕ) (r : TagResult) (start : Float) (t : ℤ) (polled : Bool)
    → polled ≡ true
    → Repeated (get_or tags k fresh_tag) r
    → (set tags k (with_mark (get_or tags k fresh_tag) None) ≡ applied_at tags k r start t polled) × (false ≡ sent_at tags k r t polled)
unfolding applied_at sent_at timing_read cached_over
applied_again tags k r start t polled p again =
    let x = get_or tags k fresh_tag in
    let e = merged x.cached r t in
    let clear : with_mark x None ≡ marked x e.quality start = ap (λ (q : Quality). marked x q start) (sym (again.good t)) in
    let same : marked x e.quality start ≡ cached_over x.cached (marked x e.quality start) e = rw (again.known t) in (
      rw again.tiered (ap (set tags k) (clear ∙ same ∙ stopped_tag x e start polled p (again.known t))),
      rw again.tiered (sym (stopped_sent x e start polled p (again.known t))),
    )
