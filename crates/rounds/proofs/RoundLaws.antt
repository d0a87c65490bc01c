-- The steps of a round, one after the other on the board, are the round.
use mathlib.Core.Path.{◌≡◌, refl, sym, ◌∙◌}
use mathlib.Core.Bool.{Bool, true, false, ◌&&◌, cond, true≢false}
use mathlib.Core.List.{List, [], ◌∷◌, ◌++◌, map}
use Prim.Native.Nat.{ℕ, suc, ◌+◌, ◌≤◌}
use native.Mathlib.Omega.{arith}
use borrow.Author.Tests.{eqb-true, ne_eqb}
use lib.Dec.{eqb}
use lib.Ieee.{Float, binary64, div}
use lib.ListN.{length, get_or, length-append}
use Rattle.ieee.specs.Round.{float, slices_of}
use Rattle.lists.specs.Keep.{keep}
use Rattle.lists.specs.Sort.{by_keys}
use Rattle.lists.proofs.SortLaws.{length-sort}
use Rattle.table.specs.Tag.{fresh_tag}
use Rattle.table.specs.declared.tag.Tag.{Tag}
use Rattle.board.specs.Board.{Board, with_table, with_records, with_groups, asking}
use Rattle.slices.specs.Slice.{is_tier2, tier2_tags, slice_taken, next_index}
use Rattle.slices.proofs.SliceLaws.{slice_short}
use Rattle.rounds.specs.Tick.{tick_of, boundary_at}
use Rattle.rounds.specs.Graces.{expired_at, run_out}
use Rattle.rounds.specs.Due.{is_due, due_tags, marked, recorded_due, none_seen}
use Rattle.rounds.specs.Added.{with_added_tags, settled}
use Rattle.table.specs.Table.{by_rank}
use Rattle.rounds.specs.Missing.{not_held_back}
use Rattle.rounds.specs.Round.{Round, cycle_after, round, round_of, with_polled}
use Rattle.heads.specs.declared.options.Options.{Options}
use Rattle.heads.specs.declared.cycle.Cycle.{Cycle}
use Rattle.rounds.proofs.DueLaws.{marked-part}

-- ---- how long the lists are

-- two tests that nothing passes both of
keep_apart : (p q : ℕ → Bool) → ((k : ℕ) → p k ≡ true → q k ≡ false) → (l : List ℕ) → length (keep p l) + length (keep q l) ≤ length l
unfolding keep
keep_apart p q apart [] = omega arith
keep_apart p q apart (x ∷ l) = go (p x) refl (q x) refl (keep_apart p q apart l)
  where
    go : (a : Bool) → p x ≡ a → (b : Bool) → q x ≡ b → length (keep p l) + length (keep q l) ≤ length l
        → length (cond (p x) (x ∷ keep p l) (keep p l)) + length (cond (q x) (x ∷ keep q l) (keep q l)) ≤ suc (length l)
    go true e true f ih = absurd (true≢false (sym f ∙ apart x e))
    go true e false f ih = rw (e, f) (omega arith)
    go false e true f ih = rw (e, f) (omega arith)
    go false e false f ih = rw (e, f) (omega arith)

-- the slice has tags of the order in tier 2 alone
pub taken_short : (less : ℕ → ℕ → Bool) (tags : List Tag) (order : List ℕ) (boundary : Bool) (S i : ℕ)
    → length (slice_taken boundary S (tier2_tags less tags order) i) ≤ length (keep (is_tier2 tags) order)
taken_short less tags order true S i = omega (arith, slice_short S (tier2_tags less tags order) i, length-sort less (keep (is_tier2 tags) order))
taken_short less tags order false S i = omega arith

-- The due tags and the slice are together no more than the order: the ones are in tier 1, the others in tier 2.
module _ (tags : List Tag) (order : List ℕ) (clock half cycle : Float) where
  abbrev due : List ℕ
  due = due_tags tags order clock half cycle

  abbrev read : List Tag
  read = marked tags clock due

  apart : (k : ℕ) → is_due (get_or tags k fresh_tag) clock half cycle ≡ true → is_tier2 read k ≡ false
  apart k e =
      let tier = (get_or tags k fresh_tag).tier in
      let one : tier ≡ 1 = eqb-true tier 1 (both_first (eqb tier 1) _ e) in
      ne_eqb (get_or read k fresh_tag).tier 2 (λ two. omega (arith, one, marked-part (λ (x : Tag). x.tier) clock (λ x. refl) tags due k))
    where
      both_first : (a b : Bool) → (a && b) ≡ true → a ≡ true
      both_first true b e = refl
      both_first false b e = e

  pub wanted_short : (less : ℕ → ℕ → Bool) (boundary : Bool) (S i : ℕ) → length (due ++ slice_taken boundary S (tier2_tags less read order) i) ≤ length order
  wanted_short less boundary S i =
      omega (
        arith,
        length-append due (slice_taken boundary S (tier2_tags less read order) i),
        taken_short less read order boundary S i,
        keep_apart (λ (k : ℕ). is_due (get_or tags k fresh_tag) clock half cycle) (is_tier2 read) apart order,
      )

-- ---- the steps

-- The board B at the start, and what the steps leave: the boards after the graces, the due tags and the list, and what is wanted.
module _ (B : Board) (o : Options) (c : Cycle) (clock : Float) where
  pub record Steps (tick : Float) (boundary : Bool) (B1 B2 B3 : Board) (due wanted : List ℕ) (index : ℕ) : Type 0 where
    pub ticked : tick ≡ tick_of B.table.tags B.table.order o.cycle
    pub bounded : boundary ≡ boundary_at c clock (div binary64 tick (float 2)) o.cycle
    pub expired : B1 ≡ with_table B (run_out B.table (expired_at boundary B.table.tags B.table.graces clock))
    pub listed : due ≡ due_tags B1.table.tags B1.table.order clock (div binary64 tick (float 2)) o.cycle
    pub read : B2 ≡ with_groups (with_records B1 (marked B1.table.tags clock due)) (recorded_due (marked B1.table.tags clock due) clock none_seen B1.groups due)
    pub moved : index ≡ next_index boundary (slices_of o.period o.cycle) (tier2_tags (by_keys B2.keys) B2.table.tags B2.table.order) c.index
    pub sliced : wanted ≡ due ++ slice_taken boundary (slices_of o.period o.cycle) (tier2_tags (by_keys B2.keys) B2.table.tags B2.table.order) c.index
    pub left : B3 ≡ asking (with_records B2 (map settled B2.table.tags)) (not_held_back B2.table.tags (with_added_tags B2.table.tags wanted (by_rank B2.table.tags)) clock)

  module _ {tick : Float} {boundary : Bool} {B1 B2 B3 : Board} {due wanted : List ℕ} {index : ℕ} (s : Steps tick boundary B1 B2 B3 due wanted index) where
    abbrev R : Round
    R = round_of B o c clock

    pub tick_is : tick ≡ R.tick
    unfolding round
    tick_is = s.ticked

    pub boundary_is : boundary ≡ R.boundary
    unfolding round
    boundary_is = s.bounded ∙ rw s.ticked refl

    pub index_is : cycle_after c boundary clock index ≡ R.after.cycle
    unfolding round
    index_is = rw (s.moved, s.read, s.listed, s.expired, s.bounded, s.ticked) refl

    pub board_is : B3 ≡ with_polled B R.after R.list
    unfolding round
    board_is = rw (s.left, s.sliced, s.read, s.listed, s.expired, s.bounded, s.ticked) refl
