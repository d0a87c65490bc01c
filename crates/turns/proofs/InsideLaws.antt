-- The tags in tiers and in graces are tags of the directory: every tier change keeps that.
use mathlib.Core.Path.{◌≡◌, refl}
use mathlib.Core.Bool.{Bool, true, false, not, cond}
use mathlib.Core.List.{List, [], ◌∷◌, ◌++◌}
use Prim.Native.Nat.{ℕ, ◌≤◌, ◌<◌}
use native.Mathlib.Omega.{arith}
use borrow.Author.Tests.{leb-false}
use lib.Dec.{eqb, ltb, leb}
use lib.Ieee.{Float, le, add, binary64}
use lib.ListN.{length}
use Rattle.std.specs.Prelude.{Option, Some, is_some}
use Rattle.lists.specs.Keep.{Below}
use Rattle.lists.proofs.KeepLaws.{below-append, below-keep}
use Rattle.tags.specs.Lists.{pushed, member}
use Rattle.table.specs.Tag.{f0, no_grace}
use Rattle.table.specs.declared.tag.Grace.{Grace}
use Rattle.tiers.specs.Tiers.{order_set, grace_ended, put_table, set_table, grace_until, enter_grace, change_grace, set_tier}
use Rattle.board.specs.Board.{Table, tag_at}
use Rattle.rounds.specs.Graces.{has_run_out, expired_at, run_out, after_of}
use Rattle.panel.specs.Panel.{loaded, entry_check, bad_tier}

pub record Inside (n : ℕ) (T : Table) : Type 0 where
  pub order_inside : Below n T.order
  pub graces_inside : Below n T.graces

-- either of two lists
below-cond : (n : ℕ) (b : Bool) (x y : List ℕ) → Below n x → Below n y → Below n (cond b x y)
below-cond n true x y p q = p
below-cond n false x y p q = q

-- a tag put last
below-pushed : (m n k : ℕ) (l : List ℕ) → Below m l → k < m → Below m (pushed n l k)
below-pushed m n k l b h = below-cond m (ltb (length l) n) (l ++ (k ∷ [])) l (below-append m l (k ∷ []) b (h, tt)) b

-- either of two tables
either : (P : Table → Type 0) (b : Bool) (x y : Table) → P x → P y → P (cond b x y)
either P true x y p q = p
either P false x y p q = q

module _ (n : ℕ) (T : Table) (i : Inside n T) (k : ℕ) (h : k < n) where
  -- a tag put in a tier
  inside_put : (tier : ℕ) (g : Option Grace) → Inside n (put_table T k tier g)
  unfolding put_table order_set grace_ended
  inside_put tier g = record {
    order_inside =
        below-cond n (eqb (tag_at T k).tier 0) _ _
        (below-cond n (eqb tier 0) _ _ i.order_inside (below-pushed n T.room k T.order i.order_inside h))
        (below-cond n (eqb tier 0) _ _ (below-keep n (λ (x : ℕ). not (eqb k x)) T.order i.order_inside) i.order_inside);
    graces_inside = below-cond n (is_some (tag_at T k).grace) _ _ (below-keep n (λ (x : ℕ). not (eqb k x)) T.graces i.graces_inside) i.graces_inside;
  }

  -- a tag that enters a grace
  inside_enter : (deadline : Float) (after : ℕ) → Inside n (enter_grace T k deadline after)
  unfolding enter_grace put_table
  inside_enter deadline after =
      let m = inside_put 2 (Some (grace_until deadline after)) in
      record { order_inside = m.order_inside; graces_inside = below-pushed n T.room k (put_table T k 2 (Some (grace_until deadline after))).graces m.graces_inside h }

  -- a grace that changes
  inside_change : (after : ℕ) → Inside n (change_grace T k after)
  inside_change after = record { order_inside = i.order_inside; graces_inside = i.graces_inside }

  -- a tag put in a tier at once
  pub inside_set : (tier : ℕ) → Inside n (set_table T k tier)
  inside_set tier = inside_put tier no_grace

  -- a tier call of a tag of the directory
  pub inside_tier : (tier : ℕ) (grace clock : Float) → Inside n (set_tier T k tier grace clock)
  unfolding set_tier
  inside_tier tier grace clock =
      let now = inside_set tier in
      either (Inside n) (eqb tier 1) _ _ now
      (either (Inside n) (eqb tier 2) _ _ now
      (either (Inside n) (le grace f0) _ _ now
      (either (Inside n) (eqb (tag_at T k).tier 1) _ _ (inside_enter (add binary64 clock grace) tier)
      (either (Inside n) (is_some (tag_at T k).grace) _ _ (inside_change tier) now))))

-- graces that run out
pub inside_run_out : (n : ℕ) (T : Table) (ks : List ℕ) → Inside n T → Below n ks → Inside n (run_out T ks)
unfolding run_out
inside_run_out n T [] i b = i
inside_run_out n T (k ∷ ks) i b = inside_run_out n (set_table T k (after_of (tag_at T k).grace)) ks (inside_set n T i k b.0 (after_of (tag_at T k).grace)) b.1

-- the graces that have run out are among the graces
pub expired_inside : (n : ℕ) (T : Table) → Inside n T → (boundary : Bool) (clock : Float) → Below n (expired_at boundary T.tags T.graces clock)
expired_inside n T i true clock = below-keep n (has_run_out T.tags clock) T.graces i.graces_inside
expired_inside n T i false clock = tt

-- a load of tags of the directory
pub inside_loaded : (n : ℕ) (T : Table) (ks ts : List ℕ) (grace clock : Float) → Below n ks → Inside n T → Inside n (loaded T ks ts grace clock)
unfolding loaded
inside_loaded n T [] ts grace clock b i = i
inside_loaded n T (k ∷ ks) [] grace clock b i = i
inside_loaded n T (k ∷ ks) (t ∷ ts) grace clock b i = inside_loaded n (set_tier T k t grace clock) ks ts grace clock b.1 (inside_tier n T i k b.0 t grace clock)

-- Checks 53 to 55: the tags of an accepted list, as far as they have tiers, are tags of the directory
pub entries_inside : (n : ℕ) (seen ks ts : List ℕ) → length ks ≤ length ts → entry_check n seen ks ts ≡ 0 → Below n ks
unfolding entry_check
entries_inside n seen [] ts h e = tt
entries_inside n seen (k ∷ ks) [] h e = absurd (omega arith)
entries_inside n seen (k ∷ ks) (t ∷ ts) h e = go (leb n k) refl (member k seen) (bad_tier t) e (entries_inside n (seen ++ (k ∷ [])) ks ts (omega arith))
  where
    go : (a : Bool) → leb n k ≡ a → (b c : Bool) → cond a 53 (cond b 54 (cond c 55 (entry_check n (seen ++ (k ∷ [])) ks ts))) ≡ 0
        → (entry_check n (seen ++ (k ∷ [])) ks ts ≡ 0 → Below n ks) → Below n (k ∷ ks)
    go true q b c e rest = absurd (omega arith)
    go false q true c e rest = absurd (omega arith)
    go false q false true e rest = absurd (omega arith)
    go false q false false e rest = (leb-false n k q, rest e)
