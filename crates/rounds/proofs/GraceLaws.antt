-- Graces that run out, one tag at a time.
use mathlib.Core.Path.{◌≡◌, refl, ap, ◌∙◌}
use mathlib.Core.Bool.{Bool, true, false}
use mathlib.Core.List.{List, [], ◌∷◌}
use Prim.Native.Nat.{ℕ, ◌+◌, ◌≤◌, ◌<◌}
use native.Mathlib.Numerals.{add-one}
use lib.ListN.{length, get_or, drop, drop_of_length-le}
use lib.Ieee.{Float}
use lib.Seq.{drop-cons}
use Rattle.lists.specs.Keep.{Below}
use Rattle.lists.proofs.KeepLaws.{below-keep}
use Rattle.tiers.specs.Tiers.{set_table}
use Rattle.board.specs.Board.{Table, tag_at}
use Rattle.tiers.specs.Listed.{Listed}
use Rattle.tiers.proofs.ListedLaws.{listed-set, set_long}
use Rattle.rounds.specs.Graces.{has_run_out, expired_at, run_out, after_of}

pub run_none : (T : Table) → run_out T [] ≡ T
unfolding run_out
run_none T = refl

module _ (T : Table) (l : List ℕ) (i : ℕ) where
  pub run_more : (k : ℕ) → i < length l → k ≡ get_or l i 0 → run_out T (drop i l) ≡ run_out (set_table T k (after_of (tag_at T k).grace)) (drop (i + 1) l)
  unfolding run_out
  run_more k h e = rw (add-one i, drop-cons l i 0 h, ← e)

  pub run_end : length l ≤ i → run_out T (drop i l) ≡ T
  unfolding run_out
  run_end h = ap (run_out T) (drop_of_length-le l {i = i} h)

-- ---- the table stays listed

pub listed_run_out : (T : Table) (ks : List ℕ) → Listed T → Below (length T.tags) ks → Listed (run_out T ks)
unfolding run_out
listed_run_out T [] l b = l
listed_run_out T (k ∷ ks) l b =
    let after = (after_of (tag_at T k).grace) in
    listed_run_out (set_table T k after) ks (listed-set T l k after b.0) (rw (set_long T l k b.0 after) b.1)

pub run_out_long : (T : Table) (ks : List ℕ) → Listed T → Below (length T.tags) ks → length (run_out T ks).tags ≡ length T.tags
unfolding run_out
run_out_long T [] l b = refl
run_out_long T (k ∷ ks) l b =
    let after = (after_of (tag_at T k).grace) in
    run_out_long (set_table T k after) ks (listed-set T l k after b.0) (rw (set_long T l k b.0 after) b.1) ∙ set_long T l k b.0 after

pub expired-below : (T : Table) → Listed T → (boundary : Bool) (clock : Float) → Below (length T.tags) (expired_at boundary T.tags T.graces clock)
expired-below T l true clock = below-keep (length T.tags) (has_run_out T.tags clock) T.graces l.graced
expired-below T l false clock = tt
