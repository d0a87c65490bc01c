-- Loading a list of tags of the directory keeps the table listed, and every tag in grace in tier 2.
use mathlib.Core.Path.{◌≡◌}
use mathlib.Core.Bool.{Bool, true, false, cond}
use mathlib.Core.List.{List, [], ◌∷◌}
use Prim.Native.Nat.{ℕ, ◌<◌}
use lib.Dec.{eqb}
use lib.Ieee.{Float, le, add, binary64}
use lib.ListN.{length, length-set}
use Rattle.std.specs.Prelude.{Some, is_some}
use Rattle.lists.specs.Keep.{Below}
use Rattle.table.specs.Tag.{f0}
use Rattle.table.specs.Table.{with_after}
use Rattle.tiers.specs.Tiers.{grace_until, enter_grace, change_grace, set_tier}
use Rattle.board.specs.Board.{Table, tag_at}
use Rattle.tiers.specs.Listed.{Listed}
use Rattle.tiers.proofs.ListedLaws.{put_long, set_long, listed_tier}
use Rattle.panel.specs.Panel.{loaded, Graced}
use Rattle.panel.proofs.GraceLaws.{graced_tier}

either : (n : ℕ) (b : Bool) (x y : Table) → length x.tags ≡ n → length y.tags ≡ n → length (cond b x y).tags ≡ n
either n true x y p q = p
either n false x y p q = q

module _ (T : Table) (l : Listed T) (k : ℕ) (h : k < length T.tags) where
  long_enter : (deadline : Float) (after : ℕ) → length (enter_grace T k deadline after).tags ≡ length T.tags
  unfolding enter_grace
  long_enter deadline after = put_long T l k h 2 (Some (grace_until deadline after))

  long_change : (after : ℕ) → length (change_grace T k after).tags ≡ length T.tags
  long_change after = length-set T.tags k (with_after (tag_at T k) after)

  -- Rule 5: a tier call keeps the number of tags.
  pub long_tier : (tier : ℕ) (grace clock : Float) → length (set_tier T k tier grace clock).tags ≡ length T.tags
  unfolding set_tier
  long_tier tier grace clock =
      let n = length T.tags in
      let now = set_long T l k h tier in
      either n (eqb tier 1) _ _ now
      (either n (eqb tier 2) _ _ now
      (either n (le grace f0) _ _ now
      (either n (eqb (tag_at T k).tier 1) _ _ (long_enter (add binary64 clock grace) tier)
      (either n (is_some (tag_at T k).grace) _ _ (long_change tier) now))))

-- Rule 11: the table after loading
pub loaded-listed : (T : Table) (ks ts : List ℕ) (grace clock : Float) → Below (length T.tags) ks → Listed T → Listed (loaded T ks ts grace clock)
unfolding loaded
loaded-listed T [] ts grace clock b l = l
loaded-listed T (k ∷ ks) [] grace clock b l = l
loaded-listed T (k ∷ ks) (t ∷ ts) grace clock b l =
    loaded-listed (set_tier T k t grace clock) ks ts grace clock (rw (long_tier T l k b.0 t grace clock) b.1) (listed_tier T l k b.0 t grace clock)

pub loaded_graced : (T : Table) (ks ts : List ℕ) (grace clock : Float) → Below (length T.tags) ks → Listed T → Graced T → Graced (loaded T ks ts grace clock)
unfolding loaded
loaded_graced T [] ts grace clock b l g = g
loaded_graced T (k ∷ ks) [] grace clock b l g = g
loaded_graced T (k ∷ ks) (t ∷ ts) grace clock b l g =
    loaded_graced
    (set_tier T k t grace clock)
    ks
    ts
    grace
    clock
    (rw (long_tier T l k b.0 t grace clock) b.1)
    (listed_tier T l k b.0 t grace clock)
    (graced_tier T g k b.0 t grace clock)
