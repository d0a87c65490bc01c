-- The last configured rate, one group at a time.
use mathlib.Core.Path.{◌≡◌, ap}
use mathlib.Core.Bool.{Bool, cond}
use mathlib.Core.List.{List}
use Prim.Native.Nat.{ℕ, suc, ◌+◌, ◌≤◌, ◌<◌}
use native.Mathlib.Numerals.{add-one}
use lib.Dec.{eqb}
use lib.ListN.{length, get_or, drop, drop_of_length-le}
use lib.Seq.{drop-cons}
use Rattle.settings.specs.Configured.{no_group}
use Rattle.table.specs.declared.tag.GroupRate.{GroupRate}
use Rattle.statistics.specs.Rate.{last_rate_from}

module _ (rate : ℕ) (l : List GroupRate) (group i : ℕ) where
  pub rate_more : (x : GroupRate) (b : Bool) → i < length l → x ≡ get_or l i no_group → eqb x.number group ≡ b
      → last_rate_from rate (drop i l) group ≡ last_rate_from (cond b x.rate rate) (drop (i + 1) l) group
  unfolding last_rate_from
  rate_more x b h e f =
      rw (add-one i, drop-cons l i no_group h, ← e) (ap (λ (q : Bool). last_rate_from (cond q x.rate rate) (drop (suc i) l) group) f)

  pub rate_end : length l ≤ i → last_rate_from rate (drop i l) group ≡ rate
  unfolding last_rate_from
  rate_end h = ap (λ (r : List GroupRate). last_rate_from rate r group) (drop_of_length-le l {i = i} h)
