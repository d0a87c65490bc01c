-- The tick, one tag at a time.
use mathlib.Core.Path.{◌≡◌, ap}
use mathlib.Core.Bool.{Bool, cond}
use mathlib.Core.List.{List}
use Prim.Native.Nat.{ℕ, suc, ◌+◌, ◌≤◌, ◌<◌}
use native.Mathlib.Numerals.{add-one}
use lib.Dec.{eqb}
use lib.Ieee.{Float}
use lib.ListN.{length, get_or, drop, drop_of_length-le}
use lib.Seq.{drop-cons}
use Rattle.ieee.specs.Times.{least}
use Rattle.table.specs.Tag.{fresh_tag}
use Rattle.table.specs.declared.tag.Tag.{Tag}
use Rattle.rounds.specs.Tick.{rate_of, least_rate}

module _ (tags : List Tag) (cycle tick : Float) (l : List ℕ) (i : ℕ) where
  pub rate_more : (k : ℕ) (b : Bool) → i < length l → k ≡ get_or l i 0 → eqb (get_or tags k fresh_tag).tier 1 ≡ b
      → least_rate tags cycle tick (drop i l) ≡ least_rate tags cycle (cond b (least tick (rate_of (get_or tags k fresh_tag).settings cycle)) tick) (drop (i + 1) l)
  unfolding least_rate
  rate_more k b h e f =
      rw (add-one i, drop-cons l i 0 h, ← e)
      (ap (λ (q : Bool). least_rate tags cycle (cond q (least tick (rate_of (get_or tags k fresh_tag).settings cycle)) tick) (drop (suc i) l)) f)

  pub rate_end : length l ≤ i → least_rate tags cycle tick (drop i l) ≡ tick
  unfolding least_rate
  rate_end h = ap (least_rate tags cycle tick) (drop_of_length-le l {i = i} h)
