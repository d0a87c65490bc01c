-- A round that goes by the sort keys in memory is the round by lower-cased name, where the tags in tiers and graces are tags of the directory.
use mathlib.Core.Path.{◌≡◌, refl, ap, sym, ◌∙◌}
use mathlib.Core.List.{List}
use Prim.Native.Nat.{ℕ, ◌≤◌}
use native.Mathlib.Omega.{arith}
use lib.Ieee.{Float, binary64, div}
use lib.ListN.{length}
use Rattle.ieee.specs.Round.{float}
use Rattle.lists.specs.Keep.{keep}
use Rattle.lists.specs.Sort.{sort, by_keys}
use Rattle.lists.proofs.KeepLaws.{below-keep}
use Rattle.names.specs.Keys.{key_of, by_name}
use Rattle.ranks.specs.Ranks.{keys_of}
use Rattle.ranks.proofs.Laws.{over-all, each_long, sorted_by_name}
use Rattle.table.specs.declared.tag.Tag.{Tag}
use Rattle.board.specs.Board.{Table}
use Rattle.slices.specs.Slice.{is_tier2, tier2_tags}
use Rattle.rounds.specs.Tick.{tick_of, boundary_at}
use Rattle.rounds.specs.Graces.{expired_at, run_out}
use Rattle.rounds.specs.Due.{due_tags, marked}
use Rattle.rounds.specs.Round.{Polling, round}
use Rattle.heads.specs.declared.options.Options.{Options}
use Rattle.turns.proofs.InsideLaws.{Inside, inside_run_out, expired_inside}

module _ (ns : List (List ℕ)) (small : length ns ≤ 65536) where
  -- the tier-2 tags by the keys in memory are those by lower-cased name
  pub tier2_by_name_lem : (T : Table) → Inside (length ns) T → (tags : List Tag)
      → tier2_tags (by_keys (keys_of ns)) tags T.order ≡ tier2_tags (by_name ns) tags T.order
  tier2_by_name_lem T i tags =
      let keys = keys_of ns in
      let xs = keep (is_tier2 tags) T.order in
      ap (λ (l : List ℕ). sort (by_keys l) xs) (sym (over-all keys keys refl))
      ∙ sorted_by_name keys ns (omega (arith, each_long (key_of ns) (length ns))) small xs
      (below-keep (length ns) (is_tier2 tags) T.order i.order_inside)

  -- so is the whole round
  pub round_by_name : (o : Options) (P : Polling) (clock : Float) → Inside (length ns) P.table
      → round (by_keys (keys_of ns)) o P clock ≡ round (by_name ns) o P clock
  unfolding round
  round_by_name o P clock i =
      let T = P.table in
      let half = div binary64 (tick_of T.tags T.order o.cycle) (float 2) in
      let boundary = boundary_at P.cycle clock half o.cycle in
      let ks = expired_at boundary T.tags T.graces clock in
      let T1 = run_out T ks in
      let tags = marked T1.tags clock (due_tags T1.tags T1.order clock half o.cycle) in
      rw (tier2_by_name_lem T1 (inside_run_out (length ns) T ks i (expired_inside (length ns) T i boundary clock)) tags)
