-- The room that group statistics take.
use mathlib.Core.Path.{◌≡◌, refl, ap, sym, ◌∙◌}
use mathlib.Core.Bool.{true}
use mathlib.Core.List.{List, [], map}
use Prim.Native.Nat.{ℕ, ◌+◌, ◌*◌, ◌≤◌, ◌<◌}
use native.Mathlib.Omega.{arith}
use borrow.Author.Tests.{le-leb, lt-leb}
use lib.ListN.{length, get_or, take}
use Rattle.lists.specs.Keep.{Below}
use Rattle.lists.proofs.KeepLaws.{below-append}
use Rattle.table.specs.declared.tag.GroupRate.{GroupRate}
use Rattle.lent.specs.Lent.{cell_bytes, over_bytes, wrote_all, record_put, records}
use Rattle.lent.proofs.LentLaws.{length_bytes, length-records, records_none, put_after, cells_fit}
use Rattle.statistics.specs.Numbers.{firsts, is_first, named}
use Rattle.statistics.proofs.NumberLaws.{firsts_yes, length_yes, firsts-part, firsts_few}
use Rattle.statistics.specs.Stats.{Facts, stat_cells, groups_of, group_stats, groups_told}

module _ (F : Facts) where
  pub length_stats : length (group_stats F) ≡ 5 * length (groups_of F)
  length_stats = length-records (stat_cells F) 5 (λ group. refl) (groups_of F)

  pub told-all : (out : List ℕ) → 8 * length (group_stats F) ≤ length out → groups_told out F ≡ length (groups_of F)
  unfolding groups_told
  told-all out h = rw (le-leb _ _ (let fits : length (cell_bytes (group_stats F)) ≤ length out = omega (arith, length_bytes (group_stats F)) in fits))

  pub told_none : (out : List ℕ) → length out < 8 * length (group_stats F) → groups_told out F ≡ 0
  unfolding groups_told
  told_none out h = rw (lt-leb _ _ (let over : length out < length (cell_bytes (group_stats F)) = omega (arith, length_bytes (group_stats F)) in over))

  -- where every number is below n there are at most n groups, and 40 bytes for each of n are room for all
  pub groups_few : (n : ℕ) → Below n (map (λ (x : GroupRate). x.number) F.configured) → Below n F.recorded → length (groups_of F) ≤ n
  groups_few n b r = firsts_few n (named F.configured F.recorded) (below-append n (map (λ (x : GroupRate). x.number) F.configured) F.recorded b r)

  pub told_few : (out : List ℕ) (n : ℕ) → length (groups_of F) ≤ n → 40 * n ≤ length out
      → (groups_told out F ≡ length (groups_of F)) × (wrote_all out (cell_bytes (group_stats F)) ≡ over_bytes out (cell_bytes (group_stats F)))
  told_few out n few h = (told-all out (omega (arith, length_stats)), cells_fit out (group_stats F) (omega (arith, length_stats)))

  pub stats_none : (out xs : List ℕ) → out ≡ over_bytes out (cell_bytes (records (stat_cells F) (firsts (take 0 xs))))
  unfolding firsts
  stats_none out xs = records_none (stat_cells F) out []

  -- one group more
  pub stat_next : (out xs : List ℕ) (i : ℕ) → i < length xs → is_first xs i ≡ true → 8 * (5 * length (firsts xs)) ≤ length out
      → record_put (over_bytes out (cell_bytes (records (stat_cells F) (firsts (take i xs))))) (5 * length (firsts (take i xs))) (stat_cells F (get_or xs i 0))
      ≡ over_bytes out (cell_bytes (records (stat_cells F) (firsts (take (i + 1) xs))))
  stat_next out xs i h e fits =
      put_after (stat_cells F) 5 (λ group. refl) out (firsts (take i xs)) (get_or xs i 0)
      (omega (arith, length_yes xs i h e, firsts-part xs (i + 1)))
      ∙ ap (λ (l : List ℕ). over_bytes out (cell_bytes (records (stat_cells F) l))) (sym (firsts_yes xs i h e))
