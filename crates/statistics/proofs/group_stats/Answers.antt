-- `statistics::group_stats` meets its contract.
use mathlib.Core.Path.{refl, ap, sym, ◌∙◌}
use mathlib.Core.List.{List}
use Prim.Native.Nat.{ℕ, ◌+◌, ◌*◌}
use native.Mathlib.Omega.{arith}
use lib.ListN.{length, take, length-take}
use lib.Seq.{take_all}
use Rattle.tags.specs.Lists.{list_in}
use Rattle.settings.specs.Configured.{configured_in}
use Rattle.lent.specs.Lent.{cell_bytes, over_bytes, record_put, records}
use Rattle.lent.proofs.LentLaws.{cells_fit, cells_left}
use Rattle.statistics.specs.Numbers.{firsts, named}
use Rattle.statistics.specs.Stats.{facts, stat_cells, group_stats}
use Rattle.statistics.proofs.NumberLaws.{firsts_none, length_yes, firsts_no, firsts-part, firsts_short}
use Rattle.statistics.proofs.StatLaws.{length_stats, told-all, told_none, stats_none, stat_next}
use Rattle.statistics.proofs.group_stats.Goals as goal
use Rattle.statistics.proofs.group_stats.Goals.{else-is_first, then-is_first}

abbrev all : List ℕ → List ℕ → List ℕ
all configured recorded = named (configured_in configured) (list_in recorded)

pub returns-then-out-n : goal.returns-then-out-n
returns-then-out-n c =
    let a = c.args in
    let F = facts a.t.now a.order.now a.configured.now a.groups.now a.recorded.now in
    let long = length_stats F in
    record { value = sym (told_none F a.out.now (omega arith)); out_after = sym (cells_left a.out.now (group_stats F) (omega arith)) }

pub loop-i-init : goal.loop-i-init
loop-i-init c =
    let a = c.args in
    let F = facts a.t.now a.order.now a.configured.now a.groups.now a.recorded.now in
    let xs = all a.configured.now a.recorded.now in
    (sym (ap length (firsts_none xs)), (refl, stats_none F a.out.now xs))

pub overflow_mul-done : goal.overflow_mul-done
overflow_mul-done c =
    let a = c.args in
    omega (arith, firsts-part (all a.configured.now a.recorded.now) c.loop-i.i)

pub overflow_add-done : goal.overflow_add-done
overflow_add-done c =
    let a = c.args in
    let l = c.loop-i in
    let xs = all a.configured.now a.recorded.now in
    omega (arith, firsts_short (take l.i xs), length-take l.i xs)

pub loop-i-preserved : goal.loop-i-preserved
loop-i-preserved c =
    let a = c.args in
    let l = c.loop-i in
    let F = facts a.t.now a.order.now a.configured.now a.groups.now a.recorded.now in
    let xs = all a.configured.now a.recorded.now in
    let f = stat_cells F in
    let out = a.out.now in
    let i = l.i in
    let first = sym c.is_first.ensures in
    elim c.if-is_first.branch [
      | then-is_first w ↦ (
        w.done-is ∙ ap (λ (n : ℕ). n + 1) l.invariant.0 ∙ sym (length_yes xs i (omega arith) (first ∙ w.if-is_first.true)),
        (
          ap length w.out-is ∙ w.put_group_stat.auto.out ∙ l.invariant.1.0,
          w.out-is ∙ w.put_group_stat.ensures
              ∙ ap (λ (o : List ℕ). record_put o (5 * l.done) (f w.number_at.result)) l.invariant.1.1
              ∙ ap (λ (d : ℕ). record_put (over_bytes out (cell_bytes (records f (firsts (take i xs))))) (5 * d) (f w.number_at.result)) l.invariant.0
              ∙ ap (λ (k : ℕ). record_put (over_bytes out (cell_bytes (records f (firsts (take i xs))))) (5 * length (firsts (take i xs))) (f k)) w.number_at.ensures
              ∙ stat_next F out xs i (omega arith) (first ∙ w.if-is_first.true) (omega arith),
        ),
      )
      | else-is_first w ↦
          let same = sym (firsts_no xs i (omega arith) (first ∙ w.if-is_first.false)) in (
            w.done-is ∙ l.invariant.0 ∙ ap length same,
            (ap length w.out-is ∙ l.invariant.1.0, w.out-is ∙ l.invariant.1.1 ∙ ap (λ (ks : List ℕ). over_bytes out (cell_bytes (records f ks))) same),
          )
    ]

pub returns : goal.returns
returns c =
    let a = c.args in
    let l = c.loop-i in
    let F = facts a.t.now a.order.now a.configured.now a.groups.now a.recorded.now in
    let xs = all a.configured.now a.recorded.now in
    let out = a.out.now in
    let long = length_stats F in
    record {
      value = c.group_count-n.ensures ∙ sym (told-all F out (omega arith));
      out_after =
          l.invariant.1.1
          ∙ ap (λ (ks : List ℕ). over_bytes out (cell_bytes (records (stat_cells F) (firsts ks)))) (take_all l.i xs (omega arith))
          ∙ sym (cells_fit out (group_stats F) (omega arith));
    }
