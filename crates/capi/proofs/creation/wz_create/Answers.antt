-- `capi::creation::wz_create` meets its contract.
use mathlib.Core.Path.{refl, ap, ap₂, sym, ◌∙◌}
use mathlib.Core.List.{List}
use Prim.Native.Nat.{ℕ}
use Rattle.heads.specs.declared.options.Options.{Options}
use native.Mathlib.Omega.{arith}
use lib.ListN.{length}
use borrow.Author.Tests.{eqb-false}
use Rattle.refusals.specs.Refusals.{number}
use Rattle.refusals.proofs.Laws.{not_zero}
use Rattle.replies.specs.Worker.{Worker, worker}
use Rattle.checks.specs.Creation.{Setup}
use Rattle.capi.specs.Memory.{size_check}
use Rattle.capi.proofs.Laws.{size-right}
use Rattle.capi.proofs.CallLaws.{no_names, many_names, other_size, not_made, is_made, all-configured}
use borrow.Author.Rules.{rules}
use Rattle.capi.proofs.creation.wz_create.Goals as goal
use Rattle.capi.proofs.creation.wz_create.Goals.{then-count-eq0-via-then-count-eq0, then-count-eq0-via-else-count-eq0+then-count-gt-MAX_NAMES}

abbrev setup : List ℕ → List ℕ → Options → List ℕ → List ℕ → Setup
setup names ends options settings groups = record { names = names; ends = ends; options = options; settings = settings; groups = groups }

pub returns-then-count-eq0 : goal.returns-then-count-eq0
returns-then-count-eq0 c =
    let s = setup c.args.names.now c.args.ends.now c.args.options c.args.settings.now c.args.groups.now in
    rw c.number.ensures
    (elim c.then-count-eq0.branch [
      | then-count-eq0-via-then-count-eq0 w ↦ no_names s c.args.mem.now w.if-count-eq0.true
      | then-count-eq0-via-else-count-eq0+then-count-gt-MAX_NAMES w ↦ many_names s c.args.mem.now w.if-count-eq0.false (omega arith)
    ])

pub returns-then-mem-memory_size : goal.returns-then-mem-memory_size
returns-then-mem-memory_size c =
    rw c.number-then-mem-memory_size.ensures
    (other_size (setup c.args.names.now c.args.ends.now c.args.options c.args.settings.now c.args.groups.now) c.args.mem.now c.if-count-eq0.false (omega arith) (λ e. c.if-mem-memory_size.true (e ∙ sym c.memory_size.ensures)))

pub returns-in-Err : goal.returns-in-Err
returns-in-Err c =
    let refusal = c.in-Err.refusal in
    rw c.number-in-Err.ensures
    (not_made (setup c.args.names.now c.args.ends.now c.args.options c.args.settings.now c.args.groups.now) c.args.mem.now c.if-count-eq0.false (omega arith) (number refusal)
    (c.if-mem-memory_size.false ∙ c.memory_size.ensures) c.in-Err.ensures (eqb-false (number refusal) 0 (not_zero refusal)))

pub create-requires : goal.create-requires
create-requires c = record { mem_len = c.if-mem-memory_size.false ∙ c.memory_size.ensures; in_bounds = omega (arith, c.if-count-eq0.false); ends_len_bound = omega arith }

pub put_head-requires : goal.put_head-requires
put_head-requires c =
    ap size_check (c.create.auto.mem ∙ (c.if-mem-memory_size.false ∙ c.memory_size.ensures))
    ∙ size-right (length c.args.ends.now) (omega (arith, c.if-count-eq0.false)) (omega arith)

pub returns : goal.returns
returns c =
    is_made (setup c.args.names.now c.args.ends.now c.args.options c.args.settings.now c.args.groups.now) c.args.mem.now c.if-count-eq0.false (omega arith) 0
    (c.if-mem-memory_size.false ∙ c.memory_size.ensures) c.in_default.ensures _ refl
    (c.put_head.ensures ∙ ap₂ {C = Worker} worker c.fresh.ensures (c.create.ensures ∙ all-configured (setup c.args.names.now c.args.ends.now c.args.options c.args.settings.now c.args.groups.now) (sym c.in_default.ensures)))
    (search rules)
