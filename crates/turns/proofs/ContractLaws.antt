-- What the contract of each entry point comes to on an engine's memory: what the rules make of the call.
use mathlib.Core.Path.{◌≡◌, refl, ap, ap₂, sym, ◌∙◌}
use mathlib.Core.Bool.{Bool, true, false, cond}
use mathlib.Core.List.{List}
use Prim.Native.Nat.{ℕ}
use lib.Dec.{eqb}
use lib.ListN.{length}
use borrow.Author.Tests.{eqb-true, eqb-false, eq-eqb}
use Rattle.words.specs.Value.{value_from}
use Rattle.replies.specs.Worker.{Worker}
use Rattle.capi.specs.Memory.{IsEngine, size_check, worker_in, Called}
use Rattle.checks.specs.Calls.{tier_check, load_check, write_check}
use Rattle.capi.specs.Calls.{tiered, loaded, wrote, halted}
use Rattle.capi.specs.Looks.{is_engine, state_look, stats_look, counts_look, tag_look}
use Rattle.turns.specs.Calls.{Call, tier, load, steps, write, stop, look, look_state, look_stats, look_counts, look_groups, look_table, look_panel, look_tag, Answer, number_is, told, state_is, stats_are, counts_are, list_is, tag_is, answer, after}
use Rattle.turns.specs.EntryContracts.{Asked, Learnt}
use Rattle.turns.proofs.Said.{tier_said, load_said, write_said, stop_said, step_said, state_said, stats_said, counts_said, groups_said, table_said, panel_said, tag_said, ready_said}

-- an engine's memory
abbrev pub Fit : List ℕ → Type 0
Fit mem = IsEngine mem

-- ---- on an engine's memory

-- a call that checks: it answers what its checks come to, and leaves what it does where that is 0
pub called_is : (old new : List ℕ) (r n : ℕ) (W : Worker) → Fit old → Called old new r n W → (r ≡ n) × (worker_in new ≡ cond (eqb n 0) W (worker_in old)) × Fit new
called_is old new r n W h c = (c.code h, go (eqb n 0) refl, ap size_check c.long ∙ h)
  where
    go : (b : Bool) → eqb n 0 ≡ b → worker_in new ≡ cond b W (worker_in old)
    go true e = c.done h (eqb-true n 0 e)
    go false e = let z : n ≡ 0 → ⊥ = eqb-false n 0 e in ap worker_in (c.kept (λ q. z (sym (c.code h) ∙ q)))

-- every call can be made
pub ready : (c : Call) (mem : List ℕ) → Fit mem → Asked c mem
ready c mem f = ready_said c mem

module _ (old : List ℕ) (f : Fit old) where
  -- the test for an engine's memory is met
  is_engine_lem : is_engine old ≡ true
  is_engine_lem = eq-eqb (size_check (length old)) 0 f

  -- a call that answers a number
  numbered : (a : Answer) (new : List ℕ) (r n : ℕ) (W : Worker) → a ≡ number_is r → Called old new r n W
      → (a ≡ number_is n) × (worker_in new ≡ cond (eqb n 0) W (worker_in old)) × Fit new
  numbered a new r n W e c =
      let k = called_is old new r n W f c in
      (e ∙ ap number_is k.0, k.1, k.2)

  -- a look leaves the memory as it was
  looked : (a b : Answer) (new : List ℕ) → a ≡ b → new ≡ old → (a ≡ b) × (worker_in new ≡ worker_in old) × Fit new
  looked a b new e l = (e, ap worker_in l, ap (λ (mem : List ℕ). size_check (length mem)) l ∙ f)

-- Each call of an engine's memory answers what the rules answer, leaves the engine that they leave, and leaves an engine's memory.
pub said : (c : Call) (old : List ℕ) (a : Answer) (new : List ℕ) → Fit old → Learnt c old a new → (a ≡ answer c (worker_in old)) × (worker_in new ≡ after c (worker_in old)) × Fit new
unfolding Learnt answer after state_look stats_look counts_look tag_look
said (tier clock tag to) old a new f p =
    numbered old f a new p.0 (tier_check (worker_in old) clock tag to) (tiered (worker_in old) clock tag to) p.1 (tier_said old new clock tag to p.0 p.2)
said (load clock list) old a new f p =
    numbered old f a new p.0 (load_check (worker_in old) clock list) (loaded (worker_in old) clock list) p.1 (load_said old new clock list p.0 p.2)
said (steps clock wall kind n message list out) old a new f p =
    let c = step_said old new clock wall kind n message list out p.0 p.1 p.3 in
    (p.2 ∙ ap₂ told (c.reply_is f) (c.out_is f), c.left_is f, ap size_check c.long ∙ f)
said (write tag kind word) old a new f p =
    let v = value_from kind word in
    numbered old f a new p.0 (write_check (worker_in old) tag v) (wrote (worker_in old) tag v) p.1 (write_said old new tag kind word p.0 p.2)
said stop old a new f p = numbered old f a new p.0 0 (halted (worker_in old)) p.1 (stop_said old new p.0 p.2)
said (look look_state) old a new f p = looked old f a _ new (p.1 ∙ ap state_is (state_said old p.0 p.3 ∙ rw (is_engine_lem old f))) p.2
said (look look_stats) old a new f p = looked old f a _ new (p.1 ∙ ap stats_are (stats_said old p.0 p.3 ∙ rw (is_engine_lem old f))) p.2
said (look look_counts) old a new f p = looked old f a _ new (p.1 ∙ ap counts_are (counts_said old p.0 p.3 ∙ rw (is_engine_lem old f))) p.2
said (look (look_groups out)) old a new f p =
    let c = groups_said old out p.0 p.1 p.4 in
    looked old f a _ new (p.2 ∙ ap₂ list_is (c.0 ∙ rw (is_engine_lem old f)) (c.1 ∙ rw (is_engine_lem old f))) p.3
said (look (look_table out)) old a new f p =
    let c = table_said old out p.0 p.1 p.4 in
    looked old f a _ new (p.2 ∙ ap₂ list_is (c.0 ∙ rw (is_engine_lem old f)) (c.1 ∙ rw (is_engine_lem old f))) p.3
said (look (look_panel out)) old a new f p =
    let c = panel_said old out p.0 p.1 p.4 in
    looked old f a _ new (p.2 ∙ ap₂ list_is (c.0 ∙ rw (is_engine_lem old f)) (c.1 ∙ rw (is_engine_lem old f))) p.3
said (look (look_tag tag)) old a new f p = looked old f a _ new (p.1 ∙ ap tag_is (tag_said old tag p.0 p.3 ∙ rw (is_engine_lem old f))) p.2
