-- The slice of each boundary round is one of the tier-2 tags by lower-cased name, ties in table order.
use mathlib.Core.Path.{◌≡◌, ap, sym, ◌∙◌, subst}
use mathlib.Core.Bool.{true}
use mathlib.Core.List.{List}
use mathlib.Core.Option.{Option}
use Prim.Native.Nat.{ℕ, ◌≤◌}
use native.Mathlib.Omega.{arith}
use lib.ListN.{length}
use Rattle.lists.specs.Slices.{slice}
use Rattle.lists.specs.Sort.{by_keys}
use Rattle.ieee.specs.Round.{slices_of}
use Rattle.names.specs.Directory.{names_of, max_names}
use Rattle.slices.specs.Slice.{tier2_tags}
use Rattle.rounds.specs.Round.{Round}
use Rattle.heads.specs.declared.options.Options.{Options}
use Rattle.replies.specs.declared.at.At.{At}
use Rattle.replies.specs.Worker.{Worker, Told, at}
use Rattle.cycles.specs.Polling.{round_at}
use Rattle.step_checks.specs.Awaited.{Answer}
use Rattle.worker.specs.Steps.{clocked, stepped, step}
use Rattle.capi.specs.Calls.{answer_of}
use Rattle.checks.specs.Creation.{Setup}
use Rattle.turns.specs.Calls.{Call, tier, load, steps, write, stop, look}
use Rattle.turns.specs.Demand.{round_in, tier2_by_name, TookByName, moment, ByName}
use Rattle.turns.proofs.RoundLaws.{tier2_left, at_boundary}
use Rattle.turns.proofs.NameLaws.{tier2_by_name_lem}
use Rattle.turns.proofs.StepLaws.{Did, nothing, one_round, did_stepped, step_cases}
use Rattle.turns.proofs.KeepLaws.{index_kept}
use Rattle.turns.proofs.SoundLaws.{Sound, index_of, sound_kept, less, P, round_inside, sound_clocked}

module _ (o : Options) (ns : List (List ℕ)) (few : length ns ≤ max_names) where
  abbrev S : ℕ
  S = slices_of o.period o.cycle

  -- the tier-2 tags that a round goes by
  tier2_named : (M : Worker) (at : At) (s : Sound o ns M) → (round_at M at).tier2 ≡ tier2_by_name ns (round_at M at).after.table
  tier2_named M at s =
      let T = (round_at M at).after.table in
      sym (tier2_left (less o ns M at s) M.head.options (P o ns M at s) at.clock)
      ∙ ap (λ (ks : List ℕ). tier2_tags (by_keys ks) T.tags T.order) s.keys_same
      ∙ tier2_by_name_lem ns (omega arith) T (rw (← s.count_same) (round_inside o ns M at s)) T.tags

  -- a round, if there was one
  did_by_name : (N : Worker) (at : At) (T : Told) → Sound o ns N → Did N at T → TookByName ns S T.round (index_of N)
  unfolding TookByName
  did_by_name N at T s (nothing x) = subst (λ (r : Option Round). TookByName ns S r (index_of N)) (sym x.no_round) tt
  did_by_name N at T s (one_round M k e l) = subst (λ (r : Option Round). TookByName ns S r (index_of N)) (sym e) (λ b. slice-named b)
    where
      sm : Sound o ns M
      sm = sound_kept N M k o ns s

      slice-named : (round_at M at).boundary ≡ true → (round_at M at).slice ≡ slice S (tier2_by_name ns (round_at M at).after.table) (index_of N)
      slice-named b =
          (at_boundary (less o ns M at sm) M.head.options (P o ns M at sm) at.clock b).0
          ∙ ap (λ (x : Options). slice (slices_of x.period x.cycle) (round_at M at).tier2 (index_of M)) sm.options_same
          ∙ ap (λ (l : List ℕ). slice S l (index_of M)) (tier2_named M at sm)
          ∙ ap (slice S (tier2_by_name ns (round_at M at).after.table)) (index_kept N M k)

  -- a step
  took_by_name : (W : Worker) (at : At) (a : Answer) (out : ℕ) → Sound o ns W → TookByName ns S (step W at a out).round (index_of W)
  unfolding TookByName
  took_by_name W at a out s =
      step_cases W at a out (λ (T : Told). TookByName ns S T.round (index_of W)) (λ n. tt)
      (λ c. did_by_name (clocked W at) at (stepped W at a) (sound_clocked o ns W at a c s) (did_stepped at W a c.awaits c.holds))

-- every call
pub by_name_lem : (s : Setup) → length (names_of s.names s.ends) ≤ max_names → (c : Call) (W : Worker) → Sound s.options (names_of s.names s.ends) W → ByName s (moment c W)
unfolding round_in TookByName
by_name_lem s few (tier clock tag to) W v = tt
by_name_lem s few (load clock list) W v = tt
by_name_lem s few (steps clock wall kind number message list out) W v =
    took_by_name s.options (names_of s.names s.ends) few W (at clock wall) (answer_of kind number message list) (length out) v
by_name_lem s few (write tag kind word) W v = tt
by_name_lem s few stop W v = tt
by_name_lem s few (look l) W v = tt
