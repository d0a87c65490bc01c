-- The results of a read-back are kept until its outcome has been taken, in a part of memory whose room document 01 does not know. They are kept whole.
use Rattle.std.specs.Prelude.{◌≡◌, List, ℕ, ◌<◌, length}
use Rattle.results.specs.Results.{result_in}
use Rattle.heads.specs.declared.progress.Phase.TheVariants.{ReadBack, OutcomeTold}
use Rattle.histories.specs.Events.{Each}
use Rattle.histories.specs.Histories.{at_each}
use Rattle.checks.specs.Creation.{Setup, creation_check}
use Rattle.capi.specs.Creation.{fresh_worker}
use Rattle.turns.specs.Calls.{Call, tier, load, steps, write, stop, look, told_by, after}
use Rattle.turns.specs.Demand.{Moment, moment}

-- Of a call on an engine, if it is a step that answers a read-back and leaves the outcome to be taken: of each tag that the results cover, the result kept is the one that came.
unfoldable pub BackWhole : Moment → Type 0
BackWhole m = go m.call
  where
    go : Call → Type 0
    go (tier clock tag to) = Unit {0}
    go (load clock list) = Unit {0}
    go (steps clock wall kind number message list out) =
        let W = (told_by clock wall kind number message list out m.engine).left in
        m.engine.head.progress.phase ≡ ReadBack → W.head.progress.phase ≡ OutcomeTold
        → (i : ℕ) → i < length W.board.asked → result_in W.board.back i ≡ result_in list i
    go (write tag kind word) = Unit {0}
    go stop = Unit {0}
    go (look l) = Unit {0}

unfoldable pub BacksWhole : Type 0
BacksWhole = (s : Setup) → creation_check s ≡ 0 → (cs : List Call) → Each (at_each after moment cs (fresh_worker s)) BackWhole
