-- Rule 9: a step needs no second round at its clock reading. (The definition of a step says what would be done if one were needed: `lastly` in `Polling` of `cycles`.)
use Rattle.std.specs.Prelude.{◌≡◌, cond, length}
use Rattle.replies.specs.declared.at.At.{At}
use Rattle.replies.specs.Worker.{Worker, Told, at, goes_on}
use Rattle.cycles.specs.Polling.{poll}
use Rattle.step_checks.specs.Awaited.{Answer, step_check}
use Rattle.worker.specs.Steps.{handled, clocked, stepped}
use Rattle.capi.specs.Calls.{answer_of}
use Rattle.turns.specs.Calls.{Call, tier, load, steps, write, stop, look}
use Rattle.turns.specs.Demand.{Moment}

-- what the answer comes to
abbrev pub answered_to : Worker → At → Answer → Told
answered_to W at a = handled W.head.progress.phase (clocked W at) at a

-- An accepted step with one round at most: where nothing is told yet a round is worked out, and what that comes to is told.
abbrev pub stepped_once : Worker → At → Answer → Told
stepped_once W at a = cond (goes_on (answered_to W at a)) (poll (answered_to W at a).left at) (answered_to W at a)

-- a step is that
abbrev pub OnceAt : Worker → At → Answer → Type 0
OnceAt W at a = stepped W at a ≡ stepped_once W at a

-- Of a call on an engine: if it is a step, and accepted, it is that.
unfoldable pub Once : Moment → Type 0
Once m = go m.call
  where
    go : Call → Type 0
    go (tier clock tag to) = Unit {0}
    go (load clock list) = Unit {0}
    go (steps clock wall kind number message list out) =
        step_check m.engine (at clock wall) (answer_of kind number message list) (length out) ≡ 0 → OnceAt m.engine (at clock wall) (answer_of kind number message list)
    go (write tag kind word) = Unit {0}
    go stop = Unit {0}
    go (look l) = Unit {0}
