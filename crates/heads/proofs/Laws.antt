-- Words that hold the fields of a part hold the part.
use mathlib.Core.Path.{◌≡◌, refl, ap, ◌∙◌}
use Prim.Native.Nat.{ℕ, ◌%◌}
use lib.Dec.{ltb}
use lib.Ieee.{binary64, of_bits}
use Rattle.heads.specs.Version.{version_from}
use Rattle.heads.specs.Link.{state_from, state_number, link_from}
use Rattle.heads.specs.Progress.{phase_from, phase_number, after_from, after_number, progress_from}
use Rattle.heads.specs.Stats.{round_time_from, stats_from}
use Rattle.heads.specs.declared.link.State.{State}
use Rattle.heads.specs.declared.link.State.TheVariants.{Connecting, Connected, Disconnected, Stopped}
use Rattle.heads.specs.declared.link.Link.{Link}
use Rattle.heads.specs.declared.progress.After.{After}
use Rattle.heads.specs.declared.progress.After.TheVariants.{Tail, Idle, End}
use Rattle.heads.specs.declared.progress.Phase.{Phase}
use Rattle.heads.specs.declared.progress.Phase.TheVariants.{Begin, Connect, OpenVersion, Version, Read, Describe, Write, ReadBack, Wait, Backoff, OpenFailedTold, OpenMetaTold, ConnectedTold, MetaTold, ValuesTold, InfoTold, RefusedTold, LostTold, OutcomeTold, BackTold, FailedTold, StaleTold, DisconnectedTold, ConnectingTold, Stopped as Halted}
use Rattle.heads.specs.declared.progress.Progress.{Progress}
use Rattle.heads.specs.declared.stats.Stats.{Stats}

pub state_coded : (s : State) → state_from (state_number s) ≡ s
state_coded Connecting = refl
state_coded Connected = refl
state_coded Disconnected = refl
state_coded Stopped = refl

pub after_coded : (a : After) → after_from (after_number a) ≡ a
after_coded Tail = refl
after_coded Idle = refl
after_coded End = refl

pub phase_coded : (p : Phase) → phase_from (phase_number p) ≡ p
unfolding phase_from
phase_coded Begin = refl
phase_coded Connect = refl
phase_coded OpenVersion = refl
phase_coded Version = refl
phase_coded Read = refl
phase_coded Describe = refl
phase_coded Write = refl
phase_coded ReadBack = refl
phase_coded Wait = refl
phase_coded Backoff = refl
phase_coded OpenFailedTold = refl
phase_coded OpenMetaTold = refl
phase_coded ConnectedTold = refl
phase_coded MetaTold = refl
phase_coded ValuesTold = refl
phase_coded InfoTold = refl
phase_coded RefusedTold = refl
phase_coded LostTold = refl
phase_coded OutcomeTold = refl
phase_coded BackTold = refl
phase_coded FailedTold = refl
phase_coded StaleTold = refl
phase_coded DisconnectedTold = refl
phase_coded ConnectingTold = refl
phase_coded Halted = refl

pub link_coded : (x : Link) (state stopping known number : ℕ)
    → state ≡ state_number x.state → ltb 0 stopping ≡ x.stopping → version_from known number ≡ x.version
    → link_from state stopping known number x.attempt ≡ x
link_coded x state stopping known number e1 e2 e3 = rw (ap state_from e1 ∙ state_coded x.state, e2, e3)

pub progress_coded : (x : Progress) (phase after start tick boundary tag : ℕ)
    → phase ≡ phase_number x.phase → after ≡ after_number x.after → of_bits binary64 start ≡ x.start → of_bits binary64 tick ≡ x.tick
    → ltb 0 boundary ≡ x.boundary → tag % 65536 ≡ x.tag
    → progress_from phase after start tick boundary tag ≡ x
progress_coded x phase after start tick boundary tag e1 e2 e3 e4 e5 e6 =
    rw (ap phase_from e1 ∙ phase_coded x.phase, ap after_from e2 ∙ after_coded x.after, e3, e4, e5, e6)

pub stats_coded : (x : Stats) (timed ms ts : ℕ)
    → round_time_from timed ms ts ≡ x.last
    → stats_from timed ms ts x.tags x.overruns x.reconnects x.reloads ≡ x
stats_coded x timed ms ts e = rw e
