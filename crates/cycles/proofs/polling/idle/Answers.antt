-- `cycles::polling::idle` meets its contract.
use mathlib.Core.Path.{◌≡◌}
use mathlib.Core.Bool.{true, false}
use lib.Ieee.{binary64, of_bits, round as rounded, le}
use Rattle.replies.specs.Worker.{worker}
use Rattle.replies.proofs.DoneLaws.{quiet_is}
use Rattle.cycles.specs.Polling.{polls, waiting, remaining, idle}
use Rattle.cycles.proofs.polling.idle.Goals as goal

pub returns-then-p-at : goal.returns-then-p-at
unfolding idle of_bits rounded
returns-then-p-at c B =
    let a = c.args in
    let W = worker a.e B in
    let t = a.at in
    let test : le (remaining W t) (rounded binary64 false 1 10000) ≡ true = c.if-p-at.true in
    quiet_is (polls W) (idle W t) _ B (simp test) (c.polls.ensures B)

pub returns : goal.returns
unfolding idle of_bits rounded
returns c B =
    let a = c.args in
    let W = worker a.e B in
    let t = a.at in
    let test : le (remaining W t) (rounded binary64 false 1 10000) ≡ false = c.if-p-at.false in
    quiet_is (waiting W t) (idle W t) _ B (simp test) (c.waiting.ensures B)
