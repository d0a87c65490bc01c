-- `cycles::polling::tail` meets its contract.
use mathlib.Core.Path.{◌≡◌, ap, ◌∙◌}
use mathlib.Core.Bool.{true, false}
use lib.Ieee.{le}
use mir.Val.{SFits}
use mir.Syntax.{w64}
use mir.Facts.{to_z-of_z}
use Rattle.heads.specs.Stats.{tail_stats}
use Rattle.engine.specs.Engine.{with_stats}
use Rattle.replies.specs.Worker.{worker}
use Rattle.replies.proofs.DoneLaws.{quiet_is}
use Rattle.cycles.specs.Polling.{polls, elapsed, idle, tail}
use borrow.Author.Rules.{rules}
use Rattle.cycles.proofs.polling.tail.Goals as goal

pub returns-then-elapsed-p : goal.returns-then-elapsed-p
unfolding tail idle
returns-then-elapsed-p c B =
    let a = c.args in
    let W = worker a.e B in
    let t = a.at in
    let stats = tail_stats a.e.stats (elapsed W t) a.e.progress.tick a.at.wall in
    let fit : SFits w64 a.at.wall = search rules in
    let next : c.with_stats-next.result ≡ with_stats a.e stats =
    c.with_stats-next.ensures
    ∙ ap (with_stats a.e) (c.tail_stats.ensures ∙ ap (tail_stats a.e.stats (elapsed W t) a.e.progress.tick) (to_z-of_z fit)) in
    let test : le (elapsed W t) a.e.progress.tick ≡ true = c.if-elapsed-p.true in
    quiet_is (idle (worker c.with_stats-next.result B) t) (tail W t) _ B (simp (next, test)) (c.idle.ensures B)

pub returns : goal.returns
unfolding tail
returns c B =
    let a = c.args in
    let W = worker a.e B in
    let t = a.at in
    let stats = tail_stats a.e.stats (elapsed W t) a.e.progress.tick a.at.wall in
    let fit : SFits w64 a.at.wall = search rules in
    let next : c.with_stats-next.result ≡ with_stats a.e stats =
    c.with_stats-next.ensures
    ∙ ap (with_stats a.e) (c.tail_stats.ensures ∙ ap (tail_stats a.e.stats (elapsed W t) a.e.progress.tick) (to_z-of_z fit)) in
    let test : le (elapsed W t) a.e.progress.tick ≡ false = c.if-elapsed-p.false in
    quiet_is (polls (worker c.with_stats-next.result B)) (tail W t) _ B (simp (next, test)) (c.polls.ensures B)
