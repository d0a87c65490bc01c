use mathlib.Core.Path.{◌≡◌}
use mathlib.Core.Bool.{true, false}
use mir.Val.{SFits}
use mir.Syntax.{w64}
use mir.Facts.{to_z-of_z}
use lib.Ieee.{lt, of_bits, of_int}
use borrow.Author.Rules.{rules}
use Rattle.heads.specs.Stats.{tail_stats}
use Rattle.heads.proofs.stats.tail_stats.Goals as goal
use Rattle.heads.proofs.stats.tail_stats.Goals.{then-elapsed-tick, else-elapsed-tick}

pub returns : goal.returns
unfolding tail_stats of_bits of_int
returns c =
    let a = c.args in
    let fit : SFits w64 a.t = search rules in
    elim c.if-elapsed-tick.branch [
      | then-elapsed-tick w ↦
          let longer : lt a.tick a.elapsed ≡ true = w.if-elapsed-tick.true in
          simp (to_z-of_z fit, w.overruns-is, w.more-overruns.ensures, longer, c.round1.ensures)
      | else-elapsed-tick w ↦
          let no_longer : lt a.tick a.elapsed ≡ false = w.if-elapsed-tick.false in
          simp (to_z-of_z fit, w.overruns-is, no_longer, c.round1.ensures)
    ]
