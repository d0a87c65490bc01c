-- `stale::stale_held` meets its contract.
use mir.Facts.{to_z-of_z}
use mir.Syntax.{w64}
use mir.Val.{SFits}
use borrow.Author.Rules.{rules}
use Rattle.stale.proofs.stale_held.Goals as goal

pub returns-in-Some : goal.returns-in-Some
returns-in-Some c =
    let fit : SFits w64 c.in-Some.e.t = search rules in
    simp (c.in-Some.is, to_z-of_z fit)
