use Rattle.std.proofs.Common.{refl, ap, length, arith}
use Rattle.memory.specs.Cells.{cells_in}
use Rattle.changes.specs.Changes.{changes_from}
use Rattle.changes.proofs.TakeLaws.{changes_next, length_changes}
use Rattle.changes.proofs.told.Goals as goal

pub loop-i-init : goal.loop-i-init
unfolding changes_from
loop-i-init c = simp (c.new-changes.ensures) refl

pub loop-i-preserved : goal.loop-i-preserved
loop-i-preserved c = simp (changes_next, c.push.ensures.items, c.loop-i.invariant, c.change_in.ensures) refl

pub push-requires : goal.push-requires
push-requires c = omega (arith, ap length c.loop-i.invariant, length_changes (cells_in c.args.list.now) c.loop-i.i)
