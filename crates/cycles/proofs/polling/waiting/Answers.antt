-- `cycles::polling::waiting` meets its contract.
use mathlib.Core.Path.{refl}
use Rattle.cycles.proofs.polling.waiting.Goals as goal

pub returns : goal.returns
returns c B = record {
  head_is = simp c.phased.ensures;
  reply_is = simp c.phased.ensures;
  board_kept = refl;
  nothing = refl;
}
