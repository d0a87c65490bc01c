-- `heads::progress::after_from` meets its contract.
use Rattle.heads.proofs.progress.after_from.Goals as goal

pub returns-in-0 : goal.returns-in-0
returns-in-0 c = simp c.in-0.is

pub returns-in-1 : goal.returns-in-1
returns-in-1 c = simp c.in-1.is
