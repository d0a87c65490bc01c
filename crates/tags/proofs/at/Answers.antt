-- `tags::at` meets its contract.
use mathlib.Core.Path.{◌∙◌}
use native.Mathlib.Omega.{arith}
use Rattle.tags.proofs.ListLaws.{list_at}
use Rattle.tags.proofs.at.Goals as goal

pub returns-then-i-count : goal.returns-then-i-count
returns-then-i-count c =
    let a = c.args in
    c.half.ensures ∙ list_at a.s.now a.i (omega arith)
