-- `engine::load` meets its contract.
use mathlib.Core.Path.{ap, ◌∙◌}
use Rattle.engine.specs.Engine.{engine_from, engine_in}
use Rattle.engine.proofs.load.Goals as goal

pub returns : goal.returns
unfolding engine_in
returns c = c.engine_from.ensures ∙ ap engine_from c.row.ensures
