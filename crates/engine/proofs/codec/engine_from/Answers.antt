use Rattle.engine.specs.Engine.{engine_from}
use Rattle.engine.proofs.codec.engine_from.Goals as goal

pub returns : goal.returns
unfolding engine_from
returns c = simp (c.stats_in.ensures, c.progress_in.ensures, c.link_in.ensures, c.float_of_word.ensures, c.cycle_in.ensures, c.options_in.ensures)
