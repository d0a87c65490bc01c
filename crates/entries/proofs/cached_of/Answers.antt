-- `entries::cached_of` meets its contract.
use mathlib.Core.Path.{◌∙◌}
use Rattle.entries.proofs.cached_of.Goals as goal

pub returns : goal.returns
returns c = c.held_from.ensures ∙ c.cached_words.ensures
