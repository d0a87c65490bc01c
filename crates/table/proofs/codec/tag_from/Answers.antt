use Rattle.table.specs.Row.{tag_from}
use Rattle.table.proofs.codec.tag_from.Goals as goal

pub returns : goal.returns
unfolding tag_from
returns c =
    simp (c.held_from-2.ensures, c.held_from.ensures, c.entry_at-2.ensures, c.entry_at.ensures, c.settings_from.ensures, c.description_from.ensures, c.timing_from.ensures, c.grace_from.ensures)
