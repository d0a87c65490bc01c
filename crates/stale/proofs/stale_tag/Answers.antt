-- `stale::stale_tag` meets its contract.
use Rattle.stale.proofs.StaleLaws.{stale_already}
use Rattle.stale.specs.Stale.{tag_stale}
use mathlib.Core.Path.{sym, ◌∙◌}
use Rattle.stale.proofs.stale_tag.Goals as goal

pub returns-then-not-is_staled : goal.returns-then-not-is_staled
returns-then-not-is_staled c =
    sym (stale_already c.args.x (sym c.is_staled.ensures ∙ c.if-not-is_staled.true))

pub returns : goal.returns
unfolding tag_stale
returns c =
    simp (sym c.is_staled.ensures ∙ c.if-not-is_staled.false, c.stale_held-stale.ensures)
