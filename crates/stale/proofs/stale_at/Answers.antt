-- `stale::stale_at` meets its contract.
use Rattle.stale.proofs.StaleLaws.{stale_kept}
use Rattle.stale.specs.Stale.{is_staled, tag_stale}
use Rattle.table.specs.Table.{table_in}
use lib.ListN.{set}
use mathlib.Core.Path.{ap, sym, ◌∙◌}
use Rattle.stale.proofs.stale_at.Goals as goal

pub returns-then-is_staled : goal.returns-then-is_staled
returns-then-is_staled c =
    let a = c.args in
    c.put_tag.ensures ∙ ap (set (table_in a.table.now) a.k) (c.stale_tag.ensures ∙ ap tag_stale c.tag_of-x.ensures)

pub returns-else-is_staled : goal.returns-else-is_staled
returns-else-is_staled c =
    let a = c.args in
    stale_kept (table_in a.table.now) a.k (sym (c.is_staled.ensures ∙ ap is_staled c.tag_of-x.ensures) ∙ c.if-is_staled.false)
