-- `shown::found::group_stats` meets its contract.
use mathlib.Core.Path.{ap, ◌∙◌}
use Rattle.lent.specs.Lent.{cell_bytes, wrote_all}
use Rattle.statistics.specs.Stats.{Facts, group_stats, groups_told}
use Rattle.shown.proofs.LookLaws.{facts-read}
use Rattle.shown.proofs.found.group_stats.Goals as goal

pub returns : goal.returns
returns c =
    let a = c.args in
    let bs = a.board.now in
    let out = a.out.now in
    let t = c.table_of in
    let o = c.order_of in
    let f = c.configured_of in
    let g = c.groups_of in
    let r = c.recorded_of in
    let put = c.group_stats in
    let same = facts-read bs t.result.now o.result.now f.result.now g.result.now r.result.now t.ensures o.ensures f.ensures g.ensures r.ensures in
    record { value = put.ensures.value ∙ ap (groups_told out) same; out_after = put.ensures.out_after ∙ ap (λ (F : Facts). wrote_all out (cell_bytes (group_stats F))) same }
