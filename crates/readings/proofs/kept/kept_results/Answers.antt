use mathlib.Core.Path.{◌≡◌, ap, ◌∙◌}
use native.Mathlib.Omega.{arith}
use lib.ListN.{length}
use Rattle.readings.proofs.ChangeLaws.{over_whole}
use Rattle.board.specs.Layout.{back}
use Rattle.board.proofs.BoardLaws.{back_read, size_of_part}
use Rattle.readings.proofs.kept.kept_results.Goals as goal

pub returns : goal.returns
returns c =
    let bs = c.args.b.now in
    let kept = c.back_of.result.now in
    let e = back_read bs kept c.back_of.ensures in
    let long : length kept ≡ 256 = ap length c.back_of.ensures ∙ size_of_part back bs c.requires in
    c.put_bytes.ensures ∙ over_whole _ kept (omega arith) ∙ e
