-- `versions::check::take_all` meets its contract.
use mathlib.Core.Path.{refl, ap, ◌∙◌}
use mathlib.Core.List.{List}
use Prim.Native.Nat.{◌<◌}
use native.Mathlib.Omega.{arith}
use lib.ListN.{length}
use lib.Seq.{paste}
use Rattle.memory.proofs.LoopLaws.{fill_all}
use Rattle.table.specs.Tag.{fresh_tag}
use Rattle.table.specs.declared.tag.Tag.{Tag}
use Rattle.board.specs.Board.{Board, board_in, tag_at, with_tag, with_records}
use Rattle.board.proofs.BoardLaws.{tags_counted}
use Rattle.versions.specs.Versions.{taken_at, table_taken}
use Rattle.versions.proofs.TakeLaws.{length_each, each_more}
use Rattle.versions.proofs.check.take_all.Goals as goal

pub loop-k-preserved : goal.loop-k-preserved
loop-k-preserved c =
    let a = c.args in
    let B = board_in a.b.now in
    let tags = B.table.tags in
    let l = c.loop-k in
    let take = c.take_at in
    let f = taken_at a.changed a.settings.now in
    let done = paste tags 0 (table_taken a.changed a.settings.now B.table.words tags) l.k in
    let n = c.tags_in-k-end.ensures in
    let h : l.k < length tags = omega (arith, n, tags_counted a.b.now c.requires) in (
      take.auto.b ∙ l.invariant.0,
      record {
        still = take.ensures.still;
        board =
            take.ensures.board
            ∙ ap (λ (X : Board). with_tag X l.k (f X.table.words l.k (tag_at X.table l.k))) l.invariant.1.board
            ∙ ap (λ (z : List Tag). with_records B z) (each_more (f B.table.words) tags done l.k fresh_tag refl h);
      },
    )

pub returns : goal.returns
returns c =
    let a = c.args in
    let B = board_in a.b.now in
    let tags = B.table.tags in
    let l = c.loop-k in
    let f = taken_at a.changed a.settings.now B.table.words in
    let taken = table_taken a.changed a.settings.now B.table.words tags in
    let n = c.tags_in-k-end.ensures in
    let long = tags_counted a.b.now c.requires in
    let same = length_each f 0 tags in
    record {
      still = l.invariant.1.still;
      board = l.invariant.1.board ∙ ap (λ (z : List Tag). with_records B z) (fill_all tags taken (paste tags 0 taken l.k) l.k refl (omega arith) (omega arith));
    }
