-- `rounds::round::list_round` meets its contract.
use mathlib.Core.Path.{◌≡◌, ap, ap₂, sym, ◌∙◌}
use mathlib.Core.Bool.{false}
use mathlib.Core.List.{List, map}
use Prim.Native.Nat.{ℕ, min}
use native.Mathlib.Omega.{arith}
use lib.ListN.{length, take, length-append}
use lib.Seq.{take_all}
use Rattle.lists.specs.Keep.{keep}
use Rattle.lists.proofs.KeepLaws.{length-keep, length-up_to}
use Rattle.tags.specs.Lists.{list_in, room}
use Rattle.table.specs.declared.tag.Tag.{Tag}
use Rattle.board.specs.Board.{Board, board_in, with_records, asking}
use Rattle.board.proofs.BoardLaws.{tags_read, tags_counted}
use Rattle.rounds.specs.Added.{any_added, is_added, with_added_tags, settled}
use Rattle.table.specs.Table.{by_rank}
use Rattle.rounds.specs.Missing.{not_held_back}
use Rattle.rounds.proofs.AddedLaws.{none_listed, none_settled}
use Rattle.rounds.proofs.round.list_round.Goals as goal

pub returns-then-any_added : goal.returns-then-any_added
returns-then-any_added c =
    let a = c.args in
    let B = board_in a.b.now in
    let tags = B.table.tags in
    let t = c.table_of-then-any_added in
    let add = c.list_added in
    let settle = c.settle_in in
    let before = list_in a.wanted.now in
    let listed : list_in add.new.list ≡ take (room a.wanted.now) (with_added_tags tags before (by_rank tags)) =
    add.ensures ∙ rw (tags_read a.b.now t.result.now t.ensures)
    in
    let wanted : list_in add.new.list ≡ with_added_tags tags before (by_rank tags) =
    listed
    ∙ take_all (room a.wanted.now) (with_added_tags tags before (by_rank tags))
    (omega (
      arith,
      length-append before (keep (is_added tags before) (by_rank tags)),
      length-keep (is_added tags before) (by_rank tags),
      length-up_to (min (length tags) 65536),
      tags_counted a.b.now c.requires.board,
      c.requires.board.1.1,
      c.requires.max_names_len_bound,
    ))
    in
    record {
      still = settle.ensures.still;
      board = settle.ensures.board
          ∙ ap (λ (X : Board). with_records X (map settled X.table.tags)) c.drop_missing.ensures.board
          ∙ ap (λ (l : List ℕ). asking (with_records B (map settled tags)) (not_held_back tags l a.clock)) wanted;
    }

pub returns-else-any_added : goal.returns-else-any_added
returns-else-any_added c =
    let a = c.args in
    let B = board_in a.b.now in
    let tags = B.table.tags in
    let t = c.table_of in
    let drop = c.drop_missing-else-any_added in
    let wanted = a.wanted.now in
    let none : any_added tags ≡ false = ap any_added (sym (tags_read a.b.now t.result.now t.ensures)) ∙ sym c.any_added.ensures ∙ c.if-any_added.false in
    record {
      still = drop.ensures.still;
      board = drop.ensures.board
          ∙ ap₂ (λ (ts : List Tag) (l : List ℕ). asking (with_records B ts) (not_held_back tags l a.clock)) (none_settled tags none) (none_listed tags (list_in wanted) (by_rank tags) none);
    }
