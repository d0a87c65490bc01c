-- `rounds::steps::take_slice_in` meets its contract.
use mathlib.Core.Path.{◌≡◌, ap, ◌∙◌}
use mathlib.Core.List.{◌++◌}
use native.Mathlib.Omega.{arith}
use lib.ListN.{length, take as take-first, length-append}
use lib.Seq.{take_all}
use Rattle.ieee.specs.Round.{slices_of}
use Rattle.lists.specs.Sort.{by_keys}
use Rattle.lists.proofs.KeepLaws.{length-keep}
use Rattle.tags.specs.Lists.{list_in, room}
use Rattle.board.specs.Board.{board_in}
use Rattle.slices.specs.Slice.{is_tier2, tier2_tags, slice_taken}
use Rattle.rounds.proofs.RoundLaws.{taken_short}
use Rattle.board.proofs.BoardLaws.{tags_read, order-read, keys-read, order_short, room_few}
use Rattle.rounds.proofs.steps.take_slice_in.Goals as goal

pub take_slice-requires : goal.take_slice-requires
take_slice-requires c =
    let b = c.args.b.now in
    let l = c.order_of in
    omega (arith, ap length (order-read b l.result.now l.ensures), order_short b c.requires.board, room_few b c.requires.board, c.requires.max_names_bound)

pub returns : goal.returns
returns c =
    let a = c.args in
    let b = a.b.now in
    let B = board_in b in
    let t = c.table_of in
    let l = c.order_of in
    let k = c.keys_of in
    let take = c.take_slice in
    let tags = tags_read b t.result.now t.ensures in
    let order = order-read b l.result.now l.ensures in
    let keys = keys-read b k.result.now k.ensures in
    let less = by_keys B.keys in
    let S = slices_of a.o.period a.o.cycle in
    let slice = slice_taken a.boundary S (tier2_tags less B.table.tags B.table.order) a.index in
    let listed : list_in take.new.list ≡ take-first (room a.list.now) (list_in a.list.now ++ slice) = take.ensures.list_after ∙ rw (tags, order, keys) in
    record {
      value = take.ensures.value ∙ rw (tags, order, keys);
      list_after = listed
          ∙ take_all (room a.list.now) (list_in a.list.now ++ slice)
          (omega (
            arith,
            length-append (list_in a.list.now) slice,
            taken_short less B.table.tags B.table.order a.boundary S a.index,
            length-keep (is_tier2 B.table.tags) B.table.order,
            order_short b c.requires.board,
            room_few b c.requires.board,
            c.requires.max_names_len_bound,
          ));
    }
