-- `rounds::round::cycle_in` meets its contract.
use mathlib.Core.Path.{◌∙◌}
use Prim.Native.Nat.{ℕ, ◌≤◌}
use native.Mathlib.Omega.{arith}
use lib.Ieee.{of_bits, of_int}
use lib.ListN.{length, get_or}
use Rattle.ieee.specs.Round.{slices_of}
use Rattle.lists.specs.Sort.{by_keys}
use Rattle.lists.proofs.KeepLaws.{length-keep}
use Rattle.tags.specs.Lists.{list_in}
use Rattle.tags.proofs.ListLaws.{room_same}
use Rattle.table.specs.Tag.{fresh_tag}
use Rattle.board.specs.Board.{board_in}
use Rattle.board.proofs.BoardLaws.{order_short, room_few}
use Rattle.rounds.specs.Due.{is_due}
use Rattle.rounds.proofs.RoundLaws.{Steps, wanted_short, tick_is, boundary_is, index_is, board_is}
use Rattle.rounds.proofs.round.cycle_in.Goals as goal

pub take_slice_in-index-requires-clause-max_names_len_bound : goal.take_slice_in-index-requires-clause-max_names_len_bound
take_slice_in-index-requires-clause-max_names_len_bound c =
    let a = c.args in
    let expire = c.expire in
    let due = c.read_due in
    let T = (board_in expire.new.b).table in
    let short : length (list_in due.new.wanted) ≤ length T.order = rw due.ensures.wanted_after (length-keep (λ (k : ℕ). is_due (get_or T.tags k fresh_tag) a.clock _ a.o.cycle) T.order) in
    omega (
      arith,
      short,
      order_short expire.new.b expire.ensures.still,
      room_few expire.new.b expire.ensures.still,
      room_same expire.new.list a.wanted.now expire.auto.list,
      room_same due.new.wanted expire.new.list due.auto.wanted,
      c.requires.max_names_bound_2,
    )

pub list_round-requires-clause-max_names_len_bound : goal.list_round-requires-clause-max_names_len_bound
list_round-requires-clause-max_names_len_bound c =
    let a = c.args in
    let expire = c.expire in
    let due = c.read_due in
    let take = c.take_slice_in-index in
    let T = (board_in expire.new.b).table in
    let short : length (list_in take.new.list) ≤ length T.order =
    rw (take.ensures.list_after, due.ensures.holds.board, due.ensures.wanted_after) (wanted_short T.tags T.order a.clock _ a.o.cycle (by_keys (board_in expire.new.b).keys) c.is_boundary-boundary.result (slices_of a.o.period a.o.cycle) a.c.index)
    in
    omega (
      arith,
      short,
      order_short expire.new.b expire.ensures.still,
      room_few expire.new.b expire.ensures.still,
      room_same expire.new.list a.wanted.now expire.auto.list,
      room_same due.new.wanted expire.new.list due.auto.wanted,
      room_same take.new.list due.new.wanted take.auto.list,
      c.requires.max_names_bound_2,
    )

pub returns : goal.returns
unfolding of_bits of_int
returns c =
    let a = c.args in
    let b = a.b.now in
    let B = board_in b in
    let expire = c.expire in
    let due = c.read_due in
    let take = c.take_slice_in-index in
    let left = c.list_round in
    let steps : Steps B a.o a.c a.clock c.tick_in-tick.result c.is_boundary-boundary.result (board_in expire.new.b) (board_in due.new.b) (board_in left.new.b) (list_in due.new.wanted) (list_in take.new.list) take.result =
    record {
      ticked = c.tick_in-tick.ensures;
      bounded = c.is_boundary-boundary.ensures;
      expired = expire.ensures.board;
      listed = due.ensures.wanted_after;
      read = due.ensures.holds.board;
      moved = take.ensures.value;
      sliced = take.ensures.list_after;
      left = left.ensures.board;
    }
    in
    record {
      tick_is = tick_is B a.o a.c a.clock steps;
      boundary_is = boundary_is B a.o a.c a.clock steps;
      cycle_is = c.cycle_after.ensures ∙ index_is B a.o a.c a.clock steps;
      holds = record { still = left.ensures.still; board = board_is B a.o a.c a.clock steps };
    }
