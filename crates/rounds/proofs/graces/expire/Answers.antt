-- `rounds::graces::expire` meets its contract.
use mathlib.Core.Path.{◌≡◌, ap, sym, ◌∙◌}
use native.Mathlib.Omega.{arith}
use lib.ListN.{take}
use lib.Seq.{take_all}
use Rattle.lists.proofs.KeepLaws.{length-keep}
use Rattle.tags.specs.Lists.{list_in, room}
use Rattle.board.specs.Board.{Table, board_in, with_table}
use Rattle.board.proofs.BoardLaws.{tags_read, graces-read, graces_short, room_few}
use Rattle.rounds.specs.Graces.{has_run_out, expired}
use Rattle.rounds.proofs.GraceLaws.{run_none}
use Rattle.rounds.proofs.graces.expire.Goals as goal

pub returns-else-boundary : goal.returns-else-boundary
returns-else-boundary c =
    let a = c.args in
    let B = board_in a.b.now in
    rw (c.if-boundary.false) (record { still = c.requires.board; board = ap (λ (T : Table). with_table B T) (sym (run_none B.table)) })

pub returns-then-boundary : goal.returns-then-boundary
returns-then-boundary c =
    let a = c.args in
    let b = a.b.now in
    let T = (board_in b).table in
    let t = c.table_of in
    let g = c.graces_of in
    let list = c.list_expired in
    let listed : list_in list.new.list ≡ take (room a.list.now) (expired T.tags T.graces a.clock) =
    list.ensures ∙ rw (tags_read b t.result.now t.ensures, graces-read b g.result.now g.ensures)
    in
    let over : list_in list.new.list ≡ expired T.tags T.graces a.clock =
    listed ∙ take_all (room a.list.now) (expired T.tags T.graces a.clock) (omega (arith, length-keep (has_run_out T.tags a.clock) T.graces, graces_short b c.requires.board, room_few b c.requires.board, c.requires.max_names_bound))
    in
    rw (c.if-boundary.true) (rw over at c.run_out.ensures)
