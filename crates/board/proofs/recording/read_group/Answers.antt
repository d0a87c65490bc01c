-- `board::recording::read_group` meets its contract.
use mathlib.Core.List.{List}
use lib.ListN.{get_or, set}
use Rattle.groups.specs.Groups.{fresh_group, group_read}
use Rattle.groups.specs.declared.group.Group.{Group}
use Rattle.board.proofs.BoardLaws.{groups_put}
use Rattle.board.proofs.recording.read_group.Goals as goal

pub returns : goal.returns
returns c =
    let a = c.args in
    let from = c.groups_start-start in
    let to = c.table_start-end in
    let put = c.read_at in
    groups_put a.b.now put.new.s c.requires from.result to.result from.ensures to.ensures (λ (gs : List Group). set gs a.g (group_read (get_or gs a.g fresh_group) a.rate a.at a.first)) put.auto.s put.ensures
