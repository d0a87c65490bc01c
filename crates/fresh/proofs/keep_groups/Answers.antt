-- `fresh::keep_groups` meets its contract.
use mathlib.Core.Path.{◌≡◌, ap, ◌∙◌}
use mathlib.Core.List.{List}
use Prim.Native.Nat.{ℕ, ◌-◌, ◌/◌}
use lib.ListN.{length, take}
use Rattle.settings.specs.Configured.{given_groups}
use Rattle.table.specs.declared.tag.GroupRate.{GroupRate}
use Rattle.fresh.specs.Fresh.{configured_room}
use Rattle.layout.specs.Parts.{part}
use Rattle.board.specs.Layout.{configured}
use Rattle.board.proofs.BoardLaws.{part_lent, size_of_part, configured_put}
use Rattle.fresh.proofs.keep_groups.Goals as goal

pub returns : goal.returns
returns c =
    let a = c.args in
    let from = c.configured_start-start in
    let to = c.queue_start-end in
    let put = c.keep_configured in
    let long : length (part from.result (to.result - from.result) a.b.now) ≡ 512 =
    ap (λ (l : List ℕ). length l) (part_lent configured a.b.now from.result to.result from.ensures to.ensures) ∙ size_of_part configured a.b.now c.requires
    in
    configured_put a.b.now put.new.c c.requires from.result to.result from.ensures to.ensures (λ (l : List GroupRate). take configured_room (given_groups a.groups.now)) put.auto.c (put.ensures ∙ ap (λ (n : ℕ). take ((n / 8 - 1) / 2) (given_groups a.groups.now)) long)
