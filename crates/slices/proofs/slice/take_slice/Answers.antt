-- `slices::slice::take_slice` meets its contract.
use mathlib.Core.Path.{◌≡◌}
use mathlib.Core.Bool.{false}
use Rattle.ieee.specs.Round.{slices_of}
use Rattle.memory.specs.Halves.{halves_in}
use Rattle.tags.specs.Lists.{list_in}
use Rattle.table.specs.Table.{table_in}
use Rattle.slices.specs.Slice.{tier2_tags, slice_taken}
use Rattle.lists.specs.Sort.{by_keys}
use Rattle.slices.proofs.SliceLaws.{fitted_none}
use Rattle.slices.proofs.slice.take_slice.Goals as goal

pub returns-then-not-boundary : goal.returns-then-not-boundary
returns-then-not-boundary c =
    let a = c.args in
    let S = slices_of a.period a.cycle in
    let tier2 = tier2_tags (by_keys (halves_in a.keys.now)) (table_in a.t.now) (list_in a.order.now) in
    let no : a.boundary ≡ false = c.if-not-boundary.true in
    record { value = rw no; list_after = fitted_none a.list.now (slice_taken a.boundary S tier2 a.index) (rw no) }
