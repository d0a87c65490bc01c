-- `slices::slice::slice_size` meets its contract.
use Rattle.slices.proofs.SliceLaws.{size_some}
use Rattle.slices.proofs.slice.slice_size.Goals as goal

pub returns-else-n-eq0 : goal.returns-else-n-eq0
returns-else-n-eq0 c =
    let a = c.args in
    size_some a.n a.s c.requires c.if-n-eq0.false
