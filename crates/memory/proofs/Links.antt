-- For a link: the table of this crate's functions, what it asks of the crates below it, and that each function that another crate calls is found with its own code and all that it calls.
-- `possible` puts the tables together and runs the entry points.
use mathlib.Core.Bool.{true}
use prog.Linked.{Tree, World, Holds, in_world}
use prog.LinkedThreads.{HasT}
use prog.Wired.{Code}
use Rattle.memory.proofs.TheLink as link
use Rattle.memory.proofs.TheLinks.memory-bytes-half
use Rattle.memory.proofs.TheLinks.memory-bytes-put_half
use Rattle.memory.proofs.TheLinks.memory-cells-cell
use Rattle.memory.proofs.TheLinks.memory-cells-places
use Rattle.memory.proofs.TheLinks.memory-cells-put_cell
use Rattle.memory.proofs.TheLinks.memory-halves-half
use Rattle.memory.proofs.TheLinks.memory-halves-put_half
use Rattle.memory.proofs.TheLinks.memory-rows-put_row
use Rattle.memory.proofs.TheLinks.memory-rows-put_row_cell
use Rattle.memory.proofs.TheLinks.memory-rows-row
use Rattle.memory.proofs.TheLinks.memory-rows-row_cell

abbrev pub table : Tree
table = link.table

abbrev pub Below : World → Type 0
Below W = link.Below W

abbrev pub Linked : Code → Type 0
Linked c = (W : World) → Holds W "memory" table → Below W → HasT (in_world W) true c

pub bytes_half : Linked memory-bytes-half.code
bytes_half = link.linked-memory::bytes::half

pub bytes_put_half : Linked memory-bytes-put_half.code
bytes_put_half = link.linked-memory::bytes::put_half

pub cells_cell : Linked memory-cells-cell.code
cells_cell = link.linked-memory::cells::cell

pub cells_places : Linked memory-cells-places.code
cells_places = link.linked-memory::cells::places

pub cells_put_cell : Linked memory-cells-put_cell.code
cells_put_cell = link.linked-memory::cells::put_cell

pub halves_half : Linked memory-halves-half.code
halves_half = link.linked-memory::halves::half

pub halves_put_half : Linked memory-halves-put_half.code
halves_put_half = link.linked-memory::halves::put_half

pub rows_put_row : Linked memory-rows-put_row.code
rows_put_row = link.linked-memory::rows::put_row

pub rows_put_row_cell : Linked memory-rows-put_row_cell.code
rows_put_row_cell = link.linked-memory::rows::put_row_cell

pub rows_row : Linked memory-rows-row.code
rows_row = link.linked-memory::rows::row

pub rows_row_cell : Linked memory-rows-row_cell.code
rows_row_cell = link.linked-memory::rows::row_cell
