-- The engine that lent memory holds, and what a call on it comes to.
use Rattle.std.specs.Prelude.{Bool, ◌&&◌, cond, List, ◌≡◌, ℕ, ◌+◌, ◌-◌, ◌*◌, leb, length}
use Rattle.names.specs.Directory.{max_names}
use Rattle.lent.specs.Changes.{change_size}
use Rattle.panel.specs.Panel.{panel_room}
use Rattle.engine.specs.Engine.{engine_in}
use Rattle.layout.specs.Parts.{part}
use Rattle.board.specs.Layout.{board_size, is_board_size}
use Rattle.board.specs.Board.{board_in}
use Rattle.replies.specs.Worker.{Worker, worker}

-- the number of this interface; it is raised with every change of a function, a record or a limit
abbrev pub interface_number : ℕ
interface_number = 2

-- the bytes of the head, which is one row; the board stands behind it
abbrev pub head_size : ℕ
head_size = 256

-- how many bytes an engine of so many tags has
abbrev pub memory_size : ℕ → ℕ
memory_size count = head_size + board_size count

-- what a host is told of it: nothing of a count that no directory has
abbrev pub size_for : ℕ → ℕ
size_for count = cond (leb 1 count && leb count max_names) (memory_size count) 0

-- whether an engine has n bytes
abbrev pub is_size : ℕ → Bool
is_size n = leb head_size n && is_board_size (n - head_size)

-- Memory of another length is no call of document 01; it is answered with a number outside its table, and nothing is written.
abbrev pub not_an_engine : ℕ
not_an_engine = 100

unfoldable pub size_check : ℕ → ℕ
size_check n = cond (is_size n) 0 not_an_engine

-- memory of such a length is an engine's
abbrev pub IsEngine : List ℕ → Type 0
IsEngine bs = size_check (length bs) ≡ 0

-- Check 43: the room that lists lent for writing must have, in bytes; a cell is eight. Changes, rows of the table and the tags of a panel list: as many as a directory can have names. Groups: 16.
abbrev pub list_size : ℕ
list_size = max_names * change_size

abbrev pub group_stats_size : ℕ
group_stats_size = 16 * 40

abbrev pub table_size : ℕ
table_size = max_names * 16

abbrev pub panel_size : ℕ
panel_size = panel_room max_names

-- the bytes of the board
abbrev pub board_bytes : List ℕ → List ℕ
board_bytes bs = part head_size (length bs - head_size) bs

unfoldable pub worker_in : List ℕ → Worker
worker_in bs = worker (engine_in (part 0 head_size bs)) (board_in (board_bytes bs))

-- A call whose checks came to n, and which leaves the engine W where they came to 0. A refusal writes nothing. Memory keeps its length.
pub record Called (old new : List ℕ) (r n : ℕ) (W : Worker) : Type 0 where
  pub alien : (IsEngine old → ⊥) → r ≡ not_an_engine
  pub code : IsEngine old → r ≡ n
  pub done : IsEngine old → n ≡ 0 → worker_in new ≡ W
  pub kept : (r ≡ 0 → ⊥) → new ≡ old
  pub long : length new ≡ length old
