-- Rule 8: writes that wait and will not be made.
use Rattle.std.specs.Prelude.{List, ℕ}
use Rattle.queue.specs.Queue.{write_tags}
use Rattle.board.specs.Board.{Board}

-- their tags, in the order of the queue
abbrev pub queued_tags : Board → List ℕ
queued_tags B = write_tags B.queue
