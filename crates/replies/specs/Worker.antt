-- An engine: its head and its board.
use Rattle.std.specs.Prelude.{Bool, true, List, [], ◌≡◌, ℕ, eqb, Float, ℤ}
use Rattle.std.proofs.Math.Option.{Option, none}
use Rattle.lent.specs.Lent.{wrote_all}
use Rattle.rounds.specs.Round.{Round}
use Rattle.heads.specs.Link.{with_state}
use Rattle.heads.specs.Progress.{with_phase}
use Rattle.heads.specs.declared.link.Link.{Link}
use Rattle.heads.specs.declared.link.State.{State}
use Rattle.heads.specs.declared.progress.Phase.{Phase}
use Rattle.heads.specs.declared.stats.Stats.{Stats}
use Rattle.engine.specs.Engine.{with_link, with_progress, with_stats}
use Rattle.engine.specs.declared.Engine.{Engine}
use Rattle.board.specs.Board.{Board, board_in}
use Rattle.replies.specs.Reply.{reply_of}
use Rattle.replies.specs.declared.at.At.{At}
use Rattle.replies.specs.declared.reply.Reply.{Reply}
use Rattle.replies.specs.declared.response.Response.{Response}
use Rattle.replies.specs.declared.response.Said.{Said}

pub record Worker : Type 0 where
  pub head : Engine
  pub board : Board

-- What a step comes to: the engine it leaves, what it gives back, the bytes of the lent list, and the round that it worked out, if it did.
pub record Told : Type 0 where
  pub left : Worker
  pub reply : Reply
  pub bytes : List ℕ
  pub round : Option Round

abbrev pub tell : Worker → Reply → List ℕ → Told
tell W r bytes = record { left = W; reply = r; bytes = bytes; round = none }

abbrev pub worker : Engine → Board → Worker
worker e B = record { head = e; board = B }

abbrev pub with_board : Worker → Board → Worker
with_board W B = worker W.head B

abbrev pub phased : Worker → Phase → Worker
phased W p = worker (with_progress W.head (with_phase W.head.progress p)) W.board

abbrev pub linked : Worker → Link → Worker
linked W x = worker (with_link W.head x) W.board

abbrev pub stated : Worker → State → Worker
stated W s = linked W (with_state W.head.link s)

abbrev pub tallied : Worker → Stats → Worker
tallied W x = worker (with_stats W.head x) W.board

-- Rule 9: something is asked or told that carries no list, and the engine waits in the phase p
abbrev pub asks : Worker → Phase → Reply → Told
asks W p r = tell (phased W p) r []

-- the clock reading and the wall time of a step
abbrev pub at : Float → ℤ → At
at clock wall = record { clock = clock; wall = wall }

-- nothing is told yet where the kind is 0: a round is to be worked out first
abbrev pub goes_on : Told → Bool
goes_on T = eqb T.reply.kind 0

-- what is said with the head in the phase p
abbrev pub said_in : Engine → Phase → Response → Said
said_in e p r = record { response = r; head = with_progress e (with_phase e.progress p) }

-- What was done is T: the head and the memory afterwards, the answer, and the lent list, which nothing was written into where nothing is told yet.
pub record Done (T : Told) (s : Said) (board' out out' : List ℕ) : Type 0 where
  pub head_is : s.head ≡ T.left.head
  pub board_is : board_in board' ≡ T.left.board
  pub reply_is : reply_of s.response ≡ T.reply
  pub out_is : out' ≡ wrote_all out T.bytes
  pub silent : goes_on T ≡ true → T.bytes ≡ []

-- What was said is T, which leaves the board B and the lent list as they are.
pub record Quietly (T : Told) (s : Said) (B : Board) : Type 0 where
  pub head_is : s.head ≡ T.left.head
  pub reply_is : reply_of s.response ≡ T.reply
  pub board_kept : T.left.board ≡ B
  pub nothing : T.bytes ≡ []
