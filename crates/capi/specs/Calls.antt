-- Tier calls, loads, writes, stops and steps.
use Rattle.std.specs.Prelude.{List, [], ◌∷◌, ◌++◌, ◌≡◌, ℕ, Float, length, Result, Ok, Err}
use Rattle.refusals.specs.Refusals.{number}
use Rattle.refusals.specs.declared.Refusal.{Refusal}
use Rattle.values.specs.declared.value.Value.{Value}
use Rattle.tiers.specs.Tiers.{set_tier}
use Rattle.panel.specs.Panel.{loaded_list}
use Rattle.queue.specs.declared.Write.{Write}
use Rattle.heads.specs.Link.{stopped}
use Rattle.engine.specs.Engine.{with_clock}
use Rattle.lent.specs.Lent.{wrote_all}
use Rattle.board.specs.Board.{with_table, with_queue}
use Rattle.replies.specs.Reply as reply
use Rattle.replies.specs.Reply.{reply_of}
use Rattle.replies.specs.Worker.{Worker, Told, tell, worker, with_board, linked}
use Rattle.replies.specs.declared.reply.Reply.{Reply}
use Rattle.replies.specs.declared.response.Said.{Said}
use Rattle.step_checks.specs.Awaited.{Answer}
use Rattle.step_checks.specs.Kinds.{kind_from}
use Rattle.capi.specs.Memory.{IsEngine, not_an_engine, worker_in}

-- Rule 5: a tier call that is accepted
abbrev pub tiered : Worker → Float → ℕ → ℕ → Worker
tiered W clock tag tier = worker (with_clock W.head clock) (with_table W.board (set_tier W.board.table tag tier W.head.options.grace clock))

-- Rule 11: a load that is accepted
abbrev pub loaded : Worker → Float → List ℕ → Worker
loaded W clock list = worker (with_clock W.head clock) (with_table W.board (loaded_list W.board.table list W.head.options.grace clock))

abbrev pub write_of : ℕ → Value → Write
write_of tag v = record { tag = tag; value = v }

-- Rule 8: a write that is accepted stands last in the queue
abbrev pub wrote : Worker → ℕ → Value → Worker
wrote W tag v = with_board W (with_queue W.board (W.board.queue ++ (write_of tag v ∷ [])))

-- Rule 9: a stop is asked for
abbrev pub halted : Worker → Worker
halted W = linked W (stopped W.head.link)

-- Rule 9: an answer of the host
abbrev pub answer_of : ℕ → ℕ → ℕ → List ℕ → Answer
answer_of kind number message list = record { kind = kind_from kind number message; list = list }

-- A step on the board that came to T; the head is in the answer, and not stored yet.
pub record Answered (T : Told) (s : Said) (new out out' : List ℕ) : Type 0 where
  pub head_is : s.head ≡ T.left.head
  pub board_is : (worker_in new).board ≡ T.left.board
  pub reply_is : reply_of s.response ≡ T.reply
  pub out_is : out' ≡ wrote_all out T.bytes

-- What a step of the engine W on the board did: T. Where it was refused, T is the refusal, and no byte was written.
unfoldable pub SteppedBoard : Worker → Told → Result Said Refusal → List ℕ → List ℕ → List ℕ → List ℕ → Type 0
SteppedBoard W T (Ok s) old new out out' = Answered T s new out out'
SteppedBoard W T (Err r) old new out out' = (T ≡ tell W (reply.refused (number r)) []) × (new ≡ old) × (out' ≡ out)

-- A step that came to T. A refusal writes nothing. Memory keeps its length.
pub record Stepped (old new : List ℕ) (r : Reply) (out out' : List ℕ) (T : Told) : Type 0 where
  pub alien : (IsEngine old → ⊥) → r ≡ reply.refused not_an_engine
  pub reply_is : IsEngine old → r ≡ T.reply
  pub left_is : IsEngine old → worker_in new ≡ T.left
  pub out_is : IsEngine old → out' ≡ wrote_all out T.bytes
  pub kept : (r.code ≡ 0 → ⊥) → (new ≡ old) × (out' ≡ out)
  pub long : length new ≡ length old
