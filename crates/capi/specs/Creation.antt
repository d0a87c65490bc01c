-- Creation.
use Rattle.std.specs.Prelude.{cond, List, ◌≡◌, ℕ, eqb, length}
use Rattle.names.specs.Directory.{bad_count, max_names}
use Rattle.engine.specs.Engine.{fresh_engine}
use Rattle.fresh.specs.Fresh.{fresh_board}
use Rattle.replies.specs.Worker.{Worker, worker}
use Rattle.checks.specs.Creation.{Setup, creation_check}
use Rattle.capi.specs.Memory.{memory_size, not_an_engine, worker_in}

abbrev pub fresh_worker : Setup → Worker
fresh_worker s = worker (fresh_engine s.options (length s.ends)) (fresh_board s.names s.ends s.settings s.groups)

-- What creation answers in memory of `size` bytes: 1 by the number of names alone, since the size goes by it; then the size; then the other checks.
unfoldable pub creation_answer : Setup → ℕ → ℕ
creation_answer s size = cond (bad_count max_names s.ends) 1 (cond (eqb size (memory_size (length s.ends))) (creation_check s) not_an_engine)

-- Creation, which leaves a fresh engine where it answers 0. A refusal writes nothing. Memory keeps its length.
pub record Created (old new : List ℕ) (r : ℕ) (s : Setup) : Type 0 where
  pub code : r ≡ creation_answer s (length old)
  pub done : r ≡ 0 → worker_in new ≡ fresh_worker s
  pub kept : (r ≡ 0 → ⊥) → new ≡ old
  pub long : length new ≡ length old
