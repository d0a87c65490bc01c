-- The checks of tier calls, loads and writes: 0, or the number of the first that refuses.
use Rattle.std.specs.Prelude.{Bool, not, cond, List, ℕ, eqb, ltb, leb, Float, length}
use Rattle.std.specs.Float.Ieee.{lt}
use Rattle.ieee.specs.Times.{clock_ok}
use Rattle.values.specs.declared.value.Value.{Value}
use Rattle.results.specs.Results.{value_ok}
use Rattle.panel.specs.Panel.{panel_check}
use Rattle.heads.specs.Link.{is_state}
use Rattle.heads.specs.declared.link.State.TheVariants.{Connected}
use Rattle.replies.specs.Worker.{Worker}
use Rattle.replies.specs.Losing.{is_empty}

-- Checks 21 and 22: a clock reading; 0 where it is accepted
unfoldable pub clock_check : Worker → Float → ℕ
clock_check W clock = cond (not (clock_ok clock)) 21 (cond (lt clock W.head.clock) 22 0)

-- Check 23: no such tag
abbrev pub no_tag : Worker → ℕ → Bool
no_tag W tag = leb W.head.count tag

-- the first number that is not 0
abbrev pub first : ℕ → ℕ → ℕ
first n m = cond (eqb n 0) m n

-- Checks of a tier call: clock, tag, tier
unfoldable pub tier_check : Worker → Float → ℕ → ℕ → ℕ
tier_check W clock tag tier = first (clock_check W clock) (cond (no_tag W tag) 23 (cond (ltb 3 tier) 24 0))

-- Checks of a load: clock, then the list (51, 53, 54, 55), then 56: the engine has a tag in a tier
unfoldable pub load_check : Worker → Float → List ℕ → ℕ
load_check W clock list = first (clock_check W clock) (first (panel_check W.head.count list) (cond (is_empty W.board.table.order) 0 56))

-- Check 32: so many writes may wait
abbrev pub max_writes : ℕ
max_writes = 32

-- Checks of a write: tag, state (31), room (32), then 42
unfoldable pub write_check : Worker → ℕ → Value → ℕ
write_check W tag v =
    cond (no_tag W tag) 23
    (cond (not (is_state W.head.link Connected)) 31
    (cond (leb max_writes (length W.board.queue)) 32
    (cond (value_ok v) 0 42)))
