-- Demand 3: the claim about lists of calls.
-- A history is a list of calls with what each answered and the memory that it left. It happened, from an engine's memory on, if each call came back as the
-- contract of its entry point says (`Contracts`), on the memory as the last call left it. What the rules make of a call is in `Calls`.
use Rattle.std.specs.Prelude.{◌≡◌, Bool, true, not, cond, List, map, ℕ, eqb}
use Rattle.std.proofs.Math.Option.{Option, none, some}
use Rattle.lists.specs.Keep.{keep}
use Rattle.lists.specs.Slices.{slice}
use Rattle.lists.specs.Sort.{sort}
use Rattle.ieee.specs.Round.{slices_of}
use Rattle.names.specs.Directory.{names_of}
use Rattle.names.specs.Keys.{by_name}
use Rattle.board.specs.Board.{Table}
use Rattle.slices.specs.Slice.{is_tier2}
use Rattle.rounds.specs.Round.{Round}
use Rattle.histories.specs.Events.{Event, quiet, retiered, took, Each, EveryTurnOfRounds}
use Rattle.histories.specs.Histories.{Did, calls, answered, engines, Ready, Happened, at_each, answers, trace, states}
use Rattle.replies.specs.Worker.{Worker}
use Rattle.replies.specs.Losing.{is_empty}
use Rattle.capi.specs.Memory.{worker_in}
use Rattle.checks.specs.Calls.{tier_check, load_check}
use Rattle.checks.specs.Creation.{Setup}
use Rattle.capi.specs.Creation.{fresh_worker}
use Rattle.turns.specs.Calls.{Call, tier, load, steps, write, stop, look, Answer, told_by, answer, after}
use Rattle.turns.specs.EntryContracts.{CreateMet, Asked, Learnt}

-- ---- the words of the demand

-- The round that a call works out: a step one at most, every other call none.
unfoldable pub round_in : Call → Worker → Option Round
round_in (tier clock tag to) W = none
round_in (load clock list) W = none
round_in (steps clock wall kind number message list out) W = (told_by clock wall kind number message list out W).round
round_in (write tag kind word) W = none
round_in stop W = none
round_in (look l) W = none

-- A tier-2 tag as the slice is taken: one that is in tier 2 in the table that the round leaves. Graces run out before the slice is taken, a tag in grace
-- is in tier 2, and nothing in the round changes a tier after that.
abbrev pub is_tier2_in : Round → ℕ → Bool
is_tier2_in R t = is_tier2 R.after.table.tags t

-- A boundary round takes its slice; `slice` is the slice before missing tags are dropped. A grace ran out at it where `ranOut` has a tag.
abbrev pub of_round : Option Round → Event
of_round none = quiet
of_round (some R) = cond R.boundary (took (not (is_empty R.ran_out)) (is_tier2_in R) R.slice) quiet

-- A tier call or a load is accepted where it answers 0.
abbrev pub of_answer : ℕ → Event
of_answer n = cond (eqb n 0) retiered quiet

-- What a call did, as far as the demand goes.
unfoldable pub event : Call → Worker → Event
event (tier clock tag to) W = of_answer (tier_check W clock tag to)
event (load clock list) W = of_answer (load_check W clock list)
event (steps clock wall kind number message list out) W = of_round (round_in (steps clock wall kind number message list out) W)
event (write tag kind word) W = quiet
event stop W = quiet
event (look l) W = quiet

-- Rule 4: S, of creation's options
abbrev pub slices_in : Setup → ℕ
slices_in s = slices_of s.options.period s.options.cycle

-- ---- which tags

-- Rule 6: the tier-2 tags of a table by lower-cased name, ties in table order
abbrev pub tier2_by_name : List (List ℕ) → Table → List ℕ
tier2_by_name names T = sort (by_name names) (keep (is_tier2 T.tags) T.order)

-- A boundary round takes slice i of S of them.
unfoldable pub TookByName : List (List ℕ) → ℕ → Option Round → ℕ → Type 0
TookByName names S none i = Unit {0}
TookByName names S (some R) i = R.boundary ≡ true → R.slice ≡ slice S (tier2_by_name names R.after.table) i

-- A call, and the engine that it is made on.
pub record Moment : Type 0 where
  pub call : Call
  pub engine : Worker

abbrev pub moment : Call → Worker → Moment
moment c W = record { call = c; engine = W }

-- At a boundary round of this call the slice is that of the engine's slice index.
abbrev pub ByName : Setup → Moment → Type 0
ByName s m = TookByName (names_of s.names s.ends) (slices_in s) (round_in m.call m.engine) m.engine.head.cycle.index

-- ---- the demand

abbrev pub History : Type 0
History = List (Did Call Answer (List ℕ))

-- Of a history h from the memory `fresh` on, which holds an engine made of s.
--   could   no call could not be made
--   same    the answers, and what is left in lent lists, are what rules 1 to 11 and the checks make of the arguments
--   kept    so is the engine in memory after each call
--   turned  S consecutive boundary rounds, none but the first disturbed, name each tier-2 tag exactly once, and nothing else
--   named   which tags each boundary round's slice names
pub record Demand3 (s : Setup) (fresh : List ℕ) (h : History) : Type 0 where
  pub could : Ready Asked fresh h
  pub same : answered h ≡ answers after answer (calls h) (fresh_worker s)
  pub kept : map worker_in (engines h) ≡ states after (calls h) (fresh_worker s)
  pub turned : EveryTurnOfRounds (slices_in s) (trace after event (calls h) (fresh_worker s))
  pub named : Each (at_each after moment (calls h) (fresh_worker s)) (ByName s)

-- Of all that creation may be given, every memory that it leaves with the answer 0, and every list of calls that happened on it.
unfoldable pub Claim : Type 0
Claim = (s : Setup) (mem fresh : List ℕ) → CreateMet s mem fresh 0 → (h : History) → Happened Asked Learnt fresh h → Demand3 s fresh h
