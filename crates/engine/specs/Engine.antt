-- The head of an engine, and its constants.
use Rattle.std.specs.Prelude.{cond, List, [], ◌∷◌, ℕ, ◌/◌, ◌%◌, min, ltb, Float, length, get_or, None}
use Rattle.std.specs.Float.{binary64}
use Rattle.std.specs.Float.Ieee.{of_bits, add}
use Rattle.ieee.specs.Round.{float}
use Rattle.memory.specs.Cells.{rows_in, no_row}
use Rattle.words.specs.Time.{time_from}
use Rattle.heads.specs.declared.options.Options.{Options}
use Rattle.heads.specs.declared.cycle.Cycle.{Cycle}
use Rattle.heads.specs.Link.{fresh_link, link_from}
use Rattle.heads.specs.Progress.{fresh_progress, progress_from}
use Rattle.heads.specs.Stats.{fresh_stats, stats_from}
use Rattle.heads.specs.declared.link.Link.{Link}
use Rattle.heads.specs.declared.progress.Progress.{Progress}
use Rattle.heads.specs.declared.stats.Stats.{Stats}
use Rattle.engine.specs.declared.Engine.{Engine}

-- Rule 9: backoff 1, 2, 5, 10, 10...
abbrev pub backoff_at : ℕ → Float
backoff_at attempt = get_or (float 1 ∷ float 2 ∷ float 5 ∷ float 10 ∷ []) (min attempt 3) (float 10)

-- Rule 7: missing sets a mark at start + 10 s.
abbrev pub retry_at : Float → Float
retry_at start = add binary64 start (float 10)

-- An engine that has done nothing yet.
abbrev pub fresh_engine : Options → ℕ → Engine
fresh_engine options count = record {
  options = options;
  cycle = record { last = None; index = 0 };
  clock = of_bits binary64 0;
  count = count;
  link = fresh_link;
  progress = fresh_progress;
  stats = fresh_stats;
}

abbrev pub with_link : Engine → Link → Engine
with_link e x = record { options = e.options; cycle = e.cycle; clock = e.clock; count = e.count; link = x; progress = e.progress; stats = e.stats }

abbrev pub with_progress : Engine → Progress → Engine
with_progress e x = record { options = e.options; cycle = e.cycle; clock = e.clock; count = e.count; link = e.link; progress = x; stats = e.stats }

abbrev pub with_stats : Engine → Stats → Engine
with_stats e x = record { options = e.options; cycle = e.cycle; clock = e.clock; count = e.count; link = e.link; progress = e.progress; stats = x }

abbrev pub with_cycle : Engine → Cycle → Engine
with_cycle e x = record { options = e.options; cycle = x; clock = e.clock; count = e.count; link = e.link; progress = e.progress; stats = e.stats }

abbrev pub with_clock : Engine → Float → Engine
with_clock e x = record { options = e.options; cycle = e.cycle; clock = x; count = e.count; link = e.link; progress = e.progress; stats = e.stats }

abbrev pub options_from : ℕ → ℕ → ℕ → Options
options_from cycle period grace = record { cycle = of_bits binary64 cycle; period = of_bits binary64 period; grace = of_bits binary64 grace }

abbrev pub cycle_from : ℕ → ℕ → ℕ → Cycle
cycle_from begun last index = record { last = time_from begun last; index = index }

-- the head that a row holds
unfoldable pub engine_from : List ℕ → Engine
engine_from ws = record {
  options = options_from (get_or ws 0 0) (get_or ws 1 0) (get_or ws 2 0);
  cycle = cycle_from (get_or ws 3 0) (get_or ws 4 0) (get_or ws 5 0);
  clock = of_bits binary64 (get_or ws 6 0);
  count = get_or ws 7 0 % 65536;
  link = link_from (get_or ws 8 0) (get_or ws 9 0) (get_or ws 10 0) (get_or ws 11 0) (get_or ws 12 0);
  progress = progress_from (get_or ws 13 0) (get_or ws 14 0) (get_or ws 15 0) (get_or ws 16 0) (get_or ws 17 0) (get_or ws 18 0);
  stats = stats_from (get_or ws 19 0) (get_or ws 20 0) (get_or ws 21 0) (get_or ws 22 0) (get_or ws 23 0) (get_or ws 24 0) (get_or ws 25 0);
}

-- the head that lent memory holds, in its first row
unfoldable pub engine_in : List ℕ → Engine
engine_in bs = engine_from (get_or (rows_in bs) 0 no_row)

-- the head after x was put in the first row; memory without a row keeps what it has
unfoldable pub stored : List ℕ → Engine → Engine
stored bs x = cond (ltb 0 (length bs / 256)) x (engine_in bs)
