use mathlib.Core.Path.{◌≡◌}
use lib.ListN.{drop}
use Rattle.settings.specs.Configured.{configured_in}
use Rattle.statistics.specs.Rate.{last_rate, last_rate_from}
use Rattle.statistics.proofs.rate.last_rate.Given as goal

abbrev pub invariant-loop-i : goal.invariant-loop-i
invariant-loop-i l = (last_rate (configured_in l.configured) l.group ≡ last_rate_from l.rate (drop l.i (configured_in l.configured)) l.group)
