-- A tag of which nothing is known, and its parts.
use Rattle.std.specs.Prelude.{false, Float, Option, None}
use Rattle.std.specs.Float.{binary64}
use Rattle.std.specs.Float.Ieee.{of_bits}
use Rattle.table.specs.declared.tag.Grace.{Grace}
use Rattle.table.specs.declared.tag.Timing.{Timing}
use Rattle.table.specs.declared.tag.Settings.{Settings}
use Rattle.table.specs.declared.tag.Description.TheVariants.{Unknown}
use Rattle.table.specs.declared.tag.Tag.{Tag}

-- 0.0
abbrev pub f0 : Float
f0 = of_bits binary64 0

abbrev pub no_grace : Option Grace
no_grace = None

abbrev pub no_timing : Timing
no_timing = record { last = None; retry = None }

abbrev pub no_settings : Settings
no_settings = record { band = f0; group = None; described = false }

abbrev pub fresh_tag : Tag
fresh_tag = record {
  tier = 0;
  grace = no_grace;
  timing = no_timing;
  added = false;
  wants = false;
  description = Unknown;
  settings = no_settings;
  cached = None;
  published = None;
}
