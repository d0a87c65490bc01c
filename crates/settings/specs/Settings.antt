-- Check 14: the settings of the tags, as the host lends them.
use Rattle.std.specs.Prelude.{Bool, not, ◌&&◌, ◌||◌, List, map, ℕ, ◌*◌, ◌-◌, ◌/◌, ◌%◌, eqb, leb, length, get_or}
use Rattle.std.specs.Float.{binary64}
use Rattle.std.specs.Float.Ieee.{of_bits}
use Rattle.std.specs.Float.Ieee.Scale.{finite}
use Rattle.table.specs.Tag.{no_settings}
use Rattle.table.specs.Row.{settings_from}
use Rattle.table.specs.declared.tag.Settings.{Settings}
use Rattle.settings.specs.Records.{records_in, every}

-- A setting is four cells: the bits of its deadband; its group and 1, 0 for none; its rate, in the low 32 bits; whether a description is set.
unfoldable pub setting_from : List ℕ → Settings
setting_from ws = settings_from (get_or ws 0 0) (get_or ws 1 0) (get_or ws 1 0 - 1) (get_or ws 2 0) (get_or ws 3 0)

abbrev pub setting_count : List ℕ → ℕ
setting_count bs = length bs / 32

-- the setting of tag i; past the end none
unfoldable pub setting_in : List ℕ → ℕ → Settings
setting_in bs i = get_or (map setting_from (records_in 4 bs)) i no_settings

-- Check 14: groups are numbered 0 to 15, and at most 16 are configured
abbrev pub max_groups : ℕ
max_groups = 16

-- Check 14: a rate is 1 to 2^32 - 1 milliseconds, in the low 32 bits of its cell; the others are not looked at
abbrev pub rate_ok : ℕ → Bool
rate_ok rate = not (eqb (rate % 0x1_0000_0000) 0)

-- Check 14: the deadband is finite, and a group is at most 15, with a rate that isn't 0
unfoldable pub setting_ok : List ℕ → Bool
setting_ok ws = finite (of_bits binary64 (get_or ws 0 0)) && (eqb (get_or ws 1 0) 0 || (leb (get_or ws 1 0) max_groups && rate_ok (get_or ws 2 0)))

-- Check 14: exactly one setting for each of `count` tags, and each in range
unfoldable pub settings_ok : ℕ → List ℕ → Bool
settings_ok count bs = eqb (length bs) (32 * count) && every setting_ok (records_in 4 bs)
