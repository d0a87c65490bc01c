-- Check 14 and rule 10: the configured groups, as the host lends them and as the engine keeps them.
use Rattle.std.specs.Prelude.{Bool, ◌&&◌, List, map, ℕ, ◌*◌, ◌-◌, ◌/◌, ◌%◌, eqb, ltb, leb, length, get_or, take, drop}
use Rattle.memory.specs.Cells.{cells_in}
use Rattle.settings.specs.Records.{records_of, records_in, every}
use Rattle.settings.specs.Settings.{max_groups, rate_ok}
use Rattle.table.specs.declared.tag.GroupRate.{GroupRate}

-- A group is two cells: its number, and its rate in the low 32 bits.
unfoldable pub configured_from : List ℕ → GroupRate
configured_from ws = record { number = get_or ws 0 0 % 256; rate = get_or ws 1 0 % 0x1_0000_0000 }

-- a group that isn't there
abbrev pub no_group : GroupRate
no_group = record { number = 0; rate = 0 }

-- the groups that the host lends
unfoldable pub given_groups : List ℕ → List GroupRate
given_groups bs = map configured_from (records_in 2 bs)

-- Check 14: a group is at most 15, with a rate that isn't 0
unfoldable pub group_ok : List ℕ → Bool
group_ok ws = ltb (get_or ws 0 0) max_groups && rate_ok (get_or ws 1 0)

-- Check 14: whole groups, at most 16, and each in range
unfoldable pub configured_ok : List ℕ → Bool
configured_ok bs = eqb (length bs) (16 * (length bs / 16)) && (leb (length bs / 16) max_groups && every group_ok (records_in 2 bs))

-- The engine's memory: the first cell is the count, and the groups after it are the places.
unfoldable pub group_places : List ℕ → List GroupRate
group_places bs = map configured_from (records_of 2 (drop 1 (cells_in bs)))

-- a count above the places there are stands for all of them
unfoldable pub configured_in : List ℕ → List GroupRate
configured_in bs = take (get_or (cells_in bs) 0 0) (group_places bs)

-- how many groups can be kept
abbrev pub group_room : List ℕ → ℕ
group_room bs = (length bs / 8 - 1) / 2
