-- Rules 6 and 10: what is recorded of each group as its tags are listed.
use Rattle.std.specs.Prelude.{Bool, cond, List, ℕ, ◌/◌, ◌%◌, Float, length, get_or, set, Some, None}
use Rattle.memory.specs.Blocks.{blocks}
use Rattle.memory.specs.Cells.{cells_in}
use Rattle.words.specs.Time.{time_from}
use Rattle.tags.specs.Lists.{list_in, room, pushed, member}
use Rattle.groups.specs.declared.group.Group.{Group}

abbrev pub fresh_group : Group
fresh_group = record { rate = 0; last = None; before = None }

-- the group that the first five of its eight cells hold; the other three are spare
unfoldable pub group_from : List ℕ → Group
group_from ws = record {
  rate = get_or ws 2 0 % 0x1_0000_0000;
  last = time_from (get_or ws 0 0) (get_or ws 3 0);
  before = time_from (get_or ws 1 0) (get_or ws 4 0);
}

-- the groups that lent memory holds, one for each whole 64 bytes
unfoldable pub groups_in : List ℕ → List Group
groups_in bs = blocks group_from 8 (length bs / 64) (cells_in bs)

-- The groups, and those that were recorded in the order of their first reading; `room` is how many that list can hold.
pub record Groups : Type 0 where
  pub groups : List Group
  pub recorded : List ℕ
  pub recorded_room : ℕ

abbrev pub grouped : List ℕ → List ℕ → Groups
grouped s recorded = record { groups = groups_in s; recorded = list_in recorded; recorded_room = room recorded }

-- Rule 10: a group's rate is the last recorded.
abbrev pub with_rate : Group → ℕ → Group
with_rate x rate = record { rate = rate; last = x.last; before = x.before }

-- Its period is between the last two rounds that had a tag of it, so its times move on with the first tag of a round.
unfoldable pub group_read : Group → ℕ → Float → Bool → Group
group_read x rate at first =
    cond first (record { rate = rate; last = Some at; before = x.last }) (with_rate x rate)

-- Rule 10: recorded groups stand in the order of their first reading.
unfoldable pub noted : Groups → ℕ → ℕ → Float → Bool → Groups
noted G g rate at first = record {
  groups = set G.groups g (group_read (get_or G.groups g fresh_group) rate at first);
  recorded = cond (member g G.recorded) G.recorded (pushed G.recorded_room G.recorded g);
  recorded_room = G.recorded_room;
}
