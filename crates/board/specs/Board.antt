-- The table and the board that lent memory holds, and each with one part replaced.
use Rattle.std.specs.Prelude.{Bool, not, List, ◌≡◌, ℕ, eqb, get_or, set}
use Rattle.memory.specs.Halves.{halves_in}
use Rattle.tags.specs.Lists.{list_in, room, fitted}
use Rattle.table.specs.Tag.{fresh_tag}
use Rattle.table.specs.Table.{table_in}
use Rattle.table.specs.declared.tag.Tag.{Tag}
use Rattle.groups.specs.Groups.{Groups, grouped}
use Rattle.groups.specs.declared.group.Group.{Group}
use Rattle.settings.specs.Configured.{configured_in}
use Rattle.table.specs.declared.tag.GroupRate.{GroupRate}
use Rattle.queue.specs.Queue.{queue_in}
use Rattle.queue.specs.declared.Write.{Write}
use Rattle.board.specs.Layout.{IsBoard, parts_in, back, recorded, configured, queue, groups, table, order, graces, asked, keys, words}

-- The table: a record for each tag of the directory, the tags in tiers in their order of entry, and the tags in grace in the order of their graces.
-- `room` is how many tags each list of tags of an engine can hold: as many as the directory has. `words` has 0 for a tag that is no bit.
pub record Table : Type 0 where
  pub tags : List Tag
  pub order : List ℕ
  pub graces : List ℕ
  pub room : ℕ
  pub words : List ℕ

abbrev pub tag_at : Table → ℕ → Tag
tag_at T k = get_or T.tags k fresh_tag

abbrev pub is_bit : Table → ℕ → Bool
is_bit T k = not (eqb (get_or T.words k 0) 0)

abbrev pub with_tags : Table → List Tag → Table
with_tags T tags = record { tags = tags; order = T.order; graces = T.graces; room = T.room; words = T.words }

-- The table, the groups, the sort keys of the tags, the groups configured, the writes that wait, the tags of the request in hand, and the results
-- of a read-back whose outcome has not been taken yet.
pub record Board : Type 0 where
  pub table : Table
  pub groups : Groups
  pub keys : List ℕ
  pub configured : List GroupRate
  pub queue : List Write
  pub asked : List ℕ
  pub back : List ℕ

-- the board of these parts
unfoldable pub board_from : (ℕ → List ℕ) → Board
board_from P = record {
  table = record {
    tags = table_in (P table);
    order = list_in (P order);
    graces = list_in (P graces);
    room = room (P order);
    words = halves_in (P words);
  };
  groups = grouped (P groups) (P recorded);
  keys = halves_in (P keys);
  configured = configured_in (P configured);
  queue = queue_in (P queue);
  asked = list_in (P asked);
  back = P back;
}

unfoldable pub board_in : List ℕ → Board
board_in bs = board_from (parts_in bs)

-- memory that is a board and holds B: what each function leaves
pub record Holds (bs : List ℕ) (B : Board) : Type 0 where
  pub still : IsBoard bs
  pub board : board_in bs ≡ B

-- ---- the board with one thing replaced

abbrev pub with_table : Board → Table → Board
with_table B x = record { table = x; groups = B.groups; keys = B.keys; configured = B.configured; queue = B.queue; asked = B.asked; back = B.back }

abbrev pub with_groups : Board → Groups → Board
with_groups B x = record { table = B.table; groups = x; keys = B.keys; configured = B.configured; queue = B.queue; asked = B.asked; back = B.back }

abbrev pub with_keys : Board → List ℕ → Board
with_keys B x = record { table = B.table; groups = B.groups; keys = x; configured = B.configured; queue = B.queue; asked = B.asked; back = B.back }

abbrev pub with_configured : Board → List GroupRate → Board
with_configured B x = record { table = B.table; groups = B.groups; keys = B.keys; configured = x; queue = B.queue; asked = B.asked; back = B.back }

abbrev pub with_queue : Board → List Write → Board
with_queue B x = record { table = B.table; groups = B.groups; keys = B.keys; configured = B.configured; queue = x; asked = B.asked; back = B.back }

abbrev pub with_asked : Board → List ℕ → Board
with_asked B x = record { table = B.table; groups = B.groups; keys = B.keys; configured = B.configured; queue = B.queue; asked = x; back = B.back }

abbrev pub with_back : Board → List ℕ → Board
with_back B x = record { table = B.table; groups = B.groups; keys = B.keys; configured = B.configured; queue = B.queue; asked = B.asked; back = x }

-- the tags of a request, as many as there is room for; no engine has more (`uncut`)
abbrev pub asking : Board → List ℕ → Board
asking B x = with_asked B (fitted B.table.room x)

-- ---- the table of the board with one thing replaced

-- the record of each tag
abbrev pub with_records : Board → List Tag → Board
with_records B tags = with_table B (with_tags B.table tags)

-- that of the tag k
abbrev pub with_tag : Board → ℕ → Tag → Board
with_tag B k x = with_records B (set B.table.tags k x)

abbrev pub with_order : Board → List ℕ → Board
with_order B x = with_table B (record { tags = B.table.tags; order = x; graces = B.table.graces; room = B.table.room; words = B.table.words })

abbrev pub with_graces : Board → List ℕ → Board
with_graces B x = with_table B (record { tags = B.table.tags; order = B.table.order; graces = x; room = B.table.room; words = B.table.words })

abbrev pub with_words : Board → List ℕ → Board
with_words B x = with_table B (record { tags = B.table.tags; order = B.table.order; graces = B.table.graces; room = B.table.room; words = x })

-- ---- what is recorded of groups with one thing replaced

abbrev pub with_group_rows : Board → List Group → Board
with_group_rows B x = with_groups B (record { groups = x; recorded = B.groups.recorded; recorded_room = B.groups.recorded_room })

abbrev pub with_recorded : Board → List ℕ → Board
with_recorded B x = with_groups B (record { groups = B.groups.groups; recorded = x; recorded_room = B.groups.recorded_room })
