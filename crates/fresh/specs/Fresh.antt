-- A fresh board.
use Rattle.std.specs.Prelude.{false, List, [], ℕ, length, replicate}
use Rattle.names.specs.Directory.{names_of}
use Rattle.ranks.specs.Ranks.{keys_of, words_of}
use Rattle.table.specs.Tag.{fresh_tag}
use Rattle.groups.specs.Groups.{fresh_group}
use Rattle.settings.specs.Configured.{given_groups}
use Rattle.versions.specs.Versions.{table_taken}
use Rattle.board.specs.Board.{Board}

-- How many groups, recorded groups and configured groups the memory has room for. The checks let fewer in, so that none of this is ever met.
abbrev pub group_room : ℕ
group_room = 16

abbrev pub recorded_room : ℕ
recorded_room = 31

abbrev pub configured_room : ℕ
configured_room = 31

-- A board of zeros for c tags.
abbrev pub empty_board : ℕ → Board
empty_board c = record {
  table = record { tags = replicate c fresh_tag; order = []; graces = []; room = c; words = replicate c 0 };
  groups = record { groups = replicate group_room fresh_group; recorded = []; recorded_room = recorded_room };
  keys = replicate c 0;
  configured = [];
  queue = [];
  asked = [];
  back = replicate 256 0;
}

-- Nothing was done yet: no tag is in a tier, and each has its settings. Lists of tags have room for every name.
unfoldable pub fresh_board : List ℕ → List ℕ → List ℕ → List ℕ → Board
fresh_board names ends settings groups = record {
  table = record {
    tags = table_taken false settings (words_of (names_of names ends)) (replicate (length ends) fresh_tag);
    order = [];
    graces = [];
    room = length ends;
    words = words_of (names_of names ends);
  };
  groups = record { groups = replicate group_room fresh_group; recorded = []; recorded_room = recorded_room };
  keys = keys_of (names_of names ends);
  configured = given_groups groups;
  queue = [];
  asked = [];
  back = replicate 256 0;
}
