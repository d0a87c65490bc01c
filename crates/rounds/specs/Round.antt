-- Rule 6: a round.
use Rattle.std.specs.Prelude.{Bool, cond, List, ◌++◌, map, ℕ, Float, Some}
use Rattle.std.specs.Float.{binary64}
use Rattle.std.specs.Float.Ieee.{div}
use Rattle.ieee.specs.Round.{float, slices_of}
use Rattle.lists.specs.Sort.{by_keys}
use Rattle.board.specs.Board.{Table, Board, with_tags, with_table, with_groups, asking}
use Rattle.groups.specs.Groups.{Groups}
use Rattle.slices.specs.Slice.{tier2_tags, slice_taken, next_index}
use Rattle.rounds.specs.Tick.{tick_of, boundary_at}
use Rattle.rounds.specs.Graces.{expired_at, run_out}
use Rattle.rounds.specs.Due.{due_tags, marked, recorded_due, none_seen}
use Rattle.table.specs.Table.{by_rank}
use Rattle.rounds.specs.Added.{with_added_tags, settled}
use Rattle.rounds.specs.Missing.{not_held_back}
use Rattle.heads.specs.declared.options.Options.{Options}
use Rattle.heads.specs.declared.cycle.Cycle.{Cycle}

-- What a round works on: the table, the groups, and the last boundary with the index of the next slice.
pub record Polling : Type 0 where
  pub table : Table
  pub groups : Groups
  pub cycle : Cycle

-- What a round comes to. `slice` is the slice before missing tags are dropped, `list` the tags to read.
pub record Round : Type 0 where
  pub tick : Float
  pub boundary : Bool
  pub ran_out : List ℕ
  pub due : List ℕ
  pub tier2 : List ℕ
  pub slice : List ℕ
  pub wanted : List ℕ
  pub list : List ℕ
  pub after : Polling

-- Rule 6: at a boundary the last boundary is now.
abbrev pub cycle_after : Cycle → Bool → Float → ℕ → Cycle
cycle_after c boundary clock index = record { last = cond boundary (Some clock) c.last; index = index }

-- Rule 6, whole. `less` is the order of the slices, by lower-cased name.
unfoldable pub round : (ℕ → ℕ → Bool) → Options → Polling → Float → Round
round less o P clock =
    let T = P.table in
    let tick = tick_of T.tags T.order o.cycle in
    let half = div binary64 tick (float 2) in
    let boundary = boundary_at P.cycle clock half o.cycle in
    let ran_out = expired_at boundary T.tags T.graces clock in
    let T1 = run_out T ran_out in
    let due = due_tags T1.tags T1.order clock half o.cycle in
    let tags = marked T1.tags clock due in
    let groups = recorded_due tags clock none_seen P.groups due in
    let S = slices_of o.period o.cycle in
    let tier2 = tier2_tags less tags T1.order in
    let taken = slice_taken boundary S tier2 P.cycle.index in
    let wanted = with_added_tags tags (due ++ taken) (by_rank tags) in
    record {
      tick = tick;
      boundary = boundary;
      ran_out = ran_out;
      due = due;
      tier2 = tier2;
      slice = taken;
      wanted = wanted;
      list = not_held_back tags wanted clock;
      after = record {
        table = with_tags T1 (map settled tags);
        groups = groups;
        cycle = cycle_after P.cycle boundary clock (next_index boundary S tier2 P.cycle.index);
      };
    }

-- the board after a round: the table and the groups, and the tags to read
abbrev pub with_polled : Board → Polling → List ℕ → Board
with_polled B P list = asking (with_groups (with_table B P.table) P.groups) list

-- Rule 6: what a round works on
abbrev pub polling_of : Board → Cycle → Polling
polling_of B c = record { table = B.table; groups = B.groups; cycle = c }

-- Rule 6: a round at the clock reading
abbrev pub round_of : Board → Options → Cycle → Float → Round
round_of B o c clock = round (by_keys B.keys) o (polling_of B c) clock
