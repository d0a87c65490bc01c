-- `rounds::due::record_due` meets its contract.
use mathlib.Core.Path.{◌≡◌, ap, ap₂, sym, ◌∙◌}
use mathlib.Core.Bool.{Bool}
use mathlib.Core.List.{List}
use Prim.Native.Nat.{ℕ, ◌+◌}
use native.Mathlib.Omega.{arith}
use lib.ListN.{length, get_or, drop}
use Rattle.std.specs.Prelude.{Option}
use Rattle.table.specs.declared.tag.GroupRate.{GroupRate}
use Rattle.tags.specs.Lists.{list_in}
use Rattle.table.specs.Tag.{fresh_tag}
use Rattle.groups.specs.Groups.{Groups}
use Rattle.board.specs.Board.{Board, board_in, tag_at, with_groups}
use Rattle.rounds.specs.Due.{seen_with, noted_due, recorded_due}
use Rattle.rounds.proofs.DueLaws.{recorded_more, recorded_end}
use lib.Ieee.{Float}
use Rattle.table.specs.declared.tag.Settings.{Settings}
use Rattle.rounds.proofs.due.record_due.Goals as goal
use Rattle.rounds.proofs.due.record_due.Goals.{in-Some, in_default}

-- the board once the tags of a list are recorded
abbrev recorded : Board → Float → List Bool → List ℕ → Board
recorded B clock seen list = with_groups B (recorded_due B.table.tags clock seen B.groups list)

pub returns : goal.returns
returns c =
    let a = c.args in
    let l = c.loop-i in
    let B = board_in l.b in
    record {
      still = l.invariant.0;
      board = sym (l.invariant.1.1 ∙ ap (λ (G : Groups). with_groups B G) (recorded_end B.table.tags a.clock l.seen B.groups (list_in a.list.now) l.i (omega arith)));
    }

pub loop-i-preserved : goal.loop-i-preserved
loop-i-preserved c =
    let a = c.args in
    let l = c.loop-i in
    let B = board_in l.b in
    let tags = B.table.tags in
    let list = list_in a.list.now in
    let rest = drop (l.i + 1) list in
    let g = c.settings_of.result.group in
    let here : g ≡ (get_or tags (get_or list l.i 0) fresh_tag).settings.group =
    ap (λ (s : Settings). s.group) (c.settings_of.ensures ∙ ap (λ (k : ℕ). (tag_at B.table k).settings) c.at.ensures)
    in
    let more : (o : Option GroupRate) → g ≡ o → recorded_due tags a.clock l.seen B.groups (drop l.i list) ≡ recorded_due tags a.clock (seen_with l.seen o) (noted_due B.groups l.seen o a.clock) rest =
    λ o is. recorded_more tags a.clock l.seen B.groups list l.i g (omega arith) here
    ∙ ap (λ (p : Option GroupRate). recorded_due tags a.clock (seen_with l.seen p) (noted_due B.groups l.seen p a.clock) rest) is
    in elim c.match-settings_of.branch [
      | in-Some w ↦ (
        rw w.b-is w.note.ensures.still,
        (
          ap length w.b-is ∙ w.note.auto.b ∙ l.invariant.1.0,
          l.invariant.1.1
              ∙ ap (λ (G : Groups). with_groups B G) (more _ w.in-Some.is)
              ∙ ap₂ (λ (seen : List Bool) (X : Board). recorded X a.clock seen rest) (sym w.seen-is) (sym (ap board_in w.b-is ∙ w.note.ensures.board)),
        ),
      )
      | in_default w ↦ (
        rw w.b-is l.invariant.0,
        (
          ap length w.b-is ∙ l.invariant.1.0,
          l.invariant.1.1
              ∙ ap (λ (G : Groups). with_groups B G) (more _ w.in_default.is)
              ∙ ap₂ (λ (seen : List Bool) (X : Board). recorded X a.clock seen rest) (sym w.seen-is) (sym (ap board_in w.b-is)),
        ),
      )
    ]
