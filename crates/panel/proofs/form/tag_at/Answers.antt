-- `panel::form::tag_at` meets its contract.
use mathlib.Core.Path.{sym, ◌∙◌}
use native.Mathlib.Omega.{arith}
use Rattle.panel.proofs.PanelLaws.{tags_at, tags_past}
use Rattle.panel.proofs.form.tag_at.Goals as goal

pub returns-then-i-byte : goal.returns-then-i-byte
returns-then-i-byte c =
    let a = c.args in
    c.byte-then-i-byte.ensures ∙ sym (tags_at a.list.now a.i (omega arith))

pub returns-else-i-byte : goal.returns-else-i-byte
returns-else-i-byte c =
    let a = c.args in
    sym (tags_past a.list.now a.i (omega arith))
