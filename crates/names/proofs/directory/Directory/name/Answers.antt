-- The first name starts at 0, a later one at the end place before its own.
use mathlib.Core.Path.{sym, ◌∙◌}
use native.Mathlib.Omega.{arith}
use Rattle.names.proofs.DirectoryLaws.{piece_none, name_first, name_past, name_later}
use Rattle.names.proofs.directory.Directory.name.Goals as goal
use Rattle.names.proofs.directory.Directory.name.Goals.{then-tag-eq0, else-tag-eq0}

pub returns-then-self-tag : goal.returns-then-self-tag
returns-then-self-tag c =
    let args = c.args in
    c.part.ensures ∙ piece_none 0 0 args.self.names.now (omega arith) ∙ sym (name_past args.self.names.now args.self.ends.now args.tag (omega arith))

pub returns : goal.returns
returns c =
    let args = c.args in
    c.part-2.ensures ∙ elim c.if-tag-eq0.branch [
      | then-tag-eq0 w ↦ rw w.from-is (sym (name_first args.self.names.now args.self.ends.now args.tag w.if-tag-eq0.true c.if-self-tag.false))
      | else-tag-eq0 w ↦ rw w.from-is (sym (name_later args.self.names.now args.self.ends.now args.tag w.if-tag-eq0.false c.if-self-tag.false))
    ]
