-- Each return is one line of the checks, given that those before it are not met.
use mathlib.Core.Path.{sym, ◌∙◌}
use Rattle.names.specs.Directory.{max_names, max_name_length}
use Rattle.names.proofs.DirectoryLaws.{check_none, check_many, check_2, check_3, check_4, check_0}
use Rattle.names.proofs.directory.Directory.check.Goals as goal
use Rattle.names.proofs.directory.Directory.check.Goals.{then-self-eq0-via-then-self-eq0, then-self-eq0-via-else-self-eq0+then-self-gt-MAX_NAMES}

pub returns-then-self-eq0 : goal.returns-then-self-eq0
returns-then-self-eq0 c =
    let args = c.args in
    elim c.then-self-eq0.branch [
      | then-self-eq0-via-then-self-eq0 w ↦ sym (check_none max_names max_name_length args.self.names.now args.self.ends.now w.if-self-eq0.true)
      | then-self-eq0-via-else-self-eq0+then-self-gt-MAX_NAMES w ↦ sym (check_many max_names max_name_length args.self.names.now args.self.ends.now w.if-self-eq0.false w.if-self-gt-MAX_NAMES.true)
    ]

pub returns-then-not-good_ends : goal.returns-then-not-good_ends
returns-then-not-good_ends c =
    let args = c.args in
    let ends = c.good_ends in
    sym
    (check_2 max_names max_name_length args.self.names.now args.self.ends.now c.if-self-eq0.false c.if-self-gt-MAX_NAMES.false
    (sym ends.ensures ∙ c.if-not-good_ends.true))

pub returns-then-not-good_bytes : goal.returns-then-not-good_bytes
returns-then-not-good_bytes c =
    let args = c.args in
    let ends = c.good_ends in
    let bytes = c.good_bytes in
    sym
    (check_3 max_names max_name_length args.self.names.now args.self.ends.now c.if-self-eq0.false c.if-self-gt-MAX_NAMES.false
    (sym ends.ensures ∙ c.if-not-good_ends.false)
    (sym bytes.ensures ∙ c.if-not-good_bytes.true))

pub returns-then-not-is_rising : goal.returns-then-not-is_rising
returns-then-not-is_rising c =
    let args = c.args in
    let ends = c.good_ends in
    let bytes = c.good_bytes in
    let rises = c.is_rising in
    sym
    (check_4 max_names max_name_length args.self.names.now args.self.ends.now c.if-self-eq0.false c.if-self-gt-MAX_NAMES.false
    (sym ends.ensures ∙ c.if-not-good_ends.false)
    (sym bytes.ensures ∙ c.if-not-good_bytes.false)
    (sym rises.ensures ∙ c.if-not-is_rising.true))

pub returns : goal.returns
returns c =
    let args = c.args in
    let ends = c.good_ends in
    let bytes = c.good_bytes in
    let rises = c.is_rising in
    sym
    (check_0 max_names max_name_length args.self.names.now args.self.ends.now c.if-self-eq0.false c.if-self-gt-MAX_NAMES.false
    (sym ends.ensures ∙ c.if-not-good_ends.false)
    (sym bytes.ensures ∙ c.if-not-good_bytes.false)
    (sym rises.ensures ∙ c.if-not-is_rising.false))
