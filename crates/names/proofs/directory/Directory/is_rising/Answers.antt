use mathlib.Core.Path.{sym, ◌∙◌}
use native.Mathlib.Omega.{arith}
use Rattle.names.specs.Directory.{names_of}
use Rattle.names.proofs.Loops.{rising_start, rising_more, rising_end}
use Rattle.names.proofs.DirectoryLaws.{length_names}
use Rattle.names.proofs.directory.Directory.is_rising.Goals as goal

pub loop-i-init : goal.loop-i-init
loop-i-init c = (omega arith, rising_start (names_of c.args.self.names.now c.args.self.ends.now))

pub returns-then-not-less : goal.returns-then-not-less
returns-then-not-less c =
    let args = c.args in
    let loop = c.loop-i in
    let before = c.name.ensures in
    let name = c.name-in-loop-i.ensures in
    let more = rising_more (names_of args.self.names.now args.self.ends.now) loop.i _ _ _ (rw length_names (omega arith)) before name c.less.ensures in
    sym (loop.invariant.1 ∙ more ∙ simp (c.if-not-less.true))

pub loop-i-preserved : goal.loop-i-preserved
loop-i-preserved c =
    let args = c.args in
    let loop = c.loop-i in
    let before = c.name.ensures in
    let name = c.name-in-loop-i.ensures in
    let more = rising_more (names_of args.self.names.now args.self.ends.now) loop.i _ _ _ (rw length_names (omega arith)) before name c.less.ensures in
    (omega arith, loop.invariant.1 ∙ more ∙ simp (c.if-not-less.false))

pub returns : goal.returns
returns c =
    let args = c.args in
    sym (c.loop-i.invariant.1 ∙ rising_end (names_of args.self.names.now args.self.ends.now) _ c.loop-i.i (rw length_names c.loop-i-test.false))
