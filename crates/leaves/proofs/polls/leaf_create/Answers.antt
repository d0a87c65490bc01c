-- `leaves::polls::leaf_create` meets its contract.
use mathlib.Core.Path.{sym, ◌∙◌}
use Rattle.leaves.proofs.Laws.{fresh_passed, refused_call, done_call}
use Rattle.leaves.proofs.polls.leaf_create.Goals as goal

pub returns-then-code-ne0 : goal.returns-then-code-ne0
returns-then-code-ne0 c = refused_call _ _ _ _ c.fresh_check-code.ensures c.if-code-ne0.true

pub returns : goal.returns
returns c = done_call _ _ _ _ (sym c.fresh_check-code.ensures ∙ c.if-code-ne0.false) c.create.ensures

pub create-requires : goal.create-requires
create-requires c =
    let fits = fresh_passed c.args.mem.now c.args.ends.now (sym c.fresh_check-code.ensures ∙ c.if-code-ne0.false) in
    record { board = fits.0; b_value = fits.1 }
