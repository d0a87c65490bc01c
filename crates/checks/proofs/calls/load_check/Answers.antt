-- `checks::calls::load_check` meets its contract.
use mathlib.Core.Path.{ap, sym, ◌∙◌}
use Rattle.std.specs.Prelude.{⊤, Result}
use Rattle.refusals.specs.Refusals.{code}
use Rattle.refusals.specs.declared.Refusal.{Refusal}
use Rattle.checks.specs.Calls.{load_check}
use Rattle.board.specs.Board.{board_in}
use Rattle.checks.proofs.Laws.{none_in_tiers, some_in_tiers}
use Rattle.checks.proofs.CallLaws.{first_refusal, next}
use Rattle.checks.proofs.calls.load_check.Goals as goal

pub returns-in-Err : goal.returns-in-Err
unfolding load_check
returns-in-Err c = first_refusal c.in-Err.refusal _ _ (ap (λ (x : Result ⊤ Refusal). code x) (sym c.in-Err.is) ∙ c.clock_check.ensures _)

pub returns-in-Err-check_panel : goal.returns-in-Err-check_panel
unfolding load_check
returns-in-Err-check_panel c =
    next _ _ _ (ap (λ (x : Result ⊤ Refusal). code x) (sym c.in_default.is) ∙ c.clock_check.ensures _)
    (first_refusal c.in-Err-check_panel.refusal _ _ (ap (λ (x : Result ⊤ Refusal). code x) (sym c.in-Err-check_panel.is) ∙ c.check_panel.ensures))

pub returns-then-order_count-eq0 : goal.returns-then-order_count-eq0
unfolding load_check
returns-then-order_count-eq0 c =
    let order = (board_in c.args.board.now).table.order in
    next _ _ _ (ap (λ (x : Result ⊤ Refusal). code x) (sym c.in_default.is) ∙ c.clock_check.ensures _)
    (next _ _ _ (ap (λ (x : Result ⊤ Refusal). code x) (sym c.in_default-check_panel.is) ∙ c.check_panel.ensures) (none_in_tiers order (sym c.order_count.ensures ∙ c.if-order_count-eq0.true)))

pub returns : goal.returns
unfolding load_check
returns c =
    let order = (board_in c.args.board.now).table.order in
    next _ _ _ (ap (λ (x : Result ⊤ Refusal). code x) (sym c.in_default.is) ∙ c.clock_check.ensures _)
    (next _ _ _ (ap (λ (x : Result ⊤ Refusal). code x) (sym c.in_default-check_panel.is) ∙ c.check_panel.ensures) (some_in_tiers order (λ e. c.if-order_count-eq0.false (c.order_count.ensures ∙ e))))
