-- `listing::line::three` meets its contract.
use mathlib.Core.Path.{sym, ◌∙◌}
use Rattle.listing.proofs.Fields.{got, three_no_first, three_one, three_no_second, three_two, three_no_third, three_four, three_all}
use Rattle.listing.proofs.line.three.Goals as goal

pub returns-in_err-a : goal.returns-in_err-a
returns-in_err-a c = c.from_residual.ensures ∙ sym (three_no_first c.args.line.now 0 c.in_err-a.ensures)

pub returns-then-line-i : goal.returns-then-line-i
returns-then-line-i c =
    let a = c.args in
    let x = got a.line.now 0 _ _ c.in_ok-a.ensures in
    sym (three_one a.line.now 0 x c.if-line-i.true)

pub returns-in_err-b : goal.returns-in_err-b
returns-in_err-b c =
    let a = c.args in
    let x = got a.line.now 0 _ _ c.in_ok-a.ensures in
    c.from_residual-in_err-b.ensures ∙ sym (three_no_second a.line.now 0 x c.if-line-i.false c.in_err-b.ensures)

pub returns-then-line-j : goal.returns-then-line-j
returns-then-line-j c =
    let a = c.args in
    let x = got a.line.now 0 _ _ c.in_ok-a.ensures in
    let y = got a.line.now _ _ _ c.in_ok-b.ensures in
    sym (three_two a.line.now 0 x c.if-line-i.false y c.if-line-j.true)

pub returns-in_err-c : goal.returns-in_err-c
returns-in_err-c c =
    let a = c.args in
    let x = got a.line.now 0 _ _ c.in_ok-a.ensures in
    let y = got a.line.now _ _ _ c.in_ok-b.ensures in
    c.from_residual-in_err-c.ensures ∙ sym (three_no_third a.line.now 0 x c.if-line-i.false y c.if-line-j.false c.in_err-c.ensures)

pub returns-then-k-line : goal.returns-then-k-line
returns-then-k-line c =
    let a = c.args in
    let x = got a.line.now 0 _ _ c.in_ok-a.ensures in
    let y = got a.line.now _ _ _ c.in_ok-b.ensures in
    let z = got a.line.now _ _ _ c.in_ok-c.ensures in
    sym (three_four a.line.now 0 x c.if-line-i.false y c.if-line-j.false z c.if-k-line.true)

pub returns : goal.returns
returns c =
    let a = c.args in
    let x = got a.line.now 0 _ _ c.in_ok-a.ensures in
    let y = got a.line.now _ _ _ c.in_ok-b.ensures in
    let z = got a.line.now _ _ _ c.in_ok-c.ensures in
    sym (three_all a.line.now 0 x c.if-line-i.false y c.if-line-j.false z c.if-k-line.false)
