-- `apply::reading::apply_at` meets its contract.
use mathlib.Core.Path.{◌≡◌, ap, sym, ◌∙◌}
use mathlib.Core.Bool.{false}
use mir.Syntax.{w64}
use mir.Val.{SFits}
use mir.ValLaws.{to_z-of_z}
use borrow.Author.Rules.{rules}
use borrow.Author.Tests.{eq-eqb, ne_eqb}
use lib.Dec.{eqb}
use lib.ListN.{get_or}
use Rattle.std.specs.Prelude.{Option}
use Rattle.values.specs.Entry.{merged}
use Rattle.table.specs.Tag.{fresh_tag}
use Rattle.table.specs.Table.{table_in}
use Rattle.apply.specs.Apply.{is_stopped, applied_at, sent_at}
use Rattle.apply.proofs.ApplyLaws.{applied_stopped, applied_on, known_on, new_on}
use Rattle.apply.proofs.reading.apply_at.Goals as goal
use Rattle.apply.proofs.reading.apply_at.Goals.{else-cache-via-else-cache, else-cache-via-then-cache+else-when}
use Rattle.values.specs.declared.entry.Entry.{Entry}

pub returns-then-tier_of-eq0 : goal.returns-then-tier_of-eq0
unfolding applied_at sent_at
returns-then-tier_of-eq0 c =
    let none = eq-eqb _ _ (sym c.tier_of.ensures ∙ c.if-tier_of-eq0.true) in
    (rw none, rw none)

pub returns-then-when : goal.returns-then-when
returns-then-when c =
    let a = c.args in
    let tags = table_in a.table.now in
    let x = get_or tags a.k fresh_tag in
    let tiered : eqb x.tier 0 ≡ false = ne_eqb _ _ (λ e. c.if-tier_of-eq0.false (c.tier_of.ensures ∙ e)) in
    let old = c.cached_of-c in
    let e = c.merge-e in
    let fit : SFits w64 a.when.t = search rules in
    let read : e.result ≡ merged x.cached a.r a.when.t =
    e.ensures
    ∙ ap (merged old.result a.r) (to_z-of_z w64 a.when.t fit)
    ∙ ap (λ (h : Option Entry). merged h a.r a.when.t) old.ensures in
    let one = c.mark in
    let two = c.cache in
    applied_stopped tags a.k a.r a.when.start a.when.t a.when.polled tiered old.result e.result (table_in one.new.table) (table_in two.new.table) old.ensures read one.ensures two.ensures.0
    c.if-when.true (sym two.ensures.1 ∙ c.if-cache.true)

pub returns : goal.returns
returns c =
    let a = c.args in
    let tags = table_in a.table.now in
    let x = get_or tags a.k fresh_tag in
    let tiered : eqb x.tier 0 ≡ false = ne_eqb _ _ (λ e. c.if-tier_of-eq0.false (c.tier_of.ensures ∙ e)) in
    let old = c.cached_of-c in
    let e = c.merge-e in
    let fit : SFits w64 a.when.t = search rules in
    let read : e.result ≡ merged x.cached a.r a.when.t =
    e.ensures
    ∙ ap (merged old.result a.r) (to_z-of_z w64 a.when.t fit)
    ∙ ap (λ (h : Option Entry). merged h a.r a.when.t) old.ensures in
    let one = c.mark in
    let two = c.cache in
    let three = c.publish in
    let on : is_stopped a.when.polled old.result e.result ≡ false =
    elim c.else-cache.branch [ else-cache-via-then-cache+else-when w ↦ known_on a.when.polled _ w.if-when.false | else-cache-via-else-cache w ↦ new_on a.when.polled _ (sym two.ensures.1 ∙ w.if-cache.false) ] in
    applied_on tags a.k a.r a.when.start a.when.t a.when.polled tiered old.result e.result (table_in one.new.table) (table_in two.new.table) old.ensures read one.ensures two.ensures.0
    (table_in three.new.table) three.result on three.ensures.0 three.ensures.1
