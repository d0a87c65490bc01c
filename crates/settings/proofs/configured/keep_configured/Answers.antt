-- `settings::configured::keep_configured` meets its contract.
use mathlib.Core.Path.{◌≡◌, refl, ap, ◌∙◌}
use mathlib.Core.List.{◌∷◌, []}
use Prim.Native.Nat.{ℕ}
use native.Mathlib.Omega.{arith}
use lib.ListN.{get_or, take}
use lib.Seq.{paste, paste-zero}
use Rattle.memory.proofs.LoopLaws.{fill_more}
use Rattle.settings.specs.Configured.{configured_from, no_group, given_groups, group_places}
use Rattle.settings.proofs.GroupLaws.{length_given, given_at, length-groups, kept-counted, filled}
use Rattle.settings.proofs.configured.keep_configured.Goals as goal
use Rattle.settings.proofs.configured.keep_configured.Goals.{else-given-room, then-given-room}

pub loop-i-preserved : goal.loop-i-preserved
loop-i-preserved c =
    let a = c.args in
    let s = a.s.now in
    let l = c.loop-i in
    let long = length_given s in
    let put = c.put_place in
    let number = c.cell in
    let rate = c.cell-in-loop-i in
    let here : configured_from (number.result ∷ rate.result ∷ []) ≡ get_or (given_groups s) l.i no_group =
    rw (rate.ensures, number.ensures) (given_at s l.i (omega arith)) in (
      l.invariant.0,
      (
        put.auto.c ∙ l.invariant.1.0,
        put.ensures ∙ fill_more (group_places a.c.now) (given_groups s) (group_places l.c) l.i l.invariant.1.1 (configured_from (number.result ∷ rate.result ∷ [])) no_group here (omega arith) (omega arith),
      ),
    )

pub returns : goal.returns
returns c =
    let a = c.args in
    let l = c.loop-i in
    let n = c.if-given-room.n in
    let put = c.put_cell in
    let places = group_places a.c.now in
    let given = given_groups a.s.now in
    let all : l.i ≡ n = omega arith in
    kept-counted l.c put.new.s n put.ensures
    ∙ ap (take n) (l.invariant.1.1 ∙ ap (paste places 0 given) all)
    ∙ filled places given n l.invariant.0
    ∙ ap (λ (m : ℕ). take m given) (length-groups a.c.now)

pub loop-i-init : goal.loop-i-init
loop-i-init c =
    let a = c.args in
    let given = length_given a.s.now in
    let places = length-groups a.c.now in
    let room = c.places-room.ensures in
    (elim c.if-given-room.branch [ then-given-room w ↦ omega (arith, w.n-is) | else-given-room w ↦ omega (arith, w.n-is) ], (refl, paste-zero (group_places a.c.now) 0 (given_groups a.s.now)))
