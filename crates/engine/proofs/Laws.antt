-- Words that hold the head's parts hold the head, and what a stored row changes.
use mathlib.Core.Path.{◌≡◌, refl, ap, sym, ◌∙◌, subst}
use mathlib.Core.Bool.{Bool, true, false, cond}
use mathlib.Core.List.{List, [], ◌∷◌}
use Prim.Native.Nat.{ℕ, zero, suc, ◌/◌, ◌%◌, ◌<◌, ◌≤◌, min}
use native.Mathlib.Omega.{arith}
use borrow.Author.Tests.{ltb-true, ltb-false}
use lib.Dec.{ltb}
use lib.Ieee.{Float, binary64, of_bits}
use lib.ListN.{length, get_or, set}
use lib.Seq.{get_or-set_same}
use Rattle.ieee.specs.Round.{float}
use Rattle.memory.specs.Cells.{rows_in, no_row}
use Rattle.memory.proofs.RowLaws.{length_rows, rows_kept, row_long, spread, spread_is}
use Rattle.words.specs.Time.{time_from}
use Rattle.heads.specs.Link.{link_from}
use Rattle.heads.specs.Progress.{progress_from}
use Rattle.heads.specs.Stats.{stats_from}
use Rattle.engine.specs.Engine.{engine_from, engine_in, stored, with_clock, backoff_at}
use Rattle.engine.specs.declared.Engine.{Engine}

pub engine_coded : (x : Engine)
    (length period grace begun last index clock count state stopping known number attempt phase after start tick boundary tag timed ms ts tags overruns reconnects reloads : ℕ)
    → of_bits binary64 length ≡ x.options.cycle → of_bits binary64 period ≡ x.options.period → of_bits binary64 grace ≡ x.options.grace
    → time_from begun last ≡ x.cycle.last → index ≡ x.cycle.index → of_bits binary64 clock ≡ x.clock → count % 65536 ≡ x.count
    → link_from state stopping known number attempt ≡ x.link
    → progress_from phase after start tick boundary tag ≡ x.progress
    → stats_from timed ms ts tags overruns reconnects reloads ≡ x.stats
    → engine_from (
    length ∷ period ∷ grace ∷ begun ∷ last ∷ index ∷ clock ∷ count ∷ state ∷ stopping ∷ known ∷ number ∷ attempt ∷ phase ∷ after ∷ start ∷ tick ∷ boundary ∷ tag
    ∷ timed ∷ ms ∷ ts ∷ tags ∷ overruns ∷ reconnects ∷ reloads ∷ 0 ∷ 0 ∷ 0 ∷ 0 ∷ 0 ∷ 0 ∷ []
    ) ≡ x
unfolding engine_from
engine_coded x length period grace begun last index clock count state stopping known number attempt phase after start tick boundary tag timed ms ts tags overruns reconnects reloads e1 e2 e3 e4 e5 e6 e7 e8 e9 e10 =
    rw (e1, e2, e3, e4, e5, e6, e7, e8, e9, e10)

engine_at : (bs : List ℕ) → engine_in bs ≡ engine_from (get_or (rows_in bs) 0 no_row)
unfolding engine_in
engine_at bs = refl

pub engine_put : (old new w : List ℕ) (x : Engine) → length new ≡ length old → rows_in new ≡ set (rows_in old) 0 w → engine_from w ≡ x → engine_in new ≡ stored old x
unfolding engine_in stored
engine_put old new w x same e c = go (ltb 0 (length old / 256)) refl
  where
    go : (b : Bool) → ltb 0 (length old / 256) ≡ b → engine_from (get_or (rows_in new) 0 no_row) ≡ cond b x (engine_from (get_or (rows_in old) 0 no_row))
    go true q =
        ap (λ (rs : List (List ℕ)). engine_from (get_or rs 0 no_row)) e
        ∙ ap engine_from (get_or-set_same (rows_in old) 0 w no_row (omega (arith, length_rows old, ltb-true 0 (length old / 256) q)))
        ∙ c
    go false q =
        let none : length old / 256 ≤ 0 = ltb-false 0 (length old / 256) q in
        ap (λ (rs : List (List ℕ)). engine_from (get_or rs 0 no_row)) (e ∙ sym (rows_kept old w 0 none))

-- the clock reading's cell replaced
clock_put : (w : List ℕ) (v : ℕ) → length w ≡ 32 → engine_from (set w 6 v) ≡ with_clock (engine_from w) (of_bits binary64 v)
unfolding engine_from spread
clock_put w v h = subst (λ (r : List ℕ). engine_from (set r 6 v) ≡ with_clock (engine_from r) (of_bits binary64 v)) (spread_is 32 w h) refl

pub clock_stored : (old new : List ℕ) (v : ℕ) (clock : Float) → length new ≡ length old → rows_in new ≡ set (rows_in old) 0 (set (get_or (rows_in old) 0 no_row) 6 v)
    → of_bits binary64 v ≡ clock → engine_in new ≡ stored old (with_clock (engine_in old) clock)
clock_stored old new v clock same e back =
    let w = get_or (rows_in old) 0 no_row in
    let coded : engine_from (set w 6 v) ≡ with_clock (engine_in old) clock =
    clock_put w v (row_long old 0) ∙ ap (with_clock (engine_from w)) back ∙ ap (λ (x : Engine). with_clock x clock) (sym (engine_at old))
    in
    engine_put old new (set w 6 v) (with_clock (engine_in old) clock) same e coded

pub backoff_early : (d : Float) (n : ℕ) → n < 3 → get_or (float 1 ∷ float 2 ∷ float 5 ∷ float 10 ∷ []) n d ≡ backoff_at n
backoff_early d zero h = refl
backoff_early d (suc zero) h = refl
backoff_early d (suc (suc zero)) h = refl
backoff_early d (suc (suc (suc n))) h = absurd (omega arith)

pub backoff_late : (n : ℕ) → 3 ≤ n → float 10 ≡ backoff_at n
backoff_late n h =
    let m : min n 3 ≡ 3 = omega arith in
    ap (λ (i : ℕ). get_or (float 1 ∷ float 2 ∷ float 5 ∷ float 10 ∷ []) i (float 10)) (sym m)
