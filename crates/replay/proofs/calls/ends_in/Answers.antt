use Rattle.std.proofs.Common.{◌≡◌, ◌<◌, ◌+◌, ◌∙◌, ap, sym, length, map, take, slice_index_or, arith, List, ℕ, [], ◌∷◌, ◌++◌}
use Rattle.std.specs.Int.{w32, from_le_bytes}
use Rattle.std.proofs.lemmas.List.{take_more, length-map, length-take, map-append, take_all}
use Rattle.replay.proofs.calls.ends_in.Goals as goal

-- one number more
pushed : (numbers : List (List ℕ)) (i n : ℕ) (ends : List ℕ) → i < length numbers → ends ≡ map (from_le_bytes w32) (take i numbers) → n ≡ from_le_bytes w32 (slice_index_or numbers i []) → ends ++ n ∷ [] ≡ map (from_le_bytes w32) (take (i + 1) numbers)
pushed numbers i n ends h e p =
    ap (λ (l : List ℕ). l ++ n ∷ []) e
    ∙ ap (λ (m : ℕ). map (from_le_bytes w32) (take i numbers) ++ m ∷ []) p
    ∙ sym (ap (map (from_le_bytes w32)) (take_more numbers i [] h) ∙ map-append (from_le_bytes w32) (take i numbers) (slice_index_or numbers i [] ∷ []))

pub push-requires : goal.push-requires
push-requires c =
    let long = ap length c.loop-number.invariant ∙ length-map (take c.loop-number.number-index c.as_chunks.result.0.now) (from_le_bytes w32) in
    let short = length-take c.loop-number.number-index c.as_chunks.result.0.now in
    omega (arith, long, short, c.as_chunks.ensures.front_len, c.if-list.false, c.loop-number-test.true)

pub loop-number-preserved : goal.loop-number-preserved
loop-number-preserved c =
    c.push.ensures.items ∙ pushed c.as_chunks.result.0.now c.loop-number.number-index c.from_le_bytes.result _ c.loop-number-test.true c.loop-number.invariant c.from_le_bytes.ensures

pub returns : goal.returns
returns c =
    let all = take_all c.loop-number.number-index c.as_chunks.result.0.now c.loop-number-test.false in
    (c.if-list.false, c.loop-number.invariant ∙ ap (map (from_le_bytes w32)) (all ∙ c.as_chunks.ensures.front))
