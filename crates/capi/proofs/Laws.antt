-- Memory by its length, and the head and the board in one memory: a part lent and given back holds what it was given, and the other what it held.
use mathlib.Core.Path.{◌≡◌, refl, ap, ap₂, sym, subst, ◌∙◌}
use mathlib.Core.Bool.{Bool, true, false, cond, ◌&&◌, true≢false, false≢true}
use mathlib.Core.List.{List}
use Prim.Native.Nat.{ℕ, ◌+◌, ◌-◌, ◌≤◌, ◌<◌}
use native.Mathlib.Omega.{arith}
use borrow.Author.Tests.{eqb-true, leb-true, eq-eqb, le-leb}
use borrow.Rule.Slice.PartMut.{put_mid, same_len_mid}
use lib.Dec.{eqb, leb}
use lib.ListN.{length}
use Rattle.std.specs.Prelude.{⊤, Result, Ok, Err}
use Rattle.refusals.specs.Refusals.{number, code}
use Rattle.refusals.specs.declared.Refusal.{Refusal}
use Rattle.refusals.proofs.Laws.{not_zero}
use Rattle.names.specs.Directory.{max_names}
use Rattle.layout.specs.Parts.{part}
use Rattle.layout.proofs.PartLaws.{part_length, part_same, part_before, part-after}
use Rattle.engine.specs.Engine.{engine_from, engine_in, stored}
use Rattle.engine.specs.declared.Engine.{Engine}
use Rattle.board.specs.Layout.{board_size, tags_for, is_board_size, IsBoard}
use Rattle.board.specs.Board.{board_in}
use Rattle.replies.specs.Worker.{Worker, worker}
use Rattle.capi.specs.Memory.{head_size, memory_size, is_size, not_an_engine, size_check, IsEngine, board_bytes, worker_in}

-- ---- memory by its length

both : (a b : Bool) → (a && b) ≡ true → (a ≡ true) × (b ≡ true)
both true true e = (refl, refl)
both true false e = absurd (true≢false (sym e))
both false b e = absurd (true≢false (sym e))

passed : (b : Bool) → ◌≡◌ {A = ℕ} (cond b 0 not_an_engine) 0 → b ≡ true
passed true e = refl
passed false e = absurd (omega (arith, e))

-- memory that is refused by its length is no engine's, and is answered with the number of that
pub number_some : (r : Refusal) → number r ≡ 0 → ⊥
number_some r e = false≢true (sym (not_zero r) ∙ ap (λ (n : ℕ). eqb n 0) e)

pub alien_size : (n : ℕ) (x : Result ⊤ Refusal) (r : Refusal) → code x ≡ size_check n → x ≡ Err r → (size_check n ≡ 0 → ⊥) × (number r ≡ not_an_engine)
unfolding size_check
alien_size n x r e is = go (is_size n) (ap (λ (y : Result ⊤ Refusal). code y) (sym is) ∙ e)
  where
    go : (b : Bool) → number r ≡ cond b 0 not_an_engine → (cond b 0 not_an_engine ≡ 0 → ⊥) × (number r ≡ not_an_engine)
    go true h = absurd (number_some r h)
    go false h = (λ z. omega (arith, z), h)

-- and memory that passes is one's
pub own_size : (n : ℕ) (x : Result ⊤ Refusal) (u : ⊤) → code x ≡ size_check n → x ≡ Ok u → size_check n ≡ 0
own_size n x u e is = sym e ∙ ap (λ (y : Result ⊤ Refusal). code y) is

-- what a board's size says
board_size_lem : (n : ℕ) → is_board_size n ≡ true → (n ≡ board_size (tags_for n)) × ((1 ≤ tags_for n) × (tags_for n ≤ max_names))
board_size_lem n e =
    let some = both (leb 1 (tags_for n)) (leb (tags_for n) max_names && eqb n (board_size (tags_for n))) e in
    let few = both (leb (tags_for n) max_names) (eqb n (board_size (tags_for n))) some.1 in
    (eqb-true n (board_size (tags_for n)) few.1, (leb-true 1 (tags_for n) some.0, leb-true (tags_for n) max_names few.0))

module _ (bs : List ℕ) (h : IsEngine bs) where
  sized : (leb head_size (length bs) ≡ true) × (is_board_size (length bs - head_size) ≡ true)
  unfolding size_check
  sized = both (leb head_size (length bs)) (is_board_size (length bs - head_size)) (passed (is_size (length bs)) h)

  -- there is a head
  pub engine_room : head_size ≤ length bs
  engine_room = leb-true head_size (length bs) sized.0

  wide : length (board_bytes bs) ≡ length bs - head_size
  wide = part_length head_size (length bs - head_size) bs (omega (arith, engine_room))

  -- and behind it a board
  pub engine_board : IsBoard (board_bytes bs)
  engine_board =
      subst (λ (m : ℕ). (m ≡ board_size (tags_for m)) × ((1 ≤ tags_for m) × (tags_for m ≤ max_names))) (sym wide) (board_size_lem (length bs - head_size) sized.1)

-- the size of an engine for some tags is an engine's
pub size-right : (c : ℕ) → 1 ≤ c → c ≤ max_names → size_check (memory_size c) ≡ 0
unfolding size_check
size-right c a b =
    let n : memory_size c - head_size ≡ board_size c = omega arith in
    let t : tags_for (board_size c) ≡ c = omega arith in
    rw (le-leb head_size (memory_size c) (omega arith), n, t, le-leb 1 c a, le-leb c max_names b, eq-eqb (board_size c) (board_size c) refl) refl

-- memory of that size is for so many tags
pub size_tags : (bs : List ℕ) (c : ℕ) → length bs ≡ memory_size c → tags_for (length (board_bytes bs)) ≡ c
size_tags bs c e =
    let long : length (board_bytes bs) ≡ length bs - head_size = part_length head_size (length bs - head_size) bs (omega (arith, e)) in
    let n : length bs - head_size ≡ board_size c = omega (arith, e) in
    ap tags_for (long ∙ n) ∙ tags_back c
  where
    tags_back : (c : ℕ) → tags_for (board_size c) ≡ c
    tags_back c = omega arith

-- ---- the head and the board

pub board_put : (bs y : List ℕ) → IsEngine bs → length y ≡ length (board_bytes bs) → worker_in (put_mid head_size (length bs - head_size) bs y) ≡ worker (worker_in bs).head (board_in y)
unfolding worker_in
board_put bs y h e =
    let k = length bs - head_size in
    let room : head_size + k ≤ length bs = omega (arith, engine_room bs h) in
    let long : length y ≡ k = e ∙ part_length head_size k bs room in
    let same : length (put_mid head_size k bs y) ≡ length bs = same_len_mid head_size k bs y e in
    ap₂ {C = Worker} worker (ap engine_in (part_before head_size k bs y room long 0 head_size (omega arith)))
    (ap board_in (ap (λ (m : ℕ). part head_size (m - head_size) (put_mid head_size k bs y)) same ∙ part_same head_size k bs y room long))

-- a row has room for a head
stored_is : (s : List ℕ) (e : Engine) → length s ≡ head_size → stored s e ≡ e
unfolding stored
stored_is s e h = rw h refl

pub head_put : (bs y : List ℕ) (e : Engine) → IsEngine bs → length y ≡ length (part 0 head_size bs) → engine_in y ≡ stored (part 0 head_size bs) e
    → worker_in (put_mid 0 head_size bs y) ≡ worker e (worker_in bs).board
unfolding worker_in
head_put bs y e h l s =
    let k = length bs - head_size in
    let room : 0 + head_size ≤ length bs = omega (arith, engine_room bs h) in
    let wide : length (part 0 head_size bs) ≡ head_size = part_length 0 head_size bs room in
    let long : length y ≡ head_size = l ∙ wide in
    let same : length (put_mid 0 head_size bs y) ≡ length bs = same_len_mid 0 head_size bs y l in
    ap₂ {C = Worker} worker (ap engine_in (part_same 0 head_size bs y room long) ∙ s ∙ stored_is (part 0 head_size bs) e wide)
    (ap board_in (ap (λ (m : ℕ). part head_size (m - head_size) (put_mid 0 head_size bs y)) same ∙ part-after 0 head_size bs y room long head_size k (omega arith)))

-- a head counts no more names than two bytes hold
pub count_small : (bs : List ℕ) → (worker_in bs).head.count < 65536
unfolding worker_in engine_in engine_from
count_small bs = omega arith
