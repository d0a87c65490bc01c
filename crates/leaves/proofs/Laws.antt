-- Memory by its length, and what a call on it comes to.
use mathlib.Core.Path.{◌≡◌, refl, ap, sym, ◌∙◌}
use mathlib.Core.Bool.{Bool, true, false, cond, not, ◌&&◌, true≢false}
use mathlib.Core.List.{List}
use Prim.Native.Nat.{ℕ, ◌≤◌}
use native.Mathlib.Omega.{arith}
use borrow.Author.Tests.{eqb-true, leb-true, eq-eqb, ne_eqb}
use lib.Dec.{eqb, leb}
use lib.ListN.{length}
use Rattle.names.specs.Directory.{max_names, bad_count, good_ends, good_names, names_of, rising, directory_check}
use Rattle.lent.specs.Lent.{over_bytes}
use Rattle.board.specs.Layout.{board_size, tags_for, tags_in, is_board_size, IsBoard, parts_in}
use Rattle.board.specs.Board.{Board, Holds}
use Rattle.leaves.specs.Polls.{not_aBoard, size_check, fresh_check, Called, part_left}

-- ---- the checks

-- the numbers of a directory's refusals go to 4
pub check_small : (most long : ℕ) (s ends : List ℕ) → directory_check most long s ends ≤ 4
unfolding directory_check
check_small most long s ends = go (bad_count most ends) (not (good_ends long 0 ends (length s))) (not (good_names (names_of s ends))) (not (rising (names_of s ends)))
  where
    go : (a b c d : Bool) → cond a 1 (cond b 2 (cond c 3 (cond d 4 0))) ≤ 4
    go true b c d = omega arith
    go false true c d = omega arith
    go false false true d = omega arith
    go false false false true = omega arith
    go false false false false = omega arith

pub size_checked : (bs : List ℕ) (b : Bool) → b ≡ is_board_size (length bs) → cond b 0 not_aBoard ≡ size_check bs
unfolding size_check
size_checked bs b e = ap (λ (x : Bool). cond x 0 not_aBoard) e

pub fresh_checked : (bs ends : List ℕ) (a b : Bool) → eqb (size_check bs) 0 ≡ a → eqb (tags_in bs) (length ends) ≡ b → cond (a && b) 0 not_aBoard ≡ fresh_check bs ends
unfolding fresh_check
fresh_checked bs ends a b e f = rw (e, f) refl

both : (a b : Bool) → (a && b) ≡ true → (a ≡ true) × (b ≡ true)
both true true e = (refl, refl)
both true false e = absurd (true≢false (sym e))
both false b e = absurd (true≢false (sym e))

passed : (b : Bool) → ◌≡◌ {A = ℕ} (cond b 0 not_aBoard) 0 → b ≡ true
passed true e = refl
passed false e = absurd (omega (arith, e))

pub size-refused : (bs : List ℕ) → (size_check bs ≡ 0 → ⊥) → size_check bs ≡ not_aBoard
unfolding size_check
size-refused bs h = go (is_board_size (length bs)) h
  where
    go : (b : Bool) → (◌≡◌ {A = ℕ} (cond b 0 not_aBoard) 0 → ⊥) → cond b 0 not_aBoard ≡ not_aBoard
    go true z = absurd (z refl)
    go false z = refl

-- memory that has a board's size is a board
pub is_board : (bs : List ℕ) → is_board_size (length bs) ≡ true → IsBoard bs
is_board bs e =
    let n = length bs in
    let some = both (leb 1 (tags_for n)) (leb (tags_for n) max_names && eqb n (board_size (tags_for n))) e in
    let few = both (leb (tags_for n) max_names) (eqb n (board_size (tags_for n))) some.1 in
    (eqb-true n (board_size (tags_for n)) few.1, (leb-true 1 (tags_for n) some.0, leb-true (tags_for n) max_names few.0))

pub size_passed : (bs : List ℕ) → size_check bs ≡ 0 → IsBoard bs
unfolding size_check
size_passed bs h = is_board bs (passed (is_board_size (length bs)) h)

pub fresh_passed : (bs ends : List ℕ) → fresh_check bs ends ≡ 0 → IsBoard bs × (tags_in bs ≡ length ends)
unfolding fresh_check
fresh_passed bs ends h =
    let p = both (eqb (size_check bs) 0) (eqb (tags_in bs) (length ends)) (passed (eqb (size_check bs) 0 && eqb (tags_in bs) (length ends)) h) in
    (size_passed bs (eqb-true (size_check bs) 0 p.0), eqb-true (tags_in bs) (length ends) p.1)

-- ---- calls and looks

pub refused_call : (bs : List ℕ) (r n : ℕ) (B : Board) → r ≡ n → (r ≡ 0 → ⊥) → Called bs bs r n B
refused_call bs r n B e z = record { code = e; done = λ g. absurd (z (e ∙ g)); kept = λ g. refl }

pub done_call : (old new : List ℕ) (n : ℕ) (B : Board) → n ≡ 0 → Holds new B → Called old new 0 n B
done_call old new n B e h = record { code = sym e; done = λ g. h; kept = λ g. absurd (g e) }

-- a look at the part i of a board: where memory is no board's, the lent list stays as it is
pub part-refused : (mem out : List ℕ) (r i : ℕ) → r ≡ size_check mem → (r ≡ 0 → ⊥) → (r ≡ size_check mem) × (out ≡ part_left mem i out)
part-refused mem out r i e z = (e, rw (ne_eqb (size_check mem) 0 (λ g. z (e ∙ g))) refl)

-- and else it gets the bytes of the part
pub part-told : (mem out new bytes : List ℕ) (i : ℕ) → size_check mem ≡ 0 → bytes ≡ parts_in mem i → new ≡ over_bytes out bytes → (0 ≡ size_check mem) × (new ≡ part_left mem i out)
part-told mem out new bytes i e b w = (sym e, w ∙ ap (over_bytes out) b ∙ rw (eq-eqb (size_check mem) 0 e) refl)
