-- The tags that are read back, asked for one by one.
use mathlib.Core.Path.{◌≡◌, ap, sym, ◌∙◌}
use mathlib.Core.List.{List, [], ◌∷◌}
use Prim.Native.Nat.{ℕ, ◌-◌, ◌≤◌, ◌<◌}
use native.Mathlib.Omega.{arith}
use borrow.Author.Tests.{lt-ltb, le-ltb}
use lib.ListN.{get_or}
use lib.Seq.{take-nil}
use Rattle.tags.specs.Lists.{pushed}
use Rattle.tags.proofs.CollectLaws.{pushed_clipped}
use Rattle.board.specs.Board.{Board, with_asked, asking}
use Rattle.writes.specs.ReadBack.{read_back_tags}

-- B1 asks for nothing, B2 for the tag
module _ (B B1 B2 : Board) (k : ℕ) (none : B1 ≡ with_asked B []) (first : B2 ≡ with_asked B1 (pushed B1.table.room B1.asked k)) where
  abbrev code : ℕ
  code = get_or B.table.words k 0

  one : B2 ≡ asking B (k ∷ [])
  one =
      first
      ∙ ap (λ (X : Board). with_asked X (pushed X.table.room X.asked k)) none
      ∙ ap (λ (l : List ℕ). with_asked B (pushed B.table.room l k)) (sym (take-nil B.table.room))
      ∙ ap (λ (l : List ℕ). with_asked B l) (pushed_clipped B.table.room [] k)

  same_code : get_or B2.table.words k 0 ≡ code
  same_code = ap (λ (X : Board). get_or X.table.words k 0) one

  pub tag_asked : get_or B2.table.words k 0 ≤ 1 → B2 ≡ asking B (read_back_tags B.table.words k)
  tag_asked h = one ∙ rw (le-ltb 1 code (omega (arith, h, same_code)))

  pub word_asked : (B3 : Board) → 1 < get_or B2.table.words k 0 → B3 ≡ with_asked B2 (pushed B2.table.room B2.asked (get_or B2.table.words k 0 - 2))
      → B3 ≡ asking B (read_back_tags B.table.words k)
  word_asked B3 h second =
      second
      ∙ ap (λ (X : Board). with_asked X (pushed X.table.room X.asked (get_or X.table.words k 0 - 2))) one
      ∙ ap (λ (l : List ℕ). with_asked B l) (pushed_clipped B.table.room (k ∷ []) (code - 2))
      ∙ rw (lt-ltb 1 code (omega (arith, h, same_code)))
