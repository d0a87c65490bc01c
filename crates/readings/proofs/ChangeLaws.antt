-- The changes that were listed are told.
use mathlib.Core.Path.{◌≡◌, refl, ap, ◌∙◌}
use mathlib.Core.Bool.{Bool}
use mathlib.Core.List.{List, [], ◌∷◌}
use Prim.Native.Nat.{ℕ, ◌≤◌, min}
use native.Mathlib.Omega.{arith}
use lib.Ieee.{Float}
use lib.IntN.{ℤ}
use lib.ListN.{length}
use lib.Seq.{take_all}
use Rattle.lists.specs.Keep.{keep, up_to}
use Rattle.lists.proofs.KeepLaws.{length-keep, length-up_to}
use Rattle.tags.specs.Lists.{list_in, member, fitted}
use Rattle.table.specs.Table.{by_rank}
use Rattle.table.specs.declared.tag.Tag.{Tag}
use Rattle.lent.specs.Lent.{cell_bytes, over_bytes, wrote_all}
use Rattle.names.specs.Directory.{max_names}
use Rattle.board.specs.Layout.{IsBoard}
use Rattle.board.specs.Board.{Board, Holds, board_in}
use Rattle.board.proofs.BoardLaws.{tags_counted}
use Rattle.readings.specs.Listed.{Applied, apply_all, in_tag_order}
use Rattle.readings.specs.Changes.{Changed, Changing, applied_to, changes_in}

-- as many bytes as there were, all of them written
pub over_whole : (out bytes : List ℕ) → length out ≡ length bytes → over_bytes out bytes ≡ bytes
unfolding over_bytes
over_whole [] [] h = refl
over_whole [] (b ∷ bytes) h = absurd (omega arith)
over_whole (o ∷ out) [] h = absurd (omega arith)
over_whole (o ∷ out) (b ∷ bytes) h = ap (λ (l : List ℕ). b ∷ l) (over_whole out bytes (omega arith))

-- The list told is that of C, and bs' holds its board.
pub told : (C : Changed) (bs' list out out' : List ℕ) (r : ℕ) → Holds bs' C.board → list ≡ C.changes
    → r ≡ length list → out' ≡ wrote_all out (cell_bytes (changes_in (board_in bs') list)) → Changing C r bs' out out'
told C bs' list out out' r h l n w =
    record {
      count_is = n ∙ ap (λ (z : List ℕ). length z) l;
      holds = h;
      out_is =
          w
          ∙ ap (λ (X : Board). wrote_all out (cell_bytes (changes_in X list))) h.board
          ∙ ap (λ (z : List ℕ). wrote_all out (cell_bytes (changes_in C.board z))) l;
    }

-- tag order goes by the number of tags alone
order_by_length : (old new : List Tag) (sent : List ℕ) → length new ≡ length old → in_tag_order new sent ≡ in_tag_order old sent
order_by_length old new sent e = ap (λ (m : ℕ). keep (λ (k : ℕ). member k sent) (up_to (min m 65536))) e

-- A board has at most max_names tags, and so has any choice of them.
pub all_fit : (bs : List ℕ) → IsBoard bs → (n : ℕ) → max_names ≤ n → (p : ℕ → Bool)
    → fitted n (keep p (by_rank (board_in bs).table.tags)) ≡ keep p (by_rank (board_in bs).table.tags)
all_fit bs h n r p =
    let tags = (board_in bs).table.tags in
    take_all n (keep p (by_rank tags)) (omega (arith, length-keep p (by_rank tags), length-up_to (min (length tags) 65536), tags_counted bs h))

-- The readings applied, and told by a table as long as it was.
pub applied_told : (B : Board) (results : List ℕ) (start : Float) (t : ℤ) (polled : Bool) (bs' sent' out out' : List ℕ) (r : ℕ)
    → length (board_in bs').table.tags ≡ length B.table.tags
    → Applied B (apply_all results start t polled B.asked B.table.tags) bs' sent'
    → r ≡ length (in_tag_order (board_in bs').table.tags (list_in sent'))
    → out' ≡ wrote_all out (cell_bytes (changes_in (board_in bs') (in_tag_order (board_in bs').table.tags (list_in sent'))))
    → Changing (applied_to B results start t polled) r bs' out out'
unfolding applied_to
applied_told B results start t polled bs' sent' out out' r long a er ew =
    let new = (board_in bs').table.tags in
    told (applied_to B results start t polled) bs' (in_tag_order new (list_in sent')) out out' r a.holds
    (order_by_length B.table.tags new (list_in sent') long ∙ ap (in_tag_order B.table.tags) a.sent_is) er ew
