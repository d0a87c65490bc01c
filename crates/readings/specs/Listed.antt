-- Rule 7: the readings of a list of tags.
use Rattle.std.specs.Prelude.{◌≡◌, Bool, cond, List, [], ◌∷◌, ◌++◌, ℕ, suc, ℤ, Float, take}
use Rattle.lists.specs.Keep.{keep}
use Rattle.values.specs.Entry.{TagResult}
use Rattle.tags.specs.Lists.{list_in, member}
use Rattle.table.specs.Table.{by_rank}
use Rattle.table.specs.declared.tag.Tag.{Tag}
use Rattle.results.specs.Results.{result_count, result_in}
use Rattle.board.specs.Board.{Board, Holds, board_in, with_records}
use Rattle.apply.specs.Apply.{applied_at, sent_at}

-- The table, and the tags whose readings were sent so far.
pub record Applying : Type 0 where
  pub tags : List Tag
  pub sent : List ℕ

abbrev pub applying : List ℕ → List ℕ → Applying
applying bs sent = record { tags = (board_in bs).table.tags; sent = list_in sent }

-- Rule 7: one reading more.
unfoldable pub apply_next : Applying → ℕ → TagResult → Float → ℤ → Bool → Applying
apply_next S k r start t polled = record {
  tags = applied_at S.tags k r start t polled;
  sent = cond (sent_at S.tags k r t polled) (S.sent ++ (k ∷ [])) S.sent;
}

-- Rule 7: the readings of the tags of a list, the first of which is result i, in the order of the list. For a list that names no tag twice, as those of a round
-- and of a read-back are, this with `in_tag_order` is rule 7 tag by tag, `apply_in_order` of the crate `tag_order`: proved there (`tag_order`).
unfoldable pub apply_from : List ℕ → Float → ℤ → Bool → ℕ → List ℕ → Applying → Applying
apply_from results start t polled i [] S = S
apply_from results start t polled i (k ∷ ks) S = apply_from results start t polled (suc i) ks (apply_next S k (result_in results i) start t polled)

-- Rules 7 and 8: a short list of results covers only its first tags; the rest of a long one is ignored.
abbrev pub apply_all : List ℕ → Float → ℤ → Bool → List ℕ → List Tag → Applying
apply_all results start t polled tags table = apply_from results start t polled 0 (take (result_count results) tags) (record { tags = table; sent = [] })

-- Rule 7: the changes go out in tag order.
abbrev pub in_tag_order : List Tag → List ℕ → List ℕ
in_tag_order table sent = keep (λ (k : ℕ). member k sent) (by_rank table)

-- What readings leave of the board B and in a list is S.
pub record Applied (B : Board) (S : Applying) (bs' sent' : List ℕ) : Type 0 where
  pub holds : Holds bs' (with_records B S.tags)
  pub sent_is : list_in sent' ≡ S.sent
