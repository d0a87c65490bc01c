-- Rule 7: in tag order.
use Rattle.std.specs.Prelude.{Bool, cond, List, [], ◌∷◌, ◌++◌, ℕ, suc, eqb, ℤ, Float, take}
use Rattle.values.specs.Entry.{TagResult}
use Rattle.tags.specs.Lists.{member}
use Rattle.table.specs.declared.tag.Tag.{Tag}
use Rattle.table.specs.Table.{by_rank}
use Rattle.apply.specs.Apply.{applied_at, sent_at}
use Rattle.results.specs.Results.{result_count, result_in}
use Rattle.readings.specs.Listed.{Applying}

-- the first place of the tag k in a list, or the list's length
unfoldable pub place_in : ℕ → List ℕ → ℕ
place_in k [] = 0
place_in k (x ∷ l) = cond (eqb k x) 0 (suc (place_in k l))

-- the result of the tag k: that at its place in the list
abbrev pub own_result : List ℕ → List ℕ → ℕ → TagResult
own_result results tags k = result_in results (place_in k tags)

-- Rule 7: the tag k in its turn. A tag that the list does not name is passed over.
unfoldable pub apply_turn : List ℕ → List ℕ → Float → ℤ → Bool → Applying → ℕ → Applying
apply_turn results tags start t polled S k =
    cond (member k tags)
    (record {
      tags = applied_at S.tags k (own_result results tags k) start t polled;
      sent = cond (sent_at S.tags k (own_result results tags k) t polled) (S.sent ++ (k ∷ [])) S.sent;
    })
    S

-- Rule 7: the tags `ks`, each in its turn.
unfoldable pub apply_turns : List ℕ → List ℕ → Float → ℤ → Bool → List ℕ → Applying → Applying
apply_turns results tags start t polled [] S = S
apply_turns results tags start t polled (k ∷ ks) S = apply_turns results tags start t polled ks (apply_turn results tags start t polled S k)

-- Rule 7: the readings of a list of tags, applied in tag order. A short list of results covers only the first tags of the list.
abbrev pub apply_in_order : List ℕ → Float → ℤ → Bool → List ℕ → List Tag → Applying
apply_in_order results start t polled tags table =
    apply_turns results (take (result_count results) tags) start t polled (by_rank table) (record { tags = table; sent = [] })
