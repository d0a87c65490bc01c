-- Rule 11 and checks 51 to 55: the panel list.
use Rattle.std.specs.Prelude.{Bool, true, false, cond, ◌||◌, not, List, map, [], ◌∷◌, ◌++◌, ◌≡◌, ℕ, ◌+◌, ◌*◌, ◌%◌, eqb, ltb, leb, Float, length, get_or, take, drop, is_some}
use Rattle.tags.specs.Lists.{member}
use Rattle.table.specs.Tag.{fresh_tag}
use Rattle.table.specs.declared.tag.Tag.{Tag}
use Rattle.tiers.specs.Tiers.{set_tier}
use Rattle.board.specs.Board.{Table, tag_at}

-- Rule 11: the bytes of a list of n tags: a count byte, n tag bytes and n tier bytes
abbrev pub panel_room : ℕ → ℕ
panel_room n = 1 + 2 * n

-- Rule 11: a tag's tier; a tag in grace has tier 2 in the table already
abbrev pub tier_in : List Tag → ℕ → ℕ
tier_in tags k = (get_or tags k fresh_tag).tier

-- Rule 11: the tags of the table order, then the tiers of these tags
abbrev pub entries_in : List Tag → List ℕ → List ℕ
entries_in tags order = map (λ (k : ℕ). k % 256) order ++ map (tier_in tags) order

-- Rule 11: a count byte n, then n tag bytes, then n tier bytes, in table order
unfoldable pub panel_of : List Tag → List ℕ → List ℕ
panel_of tags order = length order % 256 ∷ entries_in tags order

-- Rule 11: a list is written where a buffer has room for all of it, and nothing otherwise; bytes past it keep their contents
unfoldable pub written : List ℕ → List ℕ → List ℕ
written out bytes = cond (leb (length bytes) (length out)) (bytes ++ drop (length bytes) out) out

-- Rule 11: how many bytes are written
unfoldable pub written_length : List ℕ → List ℕ → ℕ
written_length out bytes = cond (leb (length bytes) (length out)) (length bytes) 0

-- Rule 11: the count byte; an empty list has 0
abbrev pub count_in : List ℕ → ℕ
count_in s = get_or s 0 0

-- Rule 11: the tag bytes, as many as the count byte says and there are
unfoldable pub tags_of : List ℕ → List ℕ
tags_of s = take (count_in s) (drop 1 s)

-- Rule 11: the tier bytes, as many as the count byte says and there are
unfoldable pub tiers_of : List ℕ → List ℕ
tiers_of s = take (count_in s) (drop (1 + count_in s) s)

-- Check 51: empty, or length not 1 + 2n
abbrev pub bad_form : List ℕ → Bool
bad_form s = eqb (length s) 0 || not (eqb (length s) (panel_room (count_in s)))

-- Check 55: tier not 1 to 3
abbrev pub bad_tier : ℕ → Bool
bad_tier tier = ltb 3 tier || eqb tier 0

-- Checks 53 to 55: at the first bad entry, lowest number met: no such tag in a directory of `count` names, tag seen earlier, tier not 1 to 3; else 0
unfoldable pub entry_check : ℕ → List ℕ → List ℕ → List ℕ → ℕ
entry_check count seen [] tiers = 0
entry_check count seen (k ∷ ks) [] = 0
entry_check count seen (k ∷ ks) (tier ∷ tiers) =
    cond (leb count k) 53 (cond (member k seen) 54 (cond (bad_tier tier) 55 (entry_check count (seen ++ (k ∷ [])) ks tiers)))

-- Checks 51, 53, 54, 55: the number that refuses a list, else 0
unfoldable pub panel_check : ℕ → List ℕ → ℕ
panel_check count s = cond (bad_form s) 51 (entry_check count [] (tags_of s) (tiers_of s))

-- Rule 11: loading makes the tier calls in list order, one for each tag that has a tier byte
unfoldable pub loaded : Table → List ℕ → List ℕ → Float → Float → Table
loaded T [] tiers grace clock = T
loaded T (k ∷ ks) [] grace clock = T
loaded T (k ∷ ks) (tier ∷ tiers) grace clock = loaded (set_tier T k tier grace clock) ks tiers grace clock

-- Rule 11: a list loaded into a table
abbrev pub loaded_list : Table → List ℕ → Float → Float → Table
loaded_list T s grace clock = loaded T (tags_of s) (tiers_of s) grace clock

-- Check 56: no tag is in a tier; rule 5: nor then in grace
pub record Empty (T : Table) : Type 0 where
  pub none : (k : ℕ) → (tag_at T k).tier ≡ 0
  pub calm : (k : ℕ) → (is_some (tag_at T k).grace) ≡ false
  pub order_none : T.order ≡ []

-- Rule 11: a tag in grace is stored as tier 2, its tier in the table
abbrev pub Graced : Table → Type 0
Graced T = (k : ℕ) → (is_some (tag_at T k).grace) ≡ true → (tag_at T k).tier ≡ 2
