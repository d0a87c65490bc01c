-- Rule 8: descriptions.
use Rattle.std.specs.Prelude.{Bool, true, false, not, ◌&&◌, cond, List, [], ◌∷◌, map, ℕ, suc, ◌-◌, ◌/◌, ◌%◌, eqb, length, get_or, set, take}
use Rattle.lists.specs.Keep.{keep}
use Rattle.memory.specs.Cells.{cells_in}
use Rattle.table.specs.Tag.{fresh_tag}
use Rattle.table.specs.Table.{with_wants, with_description, by_rank}
use Rattle.table.specs.declared.tag.Description.{Description}
use Rattle.table.specs.declared.tag.Description.TheVariants.{Unknown, Nothing, Is}
use Rattle.table.specs.declared.tag.Tag.{Tag}
use Rattle.board.specs.Board.{Board, with_asked, with_records}

abbrev pub is_unknown : Description → Bool
is_unknown Unknown = true
is_unknown Nothing = false
is_unknown (Is n) = false

-- Rule 8: of the tags that want a description, those with one set or known are not asked.
abbrev pub is_asked : Tag → Bool
is_asked x = x.wants && (not x.settings.described && is_unknown x.description)

-- Rule 8: the tags that are asked, in tag order.
abbrev pub asked_tags : List Tag → List ℕ
asked_tags tags = keep (λ (k : ℕ). is_asked (get_or tags k fresh_tag)) (by_rank tags)

-- Rule 8: a want is used up when it is looked at.
abbrev pub unwanted : Tag → Tag
unwanted x = with_wants x false

-- how many descriptions memory holds; each is a cell
abbrev pub found_count : List ℕ → ℕ
found_count bs = length bs / 8

-- description i: 0 for none, and otherwise the number and 1; past the end none
abbrev pub found_in : List ℕ → ℕ → Description
found_in bs i = cond (eqb (get_or (cells_in bs) i 0) 0) Nothing (Is ((get_or (cells_in bs) i 0 - 1) % 0x1_0000_0000))

-- the tags of a list known by f, the first of them by f i
unfoldable pub known_from : (ℕ → Description) → ℕ → List ℕ → List Tag → List Tag
known_from f i [] tags = tags
known_from f i (k ∷ ks) tags = known_from f (suc i) ks (set tags k (with_description (get_or tags k fresh_tag) (f i)))

-- Rule 8: a short list of descriptions covers only its first tags; the rest of a long one is ignored.
abbrev pub learnt : List ℕ → List ℕ → List Tag → List Tag
learnt found asked tags = known_from (found_in found) 0 (take (found_count found) asked) tags

-- Rule 8: after an answer that failed every tag asked is known to have none.
abbrev pub learnt_none : List ℕ → List Tag → List Tag
learnt_none asked tags = known_from (λ (i : ℕ). Nothing) 0 asked tags

-- Rule 8: the descriptions that are wanted are asked for, and the wants are used up
abbrev pub describing : Board → Board
describing B = with_asked (with_records B (map unwanted B.table.tags)) (asked_tags B.table.tags)
