-- Rule 6: tags new in tier 2.
use Rattle.std.specs.Prelude.{Bool, true, false, not, ◌&&◌, cond, List, [], ◌∷◌, ◌++◌, ℕ, get_or}
use Rattle.lists.specs.Keep.{keep}
use Rattle.tags.specs.Lists.{member}
use Rattle.table.specs.Tag.{fresh_tag}
use Rattle.table.specs.Table.{with_added}
use Rattle.table.specs.declared.tag.Tag.{Tag}

abbrev pub is_added : List Tag → List ℕ → ℕ → Bool
is_added tags listed k = (get_or tags k fresh_tag).added && not (member k listed)

-- Rule 6: whether a tag is new in tier 2.
abbrev pub any_added : List Tag → Bool
any_added [] = false
any_added (x ∷ xs) = cond x.added true (any_added xs)

-- Rule 6: then those of `tags` that are new in tier 2 and not listed yet.
abbrev pub with_added_tags : List Tag → List ℕ → List ℕ → List ℕ
with_added_tags table listed tags = listed ++ keep (is_added table listed) tags

-- Rule 6: a tag is new in tier 2 only up to the next round.
abbrev pub settled : Tag → Tag
settled x = with_added x false
