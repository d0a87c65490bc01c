-- Rule 10: the groups that are told of, and their order.
use Rattle.std.specs.Prelude.{Bool, not, ◌&&◌, List, [], ◌∷◌, ◌++◌, map, ℕ, ltb, length, get_or, take}
use Rattle.lists.specs.Keep.{without}
use Rattle.tags.specs.Lists.{member}
use Rattle.table.specs.declared.tag.GroupRate.{GroupRate}

-- each number of a list once, where it is named first
unfoldable pub firsts : List ℕ → List ℕ
firsts [] = []
firsts (x ∷ xs) = x ∷ without x (firsts xs)

-- whether the list has a number at i, and no place before has the same
abbrev pub is_first : List ℕ → ℕ → Bool
is_first xs i = ltb i (length xs) && not (member (get_or xs i 0) (take i xs))

-- Rule 10: the configured groups, then the recorded ones by first reading
abbrev pub named : List GroupRate → List ℕ → List ℕ
named configured recorded = map (λ (x : GroupRate). x.number) configured ++ recorded

-- Rule 10: a recorded group that is configured too keeps its place, as does one that is configured twice
abbrev pub group_numbers : List GroupRate → List ℕ → List ℕ
group_numbers configured recorded = firsts (named configured recorded)
