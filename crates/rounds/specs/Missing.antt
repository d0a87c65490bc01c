-- Rule 6: last, tags with a missing mark after now are dropped.
use Rattle.std.specs.Prelude.{Bool, not, List, ℕ, Float, get_or, Option, false, Some, None}
use Rattle.ieee.specs.Times.{held_back}
use Rattle.lists.specs.Keep.{keep}
use Rattle.table.specs.Tag.{fresh_tag}
use Rattle.table.specs.declared.tag.Tag.{Tag}

abbrev pub held_until : Option Float → Float → Bool
held_until None clock = false
held_until (Some retry) clock = held_back retry clock

abbrev pub is_held_back : Tag → Float → Bool
is_held_back x clock = held_until x.timing.retry clock

abbrev pub not_held_back : List Tag → List ℕ → Float → List ℕ
not_held_back tags wanted clock = keep (λ (k : ℕ). not (is_held_back (get_or tags k fresh_tag) clock)) wanted
