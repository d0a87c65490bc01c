-- Rule 8: the writes that wait.
use Rattle.std.specs.Prelude.{cond, List, [], ◌∷◌, ◌++◌, map, ℕ, ◌-◌, ◌/◌, ◌%◌, ltb, length, get_or, take, drop, Option, Some, None}
use Rattle.values.specs.declared.value.Value.TheVariants.{Null}
use Rattle.words.specs.Value.{value_from}
use Rattle.memory.specs.Blocks.{blocks}
use Rattle.memory.specs.Cells.{cells_in}
use Rattle.queue.specs.declared.Write.{Write}

-- the write that three cells hold: the tag, the value's kind and its bits
unfoldable pub write_from : List ℕ → Write
write_from ws = record { tag = get_or ws 0 0 % 65536; value = value_from (get_or ws 1 0) (get_or ws 2 0) }

-- a write that is not there
abbrev pub no_write : Write
no_write = record { tag = 0; value = Null }

-- how many writes memory has room for, after the count
abbrev pub queue_room : List ℕ → ℕ
queue_room bs = (length bs / 8 - 1) / 3

-- how many an engine's queue has room for; check 32 lets fewer in
abbrev pub write_room : ℕ
write_room = 42

-- what each place holds
unfoldable pub places_in : List ℕ → List Write
places_in bs = blocks write_from 3 (queue_room bs) (drop 1 (cells_in bs))

-- Rule 8: the writes that wait, the first to go out first; a count above the places there are stands for all of them
unfoldable pub queue_in : List ℕ → List Write
queue_in bs = take (get_or (cells_in bs) 0 0) (places_in bs)

-- one write more at the end, where there is room for n
abbrev pub queued_with : ℕ → List Write → Write → List Write
queued_with n ws w = cond (ltb (length ws) n) (ws ++ (w ∷ [])) ws

-- Rule 8: the first write, if there is one
abbrev pub popped : List Write → Option Write
popped [] = None
popped (w ∷ ws) = Some w

-- the writes behind it
abbrev pub rest : List Write → List Write
rest ws = drop 1 ws

-- the tags of the writes, in queue order
abbrev pub write_tags : List Write → List ℕ
write_tags ws = map (λ (w : Write). w.tag) ws
