-- The queue of writes in cells: the count, then three cells for each place.
use mathlib.Core.Path.{◌≡◌, refl, ap, sym, ◌∙◌}
use mathlib.Core.List.{List, [], ◌∷◌, ◌++◌}
use Prim.Native.Nat.{ℕ, zero, suc, ◌+◌, ◌-◌, ◌*◌, ◌/◌, ◌%◌, ◌≤◌, ◌<◌, min}
use native.Mathlib.Numerals.{add-one}
use native.Mathlib.Omega.{arith}
use borrow.Author.Tests.{lt-ltb}
use lib.ListN.{length, get_or, set, take, drop, length-take, length-drop, length-map, get_or-append, get_or-eq_default, get_or-map}
use lib.Seq.{sets, take-nil, take-take, take-suc, take-suc-set, drop-drop, drop-set-add, drop-set-lt, get_or-take, get_or-drop, get_or-set_same, set_out}
use Rattle.std.specs.Prelude.{Some}
use Rattle.words.specs.Value.{value_from}
use Rattle.memory.specs.Blocks.{blocks}
use Rattle.memory.specs.Cells.{cells_in}
use Rattle.memory.proofs.BlockLaws.{length-blocks, blocks_at, blocks_sets}
use Rattle.memory.proofs.CellLaws.{length_cells}
use Rattle.tags.specs.Lists.{pushed}
use Rattle.tags.proofs.CollectLaws.{pushed_clipped}
use Rattle.queue.specs.Queue.{write_from, no_write, queue_room, places_in, queue_in, queued_with, popped, rest, write_tags}
use Rattle.queue.specs.declared.Write.{Write}

-- ---- what a queue is

pub length_places : (bs : List ℕ) → length (places_in bs) ≡ queue_room bs
unfolding places_in
length_places bs = length-blocks write_from 3 (queue_room bs) (drop 1 (cells_in bs))

pub length-queue : (bs : List ℕ) → length (queue_in bs) ≡ min (get_or (cells_in bs) 0 0) (queue_room bs)
unfolding queue_in
length-queue bs = length-take (get_or (cells_in bs) 0 0) (places_in bs) ∙ ap (min (get_or (cells_in bs) 0 0)) (length_places bs)

pub queue_short : (bs : List ℕ) → length (queue_in bs) ≤ queue_room bs
queue_short bs = omega (arith, length-queue bs)

pub queue-room_same : (a b : List ℕ) → length a ≡ length b → queue_room a ≡ queue_room b
queue-room_same a b e = ap (λ (n : ℕ). (n / 8 - 1) / 3) e

take-length_of : (n : ℕ) (l : List Write) → take (length (take n l)) l ≡ take n l
take-length_of zero l = refl
take-length_of (suc n) [] = refl
take-length_of (suc n) (x ∷ l) = ap (λ (r : List Write). x ∷ r) (take-length_of n l)

pub queue_places : (bs : List ℕ) → take (length (queue_in bs)) (places_in bs) ≡ queue_in bs
unfolding queue_in
queue_places bs = take-length_of (get_or (cells_in bs) 0 0) (places_in bs)

pub queue-at : (bs : List ℕ) (i : ℕ) → i < length (queue_in bs) → get_or (places_in bs) i no_write ≡ get_or (queue_in bs) i no_write
queue-at bs i h =
    sym (get_or-take (length (queue_in bs)) (places_in bs) i no_write h)
    ∙ ap (λ (l : List Write). get_or l i no_write) (queue_places bs)

-- ---- one place

three : (cs : List ℕ) (k : ℕ) → write_from (drop k (drop 1 cs)) ≡ write_from (get_or cs (k + 1) 0 ∷ get_or cs (k + 2) 0 ∷ get_or cs (k + 3) 0 ∷ [])
unfolding write_from
three cs k =
    let at : (j i : ℕ) → 1 + (k + j) ≡ i → get_or (drop k (drop 1 cs)) j 0 ≡ get_or cs i 0 =
    λ j i e. get_or-drop k (drop 1 cs) j 0 ∙ get_or-drop 1 cs (k + j) 0 ∙ ap (λ (n : ℕ). get_or cs n 0) e in
    rw (at 0 (k + 1) (omega arith), at 1 (k + 2) (omega arith), at 2 (k + 3) (omega arith))

pub place_read : (bs : List ℕ) (i : ℕ) → i < queue_room bs
    → get_or (places_in bs) i no_write ≡ write_from (get_or (cells_in bs) (3 * i + 1) 0 ∷ get_or (cells_in bs) (3 * i + 2) 0 ∷ get_or (cells_in bs) (3 * i + 3) 0 ∷ [])
unfolding places_in
place_read bs i h = blocks_at write_from 3 (queue_room bs) i (drop 1 (cells_in bs)) no_write h ∙ three (cells_in bs) (3 * i)

pub place_none : (bs : List ℕ) (i : ℕ) → queue_room bs ≤ i → get_or (places_in bs) i no_write ≡ no_write
place_none bs i h = get_or-eq_default (places_in bs) no_write (omega (arith, length_places bs))

write-within : (a b : List ℕ) → length a ≡ 3 → write_from (a ++ b) ≡ write_from a
unfolding write_from
write-within a b h = simp (get_or-append a b 0 0 (omega arith), get_or-append a b 0 1 (omega arith), get_or-append a b 0 2 (omega arith))

-- three cells behind the count, stored one after the other
stored : (cs : List ℕ) (k a b c : ℕ) → drop 1 (set (set (set cs (k + 1) a) (k + 2) b) (k + 3) c) ≡ sets (drop 1 cs) k (a ∷ b ∷ c ∷ [])
stored cs k a b c =
    let one : (l : List ℕ) (j i v : ℕ) → j ≡ 1 + i → drop 1 (set l j v) ≡ set (drop 1 l) i v =
    λ l j i v e. ap (λ (n : ℕ). drop 1 (set l n v)) e ∙ drop-set-add 1 l i v in
    one (set (set cs (k + 1) a) (k + 2) b) (k + 3) (suc (suc k)) c (omega arith)
    ∙ ap (λ (l : List ℕ). set l (suc (suc k)) c) (one (set cs (k + 1) a) (k + 2) (suc k) b (omega arith))
    ∙ ap (λ (l : List ℕ). set (set l (suc k) b) (suc (suc k)) c) (one cs (k + 1) k a (omega arith))

pub place_put : (old new : List ℕ) (i a b c : ℕ) → length new ≡ length old → i < queue_room old
    → cells_in new ≡ set (set (set (cells_in old) (3 * i + 1) a) (3 * i + 2) b) (3 * i + 3) c
    → places_in new ≡ set (places_in old) i (write_from (a ∷ b ∷ c ∷ []))
unfolding places_in
place_put old new i a b c same h e =
    let long : length (drop 1 (cells_in old)) ≡ length old / 8 - 1 = length-drop 1 (cells_in old) ∙ ap (λ (n : ℕ). n - 1) (length_cells old) in
    ap (λ (n : ℕ). blocks write_from 3 n (drop 1 (cells_in new))) (queue-room_same new old same)
    ∙ ap (blocks write_from 3 (queue_room old)) (ap (drop 1) e ∙ stored (cells_in old) (3 * i) a b c)
    ∙ blocks_sets write_from 3 write-within (queue_room old) i (drop 1 (cells_in old)) (a ∷ b ∷ c ∷ []) h (omega arith) refl (omega arith)

pub place_kept : (bs : List ℕ) (i : ℕ) (w : Write) → queue_room bs ≤ i → places_in bs ≡ set (places_in bs) i w
place_kept bs i w h = sym (set_out (places_in bs) i w (omega (arith, length_places bs)))

-- cells that hold a write's parts hold the write
pub write_coded : (w : Write) (tag kind word : ℕ) → tag % 65536 ≡ w.tag → value_from kind word ≡ w.value → write_from (tag ∷ kind ∷ word ∷ []) ≡ w
unfolding write_from
write_coded w tag kind word t v = rw (t, v)

-- ---- a new count: the places stay

places_stay : (old new : List ℕ) (n : ℕ) → length new ≡ length old → cells_in new ≡ set (cells_in old) 0 n → places_in new ≡ places_in old
unfolding places_in
places_stay old new n same e =
    ap (λ (m : ℕ). blocks write_from 3 m (drop 1 (cells_in new))) (queue-room_same new old same)
    ∙ ap (blocks write_from 3 (queue_room old)) (ap (drop 1) e ∙ drop-set-lt 1 (cells_in old) 0 n (omega arith))

pub recount : (old new : List ℕ) (n : ℕ) → length new ≡ length old → 0 < queue_room old → cells_in new ≡ set (cells_in old) 0 n → queue_in new ≡ take n (places_in old)
unfolding queue_in
recount old new n same h e =
    ap (λ (cs : List ℕ). take (get_or cs 0 0) (places_in new)) e
    ∙ ap (λ (m : ℕ). take m (places_in new)) (get_or-set_same (cells_in old) 0 n 0 (omega (arith, length_cells old)))
    ∙ ap (take n) (places_stay old new n same e)

none : (cs : List ℕ) → ◌≡◌ {A = ℕ} (get_or (set cs 0 0) 0 0) 0
none [] = refl
none (c ∷ cs) = refl

pub cleared : (old new : List ℕ) → cells_in new ≡ set (cells_in old) 0 0 → queue_in new ≡ []
unfolding queue_in
cleared old new e = ap (λ (n : ℕ). take n (places_in new)) (ap (λ (cs : List ℕ). get_or cs 0 0) e ∙ none (cells_in old))

-- ---- push

pub queued_more : (n : ℕ) (ws : List Write) (w : Write) → length ws < n → queued_with n ws w ≡ ws ++ (w ∷ [])
queued_more n ws w h = rw (lt-ltb (length ws) n h)

pub push_put : (old mid new : List ℕ) (n : ℕ) (w : Write) → n ≡ length (queue_in old) → n < queue_room old → length mid ≡ length old → length new ≡ length mid
    → places_in mid ≡ set (places_in old) n w → cells_in new ≡ set (cells_in mid) 0 (n + 1) → queue_in new ≡ queued_with (queue_room old) (queue_in old) w
push_put old mid new n w len free same same2 put count =
    recount mid new (n + 1) same2 (omega (arith, queue-room_same mid old same)) count
    ∙ ap (take (n + 1)) put
    ∙ ap (λ (m : ℕ). take m (set (places_in old) n w)) (add-one n)
    ∙ take-suc-set (places_in old) n w (omega (arith, length_places old))
    ∙ ap (λ (l : List Write). l ++ (w ∷ [])) (ap (λ (m : ℕ). take m (places_in old)) len ∙ queue_places old)
    ∙ sym (queued_more (queue_room old) (queue_in old) w (omega arith))

-- ---- pop

pub popped-first : (ws : List Write) → 0 < length ws → popped ws ≡ Some (get_or ws 0 no_write)
popped-first [] h = absurd (omega arith)
popped-first (w ∷ ws) h = refl

rest-take : (n : ℕ) (ws : List Write) → rest (take n ws) ≡ take (n - 1) (drop 1 ws)
rest-take zero ws = refl
rest-take (suc n) [] = sym (take-nil (suc n - 1))
rest-take (suc n) (w ∷ ws) = let less : n ≡ suc n - 1 = omega arith in ap (λ (m : ℕ). take m ws) less

-- the places before i - 1 have what stood one place on, and those from i on are not touched
pub record Moving (i : ℕ) (old new : List Write) : Type 0 where
  pub front : take (i - 1) new ≡ take (i - 1) (drop 1 old)
  pub behind : drop i new ≡ drop i old

module _ (i : ℕ) (old new : List Write) (r : Moving i old new) where
  moving_read : get_or new i no_write ≡ get_or old i no_write
  moving_read =
      let here : (l : List Write) → get_or l i no_write ≡ get_or (drop i l) 0 no_write = λ l. sym (get_or-drop i l 0 no_write ∙ ap (λ (n : ℕ). get_or l n no_write) (omega arith)) in
      here new ∙ ap (λ (l : List Write). get_or l 0 no_write) r.behind ∙ sym (here old)

  pub moving_more : (put : List Write) → 0 < i → i < length old → length new ≡ length old → put ≡ set new (i - 1) (get_or new i no_write) → Moving (i + 1) old put
  moving_more put some h same e =
      let less : i + 1 - 1 ≡ suc (i - 1) = omega arith in
      let x : get_or new i no_write ≡ get_or (drop 1 old) (i - 1) no_write =
      moving_read ∙ sym (get_or-drop 1 old (i - 1) no_write ∙ ap (λ (n : ℕ). get_or old n no_write) (omega arith)) in
      record {
        front =
            ap (λ (n : ℕ). take n put) less
            ∙ ap (take (suc (i - 1))) e
            ∙ take-suc-set new (i - 1) (get_or new i no_write) (omega arith)
            ∙ ap (λ (l : List Write). l ++ (get_or new i no_write ∷ [])) r.front
            ∙ ap (λ (w : Write). take (i - 1) (drop 1 old) ++ (w ∷ [])) x
            ∙ sym (take-suc (drop 1 old) (i - 1) no_write (omega (arith, length-drop 1 old)))
            ∙ ap (λ (n : ℕ). take n (drop 1 old)) (sym less);
        behind =
            ap (drop (i + 1)) e
            ∙ drop-set-lt (i + 1) new (i - 1) (get_or new i no_write) (omega arith)
            ∙ sym (drop-drop 1 i new)
            ∙ ap (drop 1) r.behind
            ∙ drop-drop 1 i old;
      }

pub moving_all : (old new : List ℕ) (i n : ℕ) → Moving i (places_in old) (places_in new) → n ≡ length (queue_in old) → n ≤ i
    → take (length (queue_in old) - 1) (places_in new) ≡ rest (queue_in old)
moving_all old new i n r len h =
    let m = length (queue_in old) in
    sym (take-take (m - 1) (i - 1) (places_in new) (omega arith))
    ∙ ap (take (m - 1)) r.front
    ∙ take-take (m - 1) (i - 1) (drop 1 (places_in old)) (omega arith)
    ∙ sym (rest-take m (places_in old))
    ∙ ap rest (queue_places old)

-- ---- the tags: i of them are pushed onto a list o, which has room for n

module _ (n : ℕ) (ws : List Write) (i : ℕ) (o : List ℕ) (done : o ≡ take n (take i (write_tags ws))) where
  pub tags_more : (w : Write) → i < length ws → w ≡ get_or ws i no_write → pushed n o w.tag ≡ take n (take (i + 1) (write_tags ws))
  tags_more w h e =
      let tags = write_tags ws in
      let at : w.tag ≡ get_or tags i 0 = ap (λ (x : Write). x.tag) e ∙ sym (get_or-map (λ (x : Write). x.tag) ws i no_write) in
      ap (λ (l : List ℕ). pushed n l w.tag) done
      ∙ pushed_clipped n (take i tags) w.tag
      ∙ ap (λ (k : ℕ). take n (take i tags ++ (k ∷ []))) at
      ∙ ap (take n) (sym (ap (λ (m : ℕ). take m tags) (add-one i) ∙ take-suc tags i 0 (omega (arith, length-map ws (λ (x : Write). x.tag)))))
