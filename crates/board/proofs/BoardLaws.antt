-- The board after one part of it was lent and given back: what that part holds is new, and all else stays.
use mathlib.Core.Path.{◌≡◌, refl, ap, sym, ◌∙◌}
use mathlib.Core.List.{List}
use Prim.Native.Nat.{ℕ, suc, ◌+◌, ◌*◌, ◌-◌, ◌≤◌, ◌<◌}
use native.Mathlib.Omega.{arith}
use borrow.Rule.Slice.PartMut.{put_mid, same_len_mid}
use lib.ListN.{length, get_or, set}
use Rattle.lists.specs.Keep.{Below}
use Rattle.memory.specs.Halves.{halves_in}
use Rattle.memory.proofs.HalfLaws.{half_small}
use Rattle.tags.specs.Lists.{list_in, room}
use Rattle.tags.proofs.ListLaws.{room_same, list_short, list_small, list_below}
use Rattle.names.specs.Directory.{max_names}
use Rattle.table.specs.Tag.{fresh_tag}
use Rattle.table.specs.Table.{table_in}
use Rattle.table.specs.declared.tag.Tag.{Tag}
use Rattle.table.proofs.RowLaws.{length-table}
use Rattle.groups.specs.Groups.{groups_in}
use Rattle.groups.specs.declared.group.Group.{Group}
use Rattle.settings.specs.Configured.{configured_in}
use Rattle.table.specs.declared.tag.GroupRate.{GroupRate}
use Rattle.queue.specs.Queue.{queue_in, queue_room, write_room}
use Rattle.queue.specs.declared.Write.{Write}
use Rattle.layout.specs.Parts.{part, start_of, size_of, total, parts, replaced}
use Rattle.layout.proofs.PartLaws.{part_length, part_between, parts_within, put_part}
use Rattle.board.specs.Layout.{sizes, back, recorded, configured, queue, groups, table, order, graces, asked, keys, words, board_size, tag_size, tags_for, tags_in, IsBoard, parts_in}
use Rattle.board.specs.Board.{Board, Holds, tag_at, board_from, board_in, with_records, with_tag, with_order, with_graces, with_words, with_asked, with_group_rows, with_recorded, with_keys, with_configured, with_queue, with_back}

-- memory of the same length is a board too
pub still_board : (new old : List ℕ) → length new ≡ length old → IsBoard old → IsBoard new
still_board new old e h = (omega arith, (omega arith, omega arith))

-- each tag adds as many bytes as the first
pub size_grows : (c : ℕ) → board_size c ≡ board_size 0 + tag_size * c
size_grows c = omega arith

-- how long part i is
pub size_of_part : (i : ℕ) (bs : List ℕ) → IsBoard bs → length (parts_in bs i) ≡ size_of (sizes (tags_in bs)) i
unfolding parts_in
size_of_part i bs h =
    let ns = sizes (tags_in bs) in
    part_length (start_of ns i) (size_of ns i) bs (omega (arith, h.0, parts_within ns i))

-- the table has a row for each tag
pub tags_counted : (bs : List ℕ) → IsBoard bs → length (board_in bs).table.tags ≡ tags_in bs
unfolding board_in board_from
tags_counted bs h = omega (arith, length-table (parts_in bs table), size_of_part table bs h)

-- Part i lent from a to e, and given back as y.
module _ (i : ℕ) (bs : List ℕ) (a e : ℕ) (ea : a ≡ start_of (sizes (tags_in bs)) i) (ee : e ≡ start_of (sizes (tags_in bs)) (suc i)) where
  wide : e - a ≡ size_of (sizes (tags_in bs)) i
  wide = omega (arith, part_between (sizes (tags_in bs)) i)

  -- what is lent
  pub part_lent : part a (e - a) bs ≡ parts_in bs i
  unfolding parts_in
  part_lent = rw (wide, ea)

  -- the parts, with that one replaced
  pub part-back : (y : List ℕ) → IsBoard bs → length y ≡ length (part a (e - a) bs) → parts_in (put_mid a (e - a) bs y) ≡ replaced (parts_in bs) i y
  unfolding parts_in
  part-back y h l =
      let ns = sizes (tags_in bs) in
      let whole : length bs ≡ total ns = h.0 in
      let in_room : a + (e - a) ≤ length bs = omega (arith, ea, wide, whole, parts_within ns i) in
      let long : length y ≡ size_of ns i = l ∙ part_length a (e - a) bs in_room ∙ wide in
      ap (λ (m : ℕ). parts (sizes (tags_for m)) (put_mid a (e - a) bs y)) (same_len_mid a (e - a) bs y l)
      ∙ ap (λ (m : ℕ). parts ns (put_mid m (e - a) bs y)) ea
      ∙ ap (λ (m : ℕ). parts ns (put_mid (start_of ns i) m bs y)) wide
      ∙ put_part ns i bs y whole long

-- ---- what is read of a part

pub tag_read : (bs t : List ℕ) (k : ℕ) → t ≡ parts_in bs table → get_or (table_in t) k fresh_tag ≡ tag_at (board_in bs).table k
unfolding board_in board_from
tag_read bs t k e = rw e refl

pub word_read : (bs w : List ℕ) (k : ℕ) → w ≡ parts_in bs words → get_or (halves_in w) k 0 ≡ get_or (board_in bs).table.words k 0
unfolding board_in board_from
word_read bs w k e = rw e refl

pub tags_read : (bs l : List ℕ) → l ≡ parts_in bs table → table_in l ≡ (board_in bs).table.tags
unfolding board_in board_from
tags_read bs l e = rw e refl

pub order-read : (bs l : List ℕ) → l ≡ parts_in bs order → list_in l ≡ (board_in bs).table.order
unfolding board_in board_from
order-read bs l e = rw e refl

pub graces-read : (bs l : List ℕ) → l ≡ parts_in bs graces → list_in l ≡ (board_in bs).table.graces
unfolding board_in board_from
graces-read bs l e = rw e refl

pub keys-read : (bs l : List ℕ) → l ≡ parts_in bs keys → halves_in l ≡ (board_in bs).keys
unfolding board_in board_from
keys-read bs l e = rw e refl

pub asked-read : (bs l : List ℕ) → l ≡ parts_in bs asked → list_in l ≡ (board_in bs).asked
unfolding board_in board_from
asked-read bs l e = rw e refl

pub recorded-read : (bs l : List ℕ) → l ≡ parts_in bs recorded → list_in l ≡ (board_in bs).groups.recorded
unfolding board_in board_from
recorded-read bs l e = rw e refl

pub queue-read : (bs l : List ℕ) → l ≡ parts_in bs queue → queue_in l ≡ (board_in bs).queue
unfolding board_in board_from
queue-read bs l e = rw e refl

pub back_read : (bs l : List ℕ) → l ≡ parts_in bs back → l ≡ (board_in bs).back
unfolding board_in board_from
back_read bs l e = e

-- the lists name tags below 65536
pub order_small : (bs : List ℕ) (i : ℕ) → get_or (board_in bs).table.order i 0 < 65536
unfolding board_in board_from
order_small bs i = list_small (parts_in bs order) i

pub asked_small : (bs : List ℕ) (i : ℕ) → get_or (board_in bs).asked i 0 < 65536
unfolding board_in board_from
asked_small bs i = list_small (parts_in bs asked) i

pub asked-below : (bs : List ℕ) → Below 65536 (board_in bs).asked
unfolding board_in board_from
asked-below bs = list_below (parts_in bs asked)

-- and so do the words
pub word_small : (bs : List ℕ) (k : ℕ) → get_or (board_in bs).table.words k 0 < 65536
unfolding board_in board_from
word_small bs k = half_small (parts_in bs words) k

-- ---- room

-- a list of tags has room for each tag
list_room : (i : ℕ) (bs : List ℕ) → IsBoard bs → size_of (sizes (tags_in bs)) i ≡ 2 * tags_in bs + 2 → room (parts_in bs i) ≡ tags_in bs
list_room i bs h e = omega (arith, size_of_part i bs h)

pub room_is : (bs : List ℕ) → IsBoard bs → (board_in bs).table.room ≡ tags_in bs
unfolding board_in board_from
room_is bs h = list_room order bs h refl

pub room_few : (bs : List ℕ) → IsBoard bs → (board_in bs).table.room ≤ max_names
room_few bs h = omega (arith, room_is bs h)

-- so that none of them is longer
pub order_short : (bs : List ℕ) → IsBoard bs → length (board_in bs).table.order ≤ (board_in bs).table.room
unfolding board_in board_from
order_short bs h = list_short (parts_in bs order)

pub graces_short : (bs : List ℕ) → IsBoard bs → length (board_in bs).table.graces ≤ (board_in bs).table.room
unfolding board_in board_from
graces_short bs h = omega (arith, list_short (parts_in bs graces), list_room graces bs h refl, list_room order bs h refl)

pub asked_short : (bs : List ℕ) → IsBoard bs → length (board_in bs).asked ≤ (board_in bs).table.room
unfolding board_in board_from
asked_short bs h = omega (arith, list_short (parts_in bs asked), list_room asked bs h refl, list_room order bs h refl)

pub asked_few : (bs : List ℕ) → length (board_in bs).asked ≤ 65535
unfolding board_in board_from
asked_few bs = omega (arith, list_short (parts_in bs asked))

-- ---- the board with one part replaced

tags_of : (P : ℕ → List ℕ) (y : List ℕ) (x : List Tag) → table_in y ≡ x → board_from (replaced P table y) ≡ with_records (board_from P) x
unfolding board_from
tags_of P y x e = rw e refl

words_of : (P : ℕ → List ℕ) (y : List ℕ) (x : List ℕ) → halves_in y ≡ x → board_from (replaced P words y) ≡ with_words (board_from P) x
unfolding board_from
words_of P y x e = rw e refl

keys_of : (P : ℕ → List ℕ) (y : List ℕ) (x : List ℕ) → halves_in y ≡ x → board_from (replaced P keys y) ≡ with_keys (board_from P) x
unfolding board_from
keys_of P y x e = rw e refl

groups_of : (P : ℕ → List ℕ) (y : List ℕ) (x : List Group) → groups_in y ≡ x → board_from (replaced P groups y) ≡ with_group_rows (board_from P) x
unfolding board_from
groups_of P y x e = rw e refl

configured_of : (P : ℕ → List ℕ) (y : List ℕ) (x : List GroupRate) → configured_in y ≡ x → board_from (replaced P configured y) ≡ with_configured (board_from P) x
unfolding board_from
configured_of P y x e = rw e refl

order_of : (P : ℕ → List ℕ) (y : List ℕ) (x : List ℕ) → room y ≡ room (P order) → list_in y ≡ x → board_from (replaced P order y) ≡ with_order (board_from P) x
unfolding board_from
order_of P y x r e = rw (r, e) refl

graces_of : (P : ℕ → List ℕ) (y : List ℕ) (x : List ℕ) → list_in y ≡ x → board_from (replaced P graces y) ≡ with_graces (board_from P) x
unfolding board_from
graces_of P y x e = rw e refl

asked_of : (P : ℕ → List ℕ) (y : List ℕ) (x : List ℕ) → list_in y ≡ x → board_from (replaced P asked y) ≡ with_asked (board_from P) x
unfolding board_from
asked_of P y x e = rw e refl

recorded_of : (P : ℕ → List ℕ) (y : List ℕ) (x : List ℕ) → room y ≡ room (P recorded) → list_in y ≡ x → board_from (replaced P recorded y) ≡ with_recorded (board_from P) x
unfolding board_from
recorded_of P y x r e = rw (r, e) refl

queue_of : (P : ℕ → List ℕ) (y : List ℕ) (x : List Write) → queue_in y ≡ x → board_from (replaced P queue y) ≡ with_queue (board_from P) x
unfolding board_from
queue_of P y x e = rw e refl

back_of : (P : ℕ → List ℕ) (y : List ℕ) → board_from (replaced P back y) ≡ with_back (board_from P) y
unfolding board_from
back_of P y = refl

-- ---- the board after a part was lent from a to e and given back as y; f is what was done to it

holds_back : (bs y : List ℕ) (a e : ℕ) {B : Board} → IsBoard bs → length y ≡ length (part a (e - a) bs) → board_in (put_mid a (e - a) bs y) ≡ B → Holds (put_mid a (e - a) bs y) B
holds_back bs y a e h l d = record { still = still_board (put_mid a (e - a) bs y) bs (same_len_mid a (e - a) bs y l) h; board = d }

module _ (bs y : List ℕ) (h : IsBoard bs) (a e : ℕ) where
  pub tags_put : a ≡ start_of (sizes (tags_in bs)) table → e ≡ start_of (sizes (tags_in bs)) (suc table)
      → (f : List Tag → List Tag) → length y ≡ length (part a (e - a) bs) → table_in y ≡ f (table_in (part a (e - a) bs))
      → Holds (put_mid a (e - a) bs y) (with_records (board_in bs) (f (board_in bs).table.tags))
  unfolding board_in board_from
  tags_put ea ee f l d =
      holds_back bs y a e h l (ap board_from (part-back table bs a e ea ee y h l)
      ∙ tags_of (parts_in bs) y (f (table_in (parts_in bs table))) (d ∙ ap (λ (z : List ℕ). f (table_in z)) (part_lent table bs a e ea ee)))

  pub words_put : a ≡ start_of (sizes (tags_in bs)) words → e ≡ start_of (sizes (tags_in bs)) (suc words)
      → (f : List ℕ → List ℕ) → length y ≡ length (part a (e - a) bs) → halves_in y ≡ f (halves_in (part a (e - a) bs))
      → Holds (put_mid a (e - a) bs y) (with_words (board_in bs) (f (board_in bs).table.words))
  unfolding board_in board_from
  words_put ea ee f l d =
      holds_back bs y a e h l (ap board_from (part-back words bs a e ea ee y h l)
      ∙ words_of (parts_in bs) y (f (halves_in (parts_in bs words))) (d ∙ ap (λ (z : List ℕ). f (halves_in z)) (part_lent words bs a e ea ee)))

  pub keys_put : a ≡ start_of (sizes (tags_in bs)) keys → e ≡ start_of (sizes (tags_in bs)) (suc keys)
      → (f : List ℕ → List ℕ) → length y ≡ length (part a (e - a) bs) → halves_in y ≡ f (halves_in (part a (e - a) bs))
      → Holds (put_mid a (e - a) bs y) (with_keys (board_in bs) (f (board_in bs).keys))
  unfolding board_in board_from
  keys_put ea ee f l d =
      holds_back bs y a e h l (ap board_from (part-back keys bs a e ea ee y h l)
      ∙ keys_of (parts_in bs) y (f (halves_in (parts_in bs keys))) (d ∙ ap (λ (z : List ℕ). f (halves_in z)) (part_lent keys bs a e ea ee)))

  pub groups_put : a ≡ start_of (sizes (tags_in bs)) groups → e ≡ start_of (sizes (tags_in bs)) (suc groups)
      → (f : List Group → List Group) → length y ≡ length (part a (e - a) bs) → groups_in y ≡ f (groups_in (part a (e - a) bs))
      → Holds (put_mid a (e - a) bs y) (with_group_rows (board_in bs) (f (board_in bs).groups.groups))
  unfolding board_in board_from
  groups_put ea ee f l d =
      holds_back bs y a e h l (ap board_from (part-back groups bs a e ea ee y h l)
      ∙ groups_of (parts_in bs) y (f (groups_in (parts_in bs groups))) (d ∙ ap (λ (z : List ℕ). f (groups_in z)) (part_lent groups bs a e ea ee)))

  pub configured_put : a ≡ start_of (sizes (tags_in bs)) configured → e ≡ start_of (sizes (tags_in bs)) (suc configured)
      → (f : List GroupRate → List GroupRate) → length y ≡ length (part a (e - a) bs) → configured_in y ≡ f (configured_in (part a (e - a) bs))
      → Holds (put_mid a (e - a) bs y) (with_configured (board_in bs) (f (board_in bs).configured))
  unfolding board_in board_from
  configured_put ea ee f l d =
      holds_back bs y a e h l (ap board_from (part-back configured bs a e ea ee y h l)
      ∙ configured_of (parts_in bs) y (f (configured_in (parts_in bs configured))) (d ∙ ap (λ (z : List ℕ). f (configured_in z)) (part_lent configured bs a e ea ee)))

  pub tag_put : a ≡ start_of (sizes (tags_in bs)) table → e ≡ start_of (sizes (tags_in bs)) (suc table)
      → (k : ℕ) (f : Tag → Tag) → length y ≡ length (part a (e - a) bs)
      → table_in y ≡ set (table_in (part a (e - a) bs)) k (f (get_or (table_in (part a (e - a) bs)) k fresh_tag))
      → Holds (put_mid a (e - a) bs y) (with_tag (board_in bs) k (f (tag_at (board_in bs).table k)))
  tag_put ea ee k f l d = tags_put ea ee (λ (ts : List Tag). set ts k (f (get_or ts k fresh_tag))) l d

  pub order_put : a ≡ start_of (sizes (tags_in bs)) order → e ≡ start_of (sizes (tags_in bs)) (suc order)
      → (f : ℕ → List ℕ → List ℕ) → length y ≡ length (part a (e - a) bs) → list_in y ≡ f (room (part a (e - a) bs)) (list_in (part a (e - a) bs))
      → Holds (put_mid a (e - a) bs y) (with_order (board_in bs) (f (board_in bs).table.room (board_in bs).table.order))
  unfolding board_in board_from
  order_put ea ee f l d =
      let same = part_lent order bs a e ea ee in
      holds_back bs y a e h l (ap board_from (part-back order bs a e ea ee y h l)
      ∙ order_of (parts_in bs) y (f (room (parts_in bs order)) (list_in (parts_in bs order))) (room_same y (part a (e - a) bs) l ∙ ap room same) (d ∙ ap (λ (z : List ℕ). f (room z) (list_in z)) same))

  pub graces_put : a ≡ start_of (sizes (tags_in bs)) graces → e ≡ start_of (sizes (tags_in bs)) (suc graces)
      → (f : ℕ → List ℕ → List ℕ) → length y ≡ length (part a (e - a) bs) → list_in y ≡ f (room (part a (e - a) bs)) (list_in (part a (e - a) bs))
      → Holds (put_mid a (e - a) bs y) (with_graces (board_in bs) (f (board_in bs).table.room (board_in bs).table.graces))
  unfolding board_in board_from
  graces_put ea ee f l d =
      let same : room (parts_in bs graces) ≡ room (parts_in bs order) = list_room graces bs h refl ∙ sym (list_room order bs h refl) in
      holds_back bs y a e h l (ap board_from (part-back graces bs a e ea ee y h l)
      ∙ graces_of (parts_in bs) y (f (room (parts_in bs order)) (list_in (parts_in bs graces)))
      (d ∙ ap (λ (z : List ℕ). f (room z) (list_in z)) (part_lent graces bs a e ea ee) ∙ ap (λ (n : ℕ). f n (list_in (parts_in bs graces))) same))

  pub asked_put : a ≡ start_of (sizes (tags_in bs)) asked → e ≡ start_of (sizes (tags_in bs)) (suc asked)
      → (f : ℕ → List ℕ → List ℕ) → length y ≡ length (part a (e - a) bs) → list_in y ≡ f (room (part a (e - a) bs)) (list_in (part a (e - a) bs))
      → Holds (put_mid a (e - a) bs y) (with_asked (board_in bs) (f (board_in bs).table.room (board_in bs).asked))
  unfolding board_in board_from
  asked_put ea ee f l d =
      let same : room (parts_in bs asked) ≡ room (parts_in bs order) = list_room asked bs h refl ∙ sym (list_room order bs h refl) in
      holds_back bs y a e h l (ap board_from (part-back asked bs a e ea ee y h l)
      ∙ asked_of (parts_in bs) y (f (room (parts_in bs order)) (list_in (parts_in bs asked)))
      (d ∙ ap (λ (z : List ℕ). f (room z) (list_in z)) (part_lent asked bs a e ea ee) ∙ ap (λ (n : ℕ). f n (list_in (parts_in bs asked))) same))

  pub recorded_put : a ≡ start_of (sizes (tags_in bs)) recorded → e ≡ start_of (sizes (tags_in bs)) (suc recorded)
      → (f : ℕ → List ℕ → List ℕ) → length y ≡ length (part a (e - a) bs) → list_in y ≡ f (room (part a (e - a) bs)) (list_in (part a (e - a) bs))
      → Holds (put_mid a (e - a) bs y) (with_recorded (board_in bs) (f (board_in bs).groups.recorded_room (board_in bs).groups.recorded))
  unfolding board_in board_from
  recorded_put ea ee f l d =
      let same = part_lent recorded bs a e ea ee in
      holds_back bs y a e h l (ap board_from (part-back recorded bs a e ea ee y h l)
      ∙ recorded_of (parts_in bs) y (f (room (parts_in bs recorded)) (list_in (parts_in bs recorded))) (room_same y (part a (e - a) bs) l ∙ ap room same) (d ∙ ap (λ (z : List ℕ). f (room z) (list_in z)) same))

  pub queue_put : a ≡ start_of (sizes (tags_in bs)) queue → e ≡ start_of (sizes (tags_in bs)) (suc queue)
      → (f : ℕ → List Write → List Write) → length y ≡ length (part a (e - a) bs) → queue_in y ≡ f (queue_room (part a (e - a) bs)) (queue_in (part a (e - a) bs))
      → Holds (put_mid a (e - a) bs y) (with_queue (board_in bs) (f write_room (board_in bs).queue))
  unfolding board_in board_from
  queue_put ea ee f l d =
      let same : queue_room (parts_in bs queue) ≡ write_room = omega (arith, size_of_part queue bs h) in
      holds_back bs y a e h l (ap board_from (part-back queue bs a e ea ee y h l)
      ∙ queue_of (parts_in bs) y (f write_room (queue_in (parts_in bs queue)))
      (d ∙ ap (λ (z : List ℕ). f (queue_room z) (queue_in z)) (part_lent queue bs a e ea ee) ∙ ap (λ (n : ℕ). f n (queue_in (parts_in bs queue))) same))

  pub back_put : a ≡ start_of (sizes (tags_in bs)) back → e ≡ start_of (sizes (tags_in bs)) (suc back)
      → (f : List ℕ → List ℕ) → length y ≡ length (part a (e - a) bs) → y ≡ f (part a (e - a) bs)
      → Holds (put_mid a (e - a) bs y) (with_back (board_in bs) (f (board_in bs).back))
  unfolding board_in board_from
  back_put ea ee f l d =
      holds_back bs y a e h l (ap board_from (part-back back bs a e ea ee y h l)
      ∙ back_of (parts_in bs) y ∙ ap (λ (z : List ℕ). with_back (board_from (parts_in bs)) z) (d ∙ ap f (part_lent back bs a e ea ee)))
