-- What a board of zeros holds, and the board that is made of it.
use mathlib.Core.Bool.{false}
use mathlib.Core.Path.{◌≡◌, refl, ap, sym, ◌∙◌}
use mathlib.Core.List.{List, [], ◌∷◌, ◌++◌, map}
use Prim.Native.Nat.{ℕ, zero, suc, ◌+◌, ◌*◌, ◌-◌, ◌/◌, ◌≤◌, ◌<◌, min}
use native.Mathlib.Nat.{mul-suc, add_comm}
use native.Mathlib.Omega.{arith}
use lib.ListN.{length, get_or, set, take, drop, replicate, length-replicate}
use lib.Seq.{take-suc-set, take_all}
use Rattle.layout.specs.Parts.{part, start_of, size_of}
use Rattle.layout.proofs.PartLaws.{parts_within}
use Rattle.memory.specs.Blocks.{blocks}
use Rattle.memory.specs.Cells.{word_at, cells_in, rows_in, no_row}
use Rattle.memory.specs.Halves.{half_at, halves_in}
use Rattle.tags.specs.Lists.{list_of, list_in, room}
use Rattle.names.specs.Directory.{names_of}
use Rattle.names.proofs.DirectoryLaws.{length_names}
use Rattle.names.specs.Keys.{key_of}
use Rattle.ranks.specs.Ranks.{over, keys_of, word_code, words_of}
use Rattle.ranks.proofs.Laws.{over-all, each_long}
use Rattle.table.specs.Tag.{fresh_tag}
use Rattle.table.specs.Row.{tag_from}
use Rattle.table.specs.Table.{table_in}
use Rattle.table.specs.declared.tag.Tag.{Tag}
use Rattle.groups.specs.Groups.{fresh_group, group_from, groups_in}
use Rattle.groups.specs.declared.group.Group.{Group}
use Rattle.settings.specs.Configured.{given_groups, configured_in, group_places}
use Rattle.table.specs.declared.tag.GroupRate.{GroupRate}
use Rattle.versions.specs.Versions.{table_taken}
use Rattle.queue.specs.Queue.{queue_in, places_in}
use Rattle.queue.specs.declared.Write.{Write}
use Rattle.board.specs.Layout.{sizes, back, recorded, configured, queue, groups, table, order, graces, asked, keys, words, tags_for, tags_in, IsBoard, parts_in}
use Rattle.board.specs.Board.{Board, Holds, board_from, board_in, with_records, with_keys, with_words, with_configured}
use Rattle.board.proofs.BoardLaws.{still_board}
use Rattle.fresh.specs.Fresh.{configured_room, empty_board, fresh_board}

-- ---- a list of the same element over and over

module _ {A : Type 0} (x : A) where
  drop_same : (a n : ℕ) → drop a (replicate n x) ≡ replicate (n - a) x
  drop_same zero n = let e : n ≡ n - 0 = omega arith in ap (λ (m : ℕ). replicate m x) e
  drop_same (suc a) zero = let e : 0 ≡ 0 - suc a = omega arith in ap (λ (m : ℕ). replicate m x) e
  drop_same (suc a) (suc n) = let e : n - a ≡ suc n - suc a = omega arith in drop_same a n ∙ ap (λ (m : ℕ). replicate m x) e

  take_same : (k n : ℕ) → k ≤ n → take k (replicate n x) ≡ replicate k x
  take_same zero n h = refl
  take_same (suc k) zero h = absurd (omega arith)
  take_same (suc k) (suc n) h = ap (λ (l : List A). x ∷ l) (take_same k n (omega arith))

  same_more : (n : ℕ) → replicate n x ++ (x ∷ []) ≡ replicate (suc n) x
  same_more zero = refl
  same_more (suc n) = ap (λ (l : List A). x ∷ l) (same_more n)

  map_same : {B : Type 0} (f : A → B) (n : ℕ) → map f (replicate n x) ≡ replicate n (f x)
  map_same {B} f zero = refl
  map_same {B} f (suc n) = ap (λ (l : List B). f x ∷ l) (map_same f n)

abbrev pub zeros : ℕ → List ℕ
zeros n = replicate n 0

length_zeros : (n : ℕ) → length (zeros n) ≡ n
length_zeros n = length-replicate {A = ℕ} n 0

-- ---- memory cleared from the front

pub clear_next : (l : List ℕ) (i : ℕ) → i < length l → take i l ≡ zeros i → take (suc i) (set l i 0) ≡ zeros (suc i)
clear_next l i h e = take-suc-set l i 0 h ∙ ap (λ (r : List ℕ). r ++ (0 ∷ [])) e ∙ same_more {A = ℕ} 0 i

pub clear_all : (l : List ℕ) (i n : ℕ) → length l ≤ i → i ≡ n → take i l ≡ zeros i → l ≡ zeros n
clear_all l i n h s e = sym (take_all i l h) ∙ e ∙ ap (λ (m : ℕ). zeros m) s

-- ---- what zeros hold

zero_at : (n i : ℕ) → get_or (zeros n) i 0 ≡ 0
zero_at zero zero = refl
zero_at zero (suc i) = refl
zero_at (suc n) zero = refl
zero_at (suc n) (suc i) = zero_at n i

part_zero : (a k n : ℕ) → a + k ≤ n → part a k (zeros n) ≡ zeros k
part_zero a k n h = ap (take k) (drop_same {A = ℕ} 0 a n) ∙ take_same {A = ℕ} 0 k (n - a) (omega arith)

blocks_same : {B : Type 0} (f : List ℕ → B) (w : ℕ) (v : B) → ((m : ℕ) → w ≤ m → f (zeros m) ≡ v) → (n m : ℕ) → w * n ≤ m → blocks f w n (zeros m) ≡ replicate n v
unfolding blocks
blocks_same {B} f w v e zero m h = refl
blocks_same {B} f w v e (suc n) m h =
    let next : w * suc n ≡ w + w * n = mul-suc w n ∙ add_comm (w * n) w in
    ap (λ (b : B). b ∷ blocks f w n (drop w (zeros m))) (e m (omega (arith, next)))
    ∙ ap (λ (l : List ℕ). v ∷ blocks f w n l) (drop_same {A = ℕ} 0 w m)
    ∙ ap (λ (l : List B). v ∷ l) (blocks_same f w v e n (m - w) (omega (arith, next)))

half_zero : (m : ℕ) → half_at (zeros m) 0 ≡ 0
half_zero m = simp (zero_at m 0, zero_at m 1)

word_zero : (m : ℕ) → word_at (zeros m) 0 ≡ 0
word_zero m = simp (zero_at m 0, zero_at m 1, zero_at m 2, zero_at m 3, zero_at m 4, zero_at m 5, zero_at m 6, zero_at m 7)

halves_zero : (n : ℕ) → halves_in (zeros n) ≡ zeros (n / 2)
unfolding halves_in
halves_zero n =
    ap (λ (k : ℕ). blocks (λ (b : List ℕ). half_at b 0) 2 (k / 2) (zeros n)) (length_zeros n)
    ∙ blocks_same (λ (b : List ℕ). half_at b 0) 2 0 (λ m h. half_zero m) (n / 2) n (omega arith)

cells_zero : (n : ℕ) → cells_in (zeros n) ≡ zeros (n / 8)
unfolding cells_in
cells_zero n =
    ap (λ (k : ℕ). blocks (λ (b : List ℕ). word_at b 0) 8 (k / 8) (zeros n)) (length_zeros n)
    ∙ blocks_same (λ (b : List ℕ). word_at b 0) 8 0 (λ m h. word_zero m) (n / 8) n (omega arith)

rows_zero : (n : ℕ) → rows_in (zeros n) ≡ replicate (n / 256) no_row
unfolding rows_in
rows_zero n =
    ap (λ (k : ℕ). blocks (take 32) 32 (k / 256) (cells_in (zeros n))) (length_zeros n)
    ∙ ap (λ (l : List ℕ). blocks (take 32) 32 (n / 256) l) (cells_zero n)
    ∙ blocks_same (take 32) 32 no_row (λ m h. take_same {A = ℕ} 0 32 m h) (n / 256) (n / 8) (omega arith)

fresh_tag_lem : tag_from no_row ≡ fresh_tag
unfolding tag_from
fresh_tag_lem = refl

fresh_group_lem : (m : ℕ) → group_from (zeros m) ≡ fresh_group
unfolding group_from
fresh_group_lem m = simp (zero_at m 0, zero_at m 1, zero_at m 2, zero_at m 3, zero_at m 4)

table_zero : (n : ℕ) → table_in (zeros n) ≡ replicate (n / 256) fresh_tag
unfolding table_in
table_zero n = ap (map tag_from) (rows_zero n) ∙ map_same no_row tag_from (n / 256) ∙ ap (λ (x : Tag). replicate (n / 256) x) fresh_tag_lem

groups_zero : (n : ℕ) → groups_in (zeros n) ≡ replicate (n / 64) fresh_group
unfolding groups_in
groups_zero n =
    ap (λ (k : ℕ). blocks group_from 8 (k / 64) (cells_in (zeros n))) (length_zeros n)
    ∙ ap (blocks group_from 8 (n / 64)) (cells_zero n)
    ∙ blocks_same group_from 8 fresh_group (λ m h. fresh_group_lem m) (n / 64) (n / 8) (omega arith)

list_zero : (n : ℕ) → list_in (zeros n) ≡ []
unfolding list_in
list_zero n = ap list_of (halves_zero n) ∙ ap (λ (k : ℕ). take k (drop 1 (zeros (n / 2)))) (zero_at (n / 2) 0)

room_zero : (n : ℕ) → room (zeros n) ≡ min (n / 2 - 1) 65535
room_zero n = ap (λ (k : ℕ). min (k / 2 - 1) 65535) (length_zeros n)

queue_zero : (n : ℕ) → queue_in (zeros n) ≡ []
unfolding queue_in
queue_zero n = ap (λ (k : ℕ). take k (places_in (zeros n))) (ap (λ (l : List ℕ). get_or l 0 0) (cells_zero n) ∙ zero_at (n / 8) 0)

configured_zero : (n : ℕ) → configured_in (zeros n) ≡ []
unfolding configured_in
configured_zero n = ap (λ (k : ℕ). take k (group_places (zeros n))) (ap (λ (l : List ℕ). get_or l 0 0) (cells_zero n) ∙ zero_at (n / 8) 0)

-- ---- a board of zeros

board_is : (B : Board) (tags : List Tag) (order graces : List ℕ) (room : ℕ) (words : List ℕ) (groups : List Group) (recorded : List ℕ) (recorded_room : ℕ)
    (keys : List ℕ) (configured : List GroupRate) (queue : List Write) (asked back : List ℕ)
    → tags ≡ B.table.tags → order ≡ B.table.order → graces ≡ B.table.graces → room ≡ B.table.room → words ≡ B.table.words
    → groups ≡ B.groups.groups → recorded ≡ B.groups.recorded → recorded_room ≡ B.groups.recorded_room → keys ≡ B.keys → configured ≡ B.configured
    → queue ≡ B.queue → asked ≡ B.asked → back ≡ B.back
    → ◌≡◌ {A = Board} (record {
      table = record { tags = tags; order = order; graces = graces; room = room; words = words };
      groups = record { groups = groups; recorded = recorded; recorded_room = recorded_room };
      keys = keys;
      configured = configured;
      queue = queue;
      asked = asked;
      back = back;
    }) B
board_is B tags order graces room words groups recorded recorded_room keys configured queue asked back e0 e1 e2 e3 e4 e5 e6 e7 e8 e9 e10 e11 e12 =
    rw (e0, e1, e2, e3, e4, e5, e6, e7, e8, e9, e10, e11, e12) refl

-- each part of zeros is zeros
module _ (bs : List ℕ) (h : IsBoard bs) (z : bs ≡ zeros (length bs)) where
  zero_part : (i : ℕ) → parts_in bs i ≡ zeros (size_of (sizes (tags_in bs)) i)
  unfolding parts_in
  zero_part i =
      let ns = sizes (tags_in bs) in
      ap (part (start_of ns i) (size_of ns i)) z ∙ part_zero (start_of ns i) (size_of ns i) (length bs) (omega (arith, h.0, parts_within ns i))

  none : (i : ℕ) → list_in (parts_in bs i) ≡ []
  none i = ap list_in (zero_part i) ∙ list_zero (size_of (sizes (tags_in bs)) i)

  roomy : (i : ℕ) → room (parts_in bs i) ≡ min (size_of (sizes (tags_in bs)) i / 2 - 1) 65535
  roomy i = ap room (zero_part i) ∙ room_zero (size_of (sizes (tags_in bs)) i)

  numbers : (i : ℕ) → halves_in (parts_in bs i) ≡ zeros (size_of (sizes (tags_in bs)) i / 2)
  numbers i = ap halves_in (zero_part i) ∙ halves_zero (size_of (sizes (tags_in bs)) i)

  pub empty_board_lem : board_in bs ≡ empty_board (tags_in bs)
  unfolding board_in board_from
  empty_board_lem =
      let c = tags_in bs in
      let few : c ≤ 65535 = omega (arith, h.1.1) in
      let list_room : min ((2 * c + 2) / 2 - 1) 65535 ≡ c = omega arith in
      let rows : 256 * c / 256 ≡ c = omega arith in
      let two : 2 * c / 2 ≡ c = omega arith in
      board_is (empty_board c) _ _ _ _ _ _ _ _ _ _ _ _ _
      (ap table_in (zero_part table) ∙ table_zero (256 * c) ∙ ap (λ (n : ℕ). replicate n fresh_tag) rows) (none order) (none graces) (roomy order ∙ list_room) (numbers words ∙ ap zeros two)
      (ap groups_in (zero_part groups) ∙ groups_zero 1024) (none recorded) (roomy recorded) (numbers keys ∙ ap zeros two) (ap configured_in (zero_part configured) ∙ configured_zero 512)
      (ap queue_in (zero_part queue) ∙ queue_zero 1024) (none asked) (zero_part back)

-- memory that was cleared is an empty board
pub cleared : (old new : List ℕ) → IsBoard old → new ≡ zeros (length old) → Holds new (empty_board (tags_in old))
cleared old new h e =
    let same : length new ≡ length old = ap (λ (l : List ℕ). length l) e ∙ length_zeros (length old) in
    let still = still_board new old same h in
    record { still = still; board = empty_board_lem new still (e ∙ ap zeros (sym same)) ∙ ap empty_board (ap tags_for same) }

-- ---- what the names say, over zeros

pub keys-over : (names ends : List ℕ) → over (zeros (length ends)) (keys_of (names_of names ends)) ≡ keys_of (names_of names ends)
keys-over names ends = over-all (zeros (length ends)) (keys_of (names_of names ends)) (length_zeros (length ends) ∙ sym (each_long (key_of (names_of names ends)) (length (names_of names ends)) ∙ length_names names ends))

pub words-over : (names ends : List ℕ) → over (zeros (length ends)) (words_of (names_of names ends)) ≡ words_of (names_of names ends)
words-over names ends = over-all (zeros (length ends)) (words_of (names_of names ends)) (length_zeros (length ends) ∙ sym (each_long (word_code (names_of names ends)) (length (names_of names ends)) ∙ length_names names ends))

-- ---- the board that is made of zeros, step by step

pub made : (names ends settings given : List ℕ) (B0 B1 B2 B3 B4 : Board) → B0 ≡ empty_board (length ends)
    → B1 ≡ with_keys B0 (over B0.keys (keys_of (names_of names ends)))
    → B2 ≡ with_words B1 (over B1.table.words (words_of (names_of names ends)))
    → B3 ≡ with_configured B2 (take configured_room (given_groups given))
    → B4 ≡ with_records B3 (table_taken false settings B3.table.words B3.table.tags)
    → B4 ≡ with_configured (fresh_board names ends settings given) (take configured_room (given_groups given))
unfolding fresh_board
made names ends settings given B0 B1 B2 B3 B4 e0 e1 e2 e3 e4 = rw (e4, e3, e2, e1, e0, keys-over names ends, words-over names ends) refl
