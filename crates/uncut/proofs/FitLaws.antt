-- What the lists of every engine meet, so that none is cut, and what keeps it.
use mathlib.Core.Path.{◌≡◌, refl, ap, sym, ◌∙◌}
use mathlib.Core.Bool.{Bool, true, false, not, ◌&&◌, ◌||◌, cond, true≢false}
use mathlib.Core.List.{List, [], ◌∷◌, ◌++◌, map}
use Prim.Native.Nat.{ℕ, zero, suc, ◌+◌, ◌*◌, ◌-◌, ◌≤◌, ◌<◌, min}
use native.Mathlib.Omega.{arith}
use lib.Dec.{eqb, leb}
use lib.Ieee.{Float, binary64, of_bits}
use lib.Ieee.Scale.{finite}
use lib.ListN.{length, get_or, take, length-map}
use lib.Seq.{take_all}
use borrow.Author.Tests.{eqb-true, ne_eqb, leb-true, le-ltb}
use Rattle.std.specs.Prelude.{Option, is_some, Some, None}
use Rattle.lists.specs.Keep.{keep, count, Below}
use Rattle.lists.proofs.KeepLaws.{count-append, length-keep, length-up_to, below-append}
use Rattle.lists.proofs.CountLaws.{length_fewer}
use Rattle.memory.proofs.RowLaws.{map_at}
use Rattle.table.specs.Row.{group_from}
use Rattle.tags.specs.Lists.{pushed, member}
use Rattle.tags.proofs.ListLaws.{pushed_more}
use Rattle.table.specs.Tag.{fresh_tag, no_settings}
use Rattle.table.specs.declared.tag.Settings.{Settings}
use Rattle.table.specs.declared.tag.Tag.{Tag}
use Rattle.tiers.specs.Graced.{Graced}
use Rattle.groups.specs.Groups.{Groups, noted}
use Rattle.table.specs.Table.{by_rank}
use Rattle.rounds.specs.Due.{recorded_due, noted_due, seen_with}
use Rattle.settings.specs.Records.{records_in, every}
use Rattle.settings.specs.Settings.{setting_from, setting_in, setting_ok, settings_ok, rate_ok, max_groups}
use Rattle.table.specs.declared.tag.GroupRate.{GroupRate}
use Rattle.heads.specs.Version.{is_changed}
use Rattle.versions.specs.Versions.{tag_taken, taken_at, each_at, table_taken, version_table, takes_settings}
use Rattle.board.specs.Board.{Board, Table, tag_at, with_tags}
use Rattle.writes.specs.ReadBack.{read_back_tags}
use Rattle.checks.specs.Calls.{max_writes}
use Rattle.queue.specs.Queue.{queued_with}
use Rattle.queue.specs.declared.Write.{Write}
use Rattle.uncut.specs.Uncut.{groups_roomed}
use Rattle.turns.proofs.TierLaws.{settings_of}
use Rattle.turns.proofs.RateLaws.{both}

-- ---- lists and rooms

-- a list that fits into two rooms is the same in both
pub cut_same : {A : Type 0} (n m : ℕ) (l : List A) → length l ≤ n → length l ≤ m → take n l ≡ take m l
cut_same n m l p q = take_all n l p ∙ sym (take_all m l q)

pub pushed_same : (n m : ℕ) (l : List ℕ) (k : ℕ) → length l < n → length l < m → pushed n l k ≡ pushed m l k
pushed_same n m l k p q = pushed_more n l k p ∙ sym (pushed_more m l k q)

-- Rule 8: a full queue keeps what it has; check 32 comes first, so that none is asked to
pub queued_full : (n : ℕ) (ws : List Write) (w : Write) → n ≤ length ws → queued_with n ws w ≡ ws
queued_full n ws w h = rw (le-ltb (length ws) n h)

-- no more tags pass a test than there are
pub ranks_few : (p : ℕ → Bool) (tags : List Tag) → length (keep p (by_rank tags)) ≤ length tags
ranks_few p tags = omega (arith, length-keep p (by_rank tags), length-up_to (min (length tags) 65536))

-- ---- the numbers of groups

-- a group, if there is one, is 0 to 15
abbrev pub InRange : Option GroupRate → Type 0
InRange None = Unit {0}
InRange (Some g) = g.number < max_groups

-- the group of every tag is
abbrev pub Numbered : List Tag → Type 0
Numbered tags = (k : ℕ) → InRange (get_or tags k fresh_tag).settings.group

-- the same settings have the same groups
pub numbered_same : (a b : List Tag) → map settings_of a ≡ map settings_of b → Numbered b → Numbered a
numbered_same a b e r k =
    let s : (get_or a k fresh_tag).settings ≡ (get_or b k fresh_tag).settings
    = sym (map_at settings_of a k fresh_tag) ∙ ap (λ (l : List Settings). get_or l k no_settings) e ∙ map_at settings_of b k fresh_tag in
    rw s (r k)

-- Check 14: a setting
numbered_setting : (ws : List ℕ) → setting_ok ws ≡ true → InRange (setting_from ws).group
unfolding setting_ok setting_from
numbered_setting ws e = go (get_or ws 1 0) (get_or ws 2 0) (both (finite (of_bits binary64 (get_or ws 0 0))) _ e).1
  where
    go : (g r : ℕ) → (eqb g 0 || (leb g max_groups && rate_ok r)) ≡ true → InRange (group_from g (g - 1) r)
    go zero r h = tt
    go (suc g) r h =
        let z : eqb (suc g) 0 ≡ false = ne_eqb (suc g) 0 (λ q. omega arith) in
        let u : (leb (suc g) max_groups && rate_ok r) ≡ true = rw z at h in
        rw z (omega (arith, leb-true (suc g) max_groups (both (leb (suc g) max_groups) (rate_ok r) u).0))

-- all settings of a list
numbered_records : (rs : List (List ℕ)) → every setting_ok rs ≡ true → (i : ℕ) → InRange (get_or (map setting_from rs) i no_settings).group
unfolding every
numbered_records [] e i = tt
numbered_records (ws ∷ rs) e zero = numbered_setting ws (both (setting_ok ws) (every setting_ok rs) e).0
numbered_records (ws ∷ rs) e (suc i) = numbered_records rs (both (setting_ok ws) (every setting_ok rs) e).1 i

numbered_each : (f : ℕ → Tag → Tag) → ((i : ℕ) (x : Tag) → InRange (f i x).settings.group) → (i : ℕ) (tags : List Tag) → Numbered (each_at f i tags)
unfolding each_at
numbered_each f h i [] k = tt
numbered_each f h i (x ∷ l) zero = h i x
numbered_each f h i (x ∷ l) (suc k) = numbered_each f h (suc i) l k

-- a table with settings that check 14 lets in
pub numbered_taken : (n : ℕ) (settings : List ℕ) → settings_ok n settings ≡ true → (changed : Bool) (words : List ℕ) (tags : List Tag) → Numbered (table_taken changed settings words tags)
unfolding settings_ok setting_in tag_taken
numbered_taken n settings e changed words tags =
    let good = (both (eqb (length settings) (32 * n)) (every setting_ok (records_in 4 settings)) e).1 in
    numbered_each (taken_at changed settings words) (λ i x. numbered_records (records_in 4 settings) good i) 0 tags

-- a version answer with such settings
pub numbered_version : (n : ℕ) (settings : List ℕ) → settings_ok n settings ≡ true → (old new : Option ℕ) (connecting : Bool) (words : List ℕ) (tags : List Tag) → Numbered tags
    → Numbered (version_table old new connecting settings words tags)
unfolding version_table
numbered_version n settings e old new connecting words tags r = go (takes_settings (is_changed old new) connecting)
  where
    go : (b : Bool) → Numbered (cond b (table_taken (is_changed old new) settings words tags) tags)
    go true = numbered_taken n settings e (is_changed old new) words tags
    go false = r

-- ---- the groups recorded

-- Numbers of groups, none twice.
pub record FitNumbers (l : List ℕ) : Type 0 where
  pub once : (k : ℕ) → count k l ≤ 1
  pub below : Below max_groups l

not_named : (k : ℕ) (l : List ℕ) → member k l ≡ false → count k l ≡ 0
not_named k [] e = refl
not_named k (x ∷ l) e = go (eqb k x) refl e (not_named k l)
  where
    go : (b : Bool) → eqb k x ≡ b → cond b true (member k l) ≡ false → (member k l ≡ false → count k l ≡ 0) → cond (eqb k x) 1 0 + count k l ≡ 0
    go true f q ih = absurd (true≢false q)
    go false f q ih = rw f (omega (arith, ih q))

-- a number not named yet finds room, and none is named twice then
numbers_short : (l : List ℕ) → FitNumbers l → (g : ℕ) → g < max_groups → count g l ≡ 0 → length l < max_groups
numbers_short l f g h z = length_fewer max_groups g l f.below f.once h z

fit_one_more : (l : List ℕ) → FitNumbers l → (g : ℕ) → g < max_groups → count g l ≡ 0 → FitNumbers (l ++ (g ∷ []))
fit_one_more l f g h z = record {
  once = λ k. rw (count-append k l (g ∷ [])) (go k (eqb k g) refl);
  below = below-append max_groups l (g ∷ []) f.below (h, tt);
}
  where
    go : (k : ℕ) (b : Bool) → eqb k g ≡ b → count k l + (cond (eqb k g) 1 0 + 0) ≤ 1
    go k true e = let s : k ≡ g = eqb-true k g e in rw (e, s) (omega arith)
    go k false e = rw e (omega (arith, f.once k))

-- Groups that fit: the numbers of those recorded do, and there is room for all groups.
pub record FitGroups (G : Groups) : Type 0 where
  pub numbers : FitNumbers G.recorded
  pub enough : max_groups ≤ G.recorded_room

module _ (n : ℕ) where
  -- Rule 10: a group noted
  pub record Noted (G G' : Groups) : Type 0 where
    pub fits : FitGroups G
    pub same : G' ≡ groups_roomed n G

  noted_fits : (G : Groups) → FitGroups G → (g rate : ℕ) (clock : Float) (first : Bool) → g < max_groups → Noted (noted G g rate clock first) (noted (groups_roomed n G) g rate clock first)
  unfolding noted
  noted_fits G f g rate clock first h = go (member g G.recorded) refl
    where
      go : (b : Bool) → member g G.recorded ≡ b → Noted (noted G g rate clock first) (noted (groups_roomed n G) g rate clock first)
      go true e = rw e (record { fits = record { numbers = f.numbers; enough = f.enough }; same = refl })
      go false e =
          let z = not_named g G.recorded e in
          let short = numbers_short G.recorded f.numbers g h z in
          let a = pushed_more G.recorded_room G.recorded g (omega (arith, short, f.enough)) in
          let b = pushed_more (G.recorded_room + n) G.recorded g (omega (arith, short, f.enough)) in
          rw (e, a, b) (record { fits = record { numbers = fit_one_more G.recorded f.numbers g h z; enough = f.enough }; same = refl })

  -- Rules 6 and 10: the groups of due tags
  pub due_fits : (tags : List Tag) → Numbered tags → (clock : Float) (seen : List Bool) (G : Groups) → FitGroups G → (ks : List ℕ)
      → Noted (recorded_due tags clock seen G ks) (recorded_due tags clock seen (groups_roomed n G) ks)
  unfolding recorded_due
  due_fits tags r clock seen G f [] = record { fits = f; same = refl }
  due_fits tags r clock seen G f (k ∷ ks) =
      let x = note (get_or tags k fresh_tag).settings.group (r k) in
      rw x.same (due_fits tags r clock (seen_with seen (get_or tags k fresh_tag).settings.group) (noted_due G seen (get_or tags k fresh_tag).settings.group clock) x.fits ks)
    where
      note : (g : Option GroupRate) → InRange g → Noted (noted_due G seen g clock) (noted_due (groups_roomed n G) seen g clock)
      note None h = record { fits = f; same = refl }
      note (Some g) h = noted_fits G f g.number g.rate clock (not (get_or seen g.number false)) h

-- ---- tables

abbrev pub is_graced : Tag → Bool
is_graced x = (is_some x.grace)

-- A table of so many tags: its graces are those of its tags, the groups of its tags are 0 to 15, and a read-back is of no more tags than there are.
pub record FitTable (rows : ℕ) (T : Table) : Type 0 where
  pub graced : Graced T
  pub long : length T.tags ≡ rows
  pub numbered : Numbered T.tags
  pub backs : (k : ℕ) → length (read_back_tags T.words k) ≤ rows

-- the records of its tags replaced, each by one that is in grace if the old one is
pub fit_tags : (rows : ℕ) (T : Table) (tags : List Tag) → map is_graced tags ≡ map is_graced T.tags → Numbered tags → FitTable rows T → FitTable rows (with_tags T tags)
fit_tags rows T tags e r f = record {
  graced = record { once = λ k. f.graced.once k ∙ ap (λ (b : Bool). cond b 1 0) (sym (same k)); enough = rw long f.graced.enough };
  long = long ∙ f.long;
  numbered = r;
  backs = f.backs;
}
  where
    same : (k : ℕ) → (is_some (get_or tags k fresh_tag).grace) ≡ (is_some (tag_at T k).grace)
    same k = sym (map_at is_graced tags k fresh_tag) ∙ ap (λ (l : List Bool). get_or l k false) e ∙ map_at is_graced T.tags k fresh_tag

    long : length tags ≡ length T.tags
    long = sym (length-map tags is_graced) ∙ ap length e ∙ length-map T.tags is_graced

-- ---- boards

-- the numbers of the groups configured
abbrev pub numbers_of : List GroupRate → List ℕ
numbers_of l = map (λ (x : GroupRate). x.number) l

-- A board for so many tags, one at least: no more are asked for, and no more writes wait than check 32 lets in.
pub record Fits (rows : ℕ) (B : Board) : Type 0 where
  pub table_fits : FitTable rows B.table
  pub groups_fit : FitGroups B.groups
  pub named : Below max_groups (numbers_of B.configured)
  pub asked_few : length B.asked ≤ rows
  pub queue_few : length B.queue ≤ max_writes
  pub some : 1 ≤ rows
