-- Check 14: every rate of an engine is 1 ms or more.
use mathlib.Core.Path.{◌≡◌, refl, ap, sym, ◌∙◌}
use mathlib.Core.Bool.{Bool, true, false, ◌&&◌, ◌||◌, cond, true≢false}
use mathlib.Core.List.{List, [], ◌∷◌, map}
use Prim.Native.Nat.{ℕ, zero, suc, ◌%◌, ◌*◌, ◌-◌}
use native.Mathlib.Omega.{arith}
use lib.Dec.{eqb, leb}
use lib.Ieee.{Float, binary64, of_bits, add, le}
use lib.Ieee.Scale.{finite}
use lib.ListN.{length, get_or}
use borrow.Author.Tests.{ne_eqb, eqb-false, not-true, lt-ltb}
use Rattle.std.specs.Prelude.{Option, Some, is_some}
use Rattle.memory.proofs.RowLaws.{map_at}
use Rattle.table.specs.Row.{group_from}
use Rattle.table.specs.Tag.{f0, fresh_tag, no_settings, no_grace}
use Rattle.table.specs.declared.tag.Grace.{Grace}
use Rattle.table.specs.declared.tag.Settings.{Settings}
use Rattle.table.specs.declared.tag.Tag.{Tag}
use Rattle.settings.specs.Records.{records_in, every}
use Rattle.settings.specs.Settings.{setting_from, setting_in, setting_ok, settings_ok, rate_ok, max_groups}
use Rattle.tiers.specs.Tiers.{tag_set, put_table, grace_until, enter_grace, set_tier}
use Rattle.board.specs.Board.{Table, tag_at}
use Rattle.panel.specs.Panel.{loaded}
use Rattle.heads.specs.Version.{is_changed}
use Rattle.versions.specs.Versions.{tag_taken, taken_at, each_at, table_taken, version_table, takes_settings}
use Rattle.turns.proofs.TierLaws.{settings_of, set-kept}
use Rattle.turns.proofs.TickLaws.{is_rated, Rated, is_rated_group}

-- the same settings have the same rates
pub rated_same : (a b : List Tag) → map settings_of a ≡ map settings_of b → Rated b → Rated a
rated_same a b e r k =
    let s : (get_or a k fresh_tag).settings ≡ (get_or b k fresh_tag).settings
    = sym (map_at settings_of a k fresh_tag) ∙ ap (λ (l : List Settings). get_or l k no_settings) e ∙ map_at settings_of b k fresh_tag in
    ap is_rated s ∙ r k

-- ---- tier calls and loads

module _ (T : Table) (k : ℕ) where
  -- a tag put in a tier
  put_settings : (tier : ℕ) (g : Option Grace) → map settings_of (put_table T k tier g).tags ≡ map settings_of T.tags
  unfolding put_table tag_set
  put_settings tier g = set-kept settings_of T.tags k _ refl

  -- a tag that enters a grace
  enter_settings : (deadline : Float) (after : ℕ) → map settings_of (enter_grace T k deadline after).tags ≡ map settings_of T.tags
  unfolding enter_grace
  enter_settings deadline after = put_settings 2 (Some (grace_until deadline after))

  -- either of two tables
  either : (b : Bool) (x y : Table) → map settings_of x.tags ≡ map settings_of T.tags → map settings_of y.tags ≡ map settings_of T.tags
      → map settings_of (cond b x y).tags ≡ map settings_of T.tags
  either true x y p q = p
  either false x y p q = q

  -- a tier call keeps the settings of each tag
  pub tier_settings : (tier : ℕ) (grace clock : Float) → map settings_of (set_tier T k tier grace clock).tags ≡ map settings_of T.tags
  unfolding set_tier
  tier_settings tier grace clock =
      let now = put_settings tier no_grace in
      either (eqb tier 1) _ _ now
      (either (eqb tier 2) _ _ now
      (either (le grace f0) _ _ now
      (either (eqb (tag_at T k).tier 1) _ _ (enter_settings (add binary64 clock grace) tier)
      (either (is_some (tag_at T k).grace) _ _ (set-kept settings_of T.tags k _ refl) now))))

-- so does a load
pub load_settings : (T : Table) (ks ts : List ℕ) (grace clock : Float) → map settings_of (loaded T ks ts grace clock).tags ≡ map settings_of T.tags
unfolding loaded
load_settings T [] ts grace clock = refl
load_settings T (k ∷ ks) [] grace clock = refl
load_settings T (k ∷ ks) (t ∷ ts) grace clock = load_settings (set_tier T k t grace clock) ks ts grace clock ∙ tier_settings T k t grace clock

-- ---- settings that check 14 lets in

-- both tests of two are met
pub both : (a b : Bool) → (a && b) ≡ true → (a ≡ true) × (b ≡ true)
both true true e = (refl, refl)
both true false e = absurd (true≢false (sym e))
both false b e = absurd (true≢false (sym e))

-- a setting
rated_setting : (ws : List ℕ) → setting_ok ws ≡ true → is_rated (setting_from ws) ≡ true
unfolding setting_ok setting_from
rated_setting ws e = go (get_or ws 1 0) (get_or ws 2 0) (get_or ws 1 0 - 1) (both (finite (of_bits binary64 (get_or ws 0 0))) _ e).1
  where
    go : (g r k : ℕ) → (eqb g 0 || (leb g max_groups && rate_ok r)) ≡ true → is_rated_group (group_from g k r) ≡ true
    go zero r k h = refl
    go (suc g) r k h =
        let n : eqb (suc g) 0 ≡ false = ne_eqb (suc g) 0 (λ q. omega arith) in
        let u : (leb (suc g) max_groups && rate_ok r) ≡ true = rw n at h in
        let v = (both (leb (suc g) max_groups) (rate_ok r) u).1 in
        let p : (r % 0x1_0000_0000 ≡ 0 → ⊥) = eqb-false (r % 0x1_0000_0000) 0 (not-true (eqb (r % 0x1_0000_0000) 0) v) in
        rw (n, lt-ltb 0 (r % 0x1_0000_0000) (omega (arith, p))) refl

-- all settings of a list
rated_records : (rs : List (List ℕ)) → every setting_ok rs ≡ true → (i : ℕ) → is_rated (get_or (map setting_from rs) i no_settings) ≡ true
unfolding every
rated_records [] e i = refl
rated_records (ws ∷ rs) e zero = rated_setting ws (both (setting_ok ws) (every setting_ok rs) e).0
rated_records (ws ∷ rs) e (suc i) = rated_records rs (both (setting_ok ws) (every setting_ok rs) e).1 i

-- a table whose tags are each given such a setting
rated_each : (f : ℕ → Tag → Tag) → ((i : ℕ) (x : Tag) → is_rated (f i x).settings ≡ true) → (i : ℕ) (tags : List Tag) → Rated (each_at f i tags)
unfolding each_at
rated_each f h i [] k = refl
rated_each f h i (x ∷ l) zero = h i x
rated_each f h i (x ∷ l) (suc k) = rated_each f h (suc i) l k

-- a table with settings that check 14 lets in
pub rated_taken : (n : ℕ) (settings : List ℕ) → settings_ok n settings ≡ true → (changed : Bool) (words : List ℕ) (tags : List Tag) → Rated (table_taken changed settings words tags)
unfolding settings_ok setting_in tag_taken
rated_taken n settings e changed words tags =
    let good = (both (eqb (length settings) (32 * n)) (every setting_ok (records_in 4 settings)) e).1 in
    rated_each (taken_at changed settings words) (λ i x. rated_records (records_in 4 settings) good i) 0 tags

-- a version answer with such settings
pub rated_version : (n : ℕ) (settings : List ℕ) → settings_ok n settings ≡ true → (old new : Option ℕ) (connecting : Bool) (words : List ℕ) (tags : List Tag) → Rated tags
    → Rated (version_table old new connecting settings words tags)
unfolding version_table
rated_version n settings e old new connecting words tags r = go (takes_settings (is_changed old new) connecting)
  where
    go : (b : Bool) → Rated (cond b (table_taken (is_changed old new) settings words tags) tags)
    go true = rated_taken n settings e (is_changed old new) words tags
    go false = r
