-- Checks one after another, and what an accepted call has passed.
use mathlib.Core.Path.{◌≡◌, refl, sym, ◌∙◌}
use mathlib.Core.Bool.{Bool, true, false, not, cond, ◌&&◌, true≢false}
use mathlib.Core.List.{List, [], ◌∷◌}
use Prim.Native.Nat.{ℕ, zero, suc, ◌*◌, ◌/◌, ◌%◌, ◌<◌, ◌≤◌}
use native.Mathlib.Omega.{arith}
use native.Mathlib.Nat.{mod-eq_of_lt}
use lib.Dec.{eqb, ltb, leb}
use lib.Ieee.{Float}
use lib.ListN.{length}
use borrow.Author.Tests.{eq-eqb, ne_eqb, eqb-false, leb-true, leb-false, ltb-false}
use Rattle.refusals.specs.Refusals.{number}
use Rattle.refusals.specs.declared.Refusal.{Refusal}
use Rattle.refusals.proofs.Laws.{not_zero}
use Rattle.names.specs.Directory.{directory_check, max_names, max_name_length}
use Rattle.names.proofs.DirectoryLaws.{checked}
use Rattle.values.specs.declared.value.Value.{Value}
use Rattle.replies.specs.Worker.{Worker}
use Rattle.replies.specs.Losing.{is_empty}
use Rattle.heads.specs.Link.{is_state}
use Rattle.heads.specs.declared.link.State.TheVariants.{Connected}
use Rattle.heads.specs.Options.{options_check}
use Rattle.settings.specs.Settings.{max_groups, settings_ok}
use Rattle.settings.specs.Configured.{given_groups, configured_ok}
use Rattle.settings.proofs.GroupLaws.{length_given}
use Rattle.checks.specs.Calls.{clock_check, no_tag, first, max_writes, tier_check, write_check}
use Rattle.checks.specs.Creation.{Setup, creation_check}

-- the first check refuses
pub first-refused : (n a m : ℕ) → n ≡ a → (n ≡ 0 → ⊥) → n ≡ first a m
first-refused n a m e z = let t : eqb a 0 ≡ false = ne_eqb a 0 (λ q. z (e ∙ q)) in e ∙ rw t refl

pub first_refusal : (r : Refusal) (a m : ℕ) → number r ≡ a → number r ≡ first a m
first_refusal r a m e = first-refused (number r) a m e (eqb-false (number r) 0 (not_zero r))

-- the first check is passed, and the others come to r
pub first_passed : (n a m r : ℕ) → n ≡ a → n ≡ 0 → r ≡ m → r ≡ first a m
first_passed n a m r e z q = let t : eqb a 0 ≡ true = eq-eqb a 0 (sym e ∙ z) in q ∙ rw t refl

pub first_zero : (n m : ℕ) → first n m ≡ 0 → (n ≡ 0) × (m ≡ 0)
first_zero zero m e = (refl, e)
first_zero (suc n) m e = let z : eqb (suc n) 0 ≡ false = ne_eqb (suc n) 0 (λ q. omega arith) in absurd (let x : suc n ≡ 0 = rw z at e in omega arith)

-- Check 56, by the length of the order
pub none_in_tiers : (order : List ℕ) → length order ≡ 0 → ◌≡◌ {A = ℕ} 0 (cond (is_empty order) 0 56)
none_in_tiers [] e = refl
none_in_tiers (k ∷ ks) e = absurd (omega (arith, e))

pub some_in_tiers : (order : List ℕ) → (length order ≡ 0 → ⊥) → ◌≡◌ {A = ℕ} 56 (cond (is_empty order) 0 56)
some_in_tiers [] e = absurd (e refl)
some_in_tiers (k ∷ ks) e = refl

-- Check 14, of the settings and of the configured groups
pub settings_fail : (a b : Bool) → a ≡ false → ◌≡◌ {A = ℕ} 14 (cond (a && b) 0 14)
settings_fail a b e = rw e refl

pub groups_fail : (a b : Bool) → a ≡ true → b ≡ false → ◌≡◌ {A = ℕ} 14 (cond (a && b) 0 14)
groups_fail a b e f = rw (e, f) refl

pub both_pass : (a b : Bool) → a ≡ true → b ≡ true → ◌≡◌ {A = ℕ} 0 (cond (a && b) 0 14)
both_pass a b e f = rw (e, f) refl

tag_and_tier : (b c : Bool) → ◌≡◌ {A = ℕ} (cond b 23 (cond c 24 0)) 0 → (b ≡ false) × (c ≡ false)
tag_and_tier true c e = absurd (omega arith)
tag_and_tier false true e = absurd (omega arith)
tag_and_tier false false e = (refl, refl)

pub tier_passed : (W : Worker) (clock : Float) (tag tier : ℕ) → tier_check W clock tag tier ≡ 0 → (tag < W.head.count) × (tier ≤ 3)
unfolding tier_check
tier_passed W clock tag tier e =
    let p = tag_and_tier (no_tag W tag) (ltb 3 tier) (first_zero (clock_check W clock) _ e).1 in
    (leb-false W.head.count tag p.0, ltb-false 3 tier p.1)

tag_only : (b : Bool) (n : ℕ) → cond b 23 n ≡ 0 → b ≡ false
tag_only true n e = absurd (omega arith)
tag_only false n e = refl

pub write_passed : (W : Worker) (tag : ℕ) (v : Value) → write_check W tag v ≡ 0 → tag < W.head.count
unfolding write_check
write_passed W tag v e = leb-false W.head.count tag (tag_only (no_tag W tag) _ e)

-- so there is room for it
pub write-room : (W : Worker) (tag : ℕ) (v : Value) → write_check W tag v ≡ 0 → length W.board.queue < max_writes
unfolding write_check
write-room W tag v e = leb-false max_writes (length W.board.queue) (go (no_tag W tag) (not (is_state W.head.link Connected)) (leb max_writes (length W.board.queue)) _ e)
  where
    go : (a b c : Bool) (n : ℕ) → cond a 23 (cond b 31 (cond c 32 n)) ≡ 0 → c ≡ false
    go true b c n e = absurd (omega arith)
    go false true c n e = absurd (omega arith)
    go false false true n e = absurd (omega arith)
    go false false false n e = refl

-- the configured groups that creation accepts are good, and few
pub groups-good : (s : Setup) → creation_check s ≡ 0 → configured_ok s.groups ≡ true
unfolding creation_check
groups-good s e = go (settings_ok (length s.ends) s.settings) (configured_ok s.groups) refl (first_zero (options_check s.options) _ (first_zero (directory_check max_names max_name_length s.names s.ends) _ e).1).1
  where
    go : (b c : Bool) → configured_ok s.groups ≡ c → ◌≡◌ {A = ℕ} (cond (b && c) 0 14) 0 → configured_ok s.groups ≡ true
    go true true p e = p
    go true false p e = absurd (omega arith)
    go false c p e = absurd (omega arith)

pub groups_few : (s : Setup) → creation_check s ≡ 0 → length (given_groups s.groups) ≤ max_groups
unfolding configured_ok
groups_few s e =
    let n = length s.groups / 16 in
    omega (arith, length_given s.groups, leb-true n max_groups (middle (eqb (length s.groups) (16 * n)) (leb n max_groups) _ (groups-good s e)))
  where
    middle : (a b c : Bool) → (a && (b && c)) ≡ true → b ≡ true
    middle true true c e = refl
    middle true false c e = e
    middle false b c e = absurd (true≢false (sym e))

-- a directory that creation accepts has few names
pub few_names : (s : Setup) → creation_check s ≡ 0 → length s.ends % 65536 ≡ length s.ends
unfolding creation_check
few_names s e =
    let few = (checked max_names max_name_length s.names s.ends (first_zero (directory_check max_names max_name_length s.names s.ends) _ e).0).few in
    mod-eq_of_lt (omega (arith, few))
