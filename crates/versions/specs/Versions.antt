-- Rule 8: what a change of the version or a connect does.
use Rattle.std.specs.Prelude.{Bool, not, ◌&&◌, ◌||◌, cond, List, [], ◌∷◌, ℕ, suc, eqb, get_or, Option, None}
use Rattle.table.specs.declared.tag.Timing.{Timing}
use Rattle.table.specs.declared.tag.Settings.{Settings}
use Rattle.table.specs.declared.tag.Description.{Description}
use Rattle.table.specs.declared.tag.Description.TheVariants.{Unknown}
use Rattle.table.specs.declared.tag.Tag.{Tag}
use Rattle.settings.specs.Settings.{setting_in}
use Rattle.heads.specs.Version.{is_changed}

-- Rule 8: the missing mark cleared
abbrev pub mark_cleared : Timing → Timing
mark_cleared x = record { last = x.last; retry = None }

-- Rule 8: on a version change every tag in the table that isn't a bit wants a description
abbrev pub wants_taken : Tag → Bool → Bool → Bool
wants_taken x bit changed = x.wants || (changed && (not (eqb x.tier 0) && not bit))

-- Rule 8: a change forgets known descriptions
abbrev pub description_taken : Description → Bool → Description
description_taken d changed = cond changed Unknown d

-- Rule 8: a tag as a version change or a connect leaves it, with its new settings
unfoldable pub tag_taken : Tag → Settings → Bool → Bool → Tag
tag_taken x s bit changed = record {
  tier = x.tier;
  grace = x.grace;
  timing = mark_cleared x.timing;
  added = x.added;
  wants = wants_taken x bit changed;
  description = description_taken x.description changed;
  settings = s;
  cached = x.cached;
  published = x.published;
}

-- the tag k, with setting k; `words` has 0 for a tag that is no bit
abbrev pub taken_at : Bool → List ℕ → List ℕ → ℕ → Tag → Tag
taken_at changed settings words k x = tag_taken x (setting_in settings k) (not (eqb (get_or words k 0) 0)) changed

-- each element with its place, the first of which is i
unfoldable pub each_at : {A : Type 0} → (ℕ → A → A) → ℕ → List A → List A
each_at f i [] = []
each_at f i (x ∷ l) = f i x ∷ each_at f (suc i) l

-- Rule 8: the table as a version change or a connect leaves it
abbrev pub table_taken : Bool → List ℕ → List ℕ → List Tag → List Tag
table_taken changed settings words tags = each_at (taken_at changed settings words) 0 tags

-- Rule 8: a change or a connect clears missing marks and takes the new settings
abbrev pub takes_settings : Bool → Bool → Bool
takes_settings changed connecting = changed || connecting

-- Rule 8: the table after a version answer
unfoldable pub version_table : Option ℕ → Option ℕ → Bool → List ℕ → List ℕ → List Tag → List Tag
version_table old new connecting settings words tags =
    cond (takes_settings (is_changed old new) connecting) (table_taken (is_changed old new) settings words tags) tags
