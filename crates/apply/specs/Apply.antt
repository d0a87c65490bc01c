-- Rule 7: readings applied.
use Rattle.std.specs.Prelude.{Bool, true, false, not, ◌&&◌, cond, List, ℕ, eqb, ℤ, Float, get_or, set, Option, Some, None}
use Rattle.values.specs.Entry.{TagResult, merged, same_entry}
use Rattle.values.specs.Deadband.{within_deadband}
use Rattle.values.specs.declared.entry.Quality.{Quality}
use Rattle.values.specs.declared.entry.Quality.TheVariants.{Good, Bad, Missing, Stale}
use Rattle.values.specs.declared.entry.Entry.{Entry}
use Rattle.table.specs.Tag.{fresh_tag}
use Rattle.table.specs.declared.tag.Timing.{Timing}
use Rattle.table.specs.declared.tag.Tag.{Tag}
use Rattle.engine.specs.Engine.{retry_at}

-- Rule 7: a reading is the same as an entry there is; no entry is the same as none.
abbrev pub is_same_as : Option Entry → Entry → Bool
is_same_as None e = false
is_same_as (Some old) e = same_entry old e

abbrev pub is_missing : Quality → Bool
is_missing Good = false
is_missing Bad = false
is_missing Missing = true
is_missing Stale = false

-- Rule 7: missing sets a mark at start + 10 s; all else clears it.
unfoldable pub timing_read : Timing → Quality → Float → Timing
timing_read x q start =
    record { last = x.last; retry = cond (is_missing q) (Some (retry_at start)) None }

-- Rule 7: of those that are the same as the cached one, a polled one stops there.
abbrev pub is_stopped : Bool → Option Entry → Entry → Bool
is_stopped polled cached e = polled && is_same_as cached e

-- Rules 3 and 7: a polled reading is withheld by the deadband from the published entry; a read-back after a write is withheld only if it is the same as
-- the published. Where nothing is published nothing is withheld.
abbrev pub is_withheld : Bool → Float → Option Entry → Entry → Bool
is_withheld polled band None e = false
is_withheld polled band (Some published) e = cond polled (within_deadband band published e) (same_entry published e)

-- Rule 7: what goes on is published unless withheld.
unfoldable pub is_entry_sent : Tag → Entry → Bool → Bool
is_entry_sent x e polled = not (is_stopped polled x.cached e) && not (is_withheld polled x.settings.band x.published e)

-- the entry e in place of what is held, where it is put
abbrev pub held_put : Bool → Option Entry → Entry → Option Entry
held_put b h e = cond b (Some e) h

-- Rule 7: a reading not the same as the cached one is cached, and one that is sent is the published one from then on.
unfoldable pub tag_read : Tag → Entry → Float → Bool → Tag
tag_read x e start polled = record {
  tier = x.tier;
  grace = x.grace;
  timing = timing_read x.timing e.quality start;
  added = x.added;
  wants = x.wants;
  description = x.description;
  settings = x.settings;
  cached = held_put (not (is_same_as x.cached e)) x.cached e;
  published = held_put (is_entry_sent x e polled) x.published e;
}

-- Rule 7: the tag after a reading at the wall time t. `start` is the round's, or the clock at a read-back; `polled` is false for a read-back.
abbrev pub tag_applied : Tag → TagResult → Float → ℤ → Bool → Tag
tag_applied x r start t polled = tag_read x (merged x.cached r t) start polled

-- Rule 7: whether the reading is sent, that is, published.
abbrev pub is_sent : Tag → TagResult → ℤ → Bool → Bool
is_sent x r t polled = is_entry_sent x (merged x.cached r t) polled

-- Rule 7: the table after a reading of the tag k; tags without a tier are skipped.
unfoldable pub applied_at : List Tag → ℕ → TagResult → Float → ℤ → Bool → List Tag
applied_at tags k r start t polled =
    cond (eqb (get_or tags k fresh_tag).tier 0) tags (set tags k (tag_applied (get_or tags k fresh_tag) r start t polled))

-- Rule 7: whether the reading of the tag k is sent.
unfoldable pub sent_at : List Tag → ℕ → TagResult → ℤ → Bool → Bool
sent_at tags k r t polled = not (eqb (get_or tags k fresh_tag).tier 0) && is_sent (get_or tags k fresh_tag) r t polled
