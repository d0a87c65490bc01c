-- Rule 5: tiers.
use Rattle.std.specs.Prelude.{Bool, not, ◌&&◌, ◌||◌, cond, List, ℕ, eqb, Float, get_or, set, Option, None, is_some, Some}
use Rattle.std.specs.Float.{binary64}
use Rattle.std.specs.Float.Ieee.{add, le}
use Rattle.lists.specs.Keep.{without}
use Rattle.tags.specs.Lists.{pushed}
use Rattle.table.specs.Tag.{f0, no_grace, no_timing, fresh_tag}
use Rattle.table.specs.Table.{with_grace, without_last, without_readings, with_after}
use Rattle.table.specs.declared.tag.Grace.{Grace}
use Rattle.table.specs.declared.tag.Timing.{Timing}
use Rattle.table.specs.declared.tag.Tag.{Tag}
use Rattle.board.specs.Board.{Table, tag_at, is_bit}
use Rattle.values.specs.declared.entry.Entry.{Entry}

-- Rule 5: leaving forgets the missing mark, and any setting but tier 1 forgets the last reading time.
unfoldable pub timing_set : Timing → ℕ → Timing
timing_set x tier =
    cond (eqb tier 0) no_timing (cond (eqb tier 1) x (record { last = None; retry = x.retry }))

-- Rule 6: new in tier 2 is a tag put there from none or tier 3 and not moved since.
abbrev pub added_from : ℕ → Bool → ℕ → Bool
added_from old added tier = eqb tier 2 && (eqb old 0 || (eqb old 3 || added))

abbrev pub added_set : Tag → ℕ → Bool
added_set x tier = added_from x.tier x.added tier

-- Rule 8: a tag that isn't a bit wants a description on entering the table. Rule 5: leaving forgets the want.
abbrev pub wants_from : ℕ → Bool → Bool → ℕ → Bool
wants_from old wants bit tier = not (eqb tier 0) && (wants || (eqb old 0 && not bit))

abbrev pub wants_set : Tag → Bool → ℕ → Bool
wants_set x bit tier = wants_from x.tier x.wants bit tier

-- Rule 5: leaving forgets an entry.
abbrev pub held_set : Option Entry → ℕ → Option Entry
held_set h tier = cond (eqb tier 0) None h

-- Rule 5: a tag put in a tier (0 for none) at once: a grace ends; leaving forgets cache, published, missing mark and wanted description, and keeps the known description.
unfoldable pub tag_set : Tag → Bool → ℕ → Tag
tag_set x bit tier = record {
  tier = tier;
  grace = no_grace;
  timing = timing_set x.timing tier;
  added = added_set x tier;
  wants = wants_set x bit tier;
  description = x.description;
  settings = x.settings;
  cached = held_set x.cached tier;
  published = held_set x.published tier;
}

-- Rule 5: what is kept of readings and entries when a tag is put in a tier: nothing on leaving, all in tier 1, and otherwise all but the last reading time.
abbrev pub kept_for : Tag → ℕ → Tag
kept_for x tier = cond (eqb tier 0) (without_readings x) (cond (eqb tier 1) x (without_last x))

-- Rule 5: table order is order of entry. A tag that enters stands last, one that leaves is taken out, and one that is changed keeps its place.
unfoldable pub order_set : ℕ → List ℕ → ℕ → ℕ → ℕ → List ℕ
order_set n order k old new = cond (eqb old 0) (cond (eqb new 0) order (pushed n order k)) (cond (eqb new 0) (without k order) order)

-- Rule 5: the graces after that of k, if it is in one, has ended.
unfoldable pub grace_ended : List ℕ → ℕ → Bool → List ℕ
grace_ended graces k on = cond on (without k graces) graces

-- the tag k put in a tier, with a grace or none
unfoldable pub put_table : Table → ℕ → ℕ → Option Grace → Table
put_table T k tier g = record {
  tags = set T.tags k (with_grace (tag_set (tag_at T k) (is_bit T k) tier) g);
  order = order_set T.room T.order k (tag_at T k).tier tier;
  graces = grace_ended T.graces k (is_some (tag_at T k).grace);
  room = T.room;
  words = T.words;
}

-- Rule 5: the tag k put in a tier at once; a grace ends.
abbrev pub set_table : Table → ℕ → ℕ → Table
set_table T k tier = put_table T k tier no_grace

-- the table with one tag and the list of graces replaced
abbrev pub with_tag_graces : Table → ℕ → Tag → List ℕ → Table
with_tag_graces T k x graces = record { tags = set T.tags k x; order = T.order; graces = graces; room = T.room; words = T.words }

abbrev pub grace_until : Float → ℕ → Grace
grace_until deadline after = record { deadline = deadline; after = after }

-- Rule 5: the tag becomes tier 2 with a deadline; the tier `after` follows.
unfoldable pub enter_grace : Table → ℕ → Float → ℕ → Table
enter_grace T k deadline after =
    let m = put_table T k 2 (Some (grace_until deadline after)) in
    record { tags = m.tags; order = m.order; graces = pushed m.room m.graces k; room = m.room; words = m.words }

-- Rule 5: asked again in grace it changes only what follows.
abbrev pub changed_tags : List Tag → ℕ → ℕ → List Tag
changed_tags tags k after = set tags k (with_after (get_or tags k fresh_tag) after)

abbrev pub change_grace : Table → ℕ → ℕ → Table
change_grace T k after = record { tags = changed_tags T.tags k after; order = T.order; graces = T.graces; room = T.room; words = T.words }

-- Rule 5: tiers 1 and 2, and every tier when grace is 0, take effect at once. Tier 3 or none from tier 1 becomes tier 2 with deadline clock + grace;
-- asked again in grace it changes only what follows; otherwise at once.
unfoldable pub set_tier : Table → ℕ → ℕ → Float → Float → Table
set_tier T k tier grace clock =
    cond (eqb tier 1) (set_table T k tier)
    (cond (eqb tier 2) (set_table T k tier)
    (cond (le grace f0) (set_table T k tier)
    (cond (eqb (tag_at T k).tier 1) (enter_grace T k (add binary64 clock grace) tier)
    (cond (is_some (tag_at T k).grace) (change_grace T k tier)
    (set_table T k tier)))))
