-- A table marked stale, tag by tag.
use mathlib.Core.Path.{◌≡◌, ap, sym, ◌∙◌}
use mathlib.Core.Bool.{false}
use mathlib.Core.List.{List}
use Prim.Native.Nat.{ℕ, ◌+◌, ◌<◌}
use lib.ListN.{length, get_or, set}
use lib.Seq.{set-get_or}
use Rattle.memory.proofs.LoopLaws.{mapped, mapped_read, mapped_more}
use Rattle.table.specs.Tag.{fresh_tag}
use Rattle.table.specs.declared.tag.Tag.{Tag}
use Rattle.stale.specs.Stale.{is_staled, tag_stale}

pub stale_already : (x : Tag) → is_staled x ≡ false → tag_stale x ≡ x
unfolding tag_stale
stale_already x e = rw e

-- a tag that stays as it is
pub stale_kept : (l : List Tag) (i : ℕ) → is_staled (get_or l i fresh_tag) ≡ false → l ≡ set l i (tag_stale (get_or l i fresh_tag))
stale_kept l i e = sym (set-get_or l i fresh_tag) ∙ ap (set l i) (sym (stale_already (get_or l i fresh_tag) e))

-- a table T of which the first i tags of l are marked: one more
pub stale_more : (l : List Tag) (i : ℕ) (T : List Tag) → T ≡ mapped tag_stale i l → i < length l → set T i (tag_stale (get_or T i fresh_tag)) ≡ mapped tag_stale (i + 1) l
stale_more l i T done h =
    ap (λ (r : List Tag). set r i (tag_stale (get_or r i fresh_tag))) done
    ∙ ap (λ (x : Tag). set (mapped tag_stale i l) i (tag_stale x)) (mapped_read tag_stale l i fresh_tag h)
    ∙ mapped_more tag_stale l i fresh_tag h
