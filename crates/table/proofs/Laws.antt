-- Words that hold a tag's parts hold the tag.
use mathlib.Core.Path.{◌≡◌}
use mathlib.Core.List.{[], ◌∷◌}
use Prim.Native.Nat.{ℕ, ◌+◌, ◌-◌, ◌%◌, ◌<◌}
use native.Mathlib.Nat.{mod-eq_of_lt}
use native.Mathlib.Omega.{arith}
use borrow.Author.Tests.{ne_eqb}
use lib.Dec.{ltb}
use lib.Ieee.{binary64, of_bits}
use Rattle.words.specs.Time.{time_from}
use Rattle.words.specs.Entry.{held_from}
use Rattle.words.specs.declared.entry.EntryWords.{EntryWords}
use Rattle.table.specs.Row.{grace_from, group_from, description_from, tag_from}
use Rattle.table.specs.declared.tag.Tag.{Tag}
use Rattle.table.specs.declared.tag.Description.TheVariants.{Is}

pub description_coded : (n : ℕ) → n < 0x1_0000_0000 → description_from (n + 2) ≡ Is n
description_coded n h =
    let less : n + 2 - 2 ≡ n = omega arith in
    rw (ne_eqb (n + 2) 0 (λ e. omega arith), ne_eqb (n + 2) 1 (λ e. omega arith), less, mod-eq_of_lt h)

pub tag_coded : (x : Tag) (tier on deadline after read last missing retry added wants description band grouped group rate described : ℕ) (c p : EntryWords)
    → tier % 256 ≡ x.tier → grace_from on deadline after ≡ x.grace → time_from read last ≡ x.timing.last → time_from missing retry ≡ x.timing.retry
    → ltb 0 added ≡ x.added → ltb 0 wants ≡ x.wants → description_from description ≡ x.description
    → of_bits binary64 band ≡ x.settings.band → group_from grouped group rate ≡ x.settings.group → ltb 0 described ≡ x.settings.described
    → held_from c ≡ x.cached → held_from p ≡ x.published
    → tag_from (
    tier ∷ on ∷ deadline ∷ after ∷ read ∷ last ∷ missing ∷ retry ∷ added ∷ wants ∷ description ∷ band ∷ grouped ∷ group ∷ rate ∷ described
    ∷ c.held ∷ c.kind ∷ c.word ∷ c.t ∷ c.error ∷ c.message ∷ 0 ∷ 0
    ∷ p.held ∷ p.kind ∷ p.word ∷ p.t ∷ p.error ∷ p.message ∷ 0 ∷ 0 ∷ []
    ) ≡ x
unfolding tag_from
tag_coded x tier on deadline after read last missing retry added wants description band grouped group rate described c p e1 e2 e3 e4 e5 e6 e7 e8 e9 e10 e11 e12 =
    rw (e1, e2, e3, e4, e5, e6, e7, e8, e9, e10, e11, e12)
