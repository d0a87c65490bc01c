-- The numbers of an answer, in the order in which its frame has them.
use Rattle.std.specs.Prelude.{ℕ, List, [], ◌∷◌, ◌/◌, ◌%◌, map, length, take, drop}
use Rattle.std.specs.Int.{w32, from_le_bytes}
use Rattle.std.specs.Simd.{first_chunks}
use Rattle.std.specs.Float.Ieee.{binary64, to_bits}
use Rattle.std.proofs.Common.{of_z, w64}
use Rattle.frames.specs.Numbers.{four_at, eight_at}
use Rattle.shown.specs.declared.head.StateLook.{StateLook}
use Rattle.shown.specs.declared.head.StatsLook.{StatsLook}
use Rattle.shown.specs.declared.counts.CountsLook.{CountsLook}
use Rattle.shown.specs.declared.list_looks.ListLook.{ListLook}
use Rattle.shown.specs.declared.tag.TagLook.{TagLook}

abbrev pub state : StateLook → List ℕ
state r = r.code ∷ r.state ∷ r.known ∷ r.version ∷ []

-- the bits of the round's time, and of when it ended
abbrev pub stats : StatsLook → List ℕ
stats r = r.code ∷ r.timed ∷ to_bits binary64 r.ms ∷ of_z w64 r.ts ∷ r.reads ∷ r.tags ∷ r.overruns ∷ r.reconnects ∷ r.reloads ∷ []

abbrev pub tier_counts : CountsLook → List ℕ
tier_counts r = r.code ∷ r.tier1 ∷ r.tier2 ∷ r.tier3 ∷ []

abbrev pub counted : ListLook → List ℕ
counted r = r.code ∷ r.count ∷ []

abbrev pub tag : TagLook → List ℕ
tag r = r.code ∷ r.tier ∷ r.held ∷ r.kind ∷ r.word ∷ r.t ∷ r.error ∷ r.message ∷ r.has_g ∷ r.g ∷ r.description ∷ []

-- a number of four bytes is recorded in eight
abbrev pub low : ℕ → ℕ
low word = word % 0x1_0000_0000

-- the numbers that a call's parameters are recorded as: the first eight bytes of its frame, the next, and those after them
abbrev pub first : List ℕ → ℕ
first frame = eight_at frame 0

abbrev pub second : List ℕ → ℕ
second frame = eight_at (drop 8 frame) 0

abbrev pub third : List ℕ → ℕ
third frame = eight_at (drop 8 (drop 8 frame)) 0

-- the list behind the first eight bytes
abbrev pub second_list : List ℕ → List ℕ
second_list frame = take (four_at (drop 8 frame) 0) (drop 4 (drop 8 frame))

-- the ends in a list, four bytes each; fewer bytes behind the last one are none
abbrev pub ends_in : List ℕ → List ℕ
ends_in list = map (from_le_bytes w32) (first_chunks 4 (length list / 4) list)
