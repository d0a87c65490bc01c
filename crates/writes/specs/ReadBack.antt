-- Rule 8: what is read after a write.
use Rattle.std.specs.Prelude.{cond, List, [], ◌∷◌, ℕ, ◌-◌, ltb, get_or, take, Ok, Err}
use Rattle.values.specs.Entry.{TagResult}
use Rattle.values.specs.declared.value.Value.{Value}
use Rattle.values.specs.declared.value.Value.TheVariants.{Null}
use Rattle.lent.specs.Lent.{over_bytes}
use Rattle.results.specs.Results.{result_count, result_in}
use Rattle.board.specs.Board.{Board, with_asked, with_back}

-- Rule 8: a write is followed by reading the tag and, for a bit, its word; a word outside the directory isn't read. `words` has for each tag 0 where it is
-- no bit, 1 for a bit whose word the directory lacks, and otherwise the word's tag and 2.
abbrev pub read_back_tags : List ℕ → ℕ → List ℕ
read_back_tags words k = k ∷ cond (ltb 1 (get_or words k 0)) ((get_or words k 0 - 2) ∷ []) []

-- Rule 8: the value that was read back, null where the reading is not good
abbrev pub read_back_value : TagResult → Value
read_back_value (Ok v) = v
read_back_value (Err e) = Null

-- the tag's own result is the first; where there is none, the value is null
abbrev pub read_back_first : List ℕ → Value
read_back_first results = read_back_value (result_in results 0)

-- Rule 8: the results of a read-back are kept, and of the tags asked for those that they cover
abbrev pub kept_back : Board → List ℕ → Board
kept_back B results = with_back (with_asked B (take (result_count results) B.asked)) (over_bytes B.back results)
