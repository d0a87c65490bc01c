-- The table in terms of its rows, and cells of a row put one after the other.
use mathlib.Core.Path.{◌≡◌, refl, ap, sym, ◌∙◌}
use mathlib.Core.List.{List, [], ◌∷◌, map}
use Prim.Native.Nat.{ℕ, zero, suc, ◌/◌}
use lib.ListN.{length, get_or, set, length-map}
use Rattle.memory.specs.Cells.{rows_in, no_row}
use Rattle.memory.proofs.RowLaws.{length_rows, map_at, map-set}
use Rattle.table.specs.Tag.{fresh_tag}
use Rattle.table.specs.Row.{tag_from}
use Rattle.table.specs.Table.{table_in}

-- a row of zeros is a fresh tag
fresh_row : tag_from no_row ≡ fresh_tag
unfolding tag_from
fresh_row = refl

pub table_at : (bs : List ℕ) (k : ℕ) → get_or (table_in bs) k fresh_tag ≡ tag_from (get_or (rows_in bs) k no_row)
unfolding table_in
table_at bs k = ap (get_or (map tag_from (rows_in bs)) k) (sym fresh_row) ∙ map_at tag_from (rows_in bs) k no_row

pub table_put : (old new w : List ℕ) (k : ℕ) → rows_in new ≡ set (rows_in old) k w → table_in new ≡ set (table_in old) k (tag_from w)
unfolding table_in
table_put old new w k e = ap (map tag_from) e ∙ map-set tag_from (rows_in old) k w

-- an element replaced twice, the second time by what the first made of it
pub set_again : {A : Type 0} (f : A → A) (l : List A) (k : ℕ) (a d : A) → set (set l k a) k (f (get_or (set l k a) k d)) ≡ set l k (f a)
set_again f [] k a d = refl
set_again f (x ∷ l) zero a d = refl
set_again f (x ∷ l) (suc k) a d = ap (λ (r : List _). x ∷ r) (set_again f l k a d)

-- a row put and then a cell of it
pub rows_put_more : (old mid new w : List ℕ) (k j v : ℕ)
    → rows_in mid ≡ set (rows_in old) k w
    → rows_in new ≡ set (rows_in mid) k (set (get_or (rows_in mid) k no_row) j v)
    → rows_in new ≡ set (rows_in old) k (set w j v)
rows_put_more old mid new w k j v e f =
    f ∙ ap (λ (rs : List (List ℕ)). set rs k (set (get_or rs k no_row) j v)) e
    ∙ set_again (λ (r : List ℕ). set r j v) (rows_in old) k w no_row

-- two cells of one row put, one after the other
pub rows_put_2 : (old mid new : List ℕ) (k i u j v : ℕ)
    → rows_in mid ≡ set (rows_in old) k (set (get_or (rows_in old) k no_row) i u)
    → rows_in new ≡ set (rows_in mid) k (set (get_or (rows_in mid) k no_row) j v)
    → rows_in new ≡ set (rows_in old) k (set (set (get_or (rows_in old) k no_row) i u) j v)
rows_put_2 old mid new k i u j v e f = rows_put_more old mid new (set (get_or (rows_in old) k no_row) i u) k j v e f

-- a tag for each whole row
pub length-table : (bs : List ℕ) → length (table_in bs) ≡ length bs / 256
unfolding table_in
length-table bs = length-map (rows_in bs) tag_from ∙ length_rows bs
