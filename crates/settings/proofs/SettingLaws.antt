-- The settings that the host lends.
use mathlib.Core.Path.{◌≡◌, refl, ap, sym, ◌∙◌}
use mathlib.Core.List.{List, [], ◌∷◌, map}
use Prim.Native.Nat.{ℕ, ◌+◌, ◌*◌, ◌≤◌, ◌<◌}
use native.Mathlib.Omega.{arith}
use lib.ListN.{length, get_or, length-map, get_or-eq_default}
use Rattle.memory.specs.Cells.{cells_in}
use Rattle.memory.proofs.CellLaws.{length_cells}
use Rattle.memory.proofs.RowLaws.{map_at}
use Rattle.table.specs.Tag.{no_settings}
use Rattle.settings.specs.Records.{records_in}
use Rattle.settings.specs.Settings.{setting_count, setting_from, setting_in}
use Rattle.settings.proofs.RecordLaws.{length-records, record_at, four_cells}

pub length_settings : (bs : List ℕ) → length (records_in 4 bs) ≡ setting_count bs
length_settings bs = omega (arith, length-records 4 (cells_in bs), length_cells bs)

-- the four cells of setting i
abbrev cells : List ℕ → ℕ → List ℕ
cells bs i = get_or (cells_in bs) (4 * i) 0 ∷ get_or (cells_in bs) (4 * i + 1) 0 ∷ get_or (cells_in bs) (4 * i + 2) 0 ∷ get_or (cells_in bs) (4 * i + 3) 0 ∷ []

pub setting_cells : (bs : List ℕ) (i : ℕ) → i < setting_count bs → get_or (records_in 4 bs) i [] ≡ cells bs i
setting_cells bs i h =
    let long = length_cells bs in
    record_at 4 (cells_in bs) i [] (omega arith) ∙ four_cells (cells_in bs) (4 * i) (omega arith)

-- no cells are no settings
no_cells : setting_from [] ≡ no_settings
unfolding setting_from
no_cells = refl

pub setting_at : (bs : List ℕ) (i : ℕ) → i < setting_count bs → setting_in bs i ≡ setting_from (cells bs i)
unfolding setting_in
setting_at bs i h =
    ap (get_or (map setting_from (records_in 4 bs)) i) (sym no_cells)
    ∙ map_at setting_from (records_in 4 bs) i []
    ∙ ap setting_from (setting_cells bs i h)

pub setting_none : (bs : List ℕ) (i : ℕ) → setting_count bs ≤ i → setting_in bs i ≡ no_settings
unfolding setting_in
setting_none bs i h = get_or-eq_default (map setting_from (records_in 4 bs)) no_settings (omega (arith, length-map (records_in 4 bs) setting_from, length_settings bs))
