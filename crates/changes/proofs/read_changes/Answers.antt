-- As many changes as are told are handed on, and the refusal of their run becomes that of a call.
use Rattle.std.proofs.Common.{◌≡◌, ◌∙◌, ap, refl, ℕ, Bool, true, false, List, length}
use mathlib.Core.Bool.{cond}
use lib.Dec.{ltb}
use Rattle.std.specs.Prelude.{⊤, Result, Ok, Err, min}
use Rattle.std.specs.Result.{result_or}
use Rattle.refusals.specs.declared.Refusal.{Refusal}
use Rattle.refusals.specs.declared.Refusal.TheVariants.{ListRoom}
use Rattle.memory.specs.Cells.{cells_in}
use Rattle.names.specs.Directory.{max_names}
use Rattle.runs.specs.declared.TooShort.{TooShort}
use Rattle.runs.specs.Run.{filled}
use Rattle.changes.specs.declared.Change.{Change}
use Rattle.changes.specs.Changes.{told}
use Rattle.changes.proofs.TakeLaws.{length_changes}
use Rattle.changes.proofs.read_changes.Goals as goal

refused : (b : Bool) (x : TooShort) → ◌≡◌ {A = Result ⊤ Refusal} (result_or {D = Refusal} (cond {A = Result ⊤ TooShort} b (Err x) (Ok tt)) (Err ListRoom)) (cond b (Err ListRoom) (Ok tt))
refused true x = refl
refused false x = refl

pub returns : goal.returns
returns c =
    let list = c.args.list.now in
    let n = c.args.n in
    let out = c.args.out.now in (
      c.or.ensures ∙ ap (λ (r : Result ⊤ TooShort). result_or {D = Refusal} r (Err ListRoom)) c.fill.ensures.0 ∙ refused (ltb (length out) max_names) _,
      c.fill.ensures.1
          ∙ ap (λ (l : List Change). filled max_names (length l) l out) c.told.ensures
          ∙ ap (λ (m : ℕ). filled max_names m (told list n) out) (length_changes (cells_in list) (min n max_names)),
    )
