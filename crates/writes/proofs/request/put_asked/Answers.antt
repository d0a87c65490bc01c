-- `writes::request::put_asked` meets its contract.
use mathlib.Core.Path.{ap, ◌∙◌}
use mathlib.Core.List.{List}
use Prim.Native.Nat.{ℕ}
use Rattle.lent.specs.Lent.{tag_bytes, wrote_all}
use Rattle.board.proofs.BoardLaws.{asked-read}
use Rattle.writes.proofs.request.put_asked.Goals as goal

pub returns : goal.returns
returns c =
    let a = c.args in
    let t = c.asked_of in (
      c.asked_count.ensures,
      c.put_tags.ensures ∙ ap (λ (l : List ℕ). wrote_all a.out.now (tag_bytes l)) (asked-read a.b.now t.result.now t.ensures),
    )
