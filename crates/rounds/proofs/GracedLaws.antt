-- A round keeps the graces: a tag stands in their list exactly while it is in grace.
use mathlib.Core.Path.{◌≡◌, refl, ap, sym, ◌∙◌}
use mathlib.Core.Bool.{Bool, cond}
use mathlib.Core.List.{List, [], ◌∷◌, map}
use Prim.Native.Nat.{ℕ}
use lib.Ieee.{Float}
use lib.ListN.{length, get_or, length-map, get_or-map}
use Rattle.std.specs.Prelude.{Option, is_some}
use Rattle.lists.specs.Keep.{Below}
use Rattle.table.specs.Tag.{fresh_tag}
use Rattle.table.specs.declared.tag.Grace.{Grace}
use Rattle.table.specs.declared.tag.Tag.{Tag}
use Rattle.tiers.specs.Tiers.{set_table}
use Rattle.board.specs.Board.{Table, tag_at, with_tags}
use Rattle.tiers.specs.Listed.{Listed}
use Rattle.tiers.specs.Graced.{Graced}
use Rattle.tiers.proofs.ListedLaws.{listed-set, set_long}
use Rattle.tiers.proofs.GracedLaws.{graced_set}
use Rattle.rounds.specs.Graces.{run_out, after_of}
use Rattle.rounds.specs.Due.{marked}
use Rattle.rounds.specs.Added.{settled}
use Rattle.rounds.specs.Round.{Polling, Round, round}
use Rattle.heads.specs.declared.options.Options.{Options}
use Rattle.rounds.proofs.GraceLaws.{expired-below}
use Rattle.rounds.proofs.DueLaws.{marked-part, marked_long}

pub graced_run_out : (T : Table) (ks : List ℕ) → Listed T → Graced T → Below (length T.tags) ks → Graced (run_out T ks)
unfolding run_out
graced_run_out T [] l g b = g
graced_run_out T (k ∷ ks) l g b =
    let after = (after_of (tag_at T k).grace) in
    graced_run_out (set_table T k after) ks (listed-set T l k after b.0) (graced_set T g k b.0 after) (rw (set_long T l k b.0 after) b.1)

-- a table with other records of its tags, each with the same grace
graced_tags : (T : Table) (tags : List Tag) → length tags ≡ length T.tags → ((k : ℕ) → (get_or tags k fresh_tag).grace ≡ (tag_at T k).grace) → Graced T → Graced (with_tags T tags)
graced_tags T tags long same g = record { once = λ k. g.once k ∙ ap (λ (x : Option Grace). cond (is_some x) 1 0) (sym (same k)); enough = rw long g.enough }

module _ (less : ℕ → ℕ → Bool) (o : Options) (P : Polling) (clock : Float) (l : Listed P.table) (g : Graced P.table) where
  abbrev R : Round
  R = round less o P clock

  abbrev left : Table
  left = run_out P.table R.ran_out

  expired : Below (length P.table.tags) R.ran_out
  unfolding round
  expired = expired-below P.table l R.boundary clock

  pub graced_round : Graced R.after.table
  unfolding round
  graced_round =
      let tags = marked left.tags clock R.due in
      graced_tags left (map settled tags) (length-map tags settled ∙ marked_long left.tags clock R.due)
      (λ k. ap (λ (x : Tag). x.grace) (get_or-map settled tags k fresh_tag) ∙ marked-part (λ (x : Tag). x.grace) clock (λ x. refl) left.tags R.due k)
      (graced_run_out P.table R.ran_out l g expired)
