-- A step that tells values, by the contract of `capi::calls::wz_step`: what `changes` reads of its list are the tags of the event with their published entries.
use mathlib.Core.Path.{◌≡◌, ap, subst, ◌∙◌}
use mathlib.Core.List.{List, map}
use Prim.Native.Nat.{ℕ, ◌*◌, ◌≤◌}
use lib.ListN.{length, get_or}
use Rattle.lists.specs.Keep.{Below}
use Rattle.names.specs.Directory.{max_names}
use Rattle.table.specs.Tag.{fresh_tag}
use Rattle.lent.specs.Lent.{cell_bytes}
use Rattle.lent.specs.Changes.{change_size}
use Rattle.board.specs.Layout.{table, parts_in}
use Rattle.board.specs.Board.{board_from, board_in}
use Rattle.readings.specs.Changes.{changes_in}
use Rattle.replies.specs.Worker.{Worker, tell}
use Rattle.replies.specs.Reply.{values}
use Rattle.replies.specs.declared.reply.Reply.{Reply}
use Rattle.capi.specs.Memory.{IsEngine, board_bytes, worker_in}
use Rattle.capi.specs.Calls.{Stepped}
use Rattle.changes.specs.Changes.{told, change_of}
use Rattle.changes.proofs.FitLaws.{Fit, table_fit}
use Rattle.changes.proofs.ToldLaws.{told_of}

-- the entries of an engine in memory are such as the machine can hold
worker_fit : (mem : List ℕ) (k : ℕ) → Fit (get_or (worker_in mem).board.table.tags k fresh_tag).published
unfolding worker_in board_in board_from
worker_fit mem k = table_fit (parts_in (board_bytes mem) table) k

pub event-told : (old new : List ℕ) (r : Reply) (out out' : List ℕ) (W : Worker) (ks : List ℕ)
    → Stepped old new r out out' (tell W (values (length ks)) (cell_bytes (changes_in W.board ks))) → IsEngine old
    → Below 65536 ks → length ks ≤ max_names → change_size * length ks ≤ length out
    → told out' r.count ≡ map (change_of W.board.table.tags) ks
event-told old new r out out' W ks S engine below few room =
    let fit : (k : ℕ) → Fit (get_or W.board.table.tags k fresh_tag).published =
    λ k. subst (λ (x : Worker). Fit (get_or x.board.table.tags k fresh_tag).published) (S.left_is engine) (worker_fit new k) in
    ap (λ (x : Reply). told out' x.count) (S.reply_is engine) ∙ ap (λ (l : List ℕ). told l (length ks)) (S.out_is engine) ∙ told_of W.board.table.tags fit ks out below few room
