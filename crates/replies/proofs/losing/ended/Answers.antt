-- `replies::losing::ended` meets its contract.
use mathlib.Core.Bool.{false≢true}
use Rattle.replies.proofs.losing.ended.Goals as goal

pub returns : goal.returns
returns c =
    let f = c.fail_writes-n.ensures in
    record {
      head_is = simp (c.phased.ensures, c.with_link-next.ensures, c.with_state.ensures);
      board_is = f.1.0.board;
      reply_is = simp (c.phased.ensures, f.0);
      out_is = f.1.1;
      silent = λ h. absurd (false≢true h);
    }
