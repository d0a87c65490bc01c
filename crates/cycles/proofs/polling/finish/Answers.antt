-- `cycles::polling::finish` meets its contract.
use Rattle.board.specs.Board.{board_in}
use Rattle.replies.specs.Worker.{worker}
use Rattle.cycles.specs.Polling.{poll}
use Rattle.cycles.proofs.PollingLaws.{stands, goes_on_lem, lastly_stands, lastly_waits}
use Rattle.cycles.proofs.polling.finish.Goals as goal

pub returns-in_default : goal.returns-in_default
returns-in_default c =
    let a = c.args in
    record { goes = λ T before d. stands T a.at a.s a.board.now before a.out.now c.in_default.not-GoOn d }

pub returns-in_default-response : goal.returns-in_default-response
returns-in_default-response c =
    let a = c.args in
    let t = a.at in
    let y = c.poll-t in
    let X = worker a.s.head (board_in a.board.now) in
    let said = y.ensures in
    record {
      goes = λ T before d.
          goes_on_lem T t a.s y.result a.board.now y.new.board before a.out.now y.new.out c.in-GoOn.is d
          (lastly_stands (poll X t) t y.result y.new.board a.out.now y.new.out c.in_default-response.not-GoOn said);
    }

pub returns : goal.returns
returns c =
    let a = c.args in
    let t = a.at in
    let y = c.poll-t in
    let X = worker a.s.head (board_in a.board.now) in
    let said = y.ensures in
    record {
      goes = λ T before d.
          goes_on_lem T t a.s c.waiting.result a.board.now y.new.board before a.out.now y.new.out c.in-GoOn.is d
          (lastly_waits (poll X t) t y.result c.waiting.result y.new.board a.out.now y.new.out c.in-GoOn-response.is said
          c.waiting.ensures);
    }
