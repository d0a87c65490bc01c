-- `heads::progress::phase_number` meets its contract.
use Rattle.heads.proofs.progress.phase_number.Goals as goal

pub returns-in-Begin : goal.returns-in-Begin
returns-in-Begin c = rw c.in-Begin.is

pub returns-in-Connect : goal.returns-in-Connect
returns-in-Connect c = rw c.in-Connect.is

pub returns-in-OpenVersion : goal.returns-in-OpenVersion
returns-in-OpenVersion c = rw c.in-OpenVersion.is

pub returns-in-Version : goal.returns-in-Version
returns-in-Version c = rw c.in-Version.is

pub returns-in-Read : goal.returns-in-Read
returns-in-Read c = rw c.in-Read.is

pub returns-in-Describe : goal.returns-in-Describe
returns-in-Describe c = rw c.in-Describe.is

pub returns-in-Write : goal.returns-in-Write
returns-in-Write c = rw c.in-Write.is

pub returns-in-ReadBack : goal.returns-in-ReadBack
returns-in-ReadBack c = rw c.in-ReadBack.is

pub returns-in-Wait : goal.returns-in-Wait
returns-in-Wait c = rw c.in-Wait.is

pub returns-in-Backoff : goal.returns-in-Backoff
returns-in-Backoff c = rw c.in-Backoff.is

pub returns-in-OpenFailedTold : goal.returns-in-OpenFailedTold
returns-in-OpenFailedTold c = rw c.in-OpenFailedTold.is

pub returns-in-OpenMetaTold : goal.returns-in-OpenMetaTold
returns-in-OpenMetaTold c = rw c.in-OpenMetaTold.is

pub returns-in-ConnectedTold : goal.returns-in-ConnectedTold
returns-in-ConnectedTold c = rw c.in-ConnectedTold.is

pub returns-in-MetaTold : goal.returns-in-MetaTold
returns-in-MetaTold c = rw c.in-MetaTold.is

pub returns-in-ValuesTold : goal.returns-in-ValuesTold
returns-in-ValuesTold c = rw c.in-ValuesTold.is

pub returns-in-InfoTold : goal.returns-in-InfoTold
returns-in-InfoTold c = rw c.in-InfoTold.is

pub returns-in-RefusedTold : goal.returns-in-RefusedTold
returns-in-RefusedTold c = rw c.in-RefusedTold.is

pub returns-in-LostTold : goal.returns-in-LostTold
returns-in-LostTold c = rw c.in-LostTold.is

pub returns-in-OutcomeTold : goal.returns-in-OutcomeTold
returns-in-OutcomeTold c = rw c.in-OutcomeTold.is

pub returns-in-BackTold : goal.returns-in-BackTold
returns-in-BackTold c = rw c.in-BackTold.is

pub returns-in-FailedTold : goal.returns-in-FailedTold
returns-in-FailedTold c = rw c.in-FailedTold.is

pub returns-in-StaleTold : goal.returns-in-StaleTold
returns-in-StaleTold c = rw c.in-StaleTold.is

pub returns-in-DisconnectedTold : goal.returns-in-DisconnectedTold
returns-in-DisconnectedTold c = rw c.in-DisconnectedTold.is

pub returns-in-ConnectingTold : goal.returns-in-ConnectingTold
returns-in-ConnectingTold c = rw c.in-ConnectingTold.is

pub returns-in-Stopped : goal.returns-in-Stopped
returns-in-Stopped c = rw c.in-Stopped.is
