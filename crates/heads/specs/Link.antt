-- Rule 9: the connection.
use Rattle.std.specs.Prelude.{Bool, true, false, cond, ℕ, eqb, ltb, Option, None}
use Rattle.heads.specs.Version.{version_from}
use Rattle.heads.specs.declared.link.State.{State}
use Rattle.heads.specs.declared.link.State.TheVariants.{Connecting, Connected, Disconnected, Stopped}
use Rattle.heads.specs.declared.link.Link.{Link}

abbrev pub fresh_link : Link
fresh_link = record { state = Connecting; stopping = false; version = None; attempt = 0 }

abbrev pub state_from : ℕ → State
state_from n = cond (eqb n 0) Connecting (cond (eqb n 1) Connected (cond (eqb n 2) Disconnected Stopped))

abbrev pub state_number : State → ℕ
state_number Connecting = 0
state_number Connected = 1
state_number Disconnected = 2
state_number Stopped = 3

abbrev pub is_state : Link → State → Bool
is_state x s = eqb (state_number x.state) (state_number s)

abbrev pub with_state : Link → State → Link
with_state x s = record { state = s; stopping = x.stopping; version = x.version; attempt = x.attempt }

abbrev pub with_attempt : Link → ℕ → Link
with_attempt x n = record { state = x.state; stopping = x.stopping; version = x.version; attempt = n }

abbrev pub with_version : Link → Option ℕ → Link
with_version x v = record { state = x.state; stopping = x.stopping; version = v; attempt = x.attempt }

-- a stop asked for
abbrev pub stopped : Link → Link
stopped x = record { state = x.state; stopping = true; version = x.version; attempt = x.attempt }

-- the connection that words hold
abbrev pub link_from : ℕ → ℕ → ℕ → ℕ → ℕ → Link
link_from state stopping known number attempt = record { state = state_from state; stopping = ltb 0 stopping; version = version_from known number; attempt = attempt }
