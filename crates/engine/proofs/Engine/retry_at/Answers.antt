-- `engine::Engine::retry_at` meets its contract.
use mathlib.Core.Path.{refl}
use lib.Ieee.{of_bits, of_int}
use Rattle.engine.proofs.Engine.retry_at.Goals as goal

pub returns : goal.returns
unfolding of_bits of_int
returns c = refl
