-- `settings::configured::check_configured` meets its contract.
use Prim.Native.Nat.{◌*◌, ◌/◌}
use native.Mathlib.Omega.{arith}
use borrow.Author.Rules.{rules}
use borrow.Author.Tests.{eq-eqb, le-leb}
use lib.ListN.{length}
use Rattle.settings.specs.Records.{records_in}
use Rattle.settings.specs.Configured.{configured_ok, group_ok}
use Rattle.settings.proofs.GroupLaws.{length_pairs, given_cells}
use Rattle.settings.proofs.configured.check_configured.Goals as goal

pub returns : goal.returns
unfolding configured_ok
returns c =
    let n = length c.args.s.now in
    rw (eq-eqb n (16 * (n / 16)) (omega arith), le-leb (n / 16) 16 (omega arith)) (c.check_each.ensures group_ok (records_in 2 c.args.s.now) (omega (arith, length_pairs c.args.s.now)) (λ i r h e. rw (given_cells c.args.s.now i h) (search rules)))
