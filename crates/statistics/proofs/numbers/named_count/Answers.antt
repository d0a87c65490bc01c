-- `statistics::numbers::named_count` meets its contract.
use native.Mathlib.Omega.{arith}
use Rattle.tags.proofs.ListLaws.{list_short}
use Rattle.settings.proofs.GroupLaws.{length-kept}
use Rattle.statistics.proofs.numbers.named_count.Goals as goal

pub overflow_add-result : goal.overflow_add-result
overflow_add-result c =
    omega (arith, list_short c.args.recorded.now, length-kept c.args.configured.now)
