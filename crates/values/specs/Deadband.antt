-- Rule 3: the deadband.
use Rattle.std.specs.Prelude.{Bool, ◌&&◌, Float}
use Rattle.ieee.specs.Band.{within}
use Rattle.values.specs.Value.{is_number, number_of}
use Rattle.values.specs.Error.{same_error}
use Rattle.values.specs.Entry.{is_good}
use Rattle.values.specs.declared.value.Value.{Value}
use Rattle.values.specs.declared.entry.Entry.{Entry}

-- Rule 3: both numbers, and |new - published| < band.
abbrev pub near : Float → Value → Value → Bool
near band published new = is_number published && (is_number new && within (number_of published) (number_of new) band)

-- Rule 3: a change is withheld if published and new are both good, errors equal, both numbers, and |new - published| < band.
abbrev pub within_deadband : Float → Entry → Entry → Bool
within_deadband band published new =
    is_good published.quality && (is_good new.quality && (same_error published.error new.error && near band published.value new.value))
