-- A directory has as many names as end places.
use mathlib.Core.Path.{sym}
use Rattle.names.proofs.DirectoryLaws.{length_names}
use Rattle.names.proofs.directory.Directory.count.Goals as goal

pub returns : goal.returns
returns c = sym (length_names c.args.self.names.now c.args.self.ends.now)
