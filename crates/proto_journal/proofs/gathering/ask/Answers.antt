use Rattle.std.proofs.Common.{subst}
use Rattle.proto_journal.specs.Loads.{AreSoundPaths}
use Rattle.proto_journal.proofs.gathering.ask.Goals as goal

pub returns-clause-sound : goal.returns-clause-sound
returns-clause-sound c = subst AreSoundPaths c.in_ok-files.ensures.paths c.in_ok-new.ensures.clean
