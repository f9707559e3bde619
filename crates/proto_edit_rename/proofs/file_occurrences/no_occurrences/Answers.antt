use Rattle.std.proofs.Common.{subst}
use Rattle.proto_edit_captures.specs.FoundTargets.{IsNoTarget}
use Rattle.proto_edit_rename.proofs.NoTargets.{none_has_it, none_may_be_renamed}
use Rattle.proto_edit_rename.proofs.file_occurrences.no_occurrences.Goals as goal

pub returns-in-Unknown : goal.returns-in-Unknown
returns-in-Unknown c = none_has_it c.args.linked.now.files c.args.name.now (subst (IsNoTarget c.args.linked.now.files c.args.name.now) c.in-Unknown.is c.requires)

pub returns-in-NotAllowed : goal.returns-in-NotAllowed
returns-in-NotAllowed c = none_may_be_renamed c.args.linked.now.files c.files.ensures.clean.clean c.args.name.now (subst (IsNoTarget c.args.linked.now.files c.args.name.now) c.in-NotAllowed.is c.requires)
