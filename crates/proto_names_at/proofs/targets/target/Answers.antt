use Rattle.std.proofs.Common.{subst}
use Rattle.proto_edit_captures.specs.FoundTargets.{IsNoTarget}
use Rattle.proto_names_at.proofs.NamedTargets.{not_allowed_has_none, unknown_has_none}
use Rattle.proto_names_at.proofs.targets.target.Goals as goal

pub returns-in-Err-Unknown-clause-none : goal.returns-in-Err-Unknown-clause-none
returns-in-Err-Unknown-clause-none c = unknown_has_none c.args.linked.now.files c.args.name.now (subst (IsNoTarget c.args.linked.now.files c.args.name.now) c.in-Err-Unknown.field-0-is c.in-Err-Unknown.ensures.err)

pub returns-in-Err-NotAllowed-clause-none : goal.returns-in-Err-NotAllowed-clause-none
returns-in-Err-NotAllowed-clause-none c =
    not_allowed_has_none c.args.linked.now.files c.files.ensures.clean.clean c.args.name.now (subst (IsNoTarget c.args.linked.now.files c.args.name.now) c.in-Err-NotAllowed.field-0-is c.in-Err-NotAllowed.ensures.err)
