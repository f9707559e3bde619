use Rattle.std.proofs.Common.{subst}
use Rattle.proto_edit_captures.specs.FoundTargets.{IsNoTarget}
use Rattle.proto_answers.proofs.Declarers.{not_forbidden, not_unknown}
use Rattle.proto_answers.proofs.declaring.no_memory.Goals as goal

pub unreachable-requires : goal.unreachable-requires
unreachable-requires c =
    not_unknown c.args.files.now c.args.name.now c.requires.named (subst (IsNoTarget c.args.files.now c.args.name.now) c.in-Unknown.is c.requires.cause)

pub unreachable-requires-in-NotAllowed : goal.unreachable-requires-in-NotAllowed
unreachable-requires-in-NotAllowed c =
    not_forbidden c.args.files.now c.requires.linked c.args.name.now c.requires.named (subst (IsNoTarget c.args.files.now c.args.name.now) c.in-NotAllowed.is c.requires.cause)
