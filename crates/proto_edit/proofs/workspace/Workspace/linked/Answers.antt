use Rattle.std.proofs.Common.{List, sym, subst}
use Rattle.proto_files.proofs.Common.{HasNoFault, FileOf}
use Rattle.proto_names_imports.specs.Links.{LinkFaults}
use Rattle.proto_edit.proofs.Refusals.{compiled_is_linked}
use Rattle.proto_edit.proofs.workspace.Workspace.linked.Goals as goal

pub new-requires-clause-clean : goal.new-requires-clause-clean
new-requires-clause-clean c = subst (λ (w : List FileOf). HasNoFault (LinkFaults w)) (sym c.files.ensures.files) (compiled_is_linked c.args.self.now c.files.ensures.compiled)
