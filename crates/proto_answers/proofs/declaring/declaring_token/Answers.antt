use Rattle.std.proofs.Common.{List, subst, sym}
use Rattle.std.specs.Prelude.{IfOk}
use Rattle.proto_files.proofs.Common.{FileOf, HasNoFault}
use Rattle.proto_names_imports.proofs.Common.{LinkFaults}
use Rattle.proto_answers.specs.Common.{IsDeclaring, MayBeRenamed}
use Rattle.proto_answers.proofs.NamedTokens.{compiled_is_linked}
use Rattle.proto_answers.proofs.declaring.declaring_token.Goals as goal

pub declaring_token_in-requires-clause-linked : goal.declaring_token_in-requires-clause-linked
declaring_token_in-requires-clause-linked c = subst (λ (w : List FileOf). HasNoFault (LinkFaults w)) (sym c.files.ensures.files) (compiled_is_linked c.args.workspace.now c.files.ensures.compiled)

pub declaring_token_in-requires-clause-named : goal.declaring_token_in-requires-clause-named
declaring_token_in-requires-clause-named c = subst (λ (w : List FileOf). MayBeRenamed w c.args.name.now) (sym c.files.ensures.files) c.requires

pub returns : goal.returns
returns c = subst (λ (w : List FileOf). IfOk c.declaring_token_in.result (IsDeclaring w c.args.name.now)) c.files.ensures.files c.declaring_token_in.ensures
