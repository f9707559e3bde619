use Rattle.std.proofs.Common.{List, subst, sym}
use Rattle.std.specs.Prelude.{IfOk}
use Rattle.proto_files.proofs.Common.{FileOf, HasNoFault}
use Rattle.proto_names_imports.proofs.Common.{LinkFaults}
use Rattle.proto_answers.specs.Common.{IsNamedTokenAt}
use Rattle.proto_answers.proofs.NamedTokens.{compiled_is_linked}
use Rattle.proto_answers.proofs.standing.named_token_at.Goals as goal

pub named_token_in-requires-clause-linked : goal.named_token_in-requires-clause-linked
named_token_in-requires-clause-linked c = subst (λ (w : List FileOf). HasNoFault (LinkFaults w)) (sym c.files.ensures.files) (compiled_is_linked c.args.workspace.now c.files.ensures.compiled)

pub returns : goal.returns
returns c = subst (λ (w : List FileOf). IfOk c.named_token_in.result (IsNamedTokenAt w c.args.spot)) c.files.ensures.files c.named_token_in.ensures
