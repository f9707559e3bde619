use Rattle.std.proofs.Common.{List, subst}
use Rattle.proto_edit_captures.specs.FoundTargets.{IsNoTarget}
use Rattle.proto_files.proofs.Common.{FileOf}
use Rattle.proto_answers.specs.Common.{IsDeclaring}
use Rattle.proto_answers.specs.declared.declaring.FileToken.{FileToken}
use Rattle.proto_answers.proofs.Declarers.{target_declares}
use Rattle.proto_answers.proofs.declaring.declaring_token_in.Goals as goal

pub returns-in-Ok : goal.returns-in-Ok
returns-in-Ok c =
    let files = c.new-linked.result.files in
    let name = c.args.name.now in
    let target = c.in-Ok.target in
    let t : FileToken = record { file = target.file; token = target.token } in
    let declaring : IsDeclaring files name t = record { within = c.in-Ok.ensures.file; declares = target_declares files name target c.in-Ok.ensures.ok c.in-Ok.ensures.named } in
    subst (λ (w : List FileOf). IsDeclaring w name t) c.new-linked.ensures.files declaring

pub no_memory-requires-clause-cause : goal.no_memory-requires-clause-cause
no_memory-requires-clause-cause c = subst (λ (w : List FileOf). IsNoTarget w c.args.name.now c.in-Err.cause) c.new-linked.ensures.files c.in-Err.ensures.err
