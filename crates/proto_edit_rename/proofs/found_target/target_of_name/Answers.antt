use Rattle.std.proofs.Common.{List, ℕ, subst}
use Rattle.proto_edit_captures.specs.FoundTargets.{IsNoTarget}
use Rattle.proto_edit_rename.specs.Cases.{IsFreeBefore}
use Rattle.proto_edit_rename.proofs.Refused.{aim_free, kind_refused, unknown_refused}
use Rattle.proto_edit_rename.proofs.found_target.target_of_name.Goals as goal

pub returns-in-Ok-clause-free : goal.returns-in-Ok-clause-free
returns-in-Ok-clause-free c = λ to. subst (λ (n : List ℕ). IsFreeBefore c.args.linked.now.files n to 3) c.in-Ok.ensures.named (aim_free c.args.linked.now.files c.files.ensures.clean.clean c.in-Ok.target c.in-Ok.ensures.ok to)

pub returns-in-Err-Unknown-clause-err : goal.returns-in-Err-Unknown-clause-err
returns-in-Err-Unknown-clause-err c =
    let files = c.args.linked.now.files in
    let name = c.args.name.now in
    unknown_refused files c.files.ensures.clean.reads c.files.ensures.clean.read name (subst (IsNoTarget files name) c.in-Err-Unknown.field-0-is c.in-Err-Unknown.ensures.err)

pub returns-in-Err-NotAllowed-clause-err : goal.returns-in-Err-NotAllowed-clause-err
returns-in-Err-NotAllowed-clause-err c =
    let files = c.args.linked.now.files in
    let name = c.args.name.now in
    kind_refused files c.files.ensures.clean.reads c.files.ensures.clean.read name (subst (IsNoTarget files name) c.in-Err-NotAllowed.field-0-is c.in-Err-NotAllowed.ensures.err)
