use Rattle.std.proofs.Common.{◌≡◌, length, subst, arith}
use Rattle.proto_edit_rename.specs.Occurrences.{AreOccurrencesOf}
use Rattle.proto_edit_rename.proofs.FoundTokens.{more_found, none_found}
use Rattle.proto_edit_rename.proofs.file_occurrences.all_occurrences.Goals as goal

pub loop-file-init : goal.loop-file-init
loop-file-init c = none_found c.args.scope.now.files c.args.scope.now.target c.new-all.result.items c.new-all.ensures.items

pub loop-file-preserved : goal.loop-file-preserved
loop-file-preserved c = more_found c.args.scope.now.files c.args.scope.now.target c.loop-file.file c.loop-file.all.items c.push_found.new.all.items c.in_ok-found.found c.loop-file.invariant c.in_ok-found.ensures c.in_ok-push_found.ensures

pub returns : goal.returns
returns c =
    let files = c.args.scope.now.files in
    let all : c.loop-file.file ≡ length files = omega (arith, c.loop-file-test.false, c.file_count-file-end.ensures.len, c.loop-file.auto.file-end) in
    subst (λ n. AreOccurrencesOf files c.args.scope.now.target n c.loop-file.all.items) all c.loop-file.invariant
