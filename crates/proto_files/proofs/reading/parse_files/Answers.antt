use Rattle.std.proofs.Common.{length, rules}
use Rattle.proto_base.proofs.Common.{YieldsList-from_vec, YieldsList-so_far, YieldsList-turn, err_from_is_err_and}
use Rattle.proto_files.specs.Common.{IsGrammarFault, IsLexedFile, IsReadFile, lexed_file, read_file, read_files}
use Rattle.proto_files.proofs.FirstErrors.{first_error, none_read, same_push, all_push, given_at}
use Rattle.proto_files.proofs.reading.parse_files.Goals as goal

pub parse_file-requires : goal.parse_file-requires
parse_file-requires c =
    let all = YieldsList-from_vec c.args.files.items (search rules) (search rules) in
    given_at IsLexedFile c.args.files.items (length c.loop-file.yielded) c.in-Some.file c.requires
    (YieldsList-turn all c.loop-file.yielded _ c.loop-file.yielded_by _ c.next.new.self c.in-Some.file c.in-Some.is c.next.ensures.steps)

pub returns-in_err-parse_file-clause-fault : goal.returns-in_err-parse_file-clause-fault
returns-in_err-parse_file-clause-fault c =
    let all = YieldsList-from_vec c.args.files.items (search rules) (search rules) in
    let p = err_from_is_err_and c.from_residual.result c.from_residual.ensures.1 in
    rw (p.1, p.2)
    (first_error lexed_file IsGrammarFault c.args.files.items c.loop-file.yielded c.in-Some.file (read_files c.loop-file.read.items) _
    (YieldsList-so_far all c.loop-file.yielded _ c.loop-file.yielded_by)
    (YieldsList-turn all c.loop-file.yielded _ c.loop-file.yielded_by _ c.next.new.self c.in-Some.file c.in-Some.is c.next.ensures.steps)
    c.loop-file.invariant.0
    (none_read c.loop-file.read.items c.loop-file.invariant.1)
    c.in_err-parse_file.ensures.fault)

pub loop-file-preserved : goal.loop-file-preserved
loop-file-preserved c = (
  same_push read_file lexed_file c.loop-file.read.items c.push.new.self.items c.loop-file.yielded c.in_ok-parse_file.field-0 c.in-Some.file c.in_ok-push.ensures.items c.loop-file.invariant.0 c.in_ok-parse_file.ensures.same,
  all_push IsReadFile c.loop-file.read.items c.push.new.self.items c.in_ok-parse_file.field-0 c.in_ok-push.ensures.items c.loop-file.invariant.1 c.in_ok-parse_file.ensures.read,
)
