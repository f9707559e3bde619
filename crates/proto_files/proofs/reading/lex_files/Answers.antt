use Rattle.std.proofs.Common.{rules}
use Rattle.proto_base.proofs.Common.{YieldsList-from_vec, YieldsList-so_far, YieldsList-turn, err_from_is_err_and}
use Rattle.proto_files.specs.Common.{IsTextFault, IsLexedFile, named_file, lexed_file, lexed_files}
use Rattle.proto_files.proofs.FirstErrors.{first_error, none_lexed, same_push, all_push}
use Rattle.proto_files.proofs.reading.lex_files.Goals as goal

pub returns-in_err-lex_file-clause-fault : goal.returns-in_err-lex_file-clause-fault
returns-in_err-lex_file-clause-fault c =
    let all = YieldsList-from_vec c.args.files.items (search rules) (search rules) in
    let p = err_from_is_err_and c.from_residual.result c.from_residual.ensures.1 in
    rw (p.1, p.2)
    (first_error named_file IsTextFault c.args.files.items c.loop-file.yielded c.in-Some.file (lexed_files c.loop-file.lexed.items) _
    (YieldsList-so_far all c.loop-file.yielded _ c.loop-file.yielded_by)
    (YieldsList-turn all c.loop-file.yielded _ c.loop-file.yielded_by _ c.next.new.self c.in-Some.file c.in-Some.is c.next.ensures.steps)
    c.loop-file.invariant.0
    (none_lexed c.loop-file.lexed.items c.loop-file.invariant.1)
    c.in_err-lex_file.ensures.fault)

pub loop-file-preserved : goal.loop-file-preserved
loop-file-preserved c = (
  same_push lexed_file named_file c.loop-file.lexed.items c.push.new.self.items c.loop-file.yielded c.in_ok-lex_file.field-0 c.in-Some.file c.in_ok-push.ensures.items c.loop-file.invariant.0 c.in_ok-lex_file.ensures.same,
  all_push IsLexedFile c.loop-file.lexed.items c.push.new.self.items c.in_ok-lex_file.field-0 c.in_ok-push.ensures.items c.loop-file.invariant.1 c.in_ok-lex_file.ensures.lexed,
)
