use Rattle.std.proofs.Common.{◌<◌, length, arith, rules}
use Rattle.proto_base.proofs.Common.{YieldsList-from_vec, YieldsList-so_far, YieldsList-turn, err_from_is_err_and, length_push}
use Rattle.proto_files.proofs.Common.{IsGrammarFault}
use Rattle.proto_files.proofs.FirstErrors.{all_push, first_error, given_at}
use Rattle.proto_desc.specs.NewTexts.{IsLexedText, IsParsedText, file_with, lexed_text, read_text}
use Rattle.proto_desc.specs.declared.texts.LexedText.{LexedText}
use Rattle.proto_desc.proofs.ReadTexts.{files_same, files_with, none_parsed, text_push}
use Rattle.proto_desc.proofs.new_texts.parse_texts.Goals as goal

pub parse_text-requires-clause-place : goal.parse_text-requires-clause-place
parse_text-requires-clause-place c =
    let all = YieldsList-from_vec c.args.texts.items (search rules) (search rules) in
    given_at (λ (t : LexedText). t.place < length c.args.files.now) c.args.texts.items (length c.loop-text.yielded) c.in-Some.text c.requires.places
    (YieldsList-turn all c.loop-text.yielded _ c.loop-text.yielded_by _ c.next.new.self c.in-Some.text c.in-Some.is c.next.ensures.steps)

pub parse_text-requires-clause-lexed : goal.parse_text-requires-clause-lexed
parse_text-requires-clause-lexed c =
    let all = YieldsList-from_vec c.args.texts.items (search rules) (search rules) in
    given_at (IsLexedText c.args.files.now) c.args.texts.items (length c.loop-text.yielded) c.in-Some.text c.requires.lexed
    (YieldsList-turn all c.loop-text.yielded _ c.loop-text.yielded_by _ c.next.new.self c.in-Some.text c.in-Some.is c.next.ensures.steps)

pub parse_text-requires-clause-steps : goal.parse_text-requires-clause-steps
parse_text-requires-clause-steps c =
    let all = YieldsList-from_vec c.args.texts.items (search rules) (search rules) in
    let turn = YieldsList-turn all c.loop-text.yielded _ c.loop-text.yielded_by _ c.next.new.self c.in-Some.text c.in-Some.is c.next.ensures.steps in
    let lt : length c.loop-text.yielded < length c.args.texts.items = turn.0 in
    omega (arith, lt, c.loop-text.invariant.counted, c.requires.steps)

pub returns-in_err-parse_text-clause-fault : goal.returns-in_err-parse_text-clause-fault
returns-in_err-parse_text-clause-fault c =
    let all = YieldsList-from_vec c.args.texts.items (search rules) (search rules) in
    let p = err_from_is_err_and c.from_residual.result c.from_residual.ensures.1 in
    rw (p.1, p.2)
    (first_error (λ (t : LexedText). file_with c.args.files.now (lexed_text t)) IsGrammarFault c.args.texts.items c.loop-text.yielded c.in-Some.text (files_with c.args.files.now read_text c.loop-text.read.items) _
    (YieldsList-so_far all c.loop-text.yielded _ c.loop-text.yielded_by)
    (YieldsList-turn all c.loop-text.yielded _ c.loop-text.yielded_by _ c.next.new.self c.in-Some.text c.in-Some.is c.next.ensures.steps)
    (files_same c.args.files.now read_text lexed_text c.loop-text.read.items c.loop-text.yielded c.loop-text.invariant.same)
    (none_parsed c.args.files.now c.loop-text.read.items c.loop-text.invariant.read)
    c.in_err-parse_text.ensures.fault)

pub loop-text-preserved : goal.loop-text-preserved
loop-text-preserved c = record {
  same = text_push read_text lexed_text c.loop-text.read.items c.push.new.self.items c.loop-text.yielded c.in_ok-parse_text.field-0 c.in-Some.text c.in_ok-push.ensures.items c.loop-text.invariant.same c.in_ok-parse_text.ensures.same;
  read = all_push (IsParsedText c.args.files.now) c.loop-text.read.items c.push.new.self.items c.in_ok-parse_text.field-0 c.in_ok-push.ensures.items c.loop-text.invariant.read c.in_ok-parse_text.ensures.read;
  counted = omega (arith, c.in_ok-parse_text.ensures.counted, c.loop-text.invariant.counted, length_push c.loop-text.yielded c.in-Some.text);
}
