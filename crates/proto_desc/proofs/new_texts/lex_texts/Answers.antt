use Rattle.std.proofs.Common.{◌<◌, length, rules}
use Rattle.proto_base.proofs.Common.{YieldsList-from_vec, YieldsList-so_far, YieldsList-turn, err_from_is_err_and}
use Rattle.proto_files.proofs.Common.{IsTextFault}
use Rattle.proto_files.proofs.FirstErrors.{all_push, first_error, given_at}
use Rattle.proto_desc.specs.NewTexts.{IsLexedText, file_with, given_text, lexed_text}
use Rattle.proto_desc.specs.declared.texts.GivenText.{GivenText}
use Rattle.proto_desc.proofs.ReadTexts.{files_same, files_with, none_lexed, text_push}
use Rattle.proto_desc.proofs.new_texts.lex_texts.Goals as goal

pub lex_text-requires : goal.lex_text-requires
lex_text-requires c =
    let all = YieldsList-from_vec c.args.texts.items (search rules) (search rules) in
    given_at (λ (t : GivenText). t.place < length c.args.files.now) c.args.texts.items (length c.loop-text.yielded) c.in-Some.text c.requires
    (YieldsList-turn all c.loop-text.yielded _ c.loop-text.yielded_by _ c.next.new.self c.in-Some.text c.in-Some.is c.next.ensures.steps)

pub returns-in_err-lex_text-clause-fault : goal.returns-in_err-lex_text-clause-fault
returns-in_err-lex_text-clause-fault c =
    let all = YieldsList-from_vec c.args.texts.items (search rules) (search rules) in
    let p = err_from_is_err_and c.from_residual.result c.from_residual.ensures.1 in
    rw (p.1, p.2)
    (first_error (λ (t : GivenText). file_with c.args.files.now (given_text t)) IsTextFault c.args.texts.items c.loop-text.yielded c.in-Some.text (files_with c.args.files.now lexed_text c.loop-text.lexed.items) _
    (YieldsList-so_far all c.loop-text.yielded _ c.loop-text.yielded_by)
    (YieldsList-turn all c.loop-text.yielded _ c.loop-text.yielded_by _ c.next.new.self c.in-Some.text c.in-Some.is c.next.ensures.steps)
    (files_same c.args.files.now lexed_text given_text c.loop-text.lexed.items c.loop-text.yielded c.loop-text.invariant.0)
    (none_lexed c.args.files.now c.loop-text.lexed.items c.loop-text.invariant.1)
    c.in_err-lex_text.ensures.fault)

pub loop-text-preserved : goal.loop-text-preserved
loop-text-preserved c = (
  text_push lexed_text given_text c.loop-text.lexed.items c.push.new.self.items c.loop-text.yielded c.in_ok-lex_text.field-0 c.in-Some.text c.in_ok-push.ensures.items c.loop-text.invariant.0 c.in_ok-lex_text.ensures.same,
  all_push (IsLexedText c.args.files.now) c.loop-text.lexed.items c.push.new.self.items c.in_ok-lex_text.field-0 c.in_ok-push.ensures.items c.loop-text.invariant.1 c.in_ok-lex_text.ensures.lexed,
)
