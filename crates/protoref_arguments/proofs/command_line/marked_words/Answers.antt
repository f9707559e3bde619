use Rattle.std.proofs.Common.{ap, ◌∙◌, sym, subst, ◌++◌}
use Rattle.clap.specs.Walk.{texts}
use Rattle.protoref_arguments.specs.Common.{is_bad_at, marks_for_word, IsWordsFaultOf}
use Rattle.protoref_arguments.proofs.Marking.{fault_here, handed_more, plain_more}
use Rattle.protoref_arguments.proofs.command_line.marked_words.Goals as goal

pub loop-index-preserved : goal.loop-index-preserved
loop-index-preserved c =
    let ws = c.args.words.now in
    let i = c.loop-index.index in
    let w = c.index-words-index.result in
    record {
      handed = handed_more ws i w (texts c.loop-index.marked.items) (texts c.put_marked.new.marked.items) c.loop-index-test.true c.index-words-index.is c.loop-index.invariant.handed
          (c.in_ok-put_marked.ensures.0 ∙ ap (λ v. texts c.loop-index.marked.items ++ marks_for_word i v) c.as_str.ensures.value);
      plain = plain_more ws i w c.loop-index-test.true c.index-words-index.is c.loop-index.invariant.plain (sym (ap (is_bad_at i) c.as_str.ensures.value) ∙ c.in_ok-put_marked.ensures.1);
    }

pub returns-in_err-put_marked : goal.returns-in_err-put_marked
returns-in_err-put_marked c =
    let i = c.loop-index.index in
    let f = c.in_err-put_marked.field-0.0 in
    fault_here _ c.args.words.now i c.index-words-index.result f c.from_residual.result c.loop-index-test.true c.index-words-index.is c.from_residual.ensures.1
    (subst (λ v. IsWordsFaultOf (is_bad_at i v) f) c.as_str.ensures.value c.in_err-put_marked.ensures)
