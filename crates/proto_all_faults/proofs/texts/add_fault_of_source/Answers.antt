use Rattle.std.proofs.Common.{List, map, sym, subst}
use Rattle.std.proofs.lemmas.Result.{on_ok_weaker}
use Rattle.proto_text.specs.declared.lexer.Token.{Token}
use Rattle.proto_files.specs.Common.{AreFileTokens, FileOf, IsFileError, IsGrammarFault, fault_at}
use Rattle.proto_files.proofs.FileErrors.{no_grammar_fault, parse_error}
use Rattle.proto_all_faults.proofs.TextLists.{added_none, added_one}
use Rattle.proto_all_faults.proofs.texts.add_fault_of_source.Goals as goal

pub returns-in-Ok-parse_as : goal.returns-in-Ok-parse_as
returns-in-Ok-parse_as c =
    let file : FileOf = record { path = c.args.path.now; bytes = c.args.source.now; profile = c.args.profile } in
    let are = subst (λ (ts : List Token). AreFileTokens file ts) (sym c.deref.ensures.value) c.in-Ok.ensures.allowed in
    added_none IsGrammarFault file (map fault_at c.args.found.now.items)
    (no_grammar_fault file c.deref.result.now are c.in-Ok-parse_as.ensures.only_fault)

pub returns : goal.returns
returns c =
    let file : FileOf = record { path = c.args.path.now; bytes = c.args.source.now; profile = c.args.profile } in
    let are = subst (λ (ts : List Token). AreFileTokens file ts) (sym c.deref.ensures.value) c.in-Ok.ensures.allowed in
    on_ok_weaker c.add_error.result
    (λ is. added_one IsGrammarFault file c.grammar_error.result (map fault_at c.args.found.now.items) (map fault_at c.add_error.new.found.items)
    (subst (IsFileError IsGrammarFault file) (sym c.grammar_error.ensures) (parse_error c.in_ok-path-in-Err.path file c.deref.result.now c.in-Err.fault c.in_ok-path-in-Err.ensures.ok are c.in-Err.ensures.fault c.in-Err.ensures.only_fault)) is) c.add_error.ensures
