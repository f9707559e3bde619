use Rattle.std.proofs.Common.{List, sym, subst, ◌∙◌}
use Rattle.proto_base.specs.declared.fault.SchemaFault.{SchemaFault}
use Rattle.proto_base.specs.declared.profile.Profile.{Profile}
use Rattle.proto_text.proofs.Common.{tokens_of_text}
use Rattle.proto_text.specs.declared.lexer.Token.{Token}
use Rattle.proto_tree.proofs.Common.{ReadsIn, tree_of_file}
use Rattle.proto_tree.specs.Reads.{IsParseFaultIn, is_fault_or_memory_in}
use Rattle.proto_files.proofs.Common.{FileOf, IsGrammarFault}
use Rattle.proto_files.proofs.FileErrors.{IsOnlyParseFault, no_grammar_fault, parse_error}
use Rattle.proto_files.specs.ReadFaults.{AreFileTokens}
use Rattle.proto_files.specs.Reading.{IsFileError}
use Rattle.proto_desc.specs.NewTexts.{file_with, lexed_text}
use Rattle.proto_desc.proofs.new_texts.parse_text.Goals as goal

pub parse_counted_as-requires-clause-tokens : goal.parse_counted_as-requires-clause-tokens
parse_counted_as-requires-clause-tokens c =
    let file : FileOf = file_with c.args.files.now (lexed_text c.args.text) in
    let are = subst (AreFileTokens file) (sym c.deref.ensures.value) c.requires.lexed.tokens_are in
    tokens_of_text file.profile c.args.text.source c.deref.result.now are

pub returns-in-Ok-clause-read : goal.returns-in-Ok-clause-read
returns-in-Ok-clause-read c =
    let file : FileOf = file_with c.args.files.now (lexed_text c.args.text) in
    let are = subst (AreFileTokens file) (sym c.deref.ensures.value) c.requires.lexed.tokens_are in
    let reads = subst (λ (p : Profile). ReadsIn p c.args.text.source c.deref.result.now (tree_of_file c.in-Ok.tree)) c.profile.ensures c.in-Ok.ensures.found in
    let only = c.in-Ok.ensures.only_fault in
    record {
      reads = subst (λ (ts : List Token). ReadsIn file.profile c.args.text.source ts (tree_of_file c.in-Ok.tree)) c.deref.ensures.value reads;
      no_fault = no_grammar_fault file c.deref.result.now are (λ fault is. only fault (subst (λ (p : Profile). IsParseFaultIn p c.args.text.source c.deref.result.now fault) (sym c.profile.ensures) is));
    }

pub returns-in-Err-clause-fault : goal.returns-in-Err-clause-fault
returns-in-Err-clause-fault c =
    let file : FileOf = file_with c.args.files.now (lexed_text c.args.text) in
    let are = subst (AreFileTokens file) (sym c.deref.ensures.value) c.requires.lexed.tokens_are in
    let fault = subst (λ (p : Profile). is_fault_or_memory_in p c.args.text.source c.deref.result.now c.in-Err.fault) c.profile.ensures c.in-Err.ensures.fault in
    let only = subst (λ (p : Profile). IsOnlyParseFault (record file { profile = p }) c.deref.result.now c.in-Err.fault) c.profile.ensures c.in-Err.ensures.only_fault in
    subst (λ (e : SchemaFault). IsFileError IsGrammarFault file e) (sym c.grammar_error.ensures)
    (parse_error c.in_ok-path.path file c.deref.result.now c.in-Err.fault (c.in_ok-path.ensures.ok ∙ c.path.ensures) are fault only)
