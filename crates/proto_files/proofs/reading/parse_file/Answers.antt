use Rattle.std.proofs.Common.{List, sym, subst, refl}
use Rattle.proto_text.specs.declared.lexer.Token.{Token}
use Rattle.proto_text.proofs.Common.{tokens_of_text}
use Rattle.proto_tree.proofs.Common.{tree_of_file, ReadsIn}
use Rattle.proto_base.specs.declared.fault.SchemaFault.{SchemaFault}
use Rattle.proto_files.specs.Common.{AreFileTokens, IsGrammarFault, IsFileError, lexed_file}
use Rattle.proto_files.proofs.FileErrors.{parse_error, no_grammar_fault}
use Rattle.proto_files.proofs.reading.parse_file.Goals as goal

pub parse_as-requires : goal.parse_as-requires
parse_as-requires c =
    let are = subst (AreFileTokens (lexed_file c.args.file)) (sym c.deref.ensures.value) c.requires.tokens_are in
    tokens_of_text c.args.file.profile c.args.file.source c.deref.result.now are

pub returns-in-Ok-clause-read : goal.returns-in-Ok-clause-read
returns-in-Ok-clause-read c =
    let file = lexed_file c.args.file in
    let are = subst (AreFileTokens file) (sym c.deref.ensures.value) c.requires.tokens_are in
    record {
      spans = c.requires.spans;
      reads = subst (λ (ts : List Token). ReadsIn file.profile file.bytes ts (tree_of_file c.in-Ok.tree)) c.deref.ensures.value c.in-Ok.ensures.found;
      no_text_fault = c.requires.no_fault;
      no_fault = no_grammar_fault file c.deref.result.now are c.in-Ok.ensures.only_fault;
    }

pub returns-in-Err-clause-fault : goal.returns-in-Err-clause-fault
returns-in-Err-clause-fault c =
    let file = lexed_file c.args.file in
    let are = subst (AreFileTokens file) (sym c.deref.ensures.value) c.requires.tokens_are in
    subst (λ (e : SchemaFault). IsFileError IsGrammarFault file e) (sym c.grammar_error.ensures)
    (parse_error c.args.file.path file c.deref.result.now c.in-Err.fault refl are c.in-Err.ensures.fault c.in-Err.ensures.only_fault)
