use Rattle.std.proofs.Common.{ℕ, List, sym, subst, refl, string_bytes}
use Rattle.proto_base.specs.declared.fault.SchemaFault.{SchemaFault}
use Rattle.proto_files.specs.Common.{FileOf, IsText, IsTextFault, IsFileError, text_error, named_file}
use Rattle.proto_files.proofs.FileErrors.{lex_error, no_text_fault}
use Rattle.proto_files.proofs.reading.lex_file.Goals as goal

pub returns-in-Ok-lex_as-clause-lexed : goal.returns-in-Ok-lex_as-clause-lexed
returns-in-Ok-lex_as-clause-lexed c =
    let new = c.in-Ok.ensures.new in
    let text = subst (λ (bytes : List ℕ). IsText bytes) (sym new.0) (record { short = new.1; utf8 = new.2 }) in
    let file : FileOf = record { path = string_bytes c.args.file.path; bytes = c.in-Ok.source; profile = c.args.file.profile } in
    record {
      tokens_are = c.in-Ok-lex_as.ensures.allowed;
      spans = c.in-Ok-lex_as.ensures.spans;
      no_fault = no_text_fault file c.in-Ok-lex_as.tokens.items text c.in-Ok-lex_as.ensures.allowed;
    }

pub returns-in-Err-lex_as-clause-fault : goal.returns-in-Err-lex_as-clause-fault
returns-in-Err-lex_as-clause-fault c =
    let new = c.in-Ok.ensures.new in
    let path = string_bytes c.args.file.path in
    let text = subst (λ (bytes : List ℕ). IsText bytes) (sym new.0) (record { short = new.1; utf8 = new.2 }) in
    let file : FileOf = record { path = path; bytes = c.in-Ok.source; profile = c.args.file.profile } in
    subst (λ (e : SchemaFault). IsFileError IsTextFault (named_file c.args.file) e) (sym c.text_error-in-Err-lex_as.ensures)
    (subst (λ (bytes : List ℕ). IsFileError IsTextFault (record { path = path; bytes = bytes; profile = c.args.file.profile }) (text_error c.args.file.path c.in-Err-lex_as.fault)) new.0
    (lex_error c.args.file.path file c.in-Err-lex_as.fault refl text c.in-Err-lex_as.ensures.fault c.in-Err-lex_as.ensures.only_fault))
