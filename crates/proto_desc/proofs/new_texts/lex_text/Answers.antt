use Rattle.std.proofs.Common.{ℕ, List, sym, subst, ◌∙◌}
use Rattle.proto_base.specs.declared.fault.SchemaFault.{SchemaFault}
use Rattle.proto_base.specs.declared.profile.Profile.{Profile}
use Rattle.proto_text.proofs.Common.{AreTokensIn, IsLexErrorIn}
use Rattle.proto_files.proofs.Common.{FileOf, IsText, IsTextFault, file_at}
use Rattle.proto_files.proofs.FileErrors.{IsOnlyLexFault, lex_error, no_text_fault}
use Rattle.proto_files.specs.Reading.{IsFileError, text_error}
use Rattle.proto_desc.specs.NewTexts.{file_with, given_text}
use Rattle.proto_desc.proofs.new_texts.lex_text.Goals as goal

pub returns-in-Ok-lex_as-clause-lexed : goal.returns-in-Ok-lex_as-clause-lexed
returns-in-Ok-lex_as-clause-lexed c =
    let new = c.in-Ok.ensures.new in
    let was : FileOf = file_at c.args.files.now c.args.text.place in
    let text = subst IsText (sym new.0) (record { short = new.1; utf8 = new.2 }) in
    let are = subst (λ (p : Profile). AreTokensIn p c.in-Ok.source c.in-Ok-lex_as.tokens.items) c.profile.ensures c.in-Ok-lex_as.ensures.allowed in
    record { tokens_are = are; no_fault = no_text_fault (record was { bytes = c.in-Ok.source }) c.in-Ok-lex_as.tokens.items text are }

pub returns-in-Err-lex_as-clause-fault : goal.returns-in-Err-lex_as-clause-fault
returns-in-Err-lex_as-clause-fault c =
    let new = c.in-Ok.ensures.new in
    let was : FileOf = file_at c.args.files.now c.args.text.place in
    let file : FileOf = record was { bytes = c.in-Ok.source } in
    let text = subst IsText (sym new.0) (record { short = new.1; utf8 = new.2 }) in
    let fault = subst (λ (p : Profile). IsLexErrorIn p c.in-Ok.source c.in-Err-lex_as.fault) c.profile.ensures c.in-Err-lex_as.ensures.fault in
    let only = subst (λ (p : Profile). IsOnlyLexFault (record file { profile = p }) c.in-Err-lex_as.fault) c.profile.ensures c.in-Err-lex_as.ensures.only_fault in
    subst (λ (e : SchemaFault). IsFileError IsTextFault (file_with c.args.files.now (given_text c.args.text)) e) (sym c.text_error-in-Err-lex_as.ensures)
    (subst (λ (bytes : List ℕ). IsFileError IsTextFault (record was { bytes = bytes }) (text_error c.in_ok-path.path c.in-Err-lex_as.fault)) new.0
    (lex_error c.in_ok-path.path file c.in-Err-lex_as.fault (c.in_ok-path.ensures.ok ∙ c.path.ensures) text fault only))
