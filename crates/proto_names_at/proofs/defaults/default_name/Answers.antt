use Rattle.std.proofs.Common.{ℕ, List, Bor, option_map, sym, ap, ◌∙◌}
use Rattle.std.proofs.lemmas.Result.{IfOk-weaker}
use Rattle.proto_text.proofs.Common.{Lexeme, word_at}
use Rattle.proto_tree.specs.declared.tree.FieldType.{FieldType}
use Rattle.proto_files.specs.FilesRead.{read_at}
use Rattle.proto_names.specs.Linking.{SymbolId}
use Rattle.proto_names_at.proofs.DefaultNames.{with_type, without_field, without_type}
use Rattle.proto_names_at.proofs.defaults.default_name.Goals as goal

pub returns-in_default : goal.returns-in_default
returns-in_default c = λ reads are name.
    without_field c.args.linked.now.files reads are c.files-files.ensures.clean.clean c.args.linked.now.link (c.files-files.ensures.clean.link reads are) c.args.place.file c.requires c.args.place.token
    (sym (ap (option_map (λ (x : Bor FieldType). x.now)) c.in_default.is) ∙ (rw c.files-files.ensures.files at c.in_ok-kind.ensures) reads are) name

pub returns-in_default-type_meant : goal.returns-in_default-type_meant
returns-in_default-type_meant c = λ reads are name.
    without_type c.args.linked.now.files reads are c.files-files.ensures.clean.clean c.args.linked.now.link (c.files-files.ensures.clean.link reads are) c.args.place.file c.requires c.args.place.token
    c.in-Some.kind.now (sym (ap (option_map (λ (x : Bor FieldType). x.now)) c.in-Some.is) ∙ (rw c.files-files.ensures.files at c.in_ok-kind.ensures) reads are)
    (sym (ap (option_map (λ (i : SymbolId). i.row)) c.in_default-type_meant.is) ∙ (rw c.link.ensures.link at c.type_meant.ensures)) name

pub returns : goal.returns
returns c = IfOk-weaker c.value_name.result _ _ (λ found h. λ reads are name.
    with_type c.args.linked.now.files reads are c.files-files.ensures.clean.clean c.args.linked.now.link (c.files-files.ensures.clean.link reads are) c.args.place.file c.requires c.args.place.token
    c.in-Some.kind.now (sym (ap (option_map (λ (x : Bor FieldType). x.now)) c.in-Some.is) ∙ (rw c.files-files.ensures.files at c.in_ok-kind.ensures) reads are)
    c.in-Some-type_meant.id.row (sym (ap (option_map (λ (i : SymbolId). i.row)) c.in-Some-type_meant.is) ∙ (rw c.link.ensures.link at c.type_meant.ensures))
    c.get-word.result.now (c.get-word.ensures ∙ ap (λ (ls : List Lexeme). word_at ls c.args.place.token) ((rw c.files-files.ensures.files at c.new.ensures.words) (read_at reads c.args.place.file).tokens (are.tokens c.args.place.file c.requires)))
    (option_map (λ (x : Bor (List ℕ)). x.now) found) (h reads are) name) c.value_name.ensures
