use Rattle.std.proofs.Common.{◌<◌, List, length, sym, ap, subst, ◌∙◌}
use Rattle.proto_text.proofs.Common.{word_at}
use Rattle.proto_files.proofs.Common.{FileOf, read_at}
use Rattle.proto_edit_rules.specs.DeleteField.{IsFieldWord}
use Rattle.proto_option_values.specs.OptionValues.{IsOptionValue}
use Rattle.proto_edit_statements.proofs.FieldCases.{file_there}
use Rattle.proto_edit_statements.proofs.OptionCases.{asked, free_19, refused_19}
use Rattle.proto_edit_statements.proofs.options.check_values.Goals as goal

pub new-words-requires : goal.new-words-requires
new-words-requires c =
    let files = c.args.linked.now.files in
    let clean = c.files-files.ensures.clean in
    subst (λ (z : List FileOf). c.args.field.file < length z) (sym c.files-files.ensures.files)
    (file_there files clean.reads clean.read c.args.name.now c.args.field (c.requires.field clean.reads clean.read))

pub option_value-requires-clause-file : goal.option_value-requires-clause-file
option_value-requires-clause-file c =
    let clean = c.files-files.ensures.clean in
    file_there c.args.linked.now.files clean.reads clean.read c.args.name.now c.args.field (c.requires.field clean.reads clean.read)

pub returns-in-Some-clause-err : goal.returns-in-Some-clause-err
returns-in-Some-clause-err c =
    let files = c.args.linked.now.files in
    let clean = c.files-files.ensures.clean in
    let reads = clean.reads in
    let are = clean.read in
    let name = c.args.name.now in
    let field = c.args.field in
    let is = c.requires.field reads are in
    let tokens = are.tokens field.file (file_there files reads are name field is) in
    let word = c.get-old.ensures ∙ ap (λ z. word_at z field.token) ((rw c.files-files.ensures.files at c.new-words.ensures.words) (read_at reads field.file).tokens tokens) in
    let found = asked files reads is.0 field.file field.token is.2 c.get-old.result.now word c.in_ok-refusal.field-0 (c.in_ok-refusal.ensures reads are) in
    refused_19 files reads are name c.requires.before is.0 is.1 c.in-Some.refusal (subst (IsOptionValue files reads (IsFieldWord files reads is.0)) c.in-Some.is found)

pub returns-in-None-clause-free : goal.returns-in-None-clause-free
returns-in-None-clause-free c =
    let files = c.args.linked.now.files in
    let clean = c.files-files.ensures.clean in
    let reads = clean.reads in
    let are = clean.read in
    let name = c.args.name.now in
    let field = c.args.field in
    let is = c.requires.field reads are in
    let tokens = are.tokens field.file (file_there files reads are name field is) in
    let word = c.get-old.ensures ∙ ap (λ z. word_at z field.token) ((rw c.files-files.ensures.files at c.new-words.ensures.words) (read_at reads field.file).tokens tokens) in
    let found = asked files reads is.0 field.file field.token is.2 c.get-old.result.now word c.in_ok-refusal.field-0 (c.in_ok-refusal.ensures reads are) in
    free_19 files reads are name clean.clean c.requires.before is.0 is.1 (subst (IsOptionValue files reads (IsFieldWord files reads is.0)) c.in-None.is found)
