use Rattle.std.proofs.Common.{◌↔◌, ℕ, ◌<◌, List, IfOk, length, ◌∙◌, ap, subst, arith}
use Rattle.proto_base.proofs.Common.{IfOk-weaker}
use Rattle.proto_edit_rules.specs.Options.{IsOptionWord}
use Rattle.proto_files.specs.FilesRead.{AreRead, ReadOf}
use Rattle.proto_files.specs.GivenFiles.{FileOf}
use Rattle.proto_names.specs.Linking.{LinkOf}
use Rattle.proto_names_imports.specs.Importing.{all_imports}
use Rattle.proto_names_imports.specs.Walks.{IsMarked}
use Rattle.proto_names_rules.specs.Cycles.{Leads}
use Rattle.proto_names_rules.specs.Names.{Import}
use Rattle.proto_option_values.proofs.FirstWord.{first_is, none_of_all}
use Rattle.proto_option_values.proofs.ImportsBack.{link_within}
use Rattle.proto_option_values.proofs.NotedFiles.{noted_by_index}
use Rattle.proto_option_values.specs.FileWords.{IsFirstFrom, file_word}
use Rattle.proto_option_values.specs.Noted.{noted_sets}
use Rattle.proto_option_values.specs.OptionValues.{IsFirstOf, words_asked}
use Rattle.proto_option_values.proofs.first.first_option_word.Goals as goal

pub returns-then-start-len-clause-first : goal.returns-then-start-len-clause-first
returns-then-start-len-clause-first c = λ reads are.
    none_of_all c.args.linked.now.files reads are c.args.file (words_asked c.args.words)
    (λ file lt.
    let before : file < c.in_ok-start.start = omega (arith, lt, c.if-start-len.true, c.len.ensures.len, ap length c.files-files.ensures.files) in
    (rw c.files-files.ensures.files at c.in_ok-start.ensures.none) reads are file before)

pub files_without_word-requires : goal.files_without_word-requires
files_without_word-requires c = noted_by_index c.files-files.result.now c.args.linked.now.files c.args.index.now (noted_sets c.noted_by-noted.result) (words_asked c.args.words) c.files-files.ensures.files c.noted_by-noted.ensures c.requires.index

pub first_from-requires : goal.first_from-requires
first_from-requires c = noted_by_index c.files-files.result.now c.args.linked.now.files c.args.index.now (noted_sets c.noted_by-noted.result) (words_asked c.args.words) c.files-files.ensures.files c.noted_by-noted.ensures c.requires.index

pub leading_to-requires-clause-within : goal.leading_to-requires-clause-within
leading_to-requires-clause-within c =
    let clean = c.files-files.ensures.clean in
    link_within (λ v. v.items) c.args.linked.now.files clean.reads c.args.linked.now.link (clean.link clean.reads clean.read) c.imports.result.now
    (c.imports.ensures ∙ ap (λ (l : LinkOf). l.imports) c.link-link.ensures.link)

pub returns-clause-first : goal.returns-clause-first
returns-clause-first c =
    let files = c.args.linked.now.files in
    let link = c.args.linked.now.link in
    let these = words_asked c.args.words in
    let set = c.in_ok-leading.leading in
    let start = c.in_ok-start.start in
    let r = c.first_from.result in
    let Told = λ (fs : List FileOf) (l : LinkOf). IfOk r (λ first. (reads : List ReadOf) → AreRead fs reads → IsFirstFrom (file_word l set these fs reads) start (length fs) first) in
    let told : Told files link =
    subst (λ (fs : List FileOf). Told fs link) c.files-files.ensures.files (subst (λ (l : LinkOf). Told c.files-files.result.now l) c.link-link.ensures.link c.first_from.ensures) in
    IfOk-weaker r
    (λ first. (reads : List ReadOf) → AreRead files reads → IsFirstFrom (file_word link set these files reads) start (length files) first)
    (λ first. (reads : List ReadOf) → AreRead files reads → IsFirstOf (IsOptionWord files reads c.args.file these) first)
    (λ first is reads are.
    let linked = c.files-files.ensures.clean.link reads are in
    let same = ap (all_imports 0) (c.imports.ensures ∙ ap (λ (l : LinkOf). l.imports) c.link-link.ensures.link) ∙ linked.imports in
    let leading = subst (λ (is : List Import). (from : ℕ) → IsMarked set from ↔ Leads is from c.args.file) same c.in_ok-leading.ensures in
    first_is files reads are c.args.file these link linked set leading start ((rw c.files-files.ensures.files at c.in_ok-start.ensures.none) reads are) first (is reads are))
    told
