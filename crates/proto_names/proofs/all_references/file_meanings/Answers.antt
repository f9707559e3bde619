use Rattle.std.proofs.Common.{◌≡◌, List, map, refl, sym, ◌∙◌, ap, subst, All}
use Rattle.std.proofs.lemmas.Result.{IfOk-weaker, IfErr-weaker}
use Rattle.proto_text.proofs.Common.{one_token_list, word_at, Lexeme, lexeme_at}
use Rattle.proto_files.specs.GivenFiles.{file_at}
use Rattle.proto_names_update.specs.NamesOfFiles.{declared_names}
use Rattle.proto_tree.specs.References.{dotted}
use Rattle.proto_names_rules.specs.Joined.{ArePlain}
use Rattle.proto_names_imports.specs.Links.{names_of_files}
use Rattle.proto_names_outline.specs.declared.listing.Use.{Use}
use Rattle.proto_names.proofs.FileMeanings.{words_plain, listed_meant, listed_error}
use Rattle.proto_names.proofs.all_references.file_meanings.Goals as goal

pub meanings-requires-clause-plain : goal.meanings-requires-clause-plain
meanings-requires-clause-plain c =
    let bytes = (file_at c.args.files.now c.args.lookup.now.file).bytes in
    let r = c.requires.listing.0 in
    let reads = c.requires.listing.1 in
    let tokens = one_token_list bytes r.tokens c.new-words.ensures.some.0 reads.tokens_are c.new-words.ensures.some.1 in
    let words : map (lexeme_at bytes) r.tokens ≡ c.new-words.result = ap (map (lexeme_at bytes)) tokens ∙ sym c.new-words.ensures.some.2 in
    subst (λ (us : List Use). All (λ u. ArePlain (map (word_at c.new-words.result) (dotted u.reference.now.words))) us) (sym c.deref.ensures.value)
    (subst (λ (ls : List Lexeme). All (λ u. ArePlain (map (word_at ls) (dotted u.reference.now.words))) c.args.listing.now.used.items) words
    (words_plain (file_at c.args.files.now c.args.lookup.now.file).profile bytes r c.args.listing.now reads c.requires.listing.2))

pub returns-clause-meant : goal.returns-clause-meant
returns-clause-meant c =
    IfOk-weaker c.meanings.result _ _ (λ ms h reads are linked.
    listed_meant c.args.files.now reads are c.args.lookup.now.file c.requires.file c.requires.listing.0 c.requires.listing.1 c.args.listing.now c.requires.listing.2 (file_at c.args.files.now c.args.lookup.now.file).bytes c.new-words.ensures.some.0 refl c.new-words.ensures.some.1
    c.new-words.result c.new-words.ensures.some.2 c.args.lookup.now.table.now c.deref.result.now ms.items c.deref.ensures.value (h (names_of_files c.args.files.now reads) (declared_names c.args.files.now reads c.args.lookup.now.file) linked))
    c.meanings.ensures.meant

pub returns-clause-fault : goal.returns-clause-fault
returns-clause-fault c =
    IfErr-weaker c.meanings.result _ _ (λ e h reads are linked.
    listed_error c.args.files.now reads are c.args.lookup.now.file c.requires.file c.requires.listing.0 c.requires.listing.1 c.args.listing.now c.requires.listing.2 (file_at c.args.files.now c.args.lookup.now.file).bytes c.new-words.ensures.some.0 refl c.new-words.ensures.some.1
    c.new-words.result c.new-words.ensures.some.2 c.deref.result.now e c.deref.ensures.value (h (names_of_files c.args.files.now reads) (declared_names c.args.files.now reads c.args.lookup.now.file) linked))
    c.meanings.ensures.fault
