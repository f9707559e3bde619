use Rattle.std.proofs.Common.{◌≡◌, List, map, sym, ◌∙◌, ap, subst, All}
use Rattle.std.proofs.lemmas.Result.{on_ok_weaker}
use Rattle.proto_text.proofs.Common.{Lexeme, lexeme_at, one_token_list, word_at}
use Rattle.proto_files.specs.GivenFiles.{file_at}
use Rattle.proto_tree.specs.References.{dotted}
use Rattle.proto_names_outline.specs.declared.listing.Use.{Use}
use Rattle.proto_names_imports.specs.Links.{names_of_files}
use Rattle.proto_names_rules.specs.Joined.{ArePlain}
use Rattle.proto_names_update.specs.NamesOfFiles.{declared_names}
use Rattle.proto_names_faults.proofs.FileFaults.{listed_added, words_plain}
use Rattle.proto_names_faults.proofs.references.add_file_flaws.Goals as goal

pub add_use_flaws-requires-clause-plain : goal.add_use_flaws-requires-clause-plain
add_use_flaws-requires-clause-plain c =
    let bytes = (file_at c.args.files.now c.args.lookup.now.file).bytes in
    let r = c.requires.listing.0 in
    let reads = c.requires.listing.1 in
    let tokens = one_token_list bytes r.tokens c.new-words.ensures.some.0 reads.tokens_are c.new-words.ensures.some.1 in
    let words : map (lexeme_at bytes) r.tokens ≡ c.new-words.result = ap (map (lexeme_at bytes)) tokens ∙ sym c.new-words.ensures.some.2 in
    subst (λ (us : List Use). All (λ u. ArePlain (map (word_at c.new-words.result) (dotted u.reference.now.words))) us) (sym c.deref.ensures.value)
    (subst (λ (ls : List Lexeme). All (λ u. ArePlain (map (word_at ls) (dotted u.reference.now.words))) c.args.listing.now.used.items) words
    (words_plain (file_at c.args.files.now c.args.lookup.now.file).profile bytes r c.args.listing.now reads c.requires.listing.2))

pub returns : goal.returns
returns c =
    let files = c.args.files.now in
    let file = c.args.lookup.now.file in
    let listing = c.args.listing.now in
    on_ok_weaker c.add_use_flaws.result
    (λ h reads are linked.
    listed_added files reads are file c.requires.file c.requires.listing.0 c.requires.listing.1 listing c.requires.listing.2 c.new-words.ensures.some.0 c.new-words.ensures.some.1 c.new-words.result c.new-words.ensures.some.2
    c.deref.result.now c.deref.ensures.value c.args.found.now.items c.add_use_flaws.new.found.items (h (names_of_files files reads) (declared_names files reads file) linked))
    c.add_use_flaws.ensures
