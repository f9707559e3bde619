use Rattle.std.proofs.Common.{◌≡◌, ◌↔◌, ◌++◌, ℕ, List, [], Bor, None, Some, get_or, length, map, option_map, sym, ap, subst, ◌∙◌}
use Rattle.std.proofs.lemmas.Result.{IfOk-weaker}
use Rattle.proto_text.proofs.Common.{Lexeme, word_at}
use Rattle.proto_tree.specs.File.{tree_of_file}
use Rattle.proto_files.specs.FilesRead.{AreRead, read_at}
use Rattle.proto_names_outline.specs.Listing.{read}
use Rattle.proto_names_outline.specs.declared.listing.Use.{Use}
use Rattle.proto_names.specs.Linking.{name_text}
use Rattle.proto_edit_rules.specs.Rename.{dotted_text}
use Rattle.proto_names_at.specs.References.{WordOf, word_meant, word_of}
use Rattle.proto_names_at.proofs.ReferredNames.{as_many, no_word, uses_are, word_named}
use Rattle.proto_names_at.proofs.references.name_of_word.Goals as goal

pub word_meant-requires : goal.word_meant-requires
word_meant-requires c =
    let files = c.args.linked.now.files in
    let reads = c.files-files.ensures.clean.reads in
    let are : AreRead files reads = c.files-files.ensures.clean.read in
    let file = c.args.place.file in
    let listing = c.in_ok-listing.listing in
    let uses = c.in_ok-listing.ensures.used ∙ uses_are files reads are file c.requires (tree_of_file c.tree.result.now) ((rw c.files-files.ensures.files at c.tree.ensures) (read_at reads file).tokens (are.tokens file c.requires)) in
    ap length (rw c.link-link.ensures.link at c.meant_in-meant.ensures.exact) ∙ as_many files reads c.args.linked.now.link (c.files-files.ensures.clean.link reads are) file c.requires (read listing.declared.items) listing.used.items uses ∙ sym (ap length c.deref.ensures.value)

pub returns-in-Some : goal.returns-in-Some
returns-in-Some c =
    let made = rw c.link-link.ensures.link at c.front_of.ensures in
    IfOk-weaker c.front_of.result _ _ (λ found h. λ reads are n.
    (let files = c.args.linked.now.files in
    let l = c.args.linked.now.link in
    let file = c.args.place.file in
    let token = c.args.place.token in
    let said = λ (x : Bor (List ℕ)). x.now in
    let listing = c.in_ok-listing.listing in
    let uses = c.in_ok-listing.ensures.used ∙ uses_are files reads are file c.requires (tree_of_file c.tree.result.now) ((rw c.files-files.ensures.files at c.tree.ensures) (read_at reads file).tokens (are.tokens file c.requires)) in
    let x : WordOf = word_of c.in-Some.word in
    let e : word_meant token listing.used.items (get_or l.meant file []) ≡ Some (word_of c.in-Some.word) =
    ap (λ (us : List Use). word_meant token us (get_or l.meant file [])) (sym c.deref.ensures.value)
    ∙ ap (word_meant token c.deref.result.now) (sym (rw c.link-link.ensures.link at c.meant_in-meant.ensures.exact)) ∙ sym c.in-Some.ensures in
    let words = (rw c.files-files.ensures.files at c.new-words.ensures.words) (read_at reads file).tokens (are.tokens file c.requires) in
    word_named files reads are c.files-files.ensures.clean.clean l (c.files-files.ensures.clean.link reads are) file c.requires (read listing.declared.items) token listing.used.items uses x e (option_map said found)
    (subst (λ (ls : List Lexeme). (text : List ℕ) → name_text l x.meant.row ≡ Some text → (front : List ℕ) → (option_map said found ≡ Some front) ↔ (text ≡ front ++ dotted_text (map (word_at ls) x.behind))) words h) n))
    made

pub returns : goal.returns
returns c = λ reads are n.
    (let files = c.args.linked.now.files in
    let l = c.args.linked.now.link in
    let file = c.args.place.file in
    let token = c.args.place.token in
    let listing = c.in_ok-listing.listing in
    let uses = c.in_ok-listing.ensures.used ∙ uses_are files reads are file c.requires (tree_of_file c.tree.result.now) ((rw c.files-files.ensures.files at c.tree.ensures) (read_at reads file).tokens (are.tokens file c.requires)) in
    let e : word_meant token listing.used.items (get_or l.meant file []) ≡ None =
    ap (λ (us : List Use). word_meant token us (get_or l.meant file [])) (sym c.deref.ensures.value)
    ∙ ap (word_meant token c.deref.result.now) (sym (rw c.link-link.ensures.link at c.meant_in-meant.ensures.exact)) ∙ sym c.in-None.ensures in
    no_word files reads are c.files-files.ensures.clean.clean l (c.files-files.ensures.clean.link reads are) file c.requires (read listing.declared.items) token listing.used.items uses e n)
