use Rattle.std.proofs.Common.{ℕ, List, map, sym, ◌∙◌, ap, subst, All}
use Rattle.proto_text.proofs.Common.{IsString, word_at, Lexeme, lexeme_at}
use Rattle.proto_tree.specs.File.{tree_of_file}
use Rattle.proto_files.proofs.Common.{file_at, ReadOf, read_at, AreWordsAt, same_tree, same_words}
use Rattle.proto_names_outline.proofs.Common.{imports_in, wanted_of}
use Rattle.proto_names_outline.specs.declared.wanted.Wanted.{Wanted}
use Rattle.proto_names_update.proofs.FileLists.{strings_at}
use Rattle.proto_lint.specs.ImportTables.{public_targets}
use Rattle.proto_lint.proofs.imports.public_of.Goals as goal

pub public_targets-requires : goal.public_targets-requires
public_targets-requires c =
    let f : AreWordsAt c.args.files.now c.args.file c.new-words.ensures.some.0 c.new-words.result = record {
      within = c.requires;
      tokens_are = c.new-words.ensures.some.1;
      words = c.new-words.ensures.some.2;
    } in
    subst (λ (ws : List Wanted). All (λ w. IsString (word_at c.new-words.result w.path)) ws) (sym c.deref.ensures.value)
    (strings_at c.args.files.now c.args.file c.new-words.ensures.some.0 c.new-words.result f (tree_of_file c.tree.result.now) c.tree.ensures c.in_ok-wanted.wanted.items c.in_ok-wanted.ensures)

pub returns : goal.returns
returns c = λ (paths : List (List ℕ)) index (reads : List ReadOf) are.
    (let files = c.args.files.now in
    let file = c.args.file in
    let tokens = c.new-words.ensures.some.0 in
    let tree = tree_of_file c.tree.result.now in
    let f : AreWordsAt files file tokens c.new-words.result = record {
      within = c.requires;
      tokens_are = c.new-words.ensures.some.1;
      words = c.new-words.ensures.some.2;
    } in
    c.in_ok-public.ensures paths index
    ∙ ap (λ (ls : List Lexeme). public_targets paths (word_at ls) (map wanted_of c.deref.result.now)) (same_words files reads file tokens c.new-words.result are f)
    ∙ ap (public_targets paths (word_at (map (lexeme_at (file_at files file).bytes) (read_at reads file).tokens))) (ap (map wanted_of) c.deref.ensures.value ∙ c.in_ok-wanted.ensures ∙ ap imports_in (sym (same_tree files reads file tree are c.requires c.tree.ensures))))
