use Rattle.std.proofs.Common.{◌≡◌, List, map, ◌∙◌, ap, is_some}
use Rattle.proto_text.proofs.Common.{word_at, Lexeme, lexeme_at}
use Rattle.proto_tree.specs.File.{tree_of_file}
use Rattle.proto_files.proofs.Common.{file_at, ReadOf}
use Rattle.proto_names_rules.specs.Tree.{package_of}
use Rattle.proto_names_outline.specs.FromTree.{items_in}
use Rattle.proto_ast.specs.Parts.{syntax_texts_in}
use Rattle.proto_lint.proofs.HeadLists.{head_same, some_first}
use Rattle.proto_lint.specs.Heads.{first_offset}
use Rattle.proto_lint.proofs.heads.FileHead.of.Goals as goal

pub returns : goal.returns
returns c = λ (reads : List ReadOf) are.
    (let tokens = c.tokens-tokens.result.now in
    let tree = tree_of_file c.tree-tree.result.now in
    let bytes = (file_at c.args.files.now c.args.file).bytes in
    let names = package_of (items_in tree) in
    let words : map (λ w. w.now) c.in_ok-words.words.items ≡ map (word_at (map (lexeme_at bytes) tokens)) names =
    c.in_ok-words.ensures
    ∙ ap (λ (ls : List Lexeme). map (word_at ls) c.deref.result.now) (c.new.ensures.words tokens c.tokens-tokens.ensures.tokens)
    ∙ ap (map (word_at (map (lexeme_at bytes) tokens))) (c.deref.ensures.value ∙ c.in_ok-spelled.ensures) in
    let offset : c.first_offset.result ≡ first_offset tokens names = c.first_offset.ensures ∙ ap (first_offset tokens) (c.deref-3.ensures.value ∙ c.in_ok-spelled.ensures) in
    let syntax = c.is_some.ensures ∙ ap is_some c.syntax_text.ensures ∙ some_first (syntax_texts_in tree) in
    head_same c.args.files.now reads c.args.file tokens tree _ are c.requires c.tokens-tokens.ensures.tokens c.tree-tree.ensures
    (λ i. record { path = c.path.ensures i; words = words i; offset = offset i; has_syntax = syntax i }))
