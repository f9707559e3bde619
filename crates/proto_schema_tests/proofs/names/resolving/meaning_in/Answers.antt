use Rattle.std.proofs.Common.{ℕ, List, [], ◌∷◌, map, refl, sym, ◌∙◌, ap, subst}
use Rattle.proto_files.specs.GivenFiles.{file_at}
use Rattle.proto_text.specs.Texts.{words, word_at}
use Rattle.proto_tree.specs.declared.tree.Behind.{Behind}
use Rattle.proto_names_rules.specs.Joined.{ArePlain}
use Rattle.proto_schema_tests.proofs.PlainWords.{plain, plain_at, word_is}
use Rattle.proto_schema_tests.proofs.names.resolving.meaning_in.Goals as goal

pub resolve-requires-clause-words : goal.resolve-requires-clause-words
resolve-requires-clause-words c = λ tokens are. (
    let text = (file_at c.args.files.now 0).bytes in
    let mine = c.new-words.ensures.some.0 in
    let foo = 102 ∷ 111 ∷ 111 ∷ [] in
    let read = ap (λ ls. word_at ls 15) (sym c.new-words.ensures.some.2) ∙ sym c.get.ensures ∙ word_is c.get.result.now foo c.if-ne.ensures in
    subst (λ (rest : List (Behind ℕ)). ArePlain (map (words text tokens) (15 ∷ map (λ b. b.item) rest))) (sym c.new.ensures)
    (plain_at text mine tokens c.new-words.ensures.some.1 are 15 foo (plain 102 (111 ∷ 111 ∷ []) refl) read))
