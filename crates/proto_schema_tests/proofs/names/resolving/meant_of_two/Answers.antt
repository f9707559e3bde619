use Rattle.std.proofs.Common.{ℕ, List, [], ◌∷◌, ◌++◌, map, refl, sym, ◌∙◌, ap, subst}
use Rattle.proto_files.specs.GivenFiles.{file_at}
use Rattle.proto_text.specs.Texts.{words, word_at}
use Rattle.proto_tree.specs.declared.tree.Behind.{Behind}
use Rattle.proto_names_rules.specs.Joined.{ArePlain}
use Rattle.proto_schema_tests.proofs.PlainWords.{plain, plain_at, word_is}
use Rattle.proto_schema_tests.proofs.names.resolving.meant_of_two.Goals as goal

pub resolve-requires-clause-words : goal.resolve-requires-clause-words
resolve-requires-clause-words c = λ tokens are. (
    let text = (file_at c.args.files.now 1).bytes in
    let mine = c.new-words.ensures.some.0 in
    let same = c.new-words.ensures.some.1 in
    let outer = 98 ∷ [] in
    let inner = 88 ∷ [] in
    let read_outer = ap (λ ls. word_at ls 17) (sym c.new-words.ensures.some.2) ∙ sym c.get.ensures ∙ word_is c.get.result.now outer c.if-ne.ensures in
    let read_inner = ap (λ ls. word_at ls 19) (sym c.new-words.ensures.some.2) ∙ sym c.get-2.ensures ∙ word_is c.get-2.result.now inner c.if-ne-2.ensures in
    let one = c.in_ok-push.ensures.grown ∙ ap (λ (rest : List (Behind ℕ)). rest ++ record { separator = 18; item = 19 } ∷ []) c.new-rest.ensures in
    subst (λ (rest : List (Behind ℕ)). ArePlain (map (words text tokens) (17 ∷ map (λ b. b.item) rest))) (sym one)
    ((plain_at text mine tokens same are 17 outer (plain 98 [] refl) read_outer).0, plain_at text mine tokens same are 19 inner (plain 88 [] refl) read_inner))
