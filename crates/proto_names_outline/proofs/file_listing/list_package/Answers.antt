use Rattle.std.proofs.Common.{◌≡◌, ◌+◌, ℕ, List, [], ◌∷◌, ◌++◌, get_or, map, take, refl, sym, ap, ◌∙◌, arith}
use Rattle.std.proofs.lemmas.List.{map-append, take_more, at_drop_more}
use Rattle.proto_names_rules.specs.declared.kind.Kind.TheVariants.{Package}
use Rattle.proto_names_rules.proofs.Common.{Source, Token, prefixes}
use Rattle.proto_names_outline.proofs.Growing.{adds_as, adds_below, path_below}
use Rattle.proto_names_outline.proofs.file_listing.list_package.Goals as goal

pub loop-word-preserved : goal.loop-word-preserved
loop-word-preserved c =
    let i = c.loop-word.word-index in
    let words = c.args.words.now in
    let word = get_or words i 0 in
    let index = c.in_ok-index.ensures.index in
    let tokens : map (λ t. Token t) (take (i + 1) words) ≡ map (λ t. Token t) (take i words) ++ Token word ∷ [] =
    ap (map (λ t. Token t)) (take_more words i 0 (omega arith)) ∙ map-append (λ t. Token t) (take i words) (word ∷ []) in
    record {
      within = omega (arith, index.1);
      path = path_below (Token word) Package c.in_ok-index.index c.in_ok-index.ensures.adds index.0 ∙ ap (λ (path : List (Source ℕ)). path ++ Token word ∷ []) c.loop-word.invariant.path ∙ sym tokens;
      rest = λ final rest. c.loop-word.invariant.rest final
          (adds_as (adds_below (Token word) Package c.in_ok-index.index c.in_ok-index.ensures.adds index.0 rest) (λ path. sym (at_drop_more (prefixes path) words i 0 (omega arith))) (λ path. refl));
    }
