use Rattle.std.proofs.Common.{ℕ, List, ◌∷◌, ◌++◌, get_or, map, refl, ap, ◌∙◌, arith, string_bytes}
use Rattle.proto_base.proofs.Turns.{all_listed, listed_turn}
use Rattle.proto_text.specs.Texts.{word_at}
use Rattle.proto_tree.specs.declared.tree.Behind.{Behind}
use Rattle.proto_edit_rules.specs.Rename.{dotted_text}
use Rattle.proto_names_at.proofs.references.dotted_text.Goals as goal

abbrev none : Behind ℕ
none = record { separator = 0; item = 0 }

pub loop-word-preserved : goal.loop-word-preserved
loop-word-preserved c =
    let text = word_at c.args.words.now in
    listed_turn (λ bs. dotted_text (map (λ (b : Behind ℕ). text b.item) bs)) (λ (b : Behind ℕ). 46 ∷ text b.item) (λ b bs. refl) c.args.behind.now c.loop-word.word-index (get_or c.args.behind.now c.loop-word.word-index none) none _ _ _ c.loop-word-test.true refl
    (c.in_ok-push_word.ensures ∙ ap (λ (w : List ℕ). string_bytes c.loop-word.text ++ 46 ∷ w) c.get.ensures) c.loop-word.invariant

pub returns : goal.returns
returns c =
    let text = word_at c.args.words.now in
    all_listed (λ bs. dotted_text (map (λ (b : Behind ℕ). text b.item) bs)) refl c.args.behind.now c.loop-word.word-index _ _ (omega arith) c.loop-word.invariant
