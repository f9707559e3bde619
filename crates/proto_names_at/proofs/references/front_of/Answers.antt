use Rattle.std.proofs.Common.{map, ap, ◌∙◌}
use Rattle.proto_base.proofs.Common.{none-some, same_Some}
use Rattle.proto_text.specs.Texts.{word_at}
use Rattle.proto_names.specs.Linking.{name_text}
use Rattle.proto_edit_rules.specs.Rename.{dotted_text}
use Rattle.proto_names_at.proofs.WordTurns.{its_end, words_each}
use Rattle.proto_names_at.proofs.references.front_of.Goals as goal

pub returns-in_default : goal.returns-in_default
returns-in_default c = λ text said front. absurd (none-some text (c.in_default.ensures ∙ ap (name_text c.args.link.now) c.symbol.ensures ∙ said))

pub returns : goal.returns
returns c = λ text said front.
    (let word = c.args.word in
    let words = word_at c.args.words.now in
    let same = same_Some c.in-Some.text.now text (c.in-Some.ensures ∙ ap (name_text c.args.link.now) c.symbol.ensures ∙ said) in
    let ends = c.as_str.ensures.value ∙ c.in_ok-end.ensures ∙ ap dotted_text (words_each words word.behind.now) in
    its_end c.in-Some.text.now c.as_str.result.now text (dotted_text (map words (map (λ b. b.item) word.behind.now))) same ends c.before-2.result c.before-2.ensures.some c.before-2.ensures.none front)
