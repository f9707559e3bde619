use Rattle.std.proofs.Common.{option_map, sym, ap, ◌∙◌, arith, bytes_eq}
use Rattle.proto_text.specs.Texts.{word_at}
use Rattle.proto_tree.specs.declared.tree.Value.{Value}
use Rattle.proto_names_at.proofs.DefaultFields.{find_here, find_none, find_on}
use Rattle.proto_names_at.proofs.values.value_with.Goals as goal

pub loop-value-preserved : goal.loop-value-preserved
loop-value-preserved c =
    c.loop-value.invariant
    ∙ find_on (λ (v : Value). bytes_eq (word_at c.args.words.now v.name) c.args.word.now) (λ v. v.now) c.args.values.now c.loop-value.value-index c.value-item.result c.value-item.result c.loop-value-test.true c.value-item.is
    (ap (λ w. bytes_eq w c.args.word.now) (sym c.get.ensures) ∙ sym c.eq.ensures ∙ c.if-eq.false)

pub returns-then-eq : goal.returns-then-eq
returns-then-eq c =
    ap (option_map (λ (v : Value). v.name)) (sym (c.loop-value.invariant
    ∙ find_here (λ (v : Value). bytes_eq (word_at c.args.words.now v.name) c.args.word.now) (λ v. v.now) c.args.values.now c.loop-value.value-index c.value-item.result c.value-item.result c.loop-value-test.true c.value-item.is
    (ap (λ w. bytes_eq w c.args.word.now) (sym c.get.ensures) ∙ sym c.eq.ensures ∙ c.if-eq.true)))

pub returns : goal.returns
returns c =
    ap (option_map (λ (v : Value). v.name)) (sym (c.loop-value.invariant
    ∙ find_none (λ (v : Value). bytes_eq (word_at c.args.words.now v.name) c.args.word.now) (λ v. v.now) c.args.values.now c.loop-value.value-index (omega arith)))
