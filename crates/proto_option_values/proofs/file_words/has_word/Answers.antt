use Rattle.std.proofs.Common.{is_some, sym, ap, ◌∙◌, arith}
use Rattle.proto_base.proofs.Turns.{none_passed, passed_over, stops_here}
use Rattle.proto_custom_options.specs.CustomOptions.{CustomOf, custom_words}
use Rattle.proto_custom_options.specs.Views.{custom_of}
use Rattle.proto_option_values.specs.Words.{asks, least_word}
use Rattle.proto_option_values.proofs.file_words.has_word.Goals as goal

pub loop-option-preserved : goal.loop-option-preserved
loop-option-preserved c =
    let has = λ (o : CustomOf). is_some (least_word (asks c.args.asked.now c.args.words.now) (custom_words o.custom)) in
    sym (passed_over has custom_of c.args.options.now c.loop-option.option-index _ _ c.loop-option-test.true c.option-item.is (sym (c.is_some.ensures ∙ ap is_some c.least_word.ensures) ∙ c.if-is_some.false)) ∙ c.loop-option.invariant

pub returns-then-is_some : goal.returns-then-is_some
returns-then-is_some c =
    let has = λ (o : CustomOf). is_some (least_word (asks c.args.asked.now c.args.words.now) (custom_words o.custom)) in
    sym (stops_here has custom_of c.args.options.now c.loop-option.option-index _ _ c.loop-option-test.true c.option-item.is (sym (c.is_some.ensures ∙ ap is_some c.least_word.ensures) ∙ c.if-is_some.true)) ∙ c.loop-option.invariant

pub returns : goal.returns
returns c =
    let has = λ (o : CustomOf). is_some (least_word (asks c.args.asked.now c.args.words.now) (custom_words o.custom)) in
    sym (none_passed has custom_of c.args.options.now c.loop-option.option-index (omega arith)) ∙ c.loop-option.invariant
