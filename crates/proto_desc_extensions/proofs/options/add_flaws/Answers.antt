use Rattle.std.proofs.Common.{◌++◌, List, not, map, ap, ◌∙◌, arith, take_all, append-nil, sym}
use Rattle.proto_custom_options.specs.Views.{custom_of}
use Rattle.proto_custom_options.specs.declared.custom_options.CustomAt.{CustomAt}
use Rattle.proto_desc_extensions.specs.Common.{not_an_option}
use Rattle.proto_desc_extensions.proofs.Extendees.{first_is}
use Rattle.proto_desc_extensions.proofs.OptionFlaws.{of_one_word, option_turn}
use Rattle.proto_desc_extensions.proofs.options.add_flaws.Goals as goal

pub loop-option-init : goal.loop-option-init
loop-option-init c = record {
  rows = c.requires.rows;
  flaws = λ reads are all. sym (append-nil c.args.found.now.items);
}

pub loop-option-preserved : goal.loop-option-preserved
loop-option-preserved c = record {
  rows = c.in_ok-is_wrong.ensures.rows;
  flaws = λ reads are all.
      (let files = c.args.at.now.linked.now.files in
      let file = c.args.at.now.file in
      let options = c.args.options.now in
      let i = c.loop-option.option-index in
      let d = c.option-item.result in
      let one = of_one_word files reads file options i d c.loop-option-test.true c.option-item.is all in
      let r = d.custom.now.name in
      option_turn files reads file options i d c.loop-option-test.true c.option-item.is _ c.unwrap_or-first.result c.args.found.now.items c.loop-option.found.items _
      (ap not (c.in_ok-is_wrong.ensures.is reads are one)) (c.unwrap_or-first.ensures ∙ first_is r.dot r.words)
      (c.loop-option.invariant.flaws reads are all) c.in_ok-add_if.ensures);
}

pub returns-clause-flaws : goal.returns-clause-flaws
returns-clause-flaws c = λ reads are all.
    (let options = c.args.options.now in
    c.loop-option.invariant.flaws reads are all
    ∙ ap (λ (os : List CustomAt). c.args.found.now.items ++ not_an_option c.args.at.now.linked.now.files reads c.args.at.now.file (map custom_of os))
    (take_all c.loop-option.option-index options (omega (arith, c.loop-option-test.false))))
