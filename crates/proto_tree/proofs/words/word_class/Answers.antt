use Rattle.std.proofs.Common.{◌∙◌}
use Rattle.proto_tree.specs.declared.class.Class.TheVariants as class
use Rattle.proto_tree.specs.Words.{listed}
use Rattle.proto_tree.proofs.Table.{by_length}
use Rattle.proto_tree.proofs.words.word_class.Goals as goal

pub returns-in-2 : goal.returns-in-2
returns-in-2 c = c.of_two.ensures ∙ by_length listed class.Name c.args.text.now 2 c.in-2.is

pub returns-in-3 : goal.returns-in-3
returns-in-3 c = c.of_three.ensures ∙ by_length listed class.Name c.args.text.now 3 c.in-3.is

pub returns-in-4 : goal.returns-in-4
returns-in-4 c = c.of_four.ensures ∙ by_length listed class.Name c.args.text.now 4 c.in-4.is

pub returns-in-5 : goal.returns-in-5
returns-in-5 c = c.of_five.ensures ∙ by_length listed class.Name c.args.text.now 5 c.in-5.is

pub returns-in-6 : goal.returns-in-6
returns-in-6 c = c.of_six.ensures ∙ by_length listed class.Name c.args.text.now 6 c.in-6.is

pub returns-in-7 : goal.returns-in-7
returns-in-7 c = c.of_seven.ensures ∙ by_length listed class.Name c.args.text.now 7 c.in-7.is

pub returns-in-8 : goal.returns-in-8
returns-in-8 c = c.of_eight.ensures ∙ by_length listed class.Name c.args.text.now 8 c.in-8.is

pub returns-in-10 : goal.returns-in-10
returns-in-10 c = c.of_ten.ensures ∙ by_length listed class.Name c.args.text.now 10 c.in-10.is
