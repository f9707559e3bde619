use Rattle.proto_tree.specs.declared.class.Expected.TheVariants as want
use Rattle.proto_tree.specs.Reading.{token}
use Rattle.proto_tree.proofs.Many.{IsSoFar}
use Rattle.proto_tree.proofs.options.more_texts.Given as goal

abbrev pub invariant-loop : goal.invariant-loop
invariant-loop l = IsSoFar want.Text (token want.Text) l.tokens l.items l.counter l.rest
