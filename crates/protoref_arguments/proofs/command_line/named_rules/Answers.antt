use Rattle.std.proofs.Common.{refl}
use Rattle.protoref_arguments.proofs.Naming.{chosen_more, known_more, unknown}
use Rattle.protoref_arguments.proofs.command_line.named_rules.Goals as goal

pub loop-name-preserved : goal.loop-name-preserved
loop-name-preserved c = record {
  known = known_more c.args.names.now c.loop-name.name-index _ c.in-Some.rule c.loop-name-test.true c.in-Some.ensures c.loop-name.invariant.known;
  chosen = chosen_more c.args.names.now c.loop-name.name-index _ c.in-Some.rule c.loop-name.rules.chosen c.insert.new.self.chosen c.loop-name-test.true c.in-Some.ensures c.insert.ensures.chosen
      c.insert.ensures.others c.loop-name.invariant.chosen;
}

pub returns-in-None : goal.returns-in-None
returns-in-None c = (refl, unknown c.args.names.now c.loop-name.name-index _ c.loop-name-test.true c.in-None.ensures)
