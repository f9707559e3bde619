use Rattle.protoref_commands.proofs.OneRun.{runs_are_one}
use Rattle.protoref_commands.proofs.laws.runs_are_one.Goals as goal

pub returns : goal.returns
returns c =
    runs_are_one c.journals_are_read_in_one_way.ensures c.answers_are_one.ensures.commits c.answers_are_one.ensures.undos c.recoveries_are_one.ensures c.migrations_are_one.ensures
