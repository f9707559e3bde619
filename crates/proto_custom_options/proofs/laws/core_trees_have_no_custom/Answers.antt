use Rattle.proto_custom_options.proofs.laws.core_trees_have_no_custom.Goals as goal
use Rattle.proto_custom_options.proofs.CoreCustoms.{core_trees_have_no_custom}

pub returns : goal.returns
returns c = core_trees_have_no_custom
