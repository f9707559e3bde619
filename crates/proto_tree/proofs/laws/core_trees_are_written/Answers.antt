use Rattle.proto_tree.proofs.CoreTrees.{core_trees_are_plain, core_trees_are_written, core_trees_have_no_weak_import, trees_have_tokens}
use Rattle.proto_tree.proofs.laws.core_trees_are_written.Goals as goal

pub returns-clause-plain : goal.returns-clause-plain
returns-clause-plain c = core_trees_are_plain

pub returns-clause-weak : goal.returns-clause-weak
returns-clause-weak c = core_trees_have_no_weak_import

pub returns-clause-tokens : goal.returns-clause-tokens
returns-clause-tokens c = trees_have_tokens

pub returns-clause-written : goal.returns-clause-written
returns-clause-written c = core_trees_are_written
