use Rattle.proto_names_outline.proofs.declaring.file_trees.Goals as goal
use Rattle.proto_names_outline.proofs.FromTree.{tree_grown}

pub returns : goal.returns
returns c = tree_grown
