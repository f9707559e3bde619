use Rattle.proto_names_outline.proofs.declaring.trees.Goals as goal
use Rattle.proto_names_rules.proofs.Tree.{all_stand, all_one_place}
use Rattle.proto_names_rules.proofs.Grown.{tree_nested, tree_woven}

pub returns : goal.returns
returns c = record { stands = all_stand; one_place = all_one_place; nested = tree_nested; woven = tree_woven }
