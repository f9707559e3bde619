use Rattle.proto_tree.proofs.OneFault.{one_reading, one_reading_in, one_fault, one_fault_in, no_fault, no_fault_in}
use Rattle.proto_tree.proofs.laws.trees_are_one.Goals as goal

pub returns-clause-tree : goal.returns-clause-tree
returns-clause-tree c = one_reading

pub returns-clause-tree_in : goal.returns-clause-tree_in
returns-clause-tree_in c = one_reading_in

pub returns-clause-fault : goal.returns-clause-fault
returns-clause-fault c = one_fault

pub returns-clause-fault_in : goal.returns-clause-fault_in
returns-clause-fault_in c = one_fault_in

pub returns-clause-no_fault : goal.returns-clause-no_fault
returns-clause-no_fault c = no_fault

pub returns-clause-no_fault_in : goal.returns-clause-no_fault_in
returns-clause-no_fault_in c = no_fault_in
