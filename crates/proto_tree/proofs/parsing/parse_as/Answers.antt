use Rattle.proto_tree.proofs.OneFault.{parsed_found, parsed_only, parsed_fault, parsed_only_fault}
use Rattle.proto_tree.proofs.parsing.parse_as.Goals as goal

pub returns-clause-found : goal.returns-clause-found
returns-clause-found c = parsed_found c.args.profile c.args.source.now c.args.tokens.now c.read.result c.read.ensures

pub returns-clause-only : goal.returns-clause-only
returns-clause-only c = parsed_only c.args.profile c.args.source.now c.args.tokens.now c.read.result c.read.ensures

pub returns-clause-fault : goal.returns-clause-fault
returns-clause-fault c = parsed_fault c.args.profile c.args.source.now c.args.tokens.now c.read.result c.read.ensures

pub returns-clause-only_fault : goal.returns-clause-only_fault
returns-clause-only_fault c = parsed_only_fault c.args.profile c.args.source.now c.args.tokens.now c.read.result c.read.ensures
