use Rattle.proto_files.proofs.Common.{read_at}
use Rattle.proto_all_faults.proofs.checks.fault_of.Goals as goal

pub returns-in-Schema : goal.returns-in-Schema
returns-in-Schema c = λ reads are. λ i. record { path = c.in-Schema.ensures.path i; offset = c.in-Schema.ensures.offset (read_at reads c.args.file).tokens (are.tokens c.args.file c.requires) i; kind = c.in-Schema.ensures.kind_is i }
