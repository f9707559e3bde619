use Rattle.std.proofs.Common.{map, ◌∙◌, ap}
use Rattle.proto_base.proofs.Common.{map_push}
use Rattle.proto_files.specs.Faults.{fault_at}
use Rattle.proto_all_faults.proofs.found.add_error.Goals as goal

pub returns-in_ok-push-in-Schema : goal.returns-in_ok-push-in-Schema
returns-in_ok-push-in-Schema c = (c.in-Schema.fault, c.in-Schema.is, ap (map fault_at) c.in_ok-push-in-Schema.ensures.items ∙ map_push fault_at c.args.found.now.items c.in-Schema.fault)
