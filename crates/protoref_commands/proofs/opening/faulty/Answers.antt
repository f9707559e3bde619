use Rattle.proto_files.proofs.Common.{fault_at}
use Rattle.protoref_commands.proofs.Faulted.{least_is_held}
use Rattle.protoref_commands.proofs.Printing.{tells_fault}
use Rattle.protoref_commands.proofs.opening.faulty.Goals as goal

pub fault_answer-requires-clause-listed : goal.fault_answer-requires-clause-listed
fault_answer-requires-clause-listed g c = least_is_held (g.S.Store.holds c.args.store.now) (fault_at c.args.fault.now) c.requires.least

pub returns-clause-told : goal.returns-clause-told
returns-clause-told g c =
    tells_fault (g.S.Store.holds c.args.store.now) (fault_at c.args.fault.now) c.fault_answer.result c.requires.least c.fault_answer.ensures.text c.fault_answer.ensures.status
