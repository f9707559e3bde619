use Rattle.std.proofs.Common.{[]}
use Rattle.protoref_output.specs.EditLines.{refused_line}
use Rattle.protoref_commands.proofs.Tellings.{no_refusal, told_alone}
use Rattle.protoref_commands.proofs.telling.fault_answer.Goals as goal

pub returns-in_default-clause-told : goal.returns-in_default-clause-told
returns-in_default-clause-told c =
    let plain = no_refusal c.args.fault.now c.in_default.not-Refused in
    told_alone (refused_line []) (refused_line c.args.files.now) c.args.fault.now c.journal_answer.result plain (c.journal_answer.ensures.told plain)
