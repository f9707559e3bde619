use Rattle.std.proofs.Common.{◌≡◌, Result, Err, ap, rules, string_bytes}
use Rattle.std.specs.Global.{Vec}
use Rattle.protoref_output.specs.LogLines.{log_lines}
use Rattle.proto_journal_records.specs.declared.fault.JournalFault.{JournalFault}
use Rattle.proto_journal_records.specs.Records.{RecordOf}
use Rattle.protoref_commands.proofs.Tellings.{log_tells}
use Rattle.protoref_commands.proofs.logging.log_of.Goals as goal

abbrev unread : JournalFault → Result (Vec RecordOf) JournalFault
unread x = Err x

pub returns-in_ok-text-in-Ok : goal.returns-in_ok-text-in-Ok
returns-in_ok-text-in-Ok c =
    let lines : string_bytes c.in_ok-text-in-Ok.text ≡ log_lines c.in-Ok.records.items = search rules in
    (c.in-Ok.records.items, c.in-Ok.ensures.ok, lines)

pub returns-in-Err : goal.returns-in-Err
returns-in-Err c =
    log_tells c.args.journal.now c.in-Err.fault c.journal_answer.result c.in-Err.ensures.err (λ is. c.in-Err.ensures.bad (ap unread is)) c.journal_answer.ensures.told
