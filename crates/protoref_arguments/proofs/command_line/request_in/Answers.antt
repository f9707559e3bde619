use Rattle.clap.specs.Walk.{first_of, rows_of}
use Rattle.clap.specs.Words.{found_of}
use Rattle.std.proofs.Common.{codes}
use Rattle.protoref_arguments.specs.Matched.{with_root}
use Rattle.protoref_arguments.proofs.Answering.{text_read}
use Rattle.protoref_arguments.proofs.command_line.request_in.Goals as goal

pub returns : goal.returns
returns c =
    let rows = rows_of (found_of c.args.matches.now) in
    text_read (first_of (codes "ROOT") rows) c.in_ok-root.root (with_root c.args.command.now rows) c.request_with.result c.in_ok-root.ensures c.request_with.ensures
