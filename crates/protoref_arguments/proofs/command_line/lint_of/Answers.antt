use Rattle.std.proofs.Common.{codes, string_bytes, unwrap_or, [], List}
use Rattle.clap.specs.Walk.{all_of, rows_of}
use Rattle.clap.specs.Words.{found_of}
use Rattle.proto_base.specs.Texts.{Text}
use Rattle.protoref_arguments.proofs.Answering.{lint_err, lint_set}
use Rattle.protoref_arguments.proofs.command_line.lint_of.Goals as goal

pub returns-in_err-rules : goal.returns-in_err-rules
returns-in_err-rules c =
    let names : List Text = unwrap_or (all_of (codes "RULE") (rows_of (found_of c.args.matches.now))) [] in
    lint_err (string_bytes c.args.root) names c.in_err-rules.field-0.0 c.from_residual.result c.from_residual.ensures.1 c.in_err-rules.ensures

pub returns : goal.returns
returns c =
    let names : List Text = unwrap_or (all_of (codes "RULE") (rows_of (found_of c.args.matches.now))) [] in
    lint_set c.args.root names c.in_ok-rules.rules c.in_ok-rules.ensures
