use Rattle.std.proofs.Common.{List, drop, map, string_bytes, sym, ◌∙◌}
use Rattle.proto_base.specs.Texts.{Text}
use Rattle.protoref_arguments.proofs.Answered.{fault_answered, request_answered, version_answered}
use Rattle.protoref_arguments.proofs.command_line.parse_arguments.Goals as goal

pub returns-then-asks_version : goal.returns-then-asks_version
returns-then-asks_version c = version_answered (drop 1 (map string_bytes c.args.words.now)) (sym c.asks_version.ensures ∙ c.if-asks_version.true)

pub returns-in_err-request : goal.returns-in_err-request
returns-in_err-request c =
    let line : List Text = drop 1 (map string_bytes c.args.words.now) in
    fault_answered line (drop 1 (map string_bytes c.language_of-profile.result.1.now)) (sym c.asks_version.ensures ∙ c.if-asks_version.false) c.language_of-profile.ensures.words c.in_err-request.field-0.0 c.from_residual.result c.from_residual.ensures.1 c.in_err-request.ensures

pub returns : goal.returns
returns c =
    let line : List Text = drop 1 (map string_bytes c.args.words.now) in
    request_answered line (drop 1 (map string_bytes c.language_of-profile.result.1.now)) (sym c.asks_version.ensures ∙ c.if-asks_version.false) c.language_of-profile.ensures.words c.language_of-profile.result.0 c.in_ok-request.request c.language_of-profile.ensures.language c.in_ok-request.ensures
