use Rattle.proto_lint.proofs.FindingsAsWritten.{findings_ask_no_language}
use Rattle.proto_lint.proofs.laws.findings_ask_no_language.Goals as goal

pub returns : goal.returns
returns c = findings_ask_no_language
