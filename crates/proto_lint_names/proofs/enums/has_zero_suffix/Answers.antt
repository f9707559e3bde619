use Rattle.proto_base.proofs.Common.{codes, ends_text}
use Rattle.proto_lint_names.proofs.enums.has_zero_suffix.Goals as goal

pub returns : goal.returns
returns c = ends_text c.ends_with.result (codes "_UNSPECIFIED") c.args.word.now c.ends_with.ensures.cases
