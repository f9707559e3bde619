use Rattle.proto_base.proofs.Common.{codes, ends_text}
use Rattle.proto_lint_names.proofs.services.has_service_suffix.Goals as goal

pub returns : goal.returns
returns c = ends_text c.ends_with.result (codes "Service") c.args.word.now c.ends_with.ensures.cases
