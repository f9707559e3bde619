use Rattle.std.proofs.lemmas.Str.Pattern.{starts_text}
use Rattle.proto_lint_names.proofs.enums.has_prefix.Goals as goal

pub returns : goal.returns
returns c = starts_text c.starts_with.result c.args.prefix.now c.args.word.now c.starts_with.ensures.cases
