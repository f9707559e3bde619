use Rattle.proto_text.proofs.Values.{inside}
use Rattle.proto_text.proofs.value.between.Goals as goal

pub returns-in-len2-up : goal.returns-in-len2-up
returns-in-len2-up c = inside c.args.text.now c.in-len2-up.len_at_least
