use Rattle.proto_edit_rename.proofs.NameTexts.{pointed}
use Rattle.proto_edit_rename.proofs.standing.words_in.Goals as goal

pub returns-then-first-eq46 : goal.returns-then-first-eq46
returns-then-first-eq46 c = pointed c.args.rest.now c.points.result c.in-len1-up.len_at_least c.if-first-eq46.true c.points.ensures
