use Rattle.std.proofs.Common.{◌∙◌}
use Rattle.proto_edit_captures.proofs.KindNamed.{kind_at, kind_none}
use Rattle.proto_edit_captures.proofs.shown.kind_named.Goals as goal

pub returns-in_err-id : goal.returns-in_err-id
returns-in_err-id c = c.from_residual.ensures ∙ kind_none c.args.link.now c.args.name.now c.in_err-id.ensures.none

pub returns : goal.returns
returns c = c.kind_of.ensures ∙ kind_at c.args.link.now c.args.name.now c.in_ok-id.id.row c.in_ok-id.ensures.some c.in_ok-id.ensures.once
