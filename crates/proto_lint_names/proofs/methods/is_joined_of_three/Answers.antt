use Rattle.std.proofs.Common.{◌++◌, ◌∙◌, Some, None}
use Rattle.proto_base.proofs.Common.{Decides-eqb, strip_prefix_is}
use Rattle.proto_lint_names.proofs.Joins.{joins_behind, joins_not}
use Rattle.proto_lint_names.proofs.methods.is_joined_of_three.Goals as goal

pub returns-in-Some : goal.returns-in-Some
returns-in-Some c =
    c.is_joined.ensures ∙ joins_behind c.args.bytes.now c.args.front.now c.in-Some.rest.now (c.args.middle.now ++ c.args.back.now) (strip_prefix_is Decides-eqb c.args.bytes.now c.args.front.now (Some c.in-Some.rest) c.in-Some.ensures.cases)

pub returns-in-None : goal.returns-in-None
returns-in-None c = joins_not c.args.bytes.now c.args.front.now (c.args.middle.now ++ c.args.back.now) (strip_prefix_is Decides-eqb c.args.bytes.now c.args.front.now None c.in-None.ensures.cases)
