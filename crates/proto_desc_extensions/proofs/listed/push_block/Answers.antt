use Rattle.std.proofs.Common.{ap}
use Rattle.proto_base.proofs.Common.{on_ok_weaker}
use Rattle.proto_resolved.specs.Blocks.{block_of}
use Rattle.proto_desc_extensions.proofs.ToldExtensions.{pushed_block}
use Rattle.proto_desc_extensions.proofs.listed.push_block.Goals as goal

pub returns-in-Some : goal.returns-in-Some
returns-in-Some c =
    on_ok_weaker c.push_fields.result (λ pushed reads are.
    pushed_block c.args.at.now.linked.now.files reads c.args.at.now.file c.in-Extend.extend.now c.in-Some.extendee c.args.scene.now (c.requires.scene reads are) (c.in-Some.ensures reads are) c.args.block (ap block_of c.in-Extend.is) _ _ pushed) c.push_fields.ensures
