use Rattle.std.proofs.Common.{refl, string_bytes}
use Rattle.proto_ast.specs.Scenes.{value}
use Rattle.proto_desc_build.proofs.Levels.{mapped_turn}
use Rattle.proto_desc_build.proofs.described_names.strings.Goals as goal

pub loop-token-preserved : goal.loop-token-preserved
loop-token-preserved c =
    mapped_turn string_bytes (value c.args.scene.now) c.args.tokens.now c.loop-token.token-index _ _ _ _ _ c.loop-token-test.true refl c.in_ok-push.ensures.items c.in_ok-string.ensures c.loop-token.invariant
