use Rattle.std.proofs.Common.{◌≡◌, map, drop, find}
use Rattle.proto_resolved.specs.Blocks.{block_of}
use Rattle.proto_resolved.specs.SceneOf.{is_enum_at}
use Rattle.proto_names_at.proofs.values.enum_among.Given as goal

abbrev pub invariant-loop-block : goal.invariant-loop-block
invariant-loop-block l = find (λ b. is_enum_at l.token b.header) (map block_of l.blocks) ≡ find (λ b. is_enum_at l.token b.header) (map block_of (drop l.block-index l.blocks))
