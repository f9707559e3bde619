use Rattle.std.proofs.Common.{◌≡◌, map, drop, find}
use Rattle.proto_edit_rename.specs.MembersCommon.{block_of, holds_value}
use Rattle.proto_edit_rename.proofs.enum_names.enum_of_value.Given as goal

abbrev pub invariant-loop-block : goal.invariant-loop-block
invariant-loop-block l = find (λ b. holds_value l.token b.header b.within) (map block_of l.blocks) ≡ find (λ b. holds_value l.token b.header b.within) (map block_of (drop l.block-index l.blocks))
