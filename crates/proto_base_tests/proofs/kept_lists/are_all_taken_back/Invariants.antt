use Rattle.std.proofs.Common.{length}
use Rattle.proto_base.specs.Undone.{AreWithin}
use Rattle.proto_base_tests.proofs.kept_lists.are_all_taken_back.Given as goal

abbrev pub invariant-loop-place : goal.invariant-loop-place
invariant-loop-place g l = AreWithin (length l.items.items) l.log.items
