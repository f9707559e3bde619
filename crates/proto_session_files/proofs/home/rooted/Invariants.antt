use Rattle.std.proofs.Common.{◌≡◌, flat_map, map}
use Rattle.proto_session_files.specs.Homes.{rooted_part}
use Rattle.proto_session_files.proofs.home.rooted.Given as goal

abbrev pub invariant-loop-part : goal.invariant-loop-part
invariant-loop-part l = record {
  may_go : (goal.iterator-loop-part).can_next l.part-iterator;
  ends : (goal.iterator-loop-part).is_finite l.part-iterator;
  whole : l.whole.items ≡ flat_map rooted_part (map (λ x. x.now) l.yielded);
}
