use Rattle.std.proofs.Common.{◌≡◌, Bool, List, [], All, get_or, map, take}
use Rattle.proto_names_affected.specs.Marking.{MarksStay}
use Rattle.proto_names_affected.specs.Sight.{IsSightMarked}
use Rattle.proto_names_affected.proofs.sight.mark_by_sight.Given as goal

abbrev pub invariant-loop-change : goal.invariant-loop-change
invariant-loop-change l = record {
  stay : MarksStay l.initial.marks l.marks;
  marked : (before : List (List Bool)) → All (λ c. get_or before c.place [] ≡ c.was) l.saw
      → All (λ c. IsSightMarked l.marks l.sighted.table.now (map (λ v. v.items) l.sighted.rows.now) (map (λ v. v.items) l.sighted.meant.now) before l.sighted.sees.now c.place) (take l.change-index l.saw);
}
