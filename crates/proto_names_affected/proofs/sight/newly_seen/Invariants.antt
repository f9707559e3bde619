use Rattle.std.proofs.Common.{◌≡◌, ℕ, ◌<◌, [], All, get_or, length, take}
use Rattle.proto_names_affected.specs.Marking.{IsMarked}
use Rattle.proto_names_affected.specs.Sight.{IsNewlySeen}
use Rattle.proto_names_affected.proofs.sight.newly_seen.Given as goal

abbrev pub invariant-loop-change : goal.invariant-loop-change
invariant-loop-change l = record {
  len : length l.marks ≡ length l.sighted.rows.now;
  marked : All (λ c. (g : ℕ) → g < length l.sighted.rows.now → IsNewlySeen c.was (get_or l.sighted.sees.now c.place []) g → IsMarked l.marks g) (take l.change-index l.saw);
}
