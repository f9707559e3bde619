-- Where no fault is listed, there is none (for the crates above).
use Rattle.std.proofs.Common.{◌≡◌, List, [], arith, subst, Contains}
use Rattle.proto_files.proofs.Common.{FaultAt, HasNoFault}
use Rattle.proto_names_faults.specs.Common.{AreAllOf}

pub none_listed : (faults : FaultAt → Type 0) (listed : List FaultAt) → AreAllOf faults listed → listed ≡ [] → HasNoFault faults
none_listed faults listed all e y h = let c = subst (λ (xs : List FaultAt). Contains xs y) e (all.whole y h) in omega (arith, c.1)
