use Rattle.std.proofs.Common.{◌≡◌, ◌<◌, Some, arith, rules}
use Rattle.proto_base.proofs.Common.{nat_tests}
use Rattle.std.specs.Prelude.{slice_get}
use Rattle.proto_session_files.proofs.OwnFaults.{begins_in_texts}
use Rattle.proto_session_files.proofs.listing.begin_in_texts.Goals as goal

pub returns : goal.returns
returns c = λ yes_.
    (let few : c.phase-phase.result < 3 = grind (arith, nat_tests) in
    let some_ : 0 < c.phase-phase.result = grind (arith, nat_tests) in
    let first : slice_get c.args.listed.now 0 ≡ Some c.in-Some.first.now = search rules in
    begins_in_texts c.args.listed.now c.in-Some.first.now c.phase-phase.result first c.phase-phase.ensures some_ few)
