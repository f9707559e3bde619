use Rattle.std.proofs.Common.{map, arith}
use Rattle.std.proofs.lemmas.List.{length-map}
use Rattle.proto_files.specs.Faults.{fault_at}
use Rattle.proto_all_faults.specs.Common.{path_faults_from}
use Rattle.proto_all_faults.proofs.PathLists.{listed_end, listed_turn}
use Rattle.proto_all_faults.proofs.paths.faults_by_path.Goals as goal

pub loop-place-preserved : goal.loop-place-preserved
loop-place-preserved c =
    listed_turn (λ p. p.now) c.args.paths.now c.loop-place.place _ c.split_at.result.1.now (map fault_at c.loop-place.found.items) (map fault_at c.add_faults.new.found.items) _ c.loop-place-test.true c.split_at.ensures.back c.in_ok-add_faults.ensures c.loop-place.invariant

pub returns : goal.returns
returns c =
    let paths = map (λ p. p.now) c.args.paths.now in
    listed_end paths c.loop-place.place (map fault_at c.loop-place.found.items) (path_faults_from 0 4096 paths) (omega (arith, length-map c.args.paths.now (λ p. p.now), c.loop-place-test.false)) c.loop-place.invariant
