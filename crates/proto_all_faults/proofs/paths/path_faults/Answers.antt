use Rattle.std.proofs.Common.{List, map, sym, ap, ◌∙◌, subst, IsPermutation}
use Rattle.proto_base.proofs.Common.{IsPermutation-map}
use Rattle.proto_base.specs.Texts.{Path}
use Rattle.proto_files.specs.Faults.{fault_at}
use Rattle.proto_files.specs.GivenFiles.{files_of, paths_of}
use Rattle.proto_files.specs.PathFaults.{PathFaults}
use Rattle.proto_all_faults.specs.Common.{AreFound, path_faults_from}
use Rattle.proto_all_faults.proofs.FirstPhases.{in_their_order}
use Rattle.proto_all_faults.proofs.PathLists.{paths_found}
use Rattle.proto_all_faults.proofs.paths.path_faults.Goals as goal

pub returns : goal.returns
returns c =
    let given = paths_of (files_of c.args.given.now) in
    let sorted = map (λ p. p.now) c.sort_paths.new.paths.items in
    let same = subst (λ (ps : List Path). IsPermutation ps sorted) c.in_ok-paths.ensures (IsPermutation-map (λ p. p.now) c.in_ok-paths.paths.items c.sort_paths.new.paths.items c.sort_paths.ensures.same) in
    let is = c.in_ok-found.ensures ∙ ap (λ ps. path_faults_from 0 4096 (map (λ p. p.now) ps)) c.deref.ensures.value in
    in_their_order (PathFaults 4096 given) (map fault_at c.in_ok-found.found.items) (map fault_at c.in_order.result.items)
    (subst (AreFound (PathFaults 4096 given)) (sym is) (paths_found 4096 given sorted same c.sort_paths.ensures.in_order))
    c.in_order.ensures.rising c.in_order.ensures.same
