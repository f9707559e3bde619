use Rattle.std.proofs.Common.{◌≡◌, map, take}
use Rattle.proto_files.specs.GivenFiles.{files_of, paths_of}
use Rattle.proto_all_faults.proofs.paths.given_paths.Given as goal

abbrev pub invariant-loop-file : goal.invariant-loop-file
invariant-loop-file l = map (λ p. p.now) l.paths.items ≡ paths_of (files_of (take l.file-index l.given))
