use Rattle.std.proofs.Common.{◌≡◌, map, take}
use Rattle.proto_files.specs.GivenFiles.{paths_of}
use Rattle.proto_files.proofs.looking.all_paths.Given as goal

abbrev pub invariant-loop-file : goal.invariant-loop-file
invariant-loop-file l = map (λ p. p.now) l.paths.items ≡ take l.file (paths_of l.files)
