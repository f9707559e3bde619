use Rattle.std.proofs.Common.{List, length, refl, sym, ◌∙◌, ap}
use Rattle.std.proofs.lemmas.List.{length-set}
use Rattle.proto_files.specs.GivenFiles.{FileOf, file_at, paths_of}
use Rattle.proto_schema_tests.proofs.OneFile.{others_stay, paths_stay}
use Rattle.proto_schema_tests.proofs.growths.put.Goals as goal

pub returns-clause-len : goal.returns-clause-len
returns-clause-len c = ap length c.set-source.ensures.files ∙ length-set c.args.files.now 128 _

pub returns-clause-paths : goal.returns-clause-paths
returns-clause-paths c = paths_stay c.args.files.now 128 _ refl ∙ ap paths_of (sym c.set-source.ensures.files)

pub returns-clause-others : goal.returns-clause-others
returns-clause-others c = λ file other. others_stay c.args.files.now 128 _ file other ∙ ap (λ (files : List FileOf). file_at files file) (sym c.set-source.ensures.files)
