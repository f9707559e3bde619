use Rattle.std.proofs.Common.{List, length, refl, sym, ◌∙◌, ap}
use Rattle.std.proofs.lemmas.List.{length-set}
use Rattle.proto_files.specs.GivenFiles.{FileOf, file_at, paths_of}
use Rattle.proto_schema_tests.proofs.OneFile.{language_stays, others_stay, paths_stay}
use Rattle.proto_schema_tests.proofs.names.replacing.set_second.Goals as goal

pub returns-clause-len : goal.returns-clause-len
returns-clause-len g c = ap length c.set.ensures.files ∙ length-set c.args.files.now 1 _ ∙ c.requires

pub returns-clause-paths : goal.returns-clause-paths
returns-clause-paths g c = paths_stay c.args.files.now 1 _ refl ∙ ap paths_of (sym c.set.ensures.files)

pub returns-clause-others : goal.returns-clause-others
returns-clause-others g c = λ file other. others_stay c.args.files.now 1 _ file other ∙ ap (λ (files : List FileOf). file_at files file) (sym c.set.ensures.files)

pub returns-clause-profile : goal.returns-clause-profile
returns-clause-profile g c = ap (λ (files : List FileOf). (file_at files 1).profile) c.set.ensures.files ∙ language_stays c.args.files.now 1 _ refl
