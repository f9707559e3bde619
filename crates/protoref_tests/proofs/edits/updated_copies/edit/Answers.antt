use Rattle.std.proofs.Common.{[], ◌∷◌, length, ◌∙◌, ap}
use Rattle.std.proofs.lemmas.List.{length-set}
use Rattle.proto_desc.proofs.SameBut.{same_but}
use Rattle.protoref_tests.proofs.edits.updated_copies.edit.Goals as goal

pub returns-clause-len : goal.returns-clause-len
returns-clause-len g c = ap length c.set-source.ensures.files ∙ length-set c.args.files.now 1 _ ∙ c.requires

pub returns-clause-same : goal.returns-clause-same
returns-clause-same g c = same_but c.args.files.now (1 ∷ []) (_ ∷ []) c.set-source.new.self c.set-source.ensures.files
