use Rattle.std.proofs.Common.{subst}
use Rattle.proto_base.specs.declared.profile.Profile.{Profile}
use Rattle.proto_tree.specs.File.{tree_of_file}
use Rattle.proto_tree.specs.Reads.{ReadsIn}
use Rattle.proto_schema_tests.proofs.growths.edit.Goals as goal

pub put-requires-clause-read : goal.put-requires-clause-read
put-requires-clause-read c =
    subst (λ (p : Profile). ReadsIn p c.in_ok-source.source c.in_ok-source.tokens.items (tree_of_file c.in_ok-source.tree)) c.profile.ensures c.in_ok-source.ensures
