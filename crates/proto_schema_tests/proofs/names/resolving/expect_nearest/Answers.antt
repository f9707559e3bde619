use Rattle.std.proofs.Common.{[], ◌∷◌, refl}
use Rattle.proto_schema_tests.proofs.PlainWords.{plain}
use Rattle.proto_schema_tests.proofs.names.resolving.expect_nearest.Goals as goal

-- A
pub meant_of_two-requires-clause-scope : goal.meant_of_two-requires-clause-scope
meant_of_two-requires-clause-scope g c = ((65 ∷ []) ∷ [], (plain 65 [] refl, tt), refl)

-- A
pub meant_of_two-requires-3-clause-scope : goal.meant_of_two-requires-3-clause-scope
meant_of_two-requires-3-clause-scope g c = ((65 ∷ []) ∷ [], (plain 65 [] refl, tt), refl)
