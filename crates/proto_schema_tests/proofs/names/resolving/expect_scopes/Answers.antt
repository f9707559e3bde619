use Rattle.std.proofs.Common.{[], ◌∷◌, refl}
use Rattle.proto_schema_tests.proofs.PlainWords.{plain}
use Rattle.proto_schema_tests.proofs.names.resolving.expect_scopes.Goals as goal

-- p.A
pub meaning_in-requires-clause-scope : goal.meaning_in-requires-clause-scope
meaning_in-requires-clause-scope g c = ((112 ∷ []) ∷ (65 ∷ []) ∷ [], (plain 112 [] refl, (plain 65 [] refl, tt)), refl)

-- p
pub meaning_in-requires-2-clause-scope : goal.meaning_in-requires-2-clause-scope
meaning_in-requires-2-clause-scope g c = ((112 ∷ []) ∷ [], (plain 112 [] refl, tt), refl)

-- p.zzz.y
pub meaning_in-requires-4-clause-scope : goal.meaning_in-requires-4-clause-scope
meaning_in-requires-4-clause-scope g c =
    ((112 ∷ []) ∷ (122 ∷ 122 ∷ 122 ∷ []) ∷ (121 ∷ []) ∷ [], (plain 112 [] refl, (plain 122 (122 ∷ 122 ∷ []) refl, (plain 121 [] refl, tt))), refl)

-- q
pub meaning_in-requires-5-clause-scope : goal.meaning_in-requires-5-clause-scope
meaning_in-requires-5-clause-scope g c = ((113 ∷ []) ∷ [], (plain 113 [] refl, tt), refl)
