-- Whether the field that is renamed has a written JSON name has one answer (for the crates above).
use Rattle.std.proofs.Common.{◌≡◌, ℕ, false, ◌⊎◌, List, [], ◌∷◌, None, is_some, refl, sym, ap, subst, ◌∙◌, inl, inr, arith, codes, Contains}
use Rattle.proto_base.proofs.Common.{cases_eq, contains_cases, contains_head, contains_later}
use Rattle.proto_files.specs.FilesRead.{read_at}
use Rattle.proto_ast.proofs.Common.{text_option, BlockOf, FieldOf, OptionOf, blocks_in, fields_in, text, value}
use Rattle.proto_desc_checks_laws.proofs.OneField.{names_are_of_one_field}
use Rattle.proto_edit_rename_laws.specs.SceneOf.{lexemes_of, scene_of}
use Rattle.proto_edit_rename_laws.proofs.TokenRoles.{block_inside, spelled}
use Rattle.proto_edit_rules.specs.Rename.{of_another, of_field}
use Rattle.proto_edit_rename_described.specs.WrittenJson.{JsonIsWrittenOnce, JsonIsWrittenOrNot}
use Rattle.proto_files.specs.GivenFiles.{file_at}

search_fields : (token : ℕ) (fs : List FieldOf) → ((f : FieldOf) × Contains fs f × (f.name ≡ token)) ⊎ ((f : FieldOf) → Contains fs f → f.name ≡ token → ⊥)
search_fields token [] = inr (λ f c q. absurd (omega (arith, c.1)))
search_fields token (g ∷ fs) = elim (cases_eq g.name token) [
  | inl q ↦ inl (g, contains_head g fs, q)
  | inr n ↦ elim (search_fields token fs) [
    | inl r ↦ inl (r.0, contains_later g r.0 fs r.1, r.2)
    | inr none ↦ inr (λ f c q. elim (contains_cases g f fs c) [ inl s ↦ n (ap (λ (z : FieldOf). z.name) s ∙ q) | inr d ↦ none f d q ])
  ]
]

search_blocks : (token : ℕ) (bs : List BlockOf) → ((b : BlockOf) × (f : FieldOf) × Contains bs b × Contains (fields_in b.within) f × (f.name ≡ token)) ⊎ ((b : BlockOf) (f : FieldOf) → Contains bs b → Contains (fields_in b.within) f → f.name ≡ token → ⊥)
search_blocks token [] = inr (λ b f c d q. absurd (omega (arith, c.1)))
search_blocks token (x ∷ bs) = elim (search_fields token (fields_in x.within)) [
  | inl r ↦ inl (x, r.0, contains_head x bs, r.1, r.2)
  | inr n ↦ elim (search_blocks token bs) [
    | inl r ↦ inl (r.0, r.1, contains_later x r.0 bs r.2, r.3, r.4)
    | inr none ↦ inr (λ b f c d q. elim (contains_cases x b bs c) [ inl s ↦ n f (subst (λ (z : BlockOf). Contains (fields_in z.within) f) (sym s) d) q | inr g ↦ none b f g d q ])
  ]
]

pub writes_json : JsonIsWrittenOrNot
writes_json files reads t = elim (search_blocks t.token.token (blocks_in (read_at reads t.token.file).tree)) [
  | inl r ↦ (is_some (text_option (text (scene_of None files reads t.token.file)) (value (scene_of None files reads t.token.file)) (codes "json_name") r.1.options), of_field r.0 r.1 (record { block = r.2; field = r.3; name = r.4 }))
  | inr none ↦ (false, of_another (λ b f i. none b f i.block i.field i.name))
]

pub written_once : JsonIsWrittenOnce
written_once files reads t r a b (of_field x f i) (of_field y g j) =
    let l = block_inside files reads r t.token.file x i.block in
    let same = names_are_of_one_field (file_at files t.token.file).profile (read_at reads t.token.file).tree (lexemes_of files reads t.token.file) (spelled files reads r t.token.file l) x y f g i.block j.block i.field j.field (i.name ∙ sym j.name) in
    ap (λ (os : List OptionOf). is_some (text_option (text (scene_of None files reads t.token.file)) (value (scene_of None files reads t.token.file)) (codes "json_name") os)) same.options
written_once files reads t r a b (of_field x f i) (of_another none) = absurd (none x f i)
written_once files reads t r a b (of_another none) (of_field x f i) = absurd (none x f i)
written_once files reads t r a b (of_another none) (of_another other) = refl
