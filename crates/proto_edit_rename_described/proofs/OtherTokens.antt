-- What is not changed of a field whose default is a number or a truth value (for the crates above).
use Rattle.std.proofs.Common.{option_to_list, ◌≡◌, ℕ, false, [], ◌∷◌, ◌++◌, flat_map, Option, Some, None, is_some, refl, sym, subst, inl, arith, Contains}
use Rattle.proto_base.proofs.Common.{All-contains, Contains-append_left, Contains-append_right, contains_head}
use Rattle.proto_tree.specs.declared.piece.Header.{Header}
use Rattle.proto_tree.specs.declared.piece.Header.TheVariants as header
use Rattle.proto_tree.specs.declared.tree.FieldType.{FieldType}
use Rattle.proto_tree.specs.Tree.{Tree}
use Rattle.proto_files.specs.FilesRead.{read_at}
use Rattle.proto_names_rules.specs.Grown.{at}
use Rattle.proto_ast.specs.Parts.{FieldOf, blocks_in, closed_ranges, fields_in, options_in, statements}
use Rattle.proto_ast.specs.Scenes.{Scene}
use Rattle.proto_desc_checks_laws.specs.Renamed.{asked_tokens, block_tokens, field_tokens, header_tokens, option_tokens, range_tokens, scalar_tokens}
use Rattle.proto_edit_rename_laws.proofs.Common.{scene_of, fields_of_block, renamed_words, to_flat_map}
use Rattle.proto_edit_rename_laws.proofs.TokenRoles.{other_token_stays}
use Rattle.proto_edit_rename_described.specs.OtherTokens.{LabelsAndScalarsStay, OtherTokensStay}
use Rattle.proto_edit_rename_described.proofs.Allowed.{allowed_roles}

none_is : {X : Type 0} (o : Option X) → is_some o ≡ false → o ≡ None
none_is None h = refl
none_is (Some x) h = absurd cc

-- what is of a field of a message, or of an extension, is of the block that it stands in
in_header : (scene : Scene) (h : Header) (within : Tree) (f : FieldOf) → Contains (fields_of_block h within) f → (i : ℕ) → Contains (field_tokens scene f) i → Contains (header_tokens scene h within) i
in_header scene (header.Message h) within f cf i c =
    Contains-append_left (flat_map (field_tokens scene) (fields_in within)) (flat_map (range_tokens (λ t. t)) (flat_map closed_ranges (statements within))) i (to_flat_map (field_tokens scene) (fields_in within) f i cf c)
in_header scene (header.Extend x) within f cf i c = to_flat_map (field_tokens scene) (fields_in within) f i cf c
in_header scene whole within f cf i c = absurd (omega (arith, cf.1))

pub labels_and_scalars_stay : LabelsAndScalarsStay
labels_and_scalars_stay files reads name to t a file b f l cb cf = (
  λ i q. stays i (Contains-append_left (option_to_list f.label) (option_to_list f.map_key ++ (scalar_tokens f.kind ++ f.number ∷ flat_map (option_tokens (scene_of None files reads file)) f.options)) i (subst (λ o. Contains (option_to_list o) i) (sym q) (contains_head i []))),
  λ i q. stays i (Contains-append_right (option_to_list f.label) (option_to_list f.map_key ++ (scalar_tokens f.kind ++ f.number ∷ flat_map (option_tokens (scene_of None files reads file)) f.options)) i
      (Contains-append_right (option_to_list f.map_key) (scalar_tokens f.kind ++ f.number ∷ flat_map (option_tokens (scene_of None files reads file)) f.options) i
      (Contains-append_left (scalar_tokens f.kind) (f.number ∷ flat_map (option_tokens (scene_of None files reads file)) f.options) i (subst (λ (k : FieldType). Contains (scalar_tokens k) i) (sym q) (contains_head i []))))),
)
  where
    stays : (i : ℕ) → Contains (field_tokens (scene_of None files reads file) f) i → renamed_words files reads t to (at file i) ≡ None
    stays i c =
        let scene = scene_of None files reads file in
        let tree = (read_at reads file).tree in
        let head = in_header scene b.header b.within f cf i c in
        let block : Contains (block_tokens (scene_of None files reads file) b) i = Contains-append_left (header_tokens (scene_of None files reads file) b.header b.within) (flat_map (option_tokens (scene_of None files reads file)) (options_in b.within)) i head in
        let all = Contains-append_right (flat_map (option_tokens (scene_of None files reads file)) (options_in tree)) (flat_map (block_tokens (scene_of None files reads file)) (blocks_in tree)) i (to_flat_map (block_tokens (scene_of None files reads file)) (blocks_in tree) b i cb block) in
        none_is (renamed_words files reads t to (at file i)) (All-contains (λ i. is_some (renamed_words files reads t to (at file i)) ≡ false) (asked_tokens scene tree) i ((allowed_roles files reads name to t a).tokens.asked file l) all)

pub other_tokens_stay : OtherTokensStay
other_tokens_stay files reads name to t a i no_name no_use no_default = other_token_stays files reads t to (t.aim, a.named.within, (t.above, inl a.named.path)) i no_name no_use no_default
