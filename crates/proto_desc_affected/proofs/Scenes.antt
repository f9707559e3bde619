-- The descriptor of an unaffected file is what it was, and its scene as far as that is asked for.
use Rattle.std.proofs.Common.{◌≡◌, ℕ, ◌<◌, Bool, true, false, List, length, map, Option, Some, None, option_map, refl, sym, ◌∙◌, ap, ap₂, subst, inl, inr, ◌⊎◌, option_and_then, Contains}
use Rattle.proto_files.proofs.Common.{FileOf, ReadOf, file_at, read_at}
use Rattle.proto_names_rules.proofs.Common.{At, Declared, Used, joined, map_agree, map_map, place_of}
use Rattle.proto_names.specs.Links.{names_in, uses_of}
use Rattle.proto_ast.specs.Scenes.{EnumOf, MeantOf}
use Rattle.proto_resolved.specs.SceneOf.{declared_as, enum_at, enum_named, is_proto3_file, lexemes_of, meaning_of, means_of, meant_as, scene_of}
use Rattle.proto_desc_build.specs.Described.{file_described}
use Rattle.proto_desc_affected.specs.Unaffected.{AreSoundlyEdited, IsUnaffectedFile, NamesSameEnum, UnaffectedDescriptorsStay, UnaffectedScenesStay, StoodElsewhere}
use Rattle.proto_desc_affected.specs.Values.{IsSameScene, enum_without_names, meant_without_names}
use Rattle.proto_desc_affected.proofs.Declared.{declared_named, meant_named, named_still}
use Rattle.proto_desc_affected.proofs.SameScenes.{described_same, same_enum}
use Rattle.proto_desc_affected.proofs.Unedited.{same_enums, same_file, same_lexemes, same_reading, same_version}

module _ (places : List ℕ) (before : List FileOf) (was : List ReadOf) (files : List FileOf) (reads : List ReadOf) (are : AreSoundlyEdited places before was files reads) where
  -- a name is found at one declaration, before and now, of a file that is not edited
  pub record IsLeft (name : List (List ℕ)) : Type 0 where
    pub declared : Declared At
    pub found_before : declared_as before was name ≡ Some declared
    pub found_now : declared_as files reads name ≡ Some declared
    pub within : (place_of declared).file < length files
    pub left : Contains places (place_of declared).file → ⊥

  pub name_left : (file : ℕ) (u : Used ℕ) (name : List (List ℕ)) → meaning_of before was file u ≡ Some name → StoodElsewhere places before was name → IsLeft name
  name_left file u name means elsewhere =
      let d = meant_named before was file u name means in
      let found : declared_as before was name ≡ Some d.0 = declared_named before was are.apart_before name d.0 d.1 in
      let still = named_still places before was files reads are.edited name d.0 d.1 (elsewhere d.0 found) in
      record {
        declared = d.0;
        found_before = found;
        found_now = declared_named files reads are.apart_now name d.0 still.named;
        within = still.within;
        left = elsewhere d.0 found;
      }

  enum_left : (name : List (List ℕ)) → IsLeft name → enum_named files reads name ≡ enum_named before was name
  enum_left name is =
      ap (option_and_then (λ (d : Declared At). enum_at files reads (place_of d))) is.found_now
      ∙ same_enums places before was files reads are.edited (place_of is.declared).file is.within is.left (place_of is.declared) refl
      ∙ sym (ap (option_and_then (λ (d : Declared At). enum_at before was (place_of d))) is.found_before)

  module _ (file : ℕ) (unaffected : IsUnaffectedFile places before was files reads file) where
    abbrev version : Bool
    version = is_proto3_file before was file

    enum_stays : (u : Used ℕ) (name : List (List ℕ)) → Contains (uses_of reads file) u → meaning_of before was file u ≡ Some name → NamesSameEnum version before was files reads name
    enum_stays u name c means = by (unaffected.enums u name c (unaffected.means u c ∙ means))
      where
        by : StoodElsewhere places before was name ⊎ NamesSameEnum version before was files reads name → NamesSameEnum version before was files reads name
        by (inl elsewhere) = same_enum version (enum_named before was name) (enum_named files reads name) (sym (enum_left name (name_left file u name means elsewhere)))
        by (inr same) = same

    -- what a reference means, as far as it is asked for, if so is the enum of the name
    one_stays : (asked : MeantOf → MeantOf)
        → ((token : ℕ) (name : List (List ℕ)) → NamesSameEnum version before was files reads name → asked (meant_as files reads token (Some name)) ≡ asked (meant_as before was token (Some name)))
        → (u : Used ℕ) → Contains (uses_of reads file) u → asked (meant_as files reads u.first (meaning_of files reads file u)) ≡ asked (meant_as before was u.first (meaning_of before was file u))
    one_stays asked same u c = ap (λ (o : Option (List (List ℕ))). asked (meant_as files reads u.first o)) (unaffected.means u c) ∙ by (meaning_of before was file u) refl
      where
        by : (o : Option (List (List ℕ))) → meaning_of before was file u ≡ o → asked (meant_as files reads u.first o) ≡ asked (meant_as before was u.first o)
        by None e = refl
        by (Some name) e = same u.first name (enum_stays u name c e)

    pub reading : read_at reads file ≡ read_at was file
    reading = same_reading places before was files reads are.edited file unaffected.within unaffected.left

    each_stays : (asked : MeantOf → MeantOf)
        → ((token : ℕ) (name : List (List ℕ)) → NamesSameEnum version before was files reads name → asked (meant_as files reads token (Some name)) ≡ asked (meant_as before was token (Some name)))
        → map (λ (u : Used ℕ). asked (meant_as files reads u.first (meaning_of files reads file u))) (uses_of reads file) ≡ map (λ (u : Used ℕ). asked (meant_as before was u.first (meaning_of before was file u))) (uses_of was file)
    each_stays asked same =
        map_agree (λ u. asked (meant_as files reads u.first (meaning_of files reads file u))) (λ u. asked (meant_as before was u.first (meaning_of before was file u))) (uses_of reads file) (one_stays asked same)
        ∙ ap (λ (r : ReadOf). map (λ u. asked (meant_as before was u.first (meaning_of before was file u))) (names_in r).used) reading

    means_stay : version ≡ false → means_of files reads file ≡ means_of before was file
    means_stay e = each_stays (λ m. m) (λ token name same.
        (let whole : enum_named before was name ≡ enum_named files reads name = subst (λ b. NamesSameEnum b before was files reads name) e same in
        ap (λ (o : Option EnumOf). let m : MeantOf = record { token = token; name = joined name; enum = o } in m) (sym whole)))

    nameless_stay : version ≡ true → map meant_without_names (means_of files reads file) ≡ map meant_without_names (means_of before was file)
    nameless_stay e =
        map_map (λ (u : Used ℕ). meant_as files reads u.first (meaning_of files reads file u)) meant_without_names (uses_of reads file)
        ∙ each_stays meant_without_names (λ token name same.
        (let nameless : option_map enum_without_names (enum_named before was name) ≡ option_map enum_without_names (enum_named files reads name) = subst (λ b. NamesSameEnum b before was files reads name) e same in
        ap (λ (o : Option EnumOf). let m : MeantOf = record { token = token; name = joined name; enum = o } in m) (sym nameless)))
        ∙ sym (map_map (λ (u : Used ℕ). meant_as before was u.first (meaning_of before was file u)) meant_without_names (uses_of was file))

    lexemes_stay : lexemes_of files reads file ≡ lexemes_of before was file
    lexemes_stay = same_lexemes places before was files reads are.edited file unaffected.within unaffected.left

    version_stays : is_proto3_file files reads file ≡ version
    version_stays = same_version places before was files reads are.edited file unaffected.within unaffected.left

    file_stays : file_at files file ≡ file_at before file
    file_stays = same_file places before was files reads are.edited file unaffected.within unaffected.left

    pub scene_stays : (cap : Option ℕ) → IsSameScene (scene_of cap files reads file) (scene_of cap before was file)
    scene_stays cap = by version refl
      where
        by : (b : Bool) → version ≡ b → IsSameScene (scene_of cap files reads file) (scene_of cap before was file)
        by false e = inl (λ i. record { lexemes = lexemes_stay i; cap = cap; profile = (file_stays i).profile; is_proto3 = version_stays i; means = means_stay e i })
        by true e = inr (version_stays ∙ e, λ i. record { lexemes = lexemes_stay i; cap = cap; profile = (file_stays i).profile; is_proto3 = version_stays i; means = nameless_stay e i })

    descriptor_stays : (cap : Option ℕ) → file_described (scene_of cap files reads file) (file_at files file).path (read_at reads file).tree ≡ file_described (scene_of cap before was file) (file_at before file).path (read_at was file).tree
    descriptor_stays cap =
        described_same (scene_of cap files reads file) (scene_of cap before was file) (scene_stays cap) (file_at files file).path (read_at reads file).tree
        ∙ ap₂ (λ (f : FileOf) (r : ReadOf). file_described (scene_of cap before was file) f.path r.tree) file_stays reading

pub unaffected_scenes_stay : UnaffectedScenesStay
unaffected_scenes_stay places before was files reads are file unaffected cap = scene_stays places before was files reads are file unaffected cap

pub unaffected_descriptors_stay : UnaffectedDescriptorsStay
unaffected_descriptors_stay places before was files reads are file unaffected cap = descriptor_stays places before was files reads are file unaffected cap
