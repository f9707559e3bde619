-- What is kept of a file, and the link of the edited files, tell that the file is unaffected.
use Rattle.std.proofs.Common.{◌≡◌, ℕ, suc, ◌+◌, ◌<◌, Bool, true, false, List, [], ◌∷◌, length, get_or, map, Option, Some, None, option_map, refl, sym, ◌∙◌, ap, subst, subst₂, inl, inr, ◌⊎◌, arith, true≢false, All, Contains}
use Rattle.proto_base.proofs.Common.{contains_cases, same_Some}
use Rattle.proto_files.proofs.Common.{AreRead, FileOf, HasNoFault, ReadOf, read_at}
use Rattle.proto_names_rules.specs.declared.kind.Kind.{Kind}
use Rattle.proto_names_rules.specs.declared.kind.Kind.TheVariants.{Message}
use Rattle.proto_names_rules.proofs.Common.{ArePlain, At, Declared, Used, all_used, joined, joined_apart, map_agree, meant, place_of, unresolved, used_in}
use Rattle.proto_names_imports.proofs.Common.{names_are_plain, use_in}
use Rattle.proto_names_imports.specs.Links.{LinkFaults, names_in, names_of_files, text_of, used_named, uses_of}
use Rattle.proto_names.specs.LinkOfFiles.{IsLinkRead, meant_by_link, meant_by_use}
use Rattle.proto_names.specs.Linking.{LinkOf, Meant, NameOf, name_at}
use Rattle.proto_names_update.proofs.Clean.{no_reference}
use Rattle.proto_names_update.proofs.Differing.{turned}
use Rattle.proto_resolved.specs.SceneOf.{declared_as, enum_named, is_proto3_file, meaning_of}
use Rattle.proto_desc_extensions.specs.Extends.{has_extend}
use Rattle.proto_desc_affected.specs.Checked.{AreKeptOf, AreMeantStill, DoesMeanStill, IsEnumStill, IsKeptStill, IsMeantStill, KeepsEnum, FileSummaryOf, KeptFilesTellUnaffected, is_message_kind, file_summary, type_use, nothing_kept}
use Rattle.proto_desc_affected.specs.Extended.{RefersElsewhere}
use Rattle.proto_desc_affected.specs.Unaffected.{AreSoundlyEdited, NamesSameEnum, StoodElsewhere}
use Rattle.proto_desc_affected.specs.Values.{IsSameEnum}
use Rattle.proto_desc_affected.proofs.Declared.{IsNamed, declared_named, meant_named, named_still}
use Rattle.proto_desc_affected.proofs.EnumSummaries.{kept_enums_stay, kept_is, kept_named}
use Rattle.proto_desc_affected.proofs.Linked.{has_meant, message_kind, no_enum_named}
use Rattle.proto_desc_affected.proofs.SameScenes.{same_enum}
use Rattle.proto_desc_affected.proofs.Unedited.{as_many, same_reading, same_version}

-- ---- references

pub plain_meaning : (files : List FileOf) (reads : List ReadOf) → AreRead files reads → (file : ℕ) (u : Used ℕ) (name : List (List ℕ)) → meaning_of files reads file u ≡ Some name → ArePlain name
plain_meaning files reads read file u name means =
    let t = meant (names_of_files files reads) (used_named (text_of files reads) file u) name means in
    subst ArePlain t.2 (names_are_plain files reads read t.0 t.1)

-- in files without faults each means something
pub resolved : (files : List FileOf) (reads : List ReadOf) → AreRead files reads → HasNoFault (LinkFaults files) → (file : ℕ) (u : Used ℕ) → file < length reads → Contains (uses_of reads file) u → meaning_of files reads file u ≡ None → ⊥
resolved files reads read clean file u l c none =
    let zero_more : 0 + file ≡ file = omega arith in
    let there : Contains (all_used 0 (map names_in reads)) (used_in file u) = subst (λ n. Contains (all_used 0 (map names_in reads)) (used_in n u)) zero_more (use_in 0 file reads u l c) in
    no_reference files reads read clean _ (unresolved (used_in file u) there none)

-- whether a declaration, if there is one, is a message's
abbrev kind_of : Option (Declared At) → Bool
kind_of o = is_message_kind (option_map (λ (x : Declared At). x.kind) o)

-- ---- files

module _ (places : List ℕ) (before : List FileOf) (was : List ReadOf) (files : List FileOf) (reads : List ReadOf) (are : AreSoundlyEdited places before was files reads) where
  -- what stands in a file that is not edited stood there
  stood_there : (name : List (List ℕ)) (d : Declared At) → IsNamed files reads name d → (Contains places (place_of d).file → ⊥) → declared_as before was name ≡ Some d
  stood_there name d is elsewhere = declared_named before was are.apart_before name d (named_still places files reads before was (turned places before was files reads are.edited) name d is elsewhere).named

  stood : (name : List (List ℕ)) (d : Declared At) → declared_as before was name ≡ Some d → (Contains places (place_of d).file → ⊥) → StoodElsewhere places before was name
  stood name d found elsewhere x q = subst (λ (y : Declared At). Contains places (place_of y).file → ⊥) (same_Some d x (sym found ∙ q)) elsewhere

  module _ (clean : HasNoFault (LinkFaults before)) (ks : List FileSummaryOf) (keeps : AreKeptOf before ks) (l : LinkOf) (link : IsLinkRead files reads l) (file : ℕ) (is : IsKeptStill places files l ks file) where
    reading : read_at reads file ≡ read_at was file
    reading = same_reading places before was files reads are.edited file is.within is.left

    uses_were : uses_of reads file ≡ uses_of was file
    uses_were = ap (λ (r : ReadOf). (names_in r).used) reading

    within_before : file < length was
    within_before = omega (arith, is.within, as_many places before was files reads are.edited, are.edited.were_read.same)

    kept_before : (k : ℕ) → k < length files → get_or ks k nothing_kept ≡ file_summary before was k
    kept_before k within = keeps.each k nothing_kept (omega (arith, within, keeps.len, as_many places before was files reads are.edited)) was are.edited.were_read

    abbrev by_which : FileSummaryOf
    by_which = file_summary before was file

    abbrev had_extend : Bool
    had_extend = has_extend (read_at was file).tree

    abbrev version : Bool
    version = is_proto3_file before was file

    -- a reference means the name that it meant, of which the same is kept; and this stood in a file
    -- that is not edited, or is no enum's, or an enum's that is to the file what it was
    record StaysMeant (u : Used ℕ) : Type 0 where
      name : List (List ℕ)
      meant_before : meaning_of before was file u ≡ Some name
      meant_now : meaning_of files reads file u ≡ Some name
      kept : type_use files reads (Some name) ≡ type_use before was (Some name)
      settled : StoodElsewhere places before was name ⊎ ((had_extend ≡ false) × NamesSameEnum version before was files reads name)

    -- where the name is that of an enum which is kept, and is the same to the file, it is so
    enum_stays : (name : List (List ℕ)) → ArePlain name → IsEnumStill files ks version (joined name) → (type_use files reads (Some name) ≡ type_use before was (Some name)) × NamesSameEnum version before was files reads name
    enum_stays name plain still =
        let within : still.file < length before = omega (arith, still.within, as_many places before was files reads are.edited) in
        let b = kept_is before was are.edited.were_read still.file within name plain still.before (subst (λ (k : FileSummaryOf). KeepsEnum k (joined name) still.before) (kept_before still.file still.within) still.was) in
        let n = kept_is files reads are.edited.are_read still.file still.within name plain still.now (still.is reads are.edited.are_read) in
        let kind_before : kind_of (declared_as before was name) ≡ false = ap kind_of (declared_named before was are.apart_before name b.declared b.named) ∙ ap (λ (k : Kind). is_message_kind (Some k)) b.kind in
        let kind_now : kind_of (declared_as files reads name) ≡ false = ap kind_of (declared_named files reads are.apart_now name n.declared n.named) ∙ ap (λ (k : Kind). is_message_kind (Some k)) n.kind in
        let named_before : enum_named before was name ≡ Some still.before = kept_named before was are.edited.were_read still.file within are.apart_before name still.before b in
        let named_now : enum_named files reads name ≡ Some still.now = kept_named files reads are.edited.are_read still.file still.within are.apart_now name still.now n in
        (λ i. record { text = joined name; is_message = (kind_now ∙ sym kind_before) i }, subst₂ (IsSameEnum version) (sym named_before) (sym named_now) still.same)

    stays_meant : (u : Used ℕ) → Contains (uses_of reads file) u → (m : Meant) → meant_by_link l m ≡ meant_by_use files reads file u → (n : NameOf) × (name_at l m.row ≡ Some n)
        → IsMeantStill places files l ks by_which (type_use before was (meaning_of before was file u)) m → StaysMeant u
    stays_meant u c m e within still = by (meaning_of before was file u) refl still
      where
        by : (o : Option (List (List ℕ))) → meaning_of before was file u ≡ o → IsMeantStill places files l ks by_which (type_use before was o) m → StaysMeant u
        by None none still = absurd (resolved before was are.edited.were_read clean file u within_before (subst (λ us. Contains us u) uses_were c) none)
        by (Some name) means still =
            let h = has_meant files reads l link file u m e within in
            let same : h.name ≡ name = joined_apart h.name name (plain_meaning files reads are.edited.are_read file u h.name h.means) (plain_meaning before was are.edited.were_read file u name means) (same_Some (joined h.name) (joined name) (sym h.text ∙ still.text)) in
            let now : meaning_of files reads file u ≡ Some name = h.means ∙ ap (λ (n : List (List ℕ)). Some n) same in
            let named : IsNamed files reads name h.declared = subst (λ n. IsNamed files reads n h.declared) same h.named in
            let found : declared_as files reads name ≡ Some h.declared = ap (declared_as files reads) (sym same) ∙ h.found in
            elim still.settled [
              | inl elsewhere ↦ (
                  let left : Contains places (place_of h.declared).file → ⊥ = elsewhere (place_of h.declared).file h.file_is in
                  let found_before = stood_there name h.declared named left in
                  record {
                    name = name;
                    meant_before = means;
                    meant_now = now;
                    kept = λ i. record { text = joined name; is_message = is_message_kind (option_map (λ (d : Declared At). d.kind) ((found ∙ sym found_before) i)) };
                    settled = inl (stood name h.declared found_before left);
                  })
              | inr there ↦ elim there.1 [
                | inl messages ↦ (
                    let d = meant_named before was file u name means in
                    let found_before : declared_as before was name ≡ Some d.0 = declared_named before was are.apart_before name d.0 d.1 in
                    let was_message : d.0.kind ≡ Message = message_kind d.0.kind (sym (ap kind_of found_before) ∙ messages.0) in
                    let is_message : h.declared.kind ≡ Message = message_kind h.declared.kind (sym (ap is_message_kind h.kind) ∙ messages.1) in
                    let kind_now : kind_of (declared_as files reads name) ≡ true = ap kind_of found ∙ ap (λ (k : Kind). is_message_kind (Some k)) is_message in
                    record {
                      name = name;
                      meant_before = means;
                      meant_now = now;
                      kept = λ i. record { text = joined name; is_message = (kind_now ∙ sym messages.0) i };
                      settled = inr (
                        there.0,
                        same_enum version (enum_named before was name) (enum_named files reads name)
                            (no_enum_named before was are.edited.were_read name d.0 d.1 was_message found_before
                            ∙ sym (no_enum_named files reads are.edited.are_read name h.declared named is_message found)),
                      );
                    })
                | inr enum ↦ (
                    let e = enum_stays name (plain_meaning before was are.edited.were_read file u name means) (enum (joined name) still.text) in
                    record { name = name; meant_before = means; meant_now = now; kept = e.0; settled = inr (there.0, e.1) })
              ]
            ]

    -- each reference has what is kept of it, and what the link has
    go : (us : List (Used ℕ)) (ms : List Meant) → map (meant_by_link l) ms ≡ map (meant_by_use files reads file) us → All (λ (m : Meant). (n : NameOf) × (name_at l m.row ≡ Some n)) ms
        → AreMeantStill places files l ks by_which (map (λ u. type_use before was (meaning_of before was file u)) us) ms
        → (u : Used ℕ) → Contains us u → Contains (uses_of reads file) u → StaysMeant u
    go [] ms e rows still u c whole = absurd (omega (arith, c.1))
    go (v ∷ us) [] e rows still u c whole = absurd still
    go (v ∷ us) (m ∷ ms) e rows still u c whole =
        let here : meant_by_link l m ≡ meant_by_use files reads file v = cc in
        let on : map (meant_by_link l) ms ≡ map (meant_by_use files reads file) us = cc in
        elim (contains_cases v u us c) [
          | inl same ↦ subst StaysMeant same (stays_meant v (subst (Contains (uses_of reads file)) (sym same) whole) m here (rows 0 m (omega arith)) still.0)
          | inr d ↦ go us ms on (λ k x n. rows (suc k) x (omega (arith, n))) still.1 u d whole
        ]

    each : (u : Used ℕ) → Contains (uses_of reads file) u → StaysMeant u
    each u c =
        go (uses_of reads file) (get_or l.meant file []) (link.means file is.within).texts (link.means file is.within).within
        (subst (λ (us : List (Used ℕ)). AreMeantStill places files l ks by_which (map (λ u. type_use before was (meaning_of before was file u)) us) (get_or l.meant file [])) (sym uses_were)
        (subst (DoesMeanStill places files l ks file) (kept_before file is.within) is.means)) u c c

    settled_by : (u : Used ℕ) (s : StaysMeant u) (name : List (List ℕ)) → meaning_of files reads file u ≡ Some name → StoodElsewhere places before was name ⊎ ((had_extend ≡ false) × NamesSameEnum version before was files reads name)
    settled_by u s name now = subst (λ (n : List (List ℕ)). StoodElsewhere places before was n ⊎ ((had_extend ≡ false) × NamesSameEnum version before was files reads n)) (same_Some s.name name (sym s.meant_now ∙ now)) s.settled

    enums_stay : (u : Used ℕ) (name : List (List ℕ)) → Contains (uses_of reads file) u → meaning_of files reads file u ≡ Some name → StoodElsewhere places before was name ⊎ NamesSameEnum version before was files reads name
    enums_stay u name c now = elim (settled_by u (each u c) name now) [
      | inl elsewhere ↦ inl elsewhere
      | inr same ↦ inr same.1
    ]

    kept_stays : file_summary files reads file ≡ file_summary before was file
    kept_stays =
        let now = λ (u : Used ℕ). type_use files reads (meaning_of files reads file u) in
        let earlier = λ (u : Used ℕ). type_use before was (meaning_of before was file u) in
        let names = map_agree now earlier (uses_of reads file) (λ u c. (
        let s = each u c in
        ap (type_use files reads) s.meant_now ∙ s.kept ∙ sym (ap (type_use before was) s.meant_before))) in
        λ i. record {
          means = (names ∙ ap (map earlier) uses_were) i;
          enums = kept_enums_stay places before was files reads are.edited file is.within is.left i;
          is_proto3 = same_version places before was files reads are.edited file is.within is.left i;
          has_extend = has_extend (reading i).tree;
        }

    refers_elsewhere : (b : Bool) → has_extend (read_at reads file).tree ≡ b → (has_extend (read_at reads file).tree ≡ false) ⊎ RefersElsewhere places before was files reads file
    refers_elsewhere false e = inl e
    refers_elsewhere true e = inr (λ u name c now. elim (settled_by u (each u c) name now) [
      | inl elsewhere ↦ elsewhere
      | inr same ↦ absurd (true≢false (sym e ∙ ap (λ (r : ReadOf). has_extend r.tree) reading ∙ same.0))
    ])

pub kept_files_tell_unaffected : KeptFilesTellUnaffected
kept_files_tell_unaffected places before was files reads are clean ks kept l link file is =
    let read = link reads are.edited.are_read in
    record {
      unaffected = record {
        within = is.within;
        left = is.left;
        means = λ u c. (let s = each places before was files reads are clean ks kept l read file is u c in s.meant_now ∙ sym s.meant_before);
        enums = enums_stay places before was files reads are clean ks kept l read file is;
      };
      kept = kept_stays places before was files reads are clean ks kept l read file is;
      extendees = refers_elsewhere places before was files reads are clean ks kept l read file is (has_extend (read_at reads file).tree) refl;
    }
