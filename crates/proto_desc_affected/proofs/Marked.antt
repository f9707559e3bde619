-- What is kept of a file that need not be re-checked tells that the file is unaffected.
use Rattle.std.proofs.Common.{◌≡◌, ℕ, suc, ◌+◌, ◌<◌, Bool, false, List, [], ◌∷◌, length, get_or, map, Option, Some, None, option_map, refl, sym, ◌∙◌, ap, subst, inl, inr, arith, All, Contains}
use Rattle.proto_base.proofs.Common.{contains_head, contains_later, contains_map, false≢true, from_map, same_Some, contains_or_not}
use Rattle.proto_case.specs.Camel.{entry_name}
use Rattle.proto_files.proofs.Common.{FileOf, HasNoFault, ReadOf}
use Rattle.proto_names_rules.specs.declared.kind.Kind.{Kind}
use Rattle.proto_names_rules.specs.declared.kind.Kind.TheVariants.{Message}
use Rattle.proto_names_rules.proofs.Common.{At, Declared, Reference, Symbol, Used, all_used, joined, meaning, reference_of, symbol_of, used_in}
use Rattle.proto_names_imports.proofs.Common.{use_in}
use Rattle.proto_names_imports.specs.Links.{LinkFaults, link_skeleton, names_in, names_of_files, text_of, used_named, uses_of}
use Rattle.proto_names.specs.LinkOfFiles.{IsLinkRead, meant_by_link, meant_by_use}
use Rattle.proto_names.specs.Linking.{LinkOf, Meant, NameOf, name_at}
use Rattle.proto_names_update.specs.Edited.{EditedFilesDiffer}
use Rattle.proto_names_update.specs.Relinked.{HasToLook, UnmarkedFilesMeanTheSame}
use Rattle.proto_names_update.proofs.Differing.{same_reference}
use Rattle.proto_resolved.specs.SceneOf.{declared_as, meaning_of}
use Rattle.proto_desc_affected.specs.Checked.{AreKeptOf, AreMeantStill, DoesMeanStill, IsMeantStill, IsSettled, FileSummaryOf, MarksTellKept, is_message_kind, file_summary, type_use, nothing_kept}
use Rattle.proto_desc_affected.specs.Unaffected.{AreSoundlyEdited}
use Rattle.proto_desc_affected.proofs.Checked.{resolved}
use Rattle.proto_desc_affected.proofs.Declared.{IsNamed, declared_named, meant_kind, meant_named}
use Rattle.proto_desc_affected.proofs.Linked.{has_meant, message_kind}
use Rattle.proto_desc_affected.proofs.Unedited.{as_many, same_reading, same_text}

-- a use of a file is a reference of the files
reference_there : (files : List FileOf) (reads : List ReadOf) (file : ℕ) (u : Used ℕ) → file < length reads → Contains (uses_of reads file) u → Contains (names_of_files files reads).references (used_named (text_of files reads) file u)
reference_there files reads file u l c =
    let zero_more : 0 + file ≡ file = omega arith in
    contains_map (reference_of (text_of files reads) entry_name) (all_used 0 (map names_in reads)) (used_in file u)
    (subst (λ n. Contains (all_used 0 (map names_in reads)) (used_in n u)) zero_more (use_in 0 file reads u l c))

module _ (differ : EditedFilesDiffer) (unmarked : UnmarkedFilesMeanTheSame) (key : List ℕ → ℕ) (places : List ℕ) (before : List FileOf) (was : List ReadOf) (files : List FileOf) (reads : List ReadOf) (marks : List Bool) (are : AreSoundlyEdited places before was files reads) (clean : HasNoFault (LinkFaults before))
    (told : HasToLook key places before was files reads marks) (ks : List FileSummaryOf) (kept : AreKeptOf before ks) (l : LinkOf) (link : IsLinkRead files reads l) (file : ℕ) (within : file < length files) (off : get_or marks file false ≡ false) where
  left : Contains places file → ⊥
  left c = false≢true (sym off ∙ told.edited file c)

  within_now : file < length reads
  within_now = omega (arith, within, are.edited.are_read.same)

  within_before : file < length was
  within_before = omega (arith, within, as_many places before was files reads are.edited, are.edited.were_read.same)

  uses_were : uses_of reads file ≡ uses_of was file
  uses_were = ap (λ (r : ReadOf). (names_in r).used) (same_reading places before was files reads are.edited file within left)

  same_use : (u : Used ℕ) → used_named (text_of files reads) file u ≡ used_named (text_of before was) file u
  same_use u = same_reference (text_of before was) (text_of files reads) file (same_text places before was files reads are.edited file within left) u

  -- a reference means what it meant
  means_still : (u : Used ℕ) → Contains (uses_of reads file) u → meaning_of files reads file u ≡ meaning_of before was file u
  means_still u c =
      unmarked key places before was files reads marks are.edited clean told (used_named (text_of files reads) file u) (reference_there files reads file u within_now c) off
      ∙ ap (λ (r : Reference). meaning (names_of_files before was) r) (same_use u)

  -- and that is declared still
  stays_declared : (u : Used ℕ) → Contains (uses_of was file) u → (name : List (List ℕ)) → meaning_of before was file u ≡ Some name → (d : Declared At) → IsNamed before was name d → Contains (names_of_files files reads).symbols (symbol_of (text_of before was) entry_name d)
  stays_declared u c name means d is =
      let s : Symbol = symbol_of (text_of before was) entry_name d in
      let there = contains_map (symbol_of (text_of before was) entry_name) (link_skeleton before was).declared d is.there in
      elim (contains_or_not places s.file) [
        | inl edited ↦ told.none_gone (used_named (text_of before was) file u) s (reference_there before was file u within_before c) off (means ∙ ap (λ (n : List (List ℕ)). Some n) (sym is.spelled)) there edited (meant_kind before was are.apart_before file u name means d is)
        | inr elsewhere ↦ (differ places before was files reads are.edited).stay s there elsewhere
      ]

  -- with the kind that it had
  kind_stays : (u : Used ℕ) → Contains (uses_of was file) u → (name : List (List ℕ)) → meaning_of before was file u ≡ Some name → (d : Declared At) → IsNamed before was name d → (x : Declared At) → declared_as files reads name ≡ Some x → x.kind ≡ d.kind
  kind_stays u c name means d is x found =
      let t = from_map (symbol_of (text_of files reads) entry_name) (link_skeleton files reads).declared (symbol_of (text_of before was) entry_name d) (stays_declared u c name means d is) in
      let kind : t.0.kind ≡ d.kind = ap (λ (s : Symbol). s.kind) t.2 in
      let named : IsNamed files reads name t.0 = record { there = t.1; other = λ e. is.other (sym kind ∙ e); spelled = ap (λ (s : Symbol). s.name) t.2 ∙ is.spelled } in
      ap (λ (y : Declared At). y.kind) (same_Some x t.0 (sym found ∙ declared_named files reads are.apart_now name t.0 named)) ∙ kind

  abbrev by_which : FileSummaryOf
  by_which = file_summary before was file

  kept_before : get_or ks file nothing_kept ≡ by_which
  kept_before = kept.each file nothing_kept (omega (arith, within, kept.len, as_many places before was files reads are.edited)) was are.edited.were_read

  stays_meant : (u : Used ℕ) → Contains (uses_of reads file) u → (m : Meant) → meant_by_link l m ≡ meant_by_use files reads file u → (n : NameOf) × (name_at l m.row ≡ Some n) → IsSettled places files l ks by_which m → IsMeantStill places files l ks by_which (type_use before was (meaning_of before was file u)) m
  stays_meant u c m e there settled = by (meaning_of before was file u) refl
    where
      c_before : Contains (uses_of was file) u
      c_before = subst (λ us. Contains us u) uses_were c

      by : (o : Option (List (List ℕ))) → meaning_of before was file u ≡ o → IsMeantStill places files l ks by_which (type_use before was o) m
      by None none = absurd (resolved before was are.edited.were_read clean file u within_before c_before none)
      by (Some name) means =
          let h = has_meant files reads l link file u m e there in
          let same : h.name ≡ name = same_Some h.name name (sym h.means ∙ means_still u c ∙ means) in
          let found : declared_as files reads name ≡ Some h.declared = ap (declared_as files reads) (sym same) ∙ h.found in
          let d = meant_named before was file u name means in
          let found_before : declared_as before was name ≡ Some d.0 = declared_named before was are.apart_before name d.0 d.1 in
          record {
            text = h.text ∙ ap (λ (n : List (List ℕ)). Some (joined n)) same;
            settled = elim settled [
              | inl elsewhere ↦ inl elsewhere
              | inr there ↦ inr (
                there.0,
                elim there.1 [
                  | inl message ↦ (
                      let now : h.declared.kind ≡ Message = message_kind h.declared.kind (sym (ap is_message_kind h.kind) ∙ message) in
                      let earlier : d.0.kind ≡ Message = sym (kind_stays u c_before name means d.0 d.1 h.declared found) ∙ now in
                      inl (ap (λ (o : Option (Declared At)). is_message_kind (option_map (λ (y : Declared At). y.kind) o)) found_before ∙ ap (λ (k : Kind). is_message_kind (Some k)) earlier, message))
                  | inr enum ↦ inr enum
                ],
              )
            ];
          }

  -- each reference, one for one
  go : (us : List (Used ℕ)) (ms : List Meant) → map (meant_by_link l) ms ≡ map (meant_by_use files reads file) us → All (λ (m : Meant). (n : NameOf) × (name_at l m.row ≡ Some n)) ms → All (IsSettled places files l ks by_which) ms
      → ((u : Used ℕ) → Contains us u → Contains (uses_of reads file) u) → AreMeantStill places files l ks by_which (map (λ u. type_use before was (meaning_of before was file u)) us) ms
  go [] [] e rows settled whole = tt
  go [] (m ∷ ms) e rows settled whole = absurd (cc)
  go (u ∷ us) [] e rows settled whole = absurd (cc)
  go (u ∷ us) (m ∷ ms) e rows settled whole =
      let here : meant_by_link l m ≡ meant_by_use files reads file u = cc in
      let on : map (meant_by_link l) ms ≡ map (meant_by_use files reads file) us = cc in (
        stays_meant u (whole u (contains_head u us)) m here (rows 0 m (omega arith)) (settled 0 m (omega arith)),
        go us ms on (λ k x n. rows (suc k) x (omega (arith, n))) (λ k x n. settled (suc k) x (omega (arith, n))) (λ v c. whole v (contains_later u v us c)),
      )

  still : All (IsSettled places files l ks by_which) (get_or l.meant file []) → AreMeantStill places files l ks by_which (map (λ u. type_use before was (meaning_of before was file u)) (uses_of was file)) (get_or l.meant file [])
  still settled =
      subst (λ (us : List (Used ℕ)). AreMeantStill places files l ks by_which (map (λ u. type_use before was (meaning_of before was file u)) us) (get_or l.meant file [])) uses_were
      (go (uses_of reads file) (get_or l.meant file []) (link.means file within).texts (link.means file within).within settled (λ u c. c))

pub marks_tell_kept : EditedFilesDiffer → UnmarkedFilesMeanTheSame → MarksTellKept
marks_tell_kept differ unmarked key places before was files reads marks are clean told ks kept l link file within off settled =
    let read = link reads are.edited.are_read in
    let same = kept_before differ unmarked key places before was files reads marks are clean told ks kept l read file within off in
    record {
      within = within;
      left = left differ unmarked key places before was files reads marks are clean told ks kept l read file within off;
      means =
          subst (DoesMeanStill places files l ks file) (sym same)
          (still differ unmarked key places before was files reads marks are clean told ks kept l read file within off
          (subst (λ (k : FileSummaryOf). All (IsSettled places files l ks k) (get_or l.meant file [])) same settled));
    }
