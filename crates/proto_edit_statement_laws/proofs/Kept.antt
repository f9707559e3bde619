-- Deletions, added and dropped imports keep meanings, and no fault of imports, names and references comes in (for the crates above).
use Rattle.std.proofs.Common.{◌≡◌, ◌≢◌, inl, inr, ℕ, Bool, true, false, ◌==◌, not, List, [], ◌∷◌, ◌++◌, map, Option, Some, None, option_map, refl, sym, ◌∙◌, ap, subst, Contains, filter, bytes_eq, eq-eqb}
use Rattle.proto_base.proofs.Common.{and_from, All-contains, All-contains_itself, All-filter, Contains-append_left, Contains-append_right, filter_passes, kind_number, contains_head, contains_map, from_map, same_from_word}
use Rattle.proto_base.specs.declared.fault.FaultKind.{FaultKind}
use Rattle.proto_base.specs.declared.fault.FaultKind.TheVariants as kind
use Rattle.proto_case.specs.Camel.{entry_name}
use Rattle.proto_text.specs.Texts.{offset_at}
use Rattle.proto_files.proofs.Common.{HasNoFault, AreRead, ReadOf, read_at, FileOf, file_at, paths_of, read_once}
use Rattle.proto_names_rules.proofs.Common.{IsAcyclic, Leads, IsAddition, IsNeeded, IsOvertaken, import_of, with_imports, AskedImport, Fault, ImportFault, NameFault, ReferenceFault, cycle, double, file_with_path, imports_of, unknown, IsLinked, IsNested, Import, Reference, Workspace, meaning, reference_of, files_nested, has_meaning, names_sound, references_sound}
use Rattle.proto_names_imports.specs.Links.{LinkFaults, link_imports, link_skeleton, names_in, names_of_files, of_import, of_name, of_reference, text_of}
use Rattle.proto_edit_rename_laws.proofs.NoLinkFault.{files_are_linked}
use Rattle.proto_edit_statement_laws.specs.NamesCommon.{IsPlaceOf, already_imported, asked_in, captured, cycle as cycle_case, is_import_of, needed, unknown_path, HasOneMore}
use Rattle.proto_edit_statement_laws.specs.Clean.{AreClean}
use Rattle.proto_edit_statement_laws.specs.Kept.{AdditionsKeepLinks, AdditionsKeepMeanings, DeletionsKeepLinks, DeletionsKeepMeanings, DropsKeepLinks, DropsKeepMeanings, IsAdded, IsDropped, MeanTheSame}
use Rattle.proto_edit_statement_laws.proofs.ImportNames.{AreSound, acyclic_by, asked_import, import_asked, no_fault, sound_from, sound_less, sound_more, sound_placed, sound_unplaced}
use Rattle.proto_edit_statement_laws.proofs.Less.{less_is_linked, less_means}
use Rattle.proto_edit_statement_laws.proofs.Lists.{one_has, one_or, one_there_is}
use Rattle.proto_edit_statement_laws.proofs.NamesOut.{deletions_have_less, imports_are_more, wanted_all, wanted_kept, written}
use Rattle.proto_edit_statement_laws.proofs.Sight.{needed_by, overtaken_by}
use Rattle.proto_edit_statement_laws.proofs.Spelled.{imports_unplaced, unplaced}

-- ---- files without faults of imports, names and references

module _ (files : List FileOf) (reads : List ReadOf) (c : AreClean files reads) where
  pub linked : IsLinked (names_of_files files reads)
  linked = files_are_linked files reads c.read c.clean

  stands : (f : Fault) (k : FaultKind) → kind_number k ≡ f.number → ImportFault (paths_of files) (asked_in files reads) f → ⊥
  stands f k e h = c.clean (record { path = (file_at files f.place.file).path; offset = offset_at (read_at reads f.place.file).tokens f.place.token; kind = k }) (of_import reads f _ c.read (record { path = refl; offset = refl; number = e }) h)

  none : (f : Fault) → ImportFault (paths_of files) (asked_in files reads) f → ⊥
  none f (unknown a d e) = stands f kind.UnknownImport refl (unknown a d e)
  none f (double a d) = stands f kind.DoubleImport refl (double a d)
  none f (cycle a to d e l) = stands f kind.ImportCycle refl (cycle a to d e l)

  sound : AreSound (paths_of files) (asked_in files reads)
  sound = sound_from (paths_of files) (asked_in files reads) none

links_from : (files : List FileOf) (reads : List ReadOf) → AreRead files reads → AreSound (paths_of files) (asked_in files reads) → IsLinked (names_of_files files reads) → HasNoFault (LinkFaults files)
links_from files reads read ok is x (of_import others f y are at h) =
    no_fault (paths_of files) (asked_in files reads) ok f (subst (λ (rs : List ReadOf). ImportFault (paths_of files) (asked_in files rs) f) (read_once files others reads are read) h)
links_from files reads read ok is x (of_name others f y are at h) =
    names_sound (text_of files reads) (link_skeleton files reads) is f (subst (λ (rs : List ReadOf). NameFault (text_of files rs) (link_skeleton files rs).declared f) (read_once files others reads are read) h)
links_from files reads read ok is x (of_reference others f y are at h) =
    references_sound (text_of files reads) (link_skeleton files reads) is f (subst (λ (rs : List ReadOf). ReferenceFault (text_of files rs) (link_skeleton files rs) f) (read_once files others reads are read) h)

-- a meaning that is kept is the same
same_meaning : (w v : Workspace) → IsLinked w → (r : Reference) → Contains w.references r → ((m : List (List ℕ)) → meaning w r ≡ Some m → meaning v r ≡ Some m) → meaning v r ≡ meaning w r
same_meaning w v ok r c keeps = let m = has_meaning (meaning w r) (ok.resolved r c) in keeps m.0 m.1 ∙ sym m.1

-- ---- deletions

pub deletions_keep_meanings : DeletionsKeepMeanings
deletions_keep_meanings files reads after seen c is r cr =
    let w = names_of_files files reads in
    let v = names_of_files after seen in
    let ok = linked files reads c in
    same_meaning w v ok r cr (λ m h. less_means w v ok (deletions_have_less files reads after seen is) r cr m h)

pub deletions_keep_links : DeletionsKeepLinks
deletions_keep_links files reads after seen c read is =
    let nested : IsNested (names_of_files after seen).symbols = files_nested (text_of after seen) entry_name (link_imports after seen) (map names_in seen) in
    let before = sound_unplaced (paths_of files) (asked_in files reads) (sound files reads c) in
    let here = subst (λ (ps : List (List ℕ)). AreSound ps (map unplaced (asked_in after seen))) (sym is.file.paths) (subst (AreSound (paths_of files)) (sym (wanted_kept files reads after seen is)) before) in
    links_from after seen read (sound_placed (paths_of after) (asked_in after seen) here)
    (less_is_linked (names_of_files files reads) (names_of_files after seen) (linked files reads c) (deletions_have_less files reads after seen is) nested)

-- a path that some case would refuse is a file's
has_place : (o : Option ℕ) → (o ≡ None → ⊥) → (k : ℕ) × (o ≡ Some k)
has_place None h = absurd (h refl)
has_place (Some k) h = (k, refl)

-- ---- an import more

-- what is known of imports that are added and dropped
abbrev pub AddedMeans : Type 0
AddedMeans = (w : Workspace) (imports : List Import) (file path : ℕ) → IsAddition w imports file path → (r : Reference) → (r.file ≡ file → IsOvertaken w (with_imports w imports) r → ⊥) → (m : List (List ℕ)) → meaning w r ≡ Some m → meaning (with_imports w imports) r ≡ Some m

abbrev pub AddedLinked : Type 0
AddedLinked = (w : Workspace) (imports : List Import) (file path : ℕ) → IsLinked w → IsAddition w imports file path → ((r : Reference) → Contains w.references r → r.file ≡ file → IsOvertaken w (with_imports w imports) r → ⊥) → IsLinked (with_imports w imports)

abbrev pub AddedAcyclic : Type 0
AddedAcyclic = (imports : List Import) (file path : ℕ) → IsAcyclic imports → (Leads imports path file → ⊥) → IsAcyclic (imports ++ import_of file path ∷ [])

abbrev pub DroppedMeans : Type 0
DroppedMeans = (w : Workspace) (imports : List Import) → IsLinked w → ((i : Import) → Contains imports i → Contains w.imports i) → (r : Reference) → (IsNeeded w (with_imports w imports) r → ⊥) → (m : List (List ℕ)) → meaning w r ≡ Some m → meaning (with_imports w imports) r ≡ Some m

abbrev pub DroppedLinked : Type 0
DroppedLinked = (w : Workspace) (imports : List Import) → IsLinked w → ((i : Import) → Contains imports i → Contains w.imports i) → ((r : Reference) → Contains w.references r → IsNeeded w (with_imports w imports) r → ⊥) → IsLinked (with_imports w imports)

module _ (files : List FileOf) (reads : List ReadOf) (after : List FileOf) (seen : List ReadOf) (file path : List ℕ) (c : AreClean files reads) (is : IsAdded files reads after seen file path) where
  target : (to : ℕ) × IsPlaceOf files path to
  target = has_place (file_with_path (paths_of files) path) (λ e. is.free 11 (unknown_path e))

  made : (names_of_files after seen ≡ with_imports (names_of_files files reads) (link_imports after seen)) × HasOneMore (import_of is.from target.0) (link_imports files reads) (link_imports after seen)
  made = imports_are_more files reads after seen is.from target.0 path false is.more target.1

  addition : IsAddition (names_of_files files reads) (link_imports after seen) is.from target.0
  addition = record {
    kept = one_has (import_of is.from target.0) (link_imports files reads) (link_imports after seen) made.1;
    only = one_or (import_of is.from target.0) (link_imports files reads) (link_imports after seen) made.1;
  }

  -- the same imports, wherever the new one stands
  at_end : (i : Import) → Contains (link_imports after seen) i → Contains (link_imports files reads ++ import_of is.from target.0 ∷ []) i
  at_end i d = elim (addition.only i d) [
    | inl old ↦ Contains-append_left (link_imports files reads) (import_of is.from target.0 ∷ []) i old
    | inr new ↦ Contains-append_right (link_imports files reads) (import_of is.from target.0 ∷ []) i (subst (Contains (import_of is.from target.0 ∷ [])) new (contains_head (import_of is.from target.0) []))
  ]

  free_of : (r : Reference) → Contains (names_of_files files reads).references r → r.file ≡ is.from → IsOvertaken (names_of_files files reads) (with_imports (names_of_files files reads) (link_imports after seen)) r → ⊥
  free_of r cr own o =
      let w = names_of_files files reads in
      let u = from_map (reference_of (text_of files reads) entry_name) (link_skeleton files reads).used r cr in
      let far = overtaken_by w (link_imports after seen) (link_imports files reads ++ import_of is.from target.0 ∷ []) at_end r o in
      is.free 7 (captured is.from target.0 u.0 is.place target.1 (record {
        used = u.1;
        own = ap (λ (z : Reference). z.file) u.2 ∙ own;
        overtaken = subst (IsOvertaken w (with_imports w (link_imports files reads ++ import_of is.from target.0 ∷ []))) (sym u.2) far;
      }))

  added_means : AddedMeans → MeanTheSame files reads after seen
  added_means means r cr =
      let w = names_of_files files reads in
      subst (λ (v : Workspace). meaning v r ≡ meaning w r) (sym made.0)
      (same_meaning w (with_imports w (link_imports after seen)) (linked files reads c) r cr (means w (link_imports after seen) is.from target.0 addition r (free_of r cr)))

  added_links : AddedLinked → AddedAcyclic → AreRead after seen → HasNoFault (LinkFaults after)
  added_links links acyclic read =
      let w = names_of_files files reads in
      let here : AskedImport = written files reads after seen is.from path false is.more in
      let more = wanted_all files reads after seen is.from path false is.more in
      let ok = sound files reads c in
      let round : IsAcyclic (link_imports after seen) = acyclic_by (link_imports after seen) (link_imports files reads ++ import_of is.from target.0 ∷ []) at_end (acyclic (link_imports files reads) is.from target.0 ok.acyclic (λ l. is.free 14 (cycle_case is.from target.0 is.place target.1 l))) in
      let same : imports_of (paths_of files) (map unplaced (asked_in after seen)) ≡ link_imports after seen = imports_unplaced (paths_of files) (asked_in after seen) ∙ ap (λ (ps : List (List ℕ)). imports_of ps (asked_in after seen)) (sym is.more.file.paths) in
      let all = sound_more (paths_of files) here (map unplaced (asked_in files reads)) (map unplaced (asked_in after seen)) more named new (subst IsAcyclic (sym same) round) (sound_unplaced (paths_of files) (asked_in files reads) ok) in
      links_from after seen read (sound_placed (paths_of after) (asked_in after seen) (subst (λ (ps : List (List ℕ)). AreSound ps (map unplaced (asked_in after seen))) (sym is.more.file.paths) all))
      (subst IsLinked (sym made.0) (links w (link_imports after seen) is.from target.0 (linked files reads c) addition free_of))
    where
      named : file_with_path (paths_of files) path ≢ None
      named e = is.free 11 (unknown_path e)

      new : (b : AskedImport) → Contains (map unplaced (asked_in files reads)) b → b.place.file ≡ is.from → b.path ≡ path → ⊥
      new b d e p = let a = from_map unplaced (asked_in files reads) b d in is.free 12 (already_imported is.from is.place (a.0, a.1, ap (λ (z : AskedImport). z.place.file) a.2 ∙ e, ap (λ (z : AskedImport). z.path) a.2 ∙ p))

pub additions_keep_meanings : AddedMeans → AdditionsKeepMeanings
additions_keep_meanings means files reads after seen file path c is = added_means files reads after seen file path c is means

pub additions_keep_links : AddedLinked → AddedAcyclic → AdditionsKeepLinks
additions_keep_links links acyclic files reads after seen file path c read is = added_links files reads after seen file path c is links acyclic read

-- ---- an import less

module _ (files : List FileOf) (reads : List ReadOf) (after : List FileOf) (seen : List ReadOf) (file path : List ℕ) (c : AreClean files reads) (is : IsDropped files reads after seen file path) where
  -- the first files have the import, so its path is a file's
  goal_of : (to : ℕ) × IsPlaceOf files path to
  goal_of =
      let more = wanted_all after seen files reads is.from path is.is_public is.less in
      let asked : Contains (map unplaced (asked_in files reads)) (written after seen files reads is.from path is.is_public is.less) = one_there_is (written after seen files reads is.from path is.is_public is.less) (map unplaced (asked_in after seen)) (map unplaced (asked_in files reads)) more in
      has_place (file_with_path (paths_of files) path) ((sound_unplaced (paths_of files) (asked_in files reads) (sound files reads c)).known (written after seen files reads is.from path is.is_public is.less) asked)

  goal_after : file_with_path (paths_of after) path ≡ Some goal_of.0
  goal_after = subst (λ (ps : List (List ℕ)). file_with_path ps path ≡ Some goal_of.0) is.less.file.paths goal_of.1

  undone : (names_of_files files reads ≡ with_imports (names_of_files after seen) (link_imports files reads)) × HasOneMore (record { from = is.from; to = goal_of.0; is_public = is.is_public }) (link_imports after seen) (link_imports files reads)
  undone = imports_are_more after seen files reads is.from goal_of.0 path is.is_public is.less goal_after

  names_after : names_of_files after seen ≡ with_imports (names_of_files files reads) (link_imports after seen)
  names_after = sym (ap (λ (z : Workspace). with_imports z (link_imports after seen)) undone.0)

  fewer : (i : Import) → Contains (link_imports after seen) i → Contains (link_imports files reads) i
  fewer = one_has (record { from = is.from; to = goal_of.0; is_public = is.is_public }) (link_imports after seen) (link_imports files reads) undone.1

  -- the imports but the file's of this path are there afterwards
  others_stay : (i : Import) → Contains (imports_of (paths_of files) (filter (λ a. not (is_import_of is.from path a)) (asked_in files reads))) i → Contains (link_imports after seen) i
  others_stay i d =
      let a = import_asked (paths_of files) (filter (λ a. not (is_import_of is.from path a)) (asked_in files reads)) i d in
      let p : AskedImport → Bool = λ a. not (is_import_of is.from path a) in
      let all = asked_in files reads in
      let kept : Contains all a.0 = All-contains (Contains all) (filter p all) a.0 (All-filter p (Contains all) all (All-contains_itself all)) a.1 in
      let passes : not (is_import_of is.from path a.0) ≡ true = All-contains (λ x. p x ≡ true) (filter p all) a.0 (filter_passes p all) a.1 in
      let more = wanted_all after seen files reads is.from path is.is_public is.less in
      elim (one_or (written after seen files reads is.from path is.is_public is.less) (map unplaced (asked_in after seen)) (map unplaced (asked_in files reads)) more (unplaced a.0) (contains_map unplaced (asked_in files reads) a.0 kept)) [
        | inl there ↦
            let e = asked_import (paths_of files) (map unplaced (asked_in after seen)) (unplaced a.0) i there a.2 in
            subst (λ (is : List Import). Contains is i) (imports_unplaced (paths_of files) (asked_in after seen) ∙ ap (λ (ps : List (List ℕ)). imports_of ps (asked_in after seen)) is.less.file.paths) e
        | inr same ↦ absurd (is_not (is_import_of is.from path a.0) passes
            (and_from (a.0.place.file == is.from) (bytes_eq a.0.path path) (eq-eqb a.0.place.file is.from (sym (ap (λ (z : AskedImport). z.place.file) same))) (same_from_word a.0.path path (sym (ap (λ (z : AskedImport). z.path) same)))))
      ]
    where
      is_not : (b : Bool) → not b ≡ true → b ≡ true → ⊥
      is_not true e f = cc
      is_not false e f = cc

  none_needed : (r : Reference) → Contains (names_of_files files reads).references r → IsNeeded (names_of_files files reads) (with_imports (names_of_files files reads) (link_imports after seen)) r → ⊥
  none_needed r cr n =
      let w = names_of_files files reads in
      let less = imports_of (paths_of files) (filter (λ a. not (is_import_of is.from path a)) (asked_in files reads)) in
      let u = from_map (reference_of (text_of files reads) entry_name) (link_skeleton files reads).used r cr in
      is.free 15 (needed is.from u.0 is.place (record { used = u.1; needed = subst (IsNeeded w (with_imports w less)) (sym u.2) (needed_by w less (link_imports after seen) others_stay r n) }))

  dropped_means : DroppedMeans → MeanTheSame files reads after seen
  dropped_means means r cr =
      let w = names_of_files files reads in
      let ok = linked files reads c in
      subst (λ (v : Workspace). meaning v r ≡ meaning w r) (sym names_after)
      (same_meaning w (with_imports w (link_imports after seen)) ok r cr (means w (link_imports after seen) ok fewer r (none_needed r cr)))

  dropped_links : DroppedLinked → AreRead after seen → HasNoFault (LinkFaults after)
  dropped_links links read =
      let w = names_of_files files reads in
      let ok = linked files reads c in
      let more = wanted_all after seen files reads is.from path is.is_public is.less in
      let all = sound_less (paths_of files) (written after seen files reads is.from path is.is_public is.less) (map unplaced (asked_in after seen)) (map unplaced (asked_in files reads)) more (record { from = is.from; to = goal_of.0; is_public = is.is_public })
      (ap (option_map (λ t. let j : Import = record { from = is.from; to = t; is_public = is.is_public } in j)) goal_of.1) (sound_unplaced (paths_of files) (asked_in files reads) (sound files reads c)) in
      links_from after seen read (sound_placed (paths_of after) (asked_in after seen) (subst (λ (ps : List (List ℕ)). AreSound ps (map unplaced (asked_in after seen))) is.less.file.paths all))
      (subst IsLinked (sym names_after) (links w (link_imports after seen) ok fewer none_needed))

pub drops_keep_meanings : DroppedMeans → DropsKeepMeanings
drops_keep_meanings means files reads after seen file path c is = dropped_means files reads after seen file path c is means

pub drops_keep_links : DroppedLinked → DropsKeepLinks
drops_keep_links links files reads after seen file path c read is = dropped_links files reads after seen file path c is links read
