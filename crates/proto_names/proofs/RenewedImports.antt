-- The imports of edited files in place of those that they had, and what files see then.
use Rattle.std.proofs.Common.{◌≡◌, ◌⊎◌, ℕ, ◌<◌, Bool, true, false, List, [], length, get_or, map, sym, ◌∙◌, ap, subst, inl, inr, arith, All, Contains}
use Rattle.proto_base.proofs.Common.{Contains-get_or, Vec, both_ways, length-map}
use Rattle.proto_files.proofs.Common.{AreRead, FileOf, ReadOf, paths_of}
use Rattle.proto_names_imports.proofs.Common.{all_imports, all_wanted, imports_within, link_imports, names_in, names_of_files, text_of}
use Rattle.proto_names_imports.proofs.EditedCycles.{edited_acyclic}
use Rattle.proto_names_imports.proofs.ImportGraph.{resolved_within}
use Rattle.proto_names_imports.proofs.SightStays.{sight_stays as walks_stay}
use Rattle.proto_names_imports.specs.ImportSteps.{LeadsToItself}
use Rattle.proto_names_imports.specs.Laws.{AreImportLists, KeepImports, KeptImportsAreEqual, KeptImportsAreSound, ListedImportsAreSound, ListedImportsAreThese}
use Rattle.proto_names_imports.specs.declared.import.FileImport.{FileImport}
use Rattle.proto_base.proofs.WithValues.{length-with_values, map-with_values}
use Rattle.proto_base.specs.Undone.{with_values}
use Rattle.proto_names_update.proofs.EditedImports.{lists_edited}
use Rattle.proto_names_update.specs.KeptImports.{AreImportsAt, WereImports}
use Rattle.proto_names_rules.proofs.Common.{Import, IsAcyclic, MarksSeen, Workspace}
use Rattle.proto_names.proofs.LinkParts.{files_between, marks_seen}
use Rattle.proto_names.proofs.NoCycles.{acyclic_by_faults}
use Rattle.proto_names.proofs.RenewedMeanings.{same_sight}
use Rattle.proto_names.proofs.ValuesAtPlaces.{all_with, value_at}
use Rattle.proto_names.specs.Sight.{AreLinkImports, IsSightOf, KeepsSight, WasSight, public_files}

module _ (files : List FileOf) (places : List ℕ) (imports : List (Vec FileImport)) (seen : List (List Bool)) (was : WasSight places files (map (λ v. v.items) imports) seen) where
  many : length was.before ≡ length files
  many = sym (length-map was.before (λ (f : FileOf). f.path)) ∙ ap length was.same.paths ∙ length-map files (λ (f : FileOf). f.path)

  pub imports_count : length imports ≡ length files
  imports_count = sym (length-map imports (λ v. v.items)) ∙ was.listed.count ∙ many

  pub sight_count : length seen ≡ length files
  sight_count = was.sight.count ∙ many

  were_imports : WereImports places files (map (λ v. v.items) imports) was.before was.was
  were_imports = record { same = was.same; were_read = was.were_read; imports = was.listed.same }

  -- ---- where all import what they imported

  module _ (equal : KeptImportsAreEqual) (sound : KeptImportsAreSound)
      (kept : (before : List FileOf) (had : List ReadOf) → WereImports places files (map (λ v. v.items) imports) before had → (reads : List ReadOf) → AreRead files reads → KeepImports before had files reads)
      (reads : List ReadOf) (are : AreRead files reads) where
    abbrev w : Workspace
    w = names_of_files was.before was.was

    abbrev v : Workspace
    v = names_of_files files reads

    keep : KeepImports was.before was.was files reads
    keep = kept was.before was.was were_imports reads are

    same : link_imports was.before was.was ≡ link_imports files reads
    same = equal was.before was.was files reads keep

    same_count : w.files ≡ v.files
    same_count = length-map was.was names_in ∙ was.were_read.same ∙ many ∙ sym are.same ∙ sym (length-map reads names_in)

    pub imports_stay : AreLinkImports files reads (map (λ v. v.items) imports)
    imports_stay = record { count = was.listed.count ∙ many; same = was.listed.same ∙ same }

    pub sight_stays : IsSightOf files reads seen
    sight_stays = record {
      sound = sound was.before was.was files reads keep was.sight.sound;
      between = λ i c.
          (let x = was.sight.between i (subst (λ (is : List Import). Contains is i) (sym same) c) in
          (omega (arith, x.0, same_count), omega (arith, x.1, same_count)));
      count = was.sight.count ∙ many;
      marks = λ file lf g. was.sight.marks file (omega (arith, lf, many)) g ∙ sym (same_sight w v same_count same file g);
    }

  -- ---- where some import others

  module _ (now : List (Vec FileImport)) (count : length now ≡ length places) (within : All (λ v. All (λ i. i.to < length files) v.items) now)
      (imports_now : List (Vec FileImport)) (put : imports_now ≡ with_values imports places now) where
    abbrev NamesFiles : Vec FileImport → Type 0
    NamesFiles v = All (λ i. i.to < length files) v.items

    pub now_count : length imports_now ≡ length files
    now_count = ap length put ∙ length-with_values imports places now ∙ imports_count

    pub now_within : All (λ v. All (λ i. i.to < length files) v.items) imports_now
    now_within =
        let paths = paths_of was.before in
        let asked = all_wanted (text_of was.before was.was) 0 was.was in
        let old : All NamesFiles imports = resolved_within (λ (v : Vec FileImport). v.items) imports paths asked (length files) (length-map was.before (λ (f : FileOf). f.path) ∙ many) was.listed.same in
        subst (All NamesFiles) (sym put) (all_with NamesFiles imports places now old within)

    -- a file sees what it saw, where those that it sees name the files publicly that they named
    module _ (inside : All (λ place. place < length files) places) where
      abbrev old_lists : List (List FileImport)
      old_lists = map (λ v. v.items) imports

      abbrev own_lists : List (List FileImport)
      own_lists = map (λ v. v.items) now

      abbrev new_lists : List (List FileImport)
      new_lists = map (λ v. v.items) imports_now

      old_count : length old_lists ≡ length files
      old_count = length-map imports (λ v. v.items) ∙ imports_count

      new_count : length new_lists ≡ length files
      new_count = length-map imports_now (λ v. v.items) ∙ now_count

      lists_put : new_lists ≡ with_values old_lists places own_lists
      lists_put = ap (map (λ (v : Vec FileImport). v.items)) put ∙ map-with_values (λ (v : Vec FileImport). v.items) imports places now

      list_at : (k : ℕ) → ((Contains places k → ⊥) × (get_or new_lists k [] ≡ get_or old_lists k []))
          ⊎ ((j : ℕ) × (j < length places) × (get_or places j 0 ≡ k) × (get_or new_lists k [] ≡ get_or own_lists j []))
      list_at k = subst (λ (lists : List (List FileImport)). ((Contains places k → ⊥) × (get_or lists k [] ≡ get_or old_lists k [])) ⊎ ((j : ℕ) × (j < length places) × (get_or places j 0 ≡ k) × (get_or lists k [] ≡ get_or own_lists j []))) (sym lists_put)
          (value_at old_lists places own_lists [] (length-map now (λ v. v.items) ∙ count) (λ j d l. omega (arith, inside j d l, old_count)) k)

      -- at any other place the list stays; so no import leads back to its file, where none leads from an edited file to itself
      list_stays : (file : ℕ) → (Contains places file → ⊥) → get_or old_lists file [] ≡ get_or new_lists file []
      list_stays file apart = elim (list_at file) [
        | inl stays ↦ sym stays.1
        | inr there ↦ absurd (apart (subst (Contains places) there.2 (Contains-get_or places there.0 0 there.1)))
      ]

      pub now_acyclic : All (λ place. LeadsToItself (all_imports 0 new_lists) place → ⊥) places → IsAcyclic (all_imports 0 new_lists)
      now_acyclic =
          edited_acyclic old_lists new_lists places (old_count ∙ sym new_count) list_stays
          (subst IsAcyclic (sym was.listed.same) (acyclic_by_faults (paths_of was.before) (all_wanted (text_of was.before was.was) 0 was.was) was.sight.sound))

      module _ (file : ℕ) (l : file < length files) (keeps : KeepsSight places old_lists own_lists (get_or seen file []) file) where
        own_stay : get_or old_lists file [] ≡ get_or new_lists file []
        own_stay = list_stays file keeps.apart

        public_stay : (k : ℕ) → get_or (get_or seen file []) k false ≡ true → public_files (get_or old_lists k []) ≡ public_files (get_or new_lists k [])
        public_stay k sees = elim (list_at k) [
          | inl apart ↦ ap public_files (sym apart.1)
          | inr there ↦ elim (keeps.each there.0 there.1) [
            | inl same ↦ subst (λ m. public_files (get_or old_lists m []) ≡ public_files (get_or own_lists there.0 [])) there.2 same ∙ ap public_files (sym there.3)
            | inr unseen ↦ absurd (both_ways (get_or (get_or seen file []) k false) (subst (λ m. get_or (get_or seen file []) m false ≡ false) there.2 unseen) sees)
          ]
        ]

        pub marks_stay : (v : Workspace) → v.files ≡ length imports_now → v.imports ≡ all_imports 0 new_lists → MarksSeen v file (get_or seen file [])
        marks_stay v n same =
            let w = names_of_files was.before was.was in
            let files_before : w.files ≡ length old_lists = length-map was.was names_in ∙ was.were_read.same ∙ many ∙ sym old_count in
            walks_stay old_lists new_lists w v file (get_or seen file []) files_before (sym was.listed.same)
            (λ i c. omega (arith, (was.sight.between i (subst (λ (is : List Import). Contains is i) was.listed.same c)).1, files_before))
            (n ∙ sym (length-map imports_now (λ v. v.items))) same
            (λ i c. omega (arith, imports_within (λ (v : Vec FileImport). v.items) (length files) imports_now now_within i c, new_count))
            (omega (arith, l, old_count)) (omega (arith, l, new_count)) own_stay (λ k sees ne. public_stay k sees) (was.sight.marks file (omega (arith, l, many)))

    module _ (these : ListedImportsAreThese) (sound : ListedImportsAreSound) (own : (reads : List ReadOf) → AreRead files reads → AreImportsAt files reads places (map (λ v. v.items) now))
        (reads : List ReadOf) (are : AreRead files reads) where
      listed : AreImportLists files reads (map (λ v. v.items) imports_now)
      listed =
          subst (AreImportLists files reads) (sym (ap (map (λ (v : Vec FileImport). v.items)) put ∙ map-with_values (λ (v : Vec FileImport). v.items) imports places now))
          (lists_edited places files (map (λ v. v.items) imports) (map (λ v. v.items) now) was.before was.was were_imports was.sight.sound (length-map imports (λ v. v.items) ∙ imports_count) (length-map now (λ v. v.items) ∙ count) reads are (own reads are))

      pub imports_are : AreLinkImports files reads (map (λ v. v.items) imports_now)
      imports_are = record { count = length-map imports_now (λ v. v.items) ∙ now_count; same = these files reads (map (λ v. v.items) imports_now) listed }

      pub sight_is : IsAcyclic (all_imports 0 (map (λ v. v.items) imports_now)) → (given : List (Vec FileImport)) (seen_now : List (List Bool)) → given ≡ imports_now → length seen_now ≡ length given
          → ((w : Workspace) → w.files ≡ length given → w.imports ≡ all_imports 0 (map (λ v. v.items) given) → (k : ℕ) → k < length given → MarksSeen w k (get_or seen_now k []))
          → IsSightOf files reads seen_now
      sight_is acyclic given seen_now e len exact = record {
        sound = sound files reads (map (λ v. v.items) imports_now) listed acyclic;
        between = files_between files reads are imports_now now_count now_within imports_are.same;
        count = len ∙ ap length e ∙ now_count;
        marks = marks_seen files reads are imports_now given seen_now e now_count imports_are.same exact;
      }
