-- What is made anew of edited files, beside what was made of the files that the edit does not
-- affect, is what is made of all files, and no file has a flaw.
use Rattle.std.proofs.Common.{◌≡◌, ℕ, zero, suc, ◌+◌, ◌<◌, Bool, true, false, List, [], ◌∷◌, ◌++◌, length, get_or, map, Option, Some, None, option_map, slice_get, sym, refl, ap, ap₂, subst, ◌∙◌, inl, inr, arith, All, Contains, true≢false}
use Rattle.std.proofs.lemmas.List.Elements.{All-contains, Contains-get_or}
use Rattle.proto_base.proofs.Common.{cases_Bool, contains_map, from_map, get_or-map, get_or_from_slice_get, length-map, slice_get-get_or}
use Rattle.std.proofs.lemmas.Option.{slice_get-map}
use Rattle.proto_file_sets.specs.FileSets.{files_in}
use Rattle.proto_file_sets.proofs.Members.{file_is_listed, in_within, listed_files}
use Rattle.proto_files.proofs.Common.{AreRead, FileOf, HasNoFault, ReadOf, read_at}
use Rattle.proto_desc_numbers.specs.declared.flaw.Flaw.{Flaw}
use Rattle.proto_names_imports.specs.Links.{LinkFaults}
use Rattle.proto_names_update.specs.Edited.{AreSameBut}
use Rattle.proto_descriptors.proofs.Common.{FileDesc, file_desc}
use Rattle.proto_descriptors.specs.declared.file.FileDescriptor.{FileDescriptor}
use Rattle.proto_resolved.specs.LinkOfFiles.{IsLinkOf}
use Rattle.proto_resolved.specs.SceneOf.{scene_of}
use Rattle.proto_desc_checks.specs.FileFlaws.{file_flaws}
use Rattle.proto_names.specs.Following.{WasMadeOf}
use Rattle.proto_names.specs.Linking.{LinkOf}
use Rattle.proto_desc_extensions.specs.Extensions.{custom_flaws}
use Rattle.proto_desc_extensions.proofs.NoExtensions.{no_flaw}
use Rattle.proto_desc_affected.specs.Checked.{AreKeptOf, FileSummaryOf, KeptFilesTellUnaffected, StaysKept, file_summary, nothing_kept}
use Rattle.proto_desc_affected.specs.Extended.{ExtendsAreUnaffected, HasNoExtend, UnaffectedFilesStayFlawless}
use Rattle.proto_desc_affected.specs.Unaffected.{AreSoundlyEdited, CleanEditsAreSound, UnaffectedDescriptorsStay}
use Rattle.proto_desc_affected.specs.Common.{AreOthersKept, AreOthersKeptAsTold, HasNoMarkedExtends, file_summary_of, file_summaries_of}
use Rattle.proto_desc_affected.specs.declared.file_summary.FileSummary.{FileSummary}
use Rattle.proto_desc.specs.Checked.{AreDescribed}
use Rattle.proto_desc.specs.Common.{CheckFaults, described_from, fault_of_flaw, flaws_of, of_flaw}
use Rattle.proto_desc.specs.Edited.{AreCheckedDescriptors, AreDescriptorsOf, WereDescribed}
use Rattle.proto_desc.specs.Renewing.{AreMade, ArePut, IsMade, files_made}
use Rattle.proto_desc.specs.Views.{files_desc, files_kept}
use Rattle.proto_desc.specs.Whole.FileFaults.{of_check, of_link}
use Rattle.proto_desc.specs.declared.descriptors.Descriptors.{Descriptors}
use Rattle.proto_desc.specs.declared.renewing.Made.{Made}
use Rattle.proto_desc.proofs.CheckedFiles.{all_described, described_at, nothing_there}

-- ---- the descriptors of files

module _ (files : List FileOf) (reads : List ReadOf) where
  described_there : (n : ℕ) (rs : List ReadOf) (k : ℕ) → k < length rs → slice_get (described_from files reads n rs) k ≡ Some (described_at files reads (n + k) (read_at rs k).tree)
  described_there n [] k l = absurd (omega (arith, l))
  described_there n (r ∷ rs) zero l = ap (λ m. Some (described_at files reads m r.tree)) {x = n} {y = n + 0} (omega arith)
  described_there n (r ∷ rs) (suc k) l = described_there (suc n) rs k (omega (arith, l)) ∙ ap (λ m. Some (described_at files reads m (read_at rs k).tree)) {x = suc n + k} {y = n + suc k} (omega arith)

  described_count : (n : ℕ) (rs : List ReadOf) → length (described_from files reads n rs) ≡ length rs
  described_count n [] = refl
  described_count n (r ∷ rs) = omega (arith, described_count (suc n) rs)

  -- the descriptor of the file at a place
  one_described : (ds : List FileDesc) → AreRead files reads → AreDescribed files ds → (k : ℕ) → k < length files → slice_get ds k ≡ Some (described_at files reads k (read_at reads k).tree)
  one_described ds are is k l = ap (λ (xs : List FileDesc). slice_get xs k) (is reads are) ∙ described_there 0 reads k (omega (arith, l, are.same)) ∙ ap (λ m. Some (described_at files reads m (read_at reads k).tree)) {x = 0 + k} {y = k} (omega arith)

  -- as many as files, and each that of its file
  each_described : (ds : List FileDescriptor) → AreRead files reads → length ds ≡ length files → ((k : ℕ) → k < length files → slice_get (map file_desc ds) k ≡ Some (described_at files reads k (read_at reads k).tree)) → map file_desc ds ≡ described_from files reads 0 reads
  each_described ds are len each =
      all_described files reads ds (omega (arith, len, are.same))
      (λ k d l. (
      sym (get_or-map file_desc ds k d (file_desc d) l)
      ∙ get_or_from_slice_get (map file_desc ds) k (described_at files reads k (read_at reads k).tree) (file_desc d) (each k (omega (arith, l, len)))))

  as_many_described : (ds : List FileDescriptor) → AreRead files reads → AreDescribed files (map file_desc ds) → length ds ≡ length files
  as_many_described ds are is = sym (length-map ds file_desc) ∙ ap length (is reads are) ∙ described_count 0 reads ∙ are.same

as_many_kept : (files : List FileOf) (ks : List FileSummary) → AreKeptOf files (file_summaries_of ks) → length ks ≡ length files
as_many_kept files ks are = sym (length-map ks file_summary_of) ∙ are.len

-- ---- files without a flaw

clean_file : (files : List FileOf) → HasNoFault (CheckFaults files) → (reads : List ReadOf) → AreRead files reads → (file : ℕ) → file < length files → flaws_of files reads file ≡ []
clean_file files clean reads are file within = nothing_there (flaws_of files reads file) (λ f c. clean (fault_of_flaw files reads file f) (of_flaw reads file f are within c))

clean_files : (files : List FileOf) → ((reads : List ReadOf) → AreRead files reads → (file : ℕ) → file < length files → flaws_of files reads file ≡ []) → HasNoFault (CheckFaults files)
clean_files files none y (of_flaw reads file f are within c) =
    let there : Contains [] f = subst (λ (fs : List Flaw). Contains fs f) (none reads are file within) c in
    omega (arith, there.1)

-- ---- the edit

as_many : (places : List ℕ) (before files : List FileOf) → AreSameBut places before files → length before ≡ length files
as_many places before files same = sym (length-map before (λ (f : FileOf). f.path)) ∙ ap length same.paths ∙ length-map files (λ (f : FileOf). f.path)

-- what was made of files before
abbrev pub WasMade : List FileOf → List ℕ → Option (List Bool) → Descriptors → Type 0
WasMade = WasMadeOf AreCheckedDescriptors

-- descriptors of files without a fault were so
pub was_made : (files : List FileOf) (places : List ℕ) (d : Descriptors) → WereDescribed files places d → WasMade files places None d
was_made files places d were = record {
  before = were.0;
  clean = λ y h. were.1.clean y (of_link y h);
  reads = were.1.reads;
  read = were.1.read;
  made = (were.1.descriptors, λ y h. were.1.clean y (of_check y h));
  same = were.2;
  look = tt;
}

-- there are as many descriptors as files
pub counts : (files : List FileOf) (places : List ℕ) (told : Option (List Bool)) (d : Descriptors) → WasMade files places told d → (length d.file.items ≡ length files) × (length d.kept.items ≡ length files)
counts files places told d was =
    let same = as_many places was.before files was.same in (
      as_many_described was.before was.reads d.file.items was.read was.made.0.described ∙ same,
      as_many_kept was.before d.kept.items was.made.0.kept ∙ same,
    )

-- where marks were told, those that were made by them leave out none but what the edit does not
-- affect
pub kept_as_told : CleanEditsAreSound → (files : List FileOf) (places : List ℕ) (told : List Bool) (d : Descriptors) → WasMade files places (Some told) d → HasNoFault (LinkFaults files) → (reads : List ReadOf) → AreRead files reads → (l : LinkOf) (marks : List Bool)
    → AreOthersKeptAsTold places files l (files_kept d) told marks → AreOthersKept places files l (files_kept d) marks
kept_as_told sound files places told d was clean reads read l marks kept =
    kept was.before was.reads reads
    (sound places was.before was.reads files reads (record { same = was.same; were_read = was.read; are_read = read }) was.clean clean)
    was.clean was.made.0.kept (was.look.look was.reads reads was.read read)

-- marks of files that leave out none but what the edit does not affect, and none that has or had an
-- `extend` block
pub record AreMarks (places : List ℕ) (files : List FileOf) (l : LinkOf) (ks : List FileSummaryOf) (marks : List Bool) : Type 0 where
  pub link : IsLinkOf files l
  pub others : AreOthersKept places files l ks marks
  pub none : HasNoMarkedExtends files ks marks

module _ (tells : KeptFilesTellUnaffected) (places : List ℕ) (before : List FileOf) (was : List ReadOf) (files : List FileOf) (reads : List ReadOf) (sound : AreSoundlyEdited places before was files reads) (clean : HasNoFault (LinkFaults before))
    (l : LinkOf) (old : Descriptors) (kept : AreKeptOf before (files_kept old)) (marks : List Bool) (are : AreMarks places files l (files_kept old) marks) where
  were : AreRead before was
  were = sound.edited.were_read

  was_within : (file : ℕ) → file < length files → file < length before
  was_within file within = omega (arith, within, as_many places before files sound.edited.same)

  kept_before : (file : ℕ) → file < length files → get_or (files_kept old) file nothing_kept ≡ file_summary before was file
  kept_before file within = kept.each file nothing_kept (omega (arith, was_within file within, kept.len)) was were

  stays : (file : ℕ) → file < length files → get_or marks file false ≡ false → StaysKept places before was files reads file
  stays file within unmarked = tells places before was files reads sound clean (files_kept old) kept l are.link file (are.others file within unmarked)

  has_none : (file : ℕ) → file < length files → get_or marks file false ≡ true → HasNoExtend was reads file
  has_none file within marked =
      let none = are.none reads sound.edited.are_read file within marked in
      (ap (λ (k : FileSummaryOf). k.has_extend) (sym (kept_before file within)) ∙ none.0, none.1)

  extends_are_unaffected : ExtendsAreUnaffected places before was files reads
  extends_are_unaffected = record {
    unaffected = λ file within. elim (cases_Bool (get_or marks file false)) [
      | inl marked ↦ inr (has_none file within marked)
      | inr unmarked ↦ inl (stays file within unmarked).unaffected
    ];
    elsewhere = λ file is. elim (cases_Bool (get_or marks file false)) [
      | inl marked ↦ inl (has_none file is.within marked).1
      | inr unmarked ↦ (stays file is.within unmarked).extendees
    ];
  }

  module _ (all : List Made) (made : AreMade files (files_in marks) all) where
    made_is : (m : Made) → Contains all m → IsMade files m
    made_is m there = All-contains (IsMade files) all m made.each there

    -- of a marked file something was made
    marked_made : (file : ℕ) → get_or marks file false ≡ true → Contains (files_made all) file
    marked_made file marked = subst (λ ns. Contains ns file) (sym made.numbers) (file_is_listed marks file (in_within marks file marked) marked)

    -- of another nothing
    unmarked_none : (file : ℕ) → get_or marks file false ≡ false → Contains (files_made all) file → ⊥
    unmarked_none file unmarked c = true≢false (sym ((listed_files marks file).0 (subst (λ ns. Contains ns file) made.numbers c)).1 ∙ unmarked)

    flawless_made : (file : ℕ) → get_or marks file false ≡ true → file_flaws (scene_of None files reads file) (read_at reads file).tree ≡ []
    flawless_made file marked =
        let own = from_map (λ (m : Made). m.file) all file (marked_made file marked) in
        subst (λ k. file_flaws (scene_of None files reads k) (read_at reads k).tree ≡ []) own.2 ((made_is own.0 own.1).flawless reads sound.edited.are_read)

    options_made : (file : ℕ) → get_or marks file false ≡ true → custom_flaws files reads file ≡ []
    options_made file marked =
        let own = from_map (λ (m : Made). m.file) all file (marked_made file marked) in
        subst (λ k. custom_flaws files reads k ≡ []) own.2 ((made_is own.0 own.1).options reads sound.edited.are_read)

    flawless : UnaffectedFilesStayFlawless → HasNoFault (CheckFaults before) → (file : ℕ) → file < length files → flaws_of files reads file ≡ []
    flawless stay clean_before file within = elim (cases_Bool (get_or marks file false)) [
      | inl marked ↦ ap₂ (λ (own others : List Flaw). own ++ others) (flawless_made file marked) (ap₂ (λ (own others : List Flaw). own ++ others) (no_flaw None files reads file (has_none file within marked).1) (options_made file marked))
      | inr unmarked ↦ stay places before was files reads sound extends_are_unaffected file (stays file within unmarked).unaffected (clean_file before clean_before was were file (was_within file within))
    ]

    module _ (new : Descriptors) (put : ArePut all old new) where
      described_now : UnaffectedDescriptorsStay → AreDescribed before (files_desc old) → (file : ℕ) → file < length files → slice_get (files_desc new) file ≡ Some (described_at files reads file (read_at reads file).tree)
      described_now stay were_described file within = slice_get-map file_desc new.file.items file ∙ elim (cases_Bool (get_or marks file false)) [
        | inl marked ↦ (let own = put.there file (marked_made file marked) in
            subst (λ k. option_map file_desc (slice_get new.file.items k) ≡ Some (described_at files reads k (read_at reads k).tree)) own.2
            (ap (option_map file_desc) own.3.descriptor ∙ ap (λ (d : FileDesc). Some d) ((made_is own.0 own.1).described reads sound.edited.are_read)))
        | inr unmarked ↦
            ap (option_map file_desc) (put.others file (unmarked_none file unmarked)).descriptor
            ∙ sym (slice_get-map file_desc old.file.items file)
            ∙ one_described before was (files_desc old) were were_described file (was_within file within)
            ∙ ap (λ (d : FileDesc). Some d) (sym (stay places before was files reads sound file (stays file within unmarked).unaffected None))
      ]

      kept_now : (file : ℕ) → file < length files → slice_get (files_kept new) file ≡ Some (file_summary files reads file)
      kept_now file within = slice_get-map file_summary_of new.kept.items file ∙ elim (cases_Bool (get_or marks file false)) [
        | inl marked ↦ (let own = put.there file (marked_made file marked) in
            subst (λ k. option_map file_summary_of (slice_get new.kept.items k) ≡ Some (file_summary files reads k)) own.2
            (ap (option_map file_summary_of) own.3.kept ∙ ap (λ (k : FileSummaryOf). Some k) ((made_is own.0 own.1).kept reads sound.edited.are_read)))
        | inr unmarked ↦
            ap (option_map file_summary_of) (put.others file (unmarked_none file unmarked)).kept
            ∙ sym (slice_get-map file_summary_of old.kept.items file)
            ∙ slice_get-get_or (files_kept old) file nothing_kept (omega (arith, was_within file within, kept.len))
            ∙ ap (λ (k : FileSummaryOf). Some k) (kept_before file within ∙ sym (stays file within unmarked).kept)
      ]

-- ---- all of it

pub record AreLaws : Type 0 where
  pub sound : CleanEditsAreSound
  pub tells : KeptFilesTellUnaffected
  pub described : UnaffectedDescriptorsStay
  pub flawless : UnaffectedFilesStayFlawless

module _ (laws : AreLaws) (places : List ℕ) (files : List FileOf) (clean : HasNoFault (LinkFaults files)) (told : Option (List Bool)) (old : Descriptors) (was : WasMade files places told old)
    (l : LinkOf) (marks : List Bool) (are : AreMarks places files l (files_kept old) marks) (all : List Made) (made : AreMade files (files_in marks) all) where
  is_sound : (reads : List ReadOf) → AreRead files reads → AreSoundlyEdited places was.before was.reads files reads
  is_sound reads read = laws.sound places was.before was.reads files reads (record { same = was.same; were_read = was.read; are_read = read }) was.clean clean

  renewed_clean : HasNoFault (CheckFaults files)
  renewed_clean = clean_files files (λ reads read. flawless laws.tells places was.before was.reads files reads (is_sound reads read) was.clean l old was.made.0.kept marks are all made laws.flawless was.made.1)

  module _ (new : Descriptors) (put : ArePut all old new) where
    count : length was.before ≡ length files
    count = as_many places was.before files was.same

    renewed_kept : AreKeptOf files (files_kept new)
    renewed_kept =
        let n : length (files_kept new) ≡ length files = length-map new.kept.items file_summary_of ∙ put.as_many.kept ∙ as_many_kept was.before old.kept.items was.made.0.kept ∙ count in
        record {
          len = n;
          each = λ file k within reads read.
              get_or_from_slice_get (files_kept new) file (file_summary files reads file) k
              (kept_now laws.tells places was.before was.reads files reads (is_sound reads read) was.clean l old was.made.0.kept marks are all made new put file (omega (arith, within, n)));
        }

    renewed_described : AreDescribed files (files_desc new)
    renewed_described = λ reads read.
        each_described files reads new.file.items read (put.as_many.descriptors ∙ as_many_described was.before was.reads old.file.items was.read was.made.0.described ∙ count)
        (described_now laws.tells places was.before was.reads files reads (is_sound reads read) was.clean l old was.made.0.kept marks are all made new put laws.described was.made.0.described)

-- what was made and put, beside what was unaffected, is what is made of the files, which have no
-- flaw
pub renewed : AreLaws → (places : List ℕ) (files : List FileOf) → HasNoFault (LinkFaults files) → (told : Option (List Bool)) (old new : Descriptors) → WasMade files places told old → (l : LinkOf) (marks : List Bool) → AreMarks places files l (files_kept old) marks → (all : List Made) → AreMade files (files_in marks) all → ArePut all old new → HasNoFault (CheckFaults files) × AreDescriptorsOf files new
renewed laws places files clean told old new was l marks are all made put = (
  renewed_clean laws places files clean told old was l marks are all made,
  record {
    described = renewed_described laws places files clean told old was l marks are all made new put;
    kept = renewed_kept laws places files clean told old was l marks are all made new put;
  },
)

-- what was made is of files of which there are descriptors
pub made_within : (files : List FileOf) (marks : List Bool) (all : List Made) → length marks ≡ length files → AreMade files (files_in marks) all → (n : ℕ) → n ≡ length files → All (λ (m : Made). m.file < n) all
made_within files marks all len made n as_many = λ k d l.
    (let m = get_or all k d in
    let listed = subst (λ ns. Contains ns m.file) made.numbers (contains_map (λ (m : Made). m.file) all m (Contains-get_or all k d l)) in
    omega (arith, ((listed_files marks m.file).0 listed).0, len, as_many))
