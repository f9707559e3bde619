-- Files that compile have one list of descriptors; an edit changes them in one way, or is refused by one case (for the crates above).
use Rattle.std.proofs.Common.{◌≡◌, ℕ, Bool, List, inl, inr, sym, ap, subst, ◌∙◌, arith}
use Rattle.std.proofs.lemmas.Bool.{cases_lt}
use Rattle.proto_files.proofs.Common.{ReadOf, AreRead, FileOf, file_at, read_at, read_once}
use Rattle.proto_text.proofs.Common.{offset_at}
use Rattle.proto_names_rules.specs.Grown.{At, at}
use Rattle.proto_edit_rules.specs.DeleteField.{IsFieldWord}
use Rattle.proto_edit_rules.specs.Options.{ComesBefore, IsFirstToken}
use Rattle.proto_edit_rules.specs.Rename.{IsValueWord}
use Rattle.proto_edit.specs.Workspaces.{IsWordAt, WordPlaceOf}
use Rattle.proto_descriptors.specs.Descriptors.{FileDesc}
use Rattle.proto_desc.specs.Whole.{of_link}
use Rattle.proto_edit_entries.proofs.Common.{ChangeOf, IsPut, puts_are_once}
use Rattle.proto_edit_rename_laws.proofs.Common.{Captures, IsFirstPlace, changes_of_words, Target, IsNamed, name_map, renamed_words, targets_are_one}
use Rattle.proto_edit_rename_laws.proofs.FirstPlaces.{first_places_are_one}
use Rattle.proto_edit_rules.specs.Rename.{mapped, AreRenamed}
use Rattle.proto_edit_rename_described.proofs.WrittenJson.{written_once}
use Rattle.proto_edit.specs.Common.{AreCompiled, DescribedOnce, MappedOnce, RefusedOnce, StepsAreUndone, StepsOnce, Asked, rename, delete_field, add_import, drop_import, AreChanges, ChangesOf, IsLeastCase, IsCaseAt, Maps, PlaceOf, StatementLaws}
use Rattle.proto_edit_statement_laws.proofs.ChangesCommon.{FieldAt, changes_of_deletion, IsImportOf, changes_of_addition, changes_of_drop}
use Rattle.proto_edit_rules.specs.Statements.{tree_at, changed_at}
use Rattle.proto_edit_rules.specs.AddImport.{with_dependency}
use Rattle.proto_edit_rules.specs.DropImport.{without_dependency}
use Rattle.proto_edit_rules.specs.DeleteField.{mapped_deletion}
use Rattle.proto_tree.specs.declared.tree.Import.{Import}
use Rattle.proto_edit.proofs.GivenAgain.{compiled_are_read}
use Rattle.proto_edit.proofs.NamedFields.{fields_are_one}
use Rattle.proto_edit.proofs.StatementSteps.{faultless_by, place_is_one}
use Rattle.proto_edit.proofs.EditSteps.{step_back, undo_once}

pub described_once : DescribedOnce
described_once w a b has x y = let read = compiled_are_read w has in x read.0 read.1 ∙ sym (y read.0 read.1)

-- the target of a name in files that compile
one_target : (w : List FileOf) (reads : List ReadOf) (name : List ℕ) (t u : Target) → AreCompiled w → AreRead w reads → IsNamed w reads name t → IsNamed w reads name u → t ≡ u
one_target w reads name t u has read a b = targets_are_one w reads name t u read (λ x h. has.clean x (of_link x h)) a b

-- ---- the changes of an edit

changes_by : StatementLaws → (w : List FileOf) (reads : List ReadOf) (e : Asked) (cs ds : List ChangeOf) → AreCompiled w → AreRead w reads → ChangesOf w reads e cs → ChangesOf w reads e ds → cs ≡ ds
changes_by laws w reads (rename name to) cs ds has read x y =
    x.2 ∙ ap (λ (t : Target). changes_of_words (renamed_words w reads t to) w reads) (one_target w reads name x.0 y.0 has read x.1 y.1) ∙ sym y.2
changes_by laws w reads (delete_field name) cs ds has read x y =
    x.2 ∙ ap (λ (f : FieldAt). changes_of_deletion w reads f) (fields_are_one laws w reads name x.0 y.0 (faultless_by w reads has read) x.1 y.1) ∙ sym y.2
changes_by laws w reads (add_import file path) cs ds has read x y =
    x.2 ∙ ap (λ (k : ℕ). changes_of_addition w reads k path) (place_is_one w file x.0 y.0 x.1 y.1) ∙ sym y.2
changes_by laws w reads (drop_import file path) cs ds has read x y =
    let same = place_is_one w file x.0 y.0 x.2 y.2 in
    let other : IsImportOf w reads y.0 path x.1 = subst (λ (k : ℕ). IsImportOf w reads k path x.1) same x.3 in
    x.4 ∙ ap (λ (k : ℕ). changes_of_drop w reads k x.1) same ∙ ap (λ (i : Import). changes_of_drop w reads y.0 i) (laws.one_import w reads path y.0 x.1 y.1 read (faultless_by w reads has read).links other y.3) ∙ sym y.4

pub changes_once : StatementLaws → (w : List FileOf) (e : Asked) (cs ds : List ChangeOf) → AreCompiled w → AreChanges w e cs → AreChanges w e ds → cs ≡ ds
changes_once laws w e cs ds has x y =
    changes_by laws w y.0 e cs ds has y.1 (subst (λ (rs : List ReadOf). ChangesOf w rs e cs) (read_once w x.0 y.0 x.1 y.1) x.2) y.2

pub steps_once : StatementLaws → StepsOnce
steps_once laws w a b e cs ds has x y =
    let same = changes_once laws w e cs ds has x.changes y.changes in
    (same, puts_are_once w a b ds (subst (λ (z : List ChangeOf). IsPut w z a) same x.put) y.put)

pub steps_are_undone : StatementLaws → StepsAreUndone
steps_are_undone laws w after e cs has s =
    let back = step_back laws w e cs after s has in
    (back, λ b undo. undo_once after b w cs undo back)

-- ---- the place that is answered

place_by : StatementLaws → (w : List FileOf) (reads : List ReadOf) (e : Asked) (path file : List ℕ) (offset other : ℕ) → AreCompiled w → AreRead w reads → PlaceOf w reads e path offset → PlaceOf w reads e file other → (path ≡ file) × (offset ≡ other)
place_by laws w reads (rename name to) path file offset other has read x y =
    let first = subst (λ (t : Target). IsFirstPlace w reads (Captures w reads t to) path offset) (one_target w reads name x.0 y.0 has read x.1 y.1) x.2 in
    first_places_are_one w reads y.0 to path file offset other first y.2
place_by laws w reads (delete_field name) path file offset other has read x y = absurd x
place_by laws w reads (add_import imports imported) path file offset other has read x y = laws.overtaken w reads imports imported path file offset other x y
place_by laws w reads (drop_import imports imported) path file offset other has read x y = laws.needed w reads imports imported path file offset other x y

pub place_once : StatementLaws → (w : List FileOf) (e : Asked) (path file : List ℕ) (offset other : ℕ) → AreCompiled w → IsCaseAt w e path offset → IsCaseAt w e file other → (path ≡ file) × (offset ≡ other)
place_once laws w e path file offset other has x y =
    place_by laws w y.0 e path file offset other has y.1 (subst (λ (rs : List ReadOf). PlaceOf w rs e path offset) (read_once w x.0 y.0 x.1 y.1) x.2) y.2

pub least_once : (w : List FileOf) (e : Asked) (m n : ℕ) → IsLeastCase w e m → IsLeastCase w e n → m ≡ n
least_once w e m n x y = elim (cases_lt m n) [
  | inl lt ↦ absurd (y.least m lt x.is)
  | inr ge ↦ elim (cases_lt n m) [
    | inl gt ↦ absurd (x.least n gt y.is)
    | inr le ↦ omega (arith, ge, le)
  ]
]

-- ---- the place of the least word of an option

-- there is one first token
first_is_one : (files : List FileOf) (reads : List ReadOf) (Holds : At → Type 0) (path file : List ℕ) (offset other : ℕ) → IsFirstToken files reads Holds path offset → IsFirstToken files reads Holds file other → (path ≡ file) × (offset ≡ other)
first_is_one files reads Holds path file offset other x y =
    let same = one_place x.a y.a (x.least y.a y.holds) (y.least x.a x.holds) in
    (x.path_is ∙ ap (λ (a : At). (file_at files a.file).path) same ∙ sym y.path_is, x.offset_is ∙ ap (λ (a : At). offset_at (read_at reads a.file).tokens a.token) same ∙ sym y.offset_is)
  where
    one_place : (a b : At) → (ComesBefore b a → ⊥) → (ComesBefore a b → ⊥) → a ≡ b
    one_place a b not_after not_before = elim (cases_lt a.file b.file) [
      | inl lt ↦ absurd (not_before (inl lt))
      | inr ge ↦ elim (cases_lt b.file a.file) [
        | inl gt ↦ absurd (not_after (inl gt))
        | inr le ↦
            let one : a.file ≡ b.file = omega (arith, ge, le) in
            elim (cases_lt a.token b.token) [
              | inl lt ↦ absurd (not_before (inr (one, lt)))
              | inr more ↦ elim (cases_lt b.token a.token) [
                | inl gt ↦ absurd (not_after (inr (sym one, gt)))
                | inr less ↦ (let token : a.token ≡ b.token = omega (arith, more, less) in λ i. at (one i) (token i))
              ]
            ]
      ]
    ]

word_by : (w : List FileOf) (reads : List ReadOf) (e : Asked) (path file : List ℕ) (offset other : ℕ) → AreCompiled w → AreRead w reads → WordPlaceOf w reads e path offset → WordPlaceOf w reads e file other → (path ≡ file) × (offset ≡ other)
word_by w reads (rename name to) path file offset other has read x y =
    let first = subst (λ (t : Target). IsFirstToken w reads (IsValueWord w reads t to) path offset) (one_target w reads name x.0 y.0 has read x.1 y.1) x.2 in
    first_is_one w reads (IsValueWord w reads y.0 to) path file offset other first y.2
word_by w reads (delete_field name) path file offset other has read x y =
    let first = subst (λ (t : Target). IsFirstToken w reads (IsFieldWord w reads t) path offset) (one_target w reads name x.0 y.0 has read x.1.named y.1.named) x.2 in
    first_is_one w reads (IsFieldWord w reads y.0) path file offset other first y.2
word_by w reads (add_import imports imported) path file offset other has read x y = absurd x
word_by w reads (drop_import imports imported) path file offset other has read x y = absurd x

word_once : (w : List FileOf) (e : Asked) (path file : List ℕ) (offset other : ℕ) → AreCompiled w → IsWordAt w e path offset → IsWordAt w e file other → (path ≡ file) × (offset ≡ other)
word_once w e path file offset other has x y =
    word_by w y.0 e path file offset other has y.1 (subst (λ (rs : List ReadOf). WordPlaceOf w rs e path offset) (read_once w x.0 y.0 x.1 y.1) x.2) y.2

pub refused_once : StatementLaws → RefusedOnce
refused_once laws w e has = (λ m n. least_once w e m n, (λ path file offset other. place_once laws w e path file offset other has, λ path file offset other. word_once w e path file offset other has))

-- ---- the descriptors under its map

renamed_once : (w : List FileOf) (reads : List ReadOf) (to : List ℕ) (t : Target) (ds a b : List FileDesc) → AreRead w reads → AreRenamed w reads t to ds a → AreRenamed w reads t to ds b → a ≡ b
renamed_once w reads to t ds a b read x y =
    x.2 ∙ ap (λ (v : Bool). mapped (name_map w reads t to) (record { written = v; enum = t.enum }) ds) (written_once w reads t read x.0 y.0 x.1 y.1) ∙ sym y.2

mapped_by : StatementLaws → (w : List FileOf) (reads : List ReadOf) (e : Asked) (ds a b : List FileDesc) → AreCompiled w → AreRead w reads → Maps w reads e ds a → Maps w reads e ds b → a ≡ b
mapped_by laws w reads (rename name to) ds a b has read x y =
    let first = subst (λ (t : Target). AreRenamed w reads t to ds a) (one_target w reads name x.0 y.0 has read x.1 y.1) x.2 in
    renamed_once w reads to y.0 ds a b read first y.2
mapped_by laws w reads (delete_field name) ds a b has read x y =
    x.2 ∙ ap (λ (f : FieldAt). changed_at f.file (mapped_deletion f.name (tree_at reads f.file)) ds) (fields_are_one laws w reads name x.0 y.0 (faultless_by w reads has read) x.1 y.1) ∙ sym y.2
mapped_by laws w reads (add_import file path) ds a b has read x y = x.2 ∙ ap (λ (k : ℕ). changed_at k (with_dependency path) ds) (place_is_one w file x.0 y.0 x.1 y.1) ∙ sym y.2
mapped_by laws w reads (drop_import file path) ds a b has read x y = x.2 ∙ ap (λ (k : ℕ). changed_at k (without_dependency path) ds) (place_is_one w file x.0 y.0 x.1 y.1) ∙ sym y.2

pub mapped_once : StatementLaws → MappedOnce
mapped_once laws w e ds a b has x y = mapped_by laws w y.0 e ds a b has y.1 (subst (λ (rs : List ReadOf). Maps w rs e ds a) (read_once w x.0 y.0 x.1 y.1) x.2) y.2
