-- The marks of files with references to names, and that a rename changes no word in other files.
use Rattle.std.proofs.Common.{◌≡◌, ℕ, ◌+◌, ◌<◌, ◌≤◌, ◌==◌, Bool, true, false, is_some, List, [], ◌∷◌, ◌++◌, length, get_or, drop, map, Option, Some, None, refl, sym, ap, subst, ◌∙◌, inl, inr, arith, slice_set, if◌then◌else◌, Contains, option_and_then, true≢false, ne_eqb, get_or-set_same, length-set}
use Rattle.std.specs.List.{list_any}
use Rattle.proto_base.proofs.Common.{Contains-get_or, any_to, both_ways, cases_lt, cond-true, cond-false, contains_cases, contains_map, drop_all, false_from_ne_true, front_element, word_from_same, text_limit}
use Rattle.proto_base.specs.declared.fault.FaultKind.TheVariants.{TooLarge}
use Rattle.proto_files.proofs.Common.{HasNoFault, FileOf, ReadFaults, ReadOf, AreRead, file_at, read_at}
use Rattle.proto_files.specs.GivenFiles.{no_file}
use Rattle.proto_names_imports.proofs.Common.{LinkFaults}
use Rattle.proto_names_rules.proofs.Common.{At, joined}
use Rattle.proto_names.proofs.Common.{IsLinkOf, LinkOf, name_text}
use Rattle.proto_names.specs.Linking.{RefId}
use Rattle.proto_names.specs.Linking.{Meant}
use Rattle.proto_edit_rename_laws.proofs.Common.{Target, fields_of_file}
use Rattle.proto_edit_captures.specs.FoundTargets.{IsFoundTarget}
use Rattle.proto_edit_captures.specs.declared.rename_target.RenameTarget.{RenameTarget}
use Rattle.proto_edit_rename.specs.ChangedFiles.{AreChangedFiles, HasReferencesMarked, with_references, with_row, with_rows}
use Rattle.proto_edit_rename.specs.Common.{ArePlacesIn, HasDefaultsIn, IsChangeIn, IsValueOf, or_own}
use Rattle.proto_edit_rename.specs.Defaults.{is_found_name}
use Rattle.proto_edit_rename.specs.StandingTokens.{IsStandingIn, goes_on, words_behind}
use Rattle.proto_edit_rename.proofs.DefaultTexts.{no_renamed}
use Rattle.proto_edit_rename.proofs.FileChanges.{none_chosen, none_made}
use Rattle.proto_edit_rename.proofs.KnownReferences.{going_on, known, row_declared}
use Rattle.proto_edit_rename.proofs.Placed.{change_is, places_are}
use Rattle.proto_edit_rename.proofs.PlacedWords.{marked_length, marked_there, stays_marked}
use Rattle.proto_edit_rename.proofs.StandingUses.{none_goes_on}

-- ---- references

pub references_there : (l : LinkOf) (marks : List Bool) (row : ℕ) → HasReferencesMarked l (with_references marks (get_or l.references row [])) row
references_there l marks row id c inside =
    let files = map (λ (r : RefId). r.file) (get_or l.references row []) in
    let same = marked_length marks files in
    marked_there marks files id.file (omega (arith, inside, same)) (contains_map (λ (r : RefId). r.file) (get_or l.references row []) id c)

pub references_stay : (marks : List Bool) (references : List RefId) (file : ℕ) → file < length marks → get_or marks file false ≡ true → get_or (with_references marks references) file false ≡ true
references_stay marks references file inside h = stays_marked marks (map (λ (r : RefId). r.file) references) file inside h

pub references_as_many : (marks : List Bool) (references : List RefId) → length (with_references marks references) ≡ length marks
references_as_many marks references = marked_length marks (map (λ (r : RefId). r.file) references)

-- those to the one name with a text
pub named_there : (l : LinkOf) (marks next : List Bool) (references : List RefId) (found row : ℕ) → found ≡ row → references ≡ get_or l.references found [] → next ≡ with_references marks references → HasReferencesMarked l next row
named_there l marks next references found row same are is =
    let all : next ≡ with_references marks (get_or l.references row []) = is ∙ ap (with_references marks) (are ∙ ap (λ (r : ℕ). get_or l.references r []) same) in
    subst (λ (ms : List Bool). HasReferencesMarked l ms row) (sym all) (references_there l marks row)

pub next_stays : (marks next : List Bool) (references : List RefId) → next ≡ with_references marks references → (file : ℕ) → file < length marks → get_or marks file false ≡ true → get_or next file false ≡ true
next_stays marks next references is file inside h = ap (λ (ms : List Bool). get_or ms file false) is ∙ references_stay marks references file inside h

-- one turn of a loop over references, and its end
pub references_turn : (rs : List RefId) (i : ℕ) (r d : RefId) (marks next whole : List Bool) → i < length rs → r ≡ get_or rs i d → next ≡ slice_set marks r.file true
    → with_references marks (drop i rs) ≡ whole → with_references next (drop (i + 1) rs) ≡ whole
references_turn rs i r d marks next whole lt is new before =
    ap (λ (ms : List Bool). with_references ms (drop (i + 1) rs)) new ∙ ap (with_references marks) (sym (front_element rs i r d lt is)) ∙ before

pub all_references : (rs : List RefId) (i : ℕ) (marks whole : List Bool) → length rs ≤ i → with_references marks (drop i rs) ≡ whole → marks ≡ whole
all_references rs i marks whole le before = ap (with_references marks) (sym (drop_all i rs le)) ∙ before

-- ---- rows

module _ (l : LinkOf) (name : List ℕ) where
  row_as_many : (marks : List Bool) (row : ℕ) → length (with_row l name marks row) ≡ length marks
  row_as_many marks row = by (goes_on l name row)
    where
      by : (b : Bool) → length (if b then with_references marks (get_or l.references row []) else marks) ≡ length marks
      by true = marked_length marks (map (λ (r : RefId). r.file) (get_or l.references row []))
      by false = refl

  row_stays : (marks : List Bool) (row file : ℕ) → file < length marks → get_or marks file false ≡ true → get_or (with_row l name marks row) file false ≡ true
  row_stays marks row file inside h = by (goes_on l name row)
    where
      by : (b : Bool) → get_or (if b then with_references marks (get_or l.references row []) else marks) file false ≡ true
      by true = references_stay marks (get_or l.references row []) file inside h
      by false = h

  pub rows_as_many : (rows : List ℕ) (marks : List Bool) → length (with_rows l name marks rows) ≡ length marks
  rows_as_many [] marks = refl
  rows_as_many (row ∷ rows) marks = rows_as_many rows (with_row l name marks row) ∙ row_as_many marks row

  pub rows_stay : (rows : List ℕ) (marks : List Bool) (file : ℕ) → file < length marks → get_or marks file false ≡ true → get_or (with_rows l name marks rows) file false ≡ true
  rows_stay [] marks file inside h = h
  rows_stay (row ∷ rows) marks file inside h =
      let same = row_as_many marks row in
      rows_stay rows (with_row l name marks row) file (omega (arith, inside, same)) (row_stays marks row file inside h)

  pub rows_there : (rows : List ℕ) (marks : List Bool) (row : ℕ) → Contains rows row → goes_on l name row ≡ true → HasReferencesMarked l (with_rows l name marks rows) row
  rows_there [] marks row c on id ci inside = absurd (omega (arith, c.1))
  rows_there (x ∷ rows) marks row c on id ci inside = elim (contains_cases x row rows c) [
    | inl e ↦
        let here : with_row l name marks x ≡ with_references marks (get_or l.references row []) =
        ap (with_row l name marks) e ∙ cond-true (goes_on l name row) (with_references marks (get_or l.references row [])) marks on in
        let many = rows_as_many rows (with_row l name marks x) in
        let last : id.file < length (with_rows l name (with_row l name marks x) rows) = inside in
        let within : id.file < length (with_row l name marks x) = omega (arith, last, many) in
        rows_stay rows (with_row l name marks x) id.file within
        (subst (λ (ms : List Bool). id.file < length ms → get_or ms id.file false ≡ true) (sym here) (references_there l marks row id ci) within)
    | inr d ↦ rows_there rows (with_row l name marks x) row d on id ci inside
  ]

  -- one turn of a loop over rows, and its end
  pub rows_turn : (rows : List ℕ) (i row : ℕ) (marks next whole : List Bool) → i < length rows → row ≡ get_or rows i 0 → next ≡ with_row l name marks row
      → with_rows l name marks (drop i rows) ≡ whole → with_rows l name next (drop (i + 1) rows) ≡ whole
  rows_turn rows i row marks next whole lt is new before =
      ap (λ (ms : List Bool). with_rows l name ms (drop (i + 1) rows)) new ∙ ap (with_rows l name marks) (sym (front_element rows i row 0 lt is)) ∙ before

  pub all_rows : (rows : List ℕ) (i : ℕ) (marks whole : List Bool) → length rows ≤ i → with_rows l name marks (drop i rows) ≡ whole → marks ≡ whole
  all_rows rows i marks whole le before = ap (with_rows l name marks) (sym (drop_all i rows le)) ∙ before

-- all of them
pub are_changed_files : (l : LinkOf) (a : RenameTarget) (enum_name : Option (List ℕ)) (n : ℕ) (blank own names users : List Bool) → length blank ≡ n → a.file < n → own ≡ slice_set blank a.file true → names ≡ with_rows l a.name.now own (get_or l.rows a.file [])
    → length users ≡ length names → ((file : ℕ) → file < length names → get_or names file false ≡ true → get_or users file false ≡ true)
    → ((row : ℕ) (name : List ℕ) → enum_name ≡ Some name → name_text l row ≡ Some name → HasReferencesMarked l users row) → AreChangedFiles l a enum_name n users
are_changed_files l a enum_name n blank own names users many inside own_is names_is as_many kept used =
    let rows = get_or l.rows a.file [] in
    let name = a.name.now in
    let own_many : length own ≡ n = ap length own_is ∙ length-set blank a.file true ∙ many in
    let names_many : length names ≡ n = ap length names_is ∙ rows_as_many l name rows own ∙ own_many in
    let first : get_or own a.file false ≡ true = ap (λ (ms : List Bool). get_or ms a.file false) own_is ∙ get_or-set_same blank a.file true false (omega (arith, inside, many)) in
    record {
      as_many = as_many ∙ names_many;
      own = kept a.file (omega (arith, inside, names_many)) (ap (λ (ms : List Bool). get_or ms a.file false) names_is ∙ rows_stay l name rows own a.file (omega (arith, inside, own_many)) first);
      below = λ row c on id ci within.
          let there : id.file < length names = omega (arith, within, as_many) in
          kept id.file there (subst (λ (ms : List Bool). id.file < length ms → get_or ms id.file false ≡ true) (sym names_is) (rows_there l name rows own row c on id ci) there);
      users = used;
    }

-- ---- a file that is not marked

-- a file without a fault is not too long
not_too_long : (files : List FileOf) (file : ℕ) → file < length files → HasNoFault (ReadFaults files) → length (file_at files file).bytes ≤ text_limit
not_too_long files file inside clean = elim (cases_lt text_limit (length (file_at files file).bytes)) [
  | inr fits ↦ fits
  | inl long ↦
      absurd (clean (record { path = (file_at files file).path; offset = 0; kind = TooLarge })
      (inl (file_at files file, Contains-get_or files file no_file inside, refl, (refl, long))))
]

found_is : (name : List ℕ) (o : Option (List ℕ)) → is_found_name name o ≡ true → o ≡ Some name
found_is name None h = absurd (true≢false (sym h))
found_is name (Some found) h = ap Some (word_from_same found name h)

module _ (files : List FileOf) (clean : HasNoFault (LinkFaults files)) (l : LinkOf) (link : IsLinkOf files l) (a : RenameTarget) (enum_name : Option (List ℕ)) (marks : List Bool) (changed : AreChangedFiles l a enum_name (length files) marks) (file : ℕ) (inside : file < length files) (unmarked : get_or marks file false ≡ false) where
  -- it has no reference to a name whose references are marked
  no_reference : (reads : List ReadOf) → AreRead files reads → (m : Meant) → Contains (get_or l.meant file []) m → HasReferencesMarked l marks m.row → ⊥
  no_reference reads are m c h =
      let many = changed.as_many in
      let id : RefId = record { file = file; token = m.token } in
      both_ways (get_or marks file false) unmarked (h id (known files reads are clean l (link reads are) file inside m c).listed (omega (arith, inside, many)))

  none_goes : (reads : List ReadOf) → AreRead files reads → (t : Target) → IsFoundTarget files reads a t → list_any (λ (m : Meant). goes_on l a.name.now m.row) (get_or l.meant file []) ≡ false
  none_goes reads are t aimed = false_from_ne_true (list_any (λ (m : Meant). goes_on l a.name.now m.row) (get_or l.meant file [])) (λ h.
      (let m = any_to (λ (m : Meant). goes_on l a.name.now m.row) (get_or l.meant file []) h in
      let x = known files reads are clean l (link reads are) file inside m.0 m.1 in
      let on : is_some (words_behind a.name.now (joined x.s.name)) ≡ true = sym (ap (λ (o : Option (List ℕ)). is_some (option_and_then (words_behind a.name.now) o)) x.said) ∙ m.2 in
      let own : x.s.file ≡ a.file = going_on files reads are clean l (link reads are) a.name.now t aimed.named x.s x.symbol on ∙ sym (ap (λ (z : At). z.file) aimed.token) in
      let row = subst (λ (f : ℕ). Contains (get_or l.rows f []) m.0.row) own (row_declared files reads are clean l (link reads are) x.s x.symbol m.0.row x.said) in
      no_reference reads are m.0 m.1 (changed.below m.0.row row m.2)))

  nothing_stands : IsStandingIn files a file []
  nothing_stands reads are t aimed to i = (
    λ c. absurd (omega (arith, c.1)),
    λ c. absurd (none_goes_on files reads are clean l (link reads are) a.name.now to t aimed.named file inside [] (none_goes reads are t aimed) i c),
  )

  no_defaults : (old : List ℕ) → HasDefaultsIn files file enum_name old []
  no_defaults old = by enum_name refl
    where
      by : (o : Option (List ℕ)) → enum_name ≡ o → HasDefaultsIn files file o old []
      by None is = refl
      by (Some name) is = λ reads are enum plain named.
          (let none : list_any (λ (m : Meant). is_found_name (joined enum) (name_text l m.row)) (get_or l.meant file []) ≡ false =
          false_from_ne_true (list_any (λ (m : Meant). is_found_name (joined enum) (name_text l m.row)) (get_or l.meant file [])) (λ h.
          (let m = any_to (λ (m : Meant). is_found_name (joined enum) (name_text l m.row)) (get_or l.meant file []) h in
          let said : name_text l m.0.row ≡ Some name = found_is (joined enum) (name_text l m.0.row) m.2 ∙ ap Some named in
          no_reference reads are m.0 m.1 (changed.users m.0.row name is said))) in
          sym (no_renamed files reads are l (link reads are) file inside enum plain none old (fields_of_file (read_at reads file).tree)))

  pub nothing_changes : (old : List ℕ) → IsValueOf files a enum_name old → ArePlacesIn files a file []
  nothing_changes old value =
      let apart : or_own a.file a.token file ≡ [] = cond-false (a.file == file) (a.token ∷ []) [] (ne_eqb a.file file (λ e. both_ways (get_or marks file false) unmarked (subst (λ (f : ℕ). get_or marks f false ≡ true) e changed.own))) in
      let none : ([] ++ or_own a.file a.token file) ++ [] ≡ [] = ap (λ (xs : List ℕ). xs ++ []) apart in
      subst (ArePlacesIn files a file) none (places_are files a file inside enum_name old value [] [] nothing_stands (no_defaults old))

  -- so there is no change of it, where files without faults are read
  pub no_change : (old : List ℕ) → IsValueOf files a enum_name old → (to : List ℕ) → HasNoFault (ReadFaults files) → IsChangeIn files a file to None
  no_change old value to read reads are =
      change_is files a file [] to (nothing_changes old value) None
      (none_made files file inside (read_at reads file).tokens (are.tokens file inside) [] to [] (sym (none_chosen (read_at reads file).tokens)) refl (not_too_long files file inside read))
      reads are
