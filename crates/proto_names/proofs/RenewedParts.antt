-- The parts of a link that was changed in place are those of the link of the files that are there now.
use Rattle.std.proofs.Common.{◌≡◌, ◌⊎◌, ℕ, ◌<◌, Bool, true, false, max, List, [], ◌∷◌, length, get_or, map, refl, sym, ◌∙◌, ap, subst, inl, inr, arith, All, Contains}
use Rattle.proto_base.proofs.Common.{All-contains, All-map, Vec, both_ways, cases_lt, contains_head, get_or-map, get_or_past, length-map}
use Rattle.proto_files.proofs.Common.{AreRead, FileOf, HasNoFault, ReadOf}
use Rattle.proto_names_imports.proofs.Common.{LinkFaults}
use Rattle.proto_names_imports.specs.declared.import.FileImport.{FileImport}
use Rattle.proto_base.proofs.WithValues.{length-with_values}
use Rattle.proto_base.specs.declared.changes.Change.{Change}
use Rattle.proto_names_update.specs.NamesOfFiles.{AreNamesOf as AreListedNames}
use Rattle.proto_names_affected.specs.ChangedFiles.{IsChangeMarked, StaysOrIsMarked, WasOrIsMarked, kind_rows_of}
use Rattle.proto_names_affected.specs.ChangedFiles.{AreChangesMarked as AreRowsMarked}
use Rattle.proto_names_affected.specs.KindRows.{is_below_type}
use Rattle.proto_names_affected.specs.Renewed.{AreReferencesOf}
use Rattle.proto_names_affected.specs.Sight.{IsSightMarked}
use Rattle.proto_names_affected.specs.declared.kind_rows.KindRow.{KindRow}
use Rattle.proto_names_rules.specs.Names.{Word}
use Rattle.proto_names_rules.specs.declared.kind.Kind.{Kind}
use Rattle.proto_names.proofs.KindRows.{kind_at_place, kind_from, kind_to}
use Rattle.proto_names.proofs.PartsBefore.{before, from_lists, meant_below, of_before, rows_below, rows_count, same_but, was}
use Rattle.proto_names.proofs.ReferencesByRow.{references_by_row}
use Rattle.proto_names.proofs.RenewedLink.{renewed_are_clean, renewed_link_of}
use Rattle.proto_names.proofs.RenewedMarks.{changes_have_to_look}
use Rattle.proto_names.proofs.RenewedSight.{file_is_linked, is_place}
use Rattle.proto_names.proofs.ValuesAtPlaces.{all_with, rows_with_values}
use Rattle.proto_names.specs.Common.{AreNamesOf, IsFileLinked, LinkOf, Meant, RefId, name_of_row, word_key}
use Rattle.proto_names.specs.LinkOfFiles.{IsLinkOf}
use Rattle.proto_names.specs.Renewal.{AreMeantBelow, AreRowsRenewed, link_of_parts}
use Rattle.proto_names.specs.Renewed.{AreBeginnersMarked, AreChangesMarked, AreMeantAgain, AreNamesRenewed, AreSightsMarked, AreUsersMarked, DeclaresKind, EndsIn, IsMadeOf, IsTableOf}
use Rattle.proto_names.specs.Sight.{AreLinkImports, IsSightOf, StayBut}
use Rattle.proto_names_update.specs.Relinked.{HasToLook, WasLink}
use Rattle.proto_names_table.proofs.Common.{IsTable, pick}
use Rattle.proto_names_table.specs.declared.table.Table.{Table}

module _ (files : List FileOf) (places : List ℕ) (old : Table) (imports : List (Vec FileImport)) (rows : List (Vec ℕ)) (seen : List (List Bool)) (meant : List (Vec Meant)) (references : List (Vec RefId))
    (table_was : IsTable old) (link_was : WasLink IsLinkOf files places (link_of_parts old imports rows seen meant references))
    (t : Table) (now : List (Vec ℕ)) (renewed : AreRowsRenewed places files old t rows now) where
  abbrev l : LinkOf
  l = link_of_parts old imports rows seen meant references

  abbrev files_before : List FileOf
  files_before = before files places old imports rows seen meant references table_was link_was

  abbrev reads_before : List ReadOf
  reads_before = was files places old imports rows seen meant references table_was link_was

  -- ---- the rows of each file's declarations

  pub now_count : length now ≡ length files
  now_count = ap length renewed.rows ∙ length-with_values rows places renewed.renewed ∙ rows_count files places old imports rows seen meant references table_was link_was

  abbrev IsBelow : Vec ℕ → Type 0
  IsBelow v = All (λ r. r < length t.rows.items) v.items

  old_below : All IsBelow rows
  old_below k v lk j r lj = omega (arith, rows_below files places old imports rows seen meant references table_was link_was k v lk j r lj, renewed.names.size)

  own_below : All IsBelow renewed.renewed
  own_below k v lk j r lj =
      let own = get_or-map (λ (v : Vec ℕ). v.items) renewed.renewed k v [] lk in
      let lm : k < length (map (λ (v : Vec ℕ). v.items) renewed.renewed) = omega (arith, lk, length-map renewed.renewed (λ (v : Vec ℕ). v.items)) in
      subst (All (λ r. r < length t.rows.items)) own (renewed.names.within k [] lm) j r lj

  pub now_below : All (λ v. All (λ r. r < length t.rows.items) v.items) now
  now_below = subst (All IsBelow) (sym renewed.rows) (all_with IsBelow rows places renewed.renewed old_below own_below)

  -- what references meant is below the table's count still
  pub meant_below_now : AreMeantBelow (length t.rows.items) [] meant
  meant_below_now = record {
    now = λ k v lk j m lj. omega (arith, meant_below files places old imports rows seen meant references table_was link_was k v lk j m lj, renewed.names.size);
    before = λ k c l. absurd (omega (arith, l));
  }

  -- with empty lists for the names that came, there is a list of references for each name
  pub lists_paired : (lists : List (Vec RefId)) → length references ≡ length old.rows.items → length lists ≡ max (length references) (length t.rows.items) → length lists ≡ length t.rows.items
  lists_paired lists paired grown = omega (arith, paired, grown, renewed.names.size)

  names_now : (reads : List ReadOf) → AreRead files reads → AreNamesOf files reads t now
  names_now reads are =
      let same : map (λ (v : Vec ℕ). v.items) now ≡ _ = ap (map (λ (v : Vec ℕ). v.items)) renewed.rows ∙ rows_with_values rows places renewed.renewed in
      from_lists files reads t now (subst (AreListedNames files reads t) (sym same) (renewed.names.names reads are))

  -- ---- the names are renewed

  module _ (table : IsTable t) (reads : List ReadOf) (are : AreRead files reads) (seen_now : List (List Bool)) (sight : IsSightOf files reads seen_now) where
    pub names_renewed : AreNamesRenewed places files_before reads_before old files reads t now
    names_renewed = record {
      edited = record { same = same_but files places old imports rows seen meant references table_was link_was; were_read = link_was.1.read; are_read = are };
      apart = renewed.names.clean reads are;
      table = table;
      numbers = record { size = renewed.names.size; names = renewed.names.texts };
      names = names_now reads are;
      listed = now_count;
      within = now_below;
    }

    -- so the references of a file can be looked up
    pub file_is_linked_now : (file : ℕ) → file < length files → IsFileLinked t (get_or seen_now file []) (get_or (map (λ v. v.items) now) file []) files reads file
    file_is_linked_now = file_is_linked places files_before reads_before l old rows files reads t now (of_before files places old imports rows seen meant references table_was link_was) names_renewed seen_now sight

  -- ---- the marks are of what changed

  module _ (marks : List Bool) (lists : List (Vec RefId)) (same : (row : ℕ) → get_or (map (λ v. v.items) lists) row [] ≡ get_or (map (λ v. v.items) references) row [])
      (marked : AreRowsMarked t marks places (map (λ v. v.items) lists) (map (λ v. v.items) meant) (map (kind_rows_of old (map (λ v. v.items) rows)) places) (map (kind_rows_of t (map (λ v. v.items) now)) places)) where
    abbrev held : List (Vec ℕ) → ℕ → List ℕ
    held all file = get_or (map (λ v. v.items) all) file []

    -- what the file at a place declared and declares
    change : (file : ℕ) → Contains places file → IsChangeMarked t marks (map (λ v. v.items) lists) l.meant (kind_rows_of old (map (λ v. v.items) rows) file) (kind_rows_of t (map (λ v. v.items) now) file)
    change file c =
        let had = kind_at_place old (map (λ v. v.items) rows) places file c in
        let has = kind_at_place t (map (λ v. v.items) now) places file c in
        subst (λ (ps : List KindRow). IsChangeMarked t marks (map (λ v. v.items) lists) l.meant ps (kind_rows_of t (map (λ v. v.items) now) file)) had
        (subst (IsChangeMarked t marks (map (λ v. v.items) lists) l.meant (get_or (map (kind_rows_of old (map (λ v. v.items) rows)) places) c.0 [])) has (marked.each c.0 c.1))

    -- a row of a file is one of the table
    row_within : (u : Table) (all : List (Vec ℕ)) → All (λ v. All (λ r. r < length u.rows.items) v.items) all → (file row : ℕ) → Contains (held all file) row → row < length u.rows.items
    row_within u all within file row c = elim (cases_lt file (length all)) [
      | inl lf ↦
          let v = pick all file lf in
          let own = get_or-map (λ (v : Vec ℕ). v.items) all file v [] lf in
          All-contains (λ r. r < length u.rows.items) (held all file) row (subst (All (λ r. r < length u.rows.items)) (sym own) (within file v lf)) c
      | inr past ↦
          let none : held all file ≡ [] = get_or_past (map (λ (v : Vec ℕ). v.items) all) file [] (omega (arith, past, length-map all (λ (v : Vec ℕ). v.items))) in
          absurd (omega (arith, c.1, ap length none))
    ]

    declares : (u : Table) (all : List (Vec ℕ)) → All (λ v. All (λ r. r < length u.rows.items) v.items) all → (file row : ℕ) (kind : Kind) → DeclaresKind u all file row kind → Contains (kind_rows_of u (map (λ v. v.items) all) file) (record { row = row; kind = kind })
    declares u all within file row kind d = kind_to u (held all file) row kind (row_within u all within file row d.listed) d.listed d.kind_is

    declared : (u : Table) (all : List (Vec ℕ)) (file row : ℕ) (kind : Kind) → Contains (kind_rows_of u (map (λ v. v.items) all) file) (record { row = row; kind = kind }) → DeclaresKind u all file row kind
    declared u all file row kind c =
        let x = kind_from u (held all file) (record { row = row; kind = kind }) c in
        record { listed = x.listed; kind_is = x.kind_is }

    gone : (file row : ℕ) (kind : Kind) → Contains places file → DeclaresKind old rows file row kind → DeclaresKind t now file row kind ⊎ AreUsersMarked marks (get_or l.references row [])
    gone file row kind c d =
        let p : KindRow = record { row = row; kind = kind } in
        let below = rows_below files places old imports rows seen meant references table_was link_was in
        elim (All-contains (StaysOrIsMarked marks (map (λ v. v.items) lists) (kind_rows_of t (map (λ v. v.items) now) file)) (kind_rows_of old (map (λ v. v.items) rows) file) p (change file c).gone (declares old rows below file row kind d)) [
          | inl stays ↦ inl (declared t now file row kind stays)
          | inr users ↦ inr (subst (AreUsersMarked marks) (same row) users)
        ]

    came : (file row : ℕ) (kind : Kind) → Contains places file → DeclaresKind t now file row kind → DeclaresKind old rows file row kind ⊎ (is_below_type t row ≡ false → (last : Word) → EndsIn t row last → AreBeginnersMarked marks l.meant (word_key last))
    came file row kind c d =
        let p : KindRow = record { row = row; kind = kind } in
        elim (All-contains (WasOrIsMarked t marks l.meant (kind_rows_of old (map (λ v. v.items) rows) file)) (kind_rows_of t (map (λ v. v.items) now) file) p (change file c).came (declares t now now_below file row kind d)) [
          | inl stood ↦ inl (declared old rows file row kind stood)
          | inr begin ↦ inr (λ top last ends other m there first.
              begin top ends.scope last ends.plain ends.name other m there (subst (λ key. Contains (word_key last ∷ []) key) (sym first) (contains_head (word_key last) [])))
        ]

    pub changes_marked : AreChangesMarked places marks old rows l t now
    changes_marked = record {
      edited = λ file c. All-contains (λ place. get_or marks place false ≡ true) places file marked.edited c;
      gone = gone;
      came = came;
    }

    -- ---- which files have to be re-resolved

    module _ (table : IsTable t) (saw : List (Change (List Bool))) (seen_now : List (List Bool)) (sight_is : (reads : List ReadOf) → AreRead files reads → IsSightOf files reads seen_now)
        (kept : StayBut (map (λ c. c.place) saw) seen seen_now) (others_marked : All (λ c. IsSightMarked marks t (map (λ v. v.items) now) (map (λ v. v.items) meant) seen seen_now c.place) saw) where
      abbrev others : List ℕ
      others = map (λ (c : Change (List Bool)). c.place) saw

      abbrev IsMarkedAt : ℕ → Type 0
      IsMarkedAt = IsSightMarked marks t (map (λ v. v.items) now) l.meant l.seen seen_now

      is_of : IsTableOf files_before reads_before l old rows
      is_of = of_before files places old imports rows seen meant references table_was link_was

      -- a file that sees others than before is marked, unless it is kept in sight
      same_marks : AreSightsMarked marks t now l.meant l.seen seen_now
      same_marks file left = elim (is_place others file) [
        | inl there ↦ elim (All-contains IsMarkedAt others file (All-map IsMarkedAt (λ (c : Change (List Bool)). c.place) saw others_marked) there) [
          | inl marked ↦ absurd (both_ways (get_or marks file false) left marked)
          | inr in_sight ↦ inr in_sight
        ]
        | inr out ↦ inl (kept file out)
      ]

      names_of_now : (reads : List ReadOf) → AreRead files reads → AreNamesRenewed places files_before reads_before old files reads t now
      names_of_now reads are = names_renewed table reads are seen_now (sight_is reads are)

      pub parts_have_to_look : (reads : List ReadOf) → AreRead files reads → HasToLook word_key places files_before reads_before files reads marks
      parts_have_to_look reads are = changes_have_to_look places marks files_before reads_before l old rows files reads t now is_of (names_of_now reads are) changes_marked seen_now (sight_is reads are) same_marks

      -- ---- the link

      module _ (meant_now : List (Vec Meant)) (again : (reads : List ReadOf) → AreRead files reads → AreMeantAgain marks t files reads (map (λ v. v.items) meant) (map (λ v. v.items) meant_now))
          (reads : List ReadOf) (are : AreRead files reads) where
        sight : IsSightOf files reads seen_now
        sight = sight_is reads are

        names : AreNamesRenewed places files_before reads_before old files reads t now
        names = names_of_now reads are

        look : HasToLook word_key places files_before reads_before files reads marks
        look = parts_have_to_look reads are

        pub parts_are_clean : HasNoFault (LinkFaults files)
        parts_are_clean = renewed_are_clean places marks files_before reads_before l old rows files reads t now (map (λ v. v.items) meant_now) is_of names seen_now sight look (again reads are)

        pub parts_are_link : (references_now : List (Vec RefId)) → length references_now ≡ length t.rows.items → AreReferencesOf (map (λ v. v.items) references_now) (map (λ v. v.items) meant_now)
            → (imports_now : List (Vec FileImport)) → AreLinkImports files reads (map (λ v. v.items) imports_now) → IsLinkOf files (link_of_parts t imports_now now seen_now meant_now references_now)
        parts_are_link references_now paired referred imports_now imports_are =
            let new = link_of_parts t imports_now now seen_now meant_now references_now in
            let made : IsMadeOf files reads t now seen_now (map (λ v. v.items) meant_now) new = record {
              names = refl;
              imports = imports_are;
              declared = refl;
              sight = refl;
              meanings = refl;
              paired = length-map references_now (λ v. v.items) ∙ paired ∙ sym (length-map t.rows.items name_of_row);
              references = λ row. referred row ∙ references_by_row row (map (λ v. v.items) meant_now);
            } in
            renewed_link_of places marks files_before reads_before l old rows files reads t now (map (λ v. v.items) meant_now) is_of names seen_now sight look (again reads are) new made
