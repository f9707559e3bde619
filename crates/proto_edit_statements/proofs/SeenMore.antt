-- What one file sees with an import more: a walk along all of its own, and the public ones of the others.
use Rattle.std.proofs.Common.{◌≡◌, ◌↔◌, ℕ, ◌<◌, Bool, false, List, [], ◌∷◌, ◌++◌, length, get_or, map, sym, ap, ap₂, subst, ◌∙◌, inl, inr, refl, arith, slice_set, All, Contains, get_or-set_same, length-set}
use Rattle.std.proofs.lemmas.List.{set-set}
use Rattle.proto_base.proofs.Common.{Vec, length-map, map-set, Contains-append_cases, contains_cases}
use Rattle.proto_files.proofs.Common.{ReadOf, AreRead, FileOf}
use Rattle.proto_names_imports.proofs.Common.{all_imports, import_from, imports_within, names_in, IsMarked, Walks}
use Rattle.proto_names_imports.proofs.SeenFiles.{marks_seen, own_of, public_of, public_twice, steps_from}
use Rattle.proto_names_imports.specs.declared.import.FileImport.{FileImport}
use Rattle.proto_names_rules.proofs.Common.{import_of, with_imports, MarksSeen, Import, Workspace}
use Rattle.proto_edit_statement_laws.proofs.NamesCommon.{with_added, same_marks}
use Rattle.proto_edit_statements.specs.Steps.{AreImportsOf}
use Rattle.proto_edit_statements.proofs.MoreOrLess.{one_more}

abbrev pub lists_of : List (Vec FileImport) → List (List FileImport)
lists_of vs = map (λ v. v.items) vs

-- an import that is not public
abbrev pub new_import : ℕ → FileImport
new_import to = record { to = to; is_public = false }

-- the imports of a file, with one more
abbrev pub own_more : List (Vec FileImport) → ℕ → ℕ → List FileImport
own_more items file to = get_or (lists_of items) file [] ++ new_import to ∷ []

-- where the walk goes: the public imports of each file, and these of this one
abbrev pub steps_of : List (Vec FileImport) → ℕ → List FileImport → List (List ℕ)
steps_of items file own = slice_set (map (λ v. public_of v.items) items) file (own_of own)

module _ (items : List (Vec FileImport)) (within : All (λ v. All (λ i. i.to < length items) v.items) items) (file to : ℕ) (inside : file < length items) (there : to < length items) where
  abbrev is : List (List FileImport)
  is = lists_of items

  abbrev own : List FileImport
  own = get_or (lists_of items) file []

  listed : file < length is
  listed = let e = length-map items (λ v. v.items) in let l = inside in omega (arith, l, e)

  abbrev new : FileImport
  new = new_import to

  abbrev more : List (List FileImport)
  more = slice_set is file (own ++ new ∷ [])

  as_many : length more ≡ length items
  as_many = length-set is file (own ++ new ∷ []) ∙ length-map items (λ v. v.items)

  -- these are the steps of the imports with one more
  steps_are : steps_of items file (own_more items file to) ≡ steps_from more file
  steps_are =
      ap (λ (ps : List (List ℕ)). slice_set ps file (own_of (own ++ new ∷ []))) (public_twice (λ v. v.items) items)
      ∙ sym (set-set (map public_of is) file (public_of (own ++ new ∷ [])) (own_of (own ++ new ∷ [])))
      ∙ ap₂ (λ (ps : List (List ℕ)) (xs : List ℕ). slice_set ps file xs) (sym (map-set public_of is file (own ++ new ∷ []))) (ap own_of (sym (get_or-set_same is file (own ++ new ∷ []) [] listed)))

  files_named : (i : Import) → Contains (all_imports 0 more) i → i.to < length more
  files_named i c = subst (λ n. i.to < n) (sym as_many) (elim (Contains-append_cases (all_imports 0 is) (import_from file new ∷ []) i ((one_more is file new listed i).0 c)) [
    | inl d ↦ imports_within (λ v. v.items) (length items) items within i d
    | inr d ↦ elim (contains_cases (import_from file new) i [] d) [
      | inl e ↦ subst (λ n. n < length items) (ap (λ (x : Import). x.to) e) there
      | inr n ↦ absurd (omega (arith, n.1))
    ]
  ])

  -- what is reached so is what the file sees
  pub marks_more : (mine : List FileImport) → mine ≡ own_more items file to → (marks : List Bool) → ((g : ℕ) → IsMarked marks g ↔ Walks (steps_of items file mine) file g)
      → (w : Workspace) → w.files ≡ length items → w.imports ≡ all_imports 0 is ++ import_of file to ∷ [] → MarksSeen w file marks
  marks_more mine same marks reached w files imports =
      let walks = subst (λ z. (g : ℕ) → IsMarked marks g ↔ Walks z file g) (ap (steps_of items file) same ∙ steps_are) reached in
      let seen = marks_seen more (with_imports w (all_imports 0 more)) file marks (files ∙ sym as_many) refl files_named (let a = as_many in let l = inside in omega (arith, l, a)) walks in
      same_marks w (all_imports 0 more) w.imports (λ i. subst (λ z. Contains (all_imports 0 more) i ↔ Contains z i) (sym imports) (one_more is file new listed i)) file marks seen

-- of linked files these are the names with the import more
pub sees_added : (files : List FileOf) (reads : List ReadOf) → AreRead files reads → (items : List (Vec FileImport)) → AreImportsOf files items → (file to : ℕ) (marks : List Bool)
    → ((w : Workspace) → w.files ≡ length items → w.imports ≡ all_imports 0 (lists_of items) ++ import_of file to ∷ [] → MarksSeen w file marks) → MarksSeen (with_added files reads file to) file marks
sees_added files reads are items imports file to marks sees =
    sees (with_added files reads file to) (length-map reads names_in ∙ are.same ∙ sym imports.len) (ap (λ z. z ++ import_of file to ∷ []) (sym (imports.are reads are)))
