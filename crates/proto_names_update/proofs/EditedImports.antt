-- The imports of all files, where those of edited files stand in place of theirs (for the crates above).
use Rattle.std.proofs.Common.{◌≡◌, ℕ, suc, ◌<◌, List, [], ◌∷◌, length, get_or, slice_set, sym, ◌∙◌, ap, subst, inl, inr, arith, Contains, get_or-set_same, get_or-set_other}
use Rattle.std.proofs.lemmas.List.{length-set}
use Rattle.proto_base.proofs.Common.{cases_eq, contains_cases}
use Rattle.proto_files.proofs.Common.{AreRead, FileOf, ReadOf, paths_of}
use Rattle.proto_names_imports.proofs.Common.{text_of}
use Rattle.proto_names_imports.proofs.KeptImports.{as_many, asks_as_before, path_fault_of}
use Rattle.proto_names_imports.specs.ImportSteps.{PathFault}
use Rattle.proto_names_imports.specs.Laws.{AreImportLists, AreImportsOf, HasSoundImports, wanted_by}
use Rattle.proto_names_imports.specs.declared.import.FileImport.{FileImport}
use Rattle.proto_base.proofs.WithValues.{length-with_values}
use Rattle.proto_base.specs.Undone.{with_values}
use Rattle.proto_names_update.specs.KeptImports.{AreImportsAt, WereImports}
use Rattle.proto_names_update.proofs.ImportsByFile.{imports_of_file}
use Rattle.proto_names_rules.proofs.Common.{imports_of}

-- what is known of each value at its place, and of what stands at all other places
each_with : {T : Type 0} (P : ℕ → T → Type 0) (items : List T) (places : List ℕ) (values : List T) (d : T) → length values ≡ length places
    → ((k : ℕ) → k < length places → P (get_or places k 0) (get_or values k d)) → ((n : ℕ) → n < length items → (Contains places n → ⊥) → P n (get_or items n d))
    → (n : ℕ) → n < length items → P n (get_or (with_values items places values) n d)
each_with P items [] values d len own others n l = others n l (λ c. omega (arith, c.1))
each_with P items (place ∷ places) [] d len own others n l = absurd (omega (arith, len))
each_with P items (place ∷ places) (v ∷ values) d len own others n l =
    each_with P (slice_set items place v) places values d (omega (arith, len)) (λ k lk. own (suc k) (omega (arith, lk)))
    (λ m lm out.
    (let there : m < length items = omega (arith, lm, length-set items place v) in
    elim (cases_eq m place) [
      | inl e ↦ subst (λ p. P p (get_or (slice_set items place v) p d)) (sym e) (subst (P place) (sym (get_or-set_same items place v d (omega (arith, there, e)))) (own 0 (omega arith)))
      | inr ne ↦
          subst (P m) (sym (get_or-set_other items place m v d ne))
          (others m there (λ c. elim (contains_cases place m places c) [ inl e ↦ ne (sym e) | inr rest ↦ out rest ]))
    ]))
    n (omega (arith, l, length-set items place v))

module _ (places : List ℕ) (files : List FileOf) (imports lists : List (List FileImport)) (before : List FileOf) (was : List ReadOf) (were : WereImports places files imports before was) (sound : HasSoundImports before was)
    (paired : length imports ≡ length files) (count : length lists ≡ length places) (reads : List ReadOf) (are : AreRead files reads) (now : AreImportsAt files reads places lists) where
  many : length before ≡ length files
  many = as_many before was files reads were.were_read are were.same.paths

  -- a file that is not edited has the imports that it had
  stay : (file : ℕ) → file < length files → (Contains places file → ⊥) → AreImportsOf files reads file (get_or imports file [])
  stay file l out =
      let asks = asks_as_before before was files reads were.were_read are were.same.paths file l (were.same.others file l out) in
      record {
        same =
            ap (imports_of (paths_of files)) (sym asks)
            ∙ ap (λ ps. imports_of ps (wanted_by before was file)) (sym were.same.paths)
            ∙ imports_of_file before was places files imports were file (omega (arith, l, many)) (omega (arith, l, paired));
        clean = λ f p.
            sound f
            (path_fault_of (text_of before was) (paths_of before) file was (omega (arith, l, many, were.were_read.same))
            (subst (λ ps. PathFault ps (wanted_by before was file) f) (sym were.same.paths) (subst (λ asked. PathFault (paths_of files) asked f) (sym asks) p)));
      }

  pub lists_edited : AreImportLists files reads (with_values imports places lists)
  lists_edited = record {
    are_read = are;
    count = length-with_values imports places lists ∙ paired;
    each = λ file l.
        each_with (AreImportsOf files reads) imports places lists [] count now.each (λ n ln out. stay n (omega (arith, ln, paired)) out) file (omega (arith, l, paired));
  }
