-- The imports of linked files, file by file, as their link has them, and in a copy.
use Rattle.std.proofs.Common.{◌≡◌, ℕ, ◌+◌, ◌<◌, List, [], length, get_or, map, sym, ◌∙◌, ap, subst, All, Contains}
use Rattle.proto_base.proofs.Common.{Vec, get_or-map, get_or_default, length-map}
use Rattle.proto_files.proofs.Common.{ReadOf, AreRead, FileOf}
use Rattle.proto_names_imports.proofs.Common.{all_imports, import_from, imports_within, link_imports, names_in}
use Rattle.proto_names_imports.proofs.ImportGraph.{import_of_file}
use Rattle.proto_names_imports.specs.declared.import.FileImport.{FileImport}
use Rattle.proto_names_rules.proofs.Common.{Import}
use Rattle.proto_names.specs.Linking.{LinkOf}
use Rattle.proto_names.specs.LinkOfFiles.{IsLinkOf}
use Rattle.proto_edit_statements.specs.Steps.{AreImportsOf}
use Rattle.proto_edit_statements.proofs.SeenThen.{lists_of}

-- where all imports name files, so do those of each list
each_within : {X : Type 0} (f : X → List FileImport) (n : ℕ) (xs : List X) → ((i : Import) → Contains (all_imports 0 (map f xs)) i → i.to < n) → All (λ v. All (λ i. i.to < n) (f v)) xs
each_within f n xs named = λ k d l j e m.
    (let x = get_or (f (get_or xs k d)) j e in
    let c = import_of_file 0 k (map f xs) x (subst (λ z. Contains z x) (sym (get_or-map f xs k d [] l)) (j, m, get_or_default (f (get_or xs k d)) j x e m)) in
    named (import_from (0 + k) x) c)

module _ (files : List FileOf) (link : LinkOf) (is : IsLinkOf files link) (reads : List ReadOf) (are : AreRead files reads) (items : List (Vec FileImport)) (same : lists_of items ≡ link.imports) where
  of_files : (rs : List ReadOf) → AreRead files rs → all_imports 0 (lists_of items) ≡ link_imports files rs
  of_files rs read = ap (all_imports 0) same ∙ (is rs read).imports

  named : (i : Import) → Contains (all_imports 0 (lists_of items)) i → i.to < length files
  named i c =
      subst (λ n. i.to < n) (length-map reads names_in ∙ are.same)
      ((is reads are).by.between i (subst (λ z. Contains z i) (of_files reads are) c)).1

  pub imports_of_link : AreImportsOf files items
  imports_of_link = record {
    len = sym (length-map items (λ v. v.items)) ∙ ap (λ (z : List (List FileImport)). length z) same ∙ (is reads are).imported;
    within = each_within (λ v. v.items) (length files) items named;
    are = of_files;
  }

-- what holds of these imports holds of a copy
pub copied_imports : (files : List FileOf) (items copy : List (Vec FileImport)) → lists_of copy ≡ lists_of items → AreImportsOf files items → AreImportsOf files copy
copied_imports files items copy same h = record {
  len = sym (length-map copy (λ v. v.items)) ∙ ap (λ (z : List (List FileImport)). length z) same ∙ length-map items (λ v. v.items) ∙ h.len;
  within = each_within (λ v. v.items) (length files) copy (λ i c. imports_within (λ v. v.items) (length files) items h.within i (subst (λ (z : List (List FileImport)). Contains (all_imports 0 z) i) same c));
  are = λ reads are. ap (all_imports 0) same ∙ h.are reads are;
}
