-- What files see with an import less.
use Rattle.std.proofs.Common.{◌≡◌, ◌↔◌, ℕ, ◌<◌, Bool, List, [], length, get_or, map, filter, not, ◌==◌, refl, sym, ap, subst, ◌∙◌, arith, slice_set, Result, Ok, Err, IfOk, Contains, length-set}
use Rattle.proto_base.proofs.Common.{Vec, length-map, map-set}
use Rattle.proto_files.proofs.Common.{ReadOf, AreRead, FileOf}
use Rattle.proto_names_imports.proofs.Common.{all_imports, names_in, names_of_files}
use Rattle.proto_names_imports.specs.declared.import.FileImport.{FileImport}
use Rattle.proto_names_rules.proofs.Common.{with_imports, MarksSeen, Import, Workspace}
use Rattle.proto_edit_statement_laws.proofs.NamesCommon.{IsPlaceOf, with_dropped, same_marks}
use Rattle.proto_edit_statements.specs.Steps.{AreImportsOf, AreSeenIn}
use Rattle.proto_edit_statements.proofs.MoreOrLess.{one_less}

pub if_both : {A E : Type 0} {P Q R : A → Type 0} (r : Result A E) → IfOk r P → IfOk r Q → ((x : A) → P x → Q x → R x) → IfOk r R
if_both (Ok x) p q f = f x p q
if_both (Err e) p q f = tt

abbrev pub lists_of : List (Vec FileImport) → List (List FileImport)
lists_of vs = map (λ v. v.items) vs

module _ (files : List FileOf) (reads : List ReadOf) (are : AreRead files reads) (items : List (Vec FileImport)) (imports : AreImportsOf files items) (file : ℕ) (within : file < length files) where
  inside : file < length items
  inside = let e = imports.len in omega (arith, within, e)

  listed : file < length (lists_of items)
  listed = let e = length-map items (λ v. v.items) in let l = inside in omega (arith, l, e)

  files_are : (names_of_files files reads).files ≡ length files
  files_are = length-map reads names_in ∙ are.same

  module _ (after : List (Vec FileImport)) (now : Vec FileImport) (set : after ≡ slice_set items file now) (seen : List (List Bool)) (len : length seen ≡ length after)
      (exact : (w : Workspace) → w.files ≡ length after → w.imports ≡ all_imports 0 (map (λ v. v.items) after) → (f : ℕ) → f < length after → MarksSeen w f (get_or seen f [])) where
    long : length after ≡ length files
    long = ap (λ (z : List (Vec FileImport)). length z) set ∙ length-set items file now ∙ imports.len

    lists : lists_of after ≡ slice_set (lists_of items) file now.items
    lists = ap lists_of set ∙ map-set (λ v. v.items) items file now

    seen_by : (others : List Import) → ((i : Import) → Contains (all_imports 0 (lists_of after)) i ↔ Contains others i) → AreSeenIn files (with_imports (names_of_files files reads) others) seen
    seen_by others same = (
      len ∙ long,
      λ f l. same_marks (names_of_files files reads) (all_imports 0 (lists_of after)) others same f (get_or seen f [])
          (exact (with_imports (names_of_files files reads) (all_imports 0 (lists_of after))) (files_are ∙ sym long) refl f (subst (λ n. f < n) (sym long) l)),
    )

    pub seen_less : (to : ℕ) (path : List ℕ) → IsPlaceOf files path to → now.items ≡ filter (λ x. not (x.to == to)) (get_or (lists_of items) file []) → AreSeenIn files (with_dropped files reads file path) seen
    seen_less to path place left = seen_by (with_dropped files reads file path).imports same
      where
        same : (i : Import) → Contains (all_imports 0 (lists_of after)) i ↔ Contains (with_dropped files reads file path).imports i
        same i =
            subst (λ z. Contains (all_imports 0 z) i ↔ Contains (with_dropped files reads file path).imports i) (sym (lists ∙ ap (slice_set (lists_of items) file) left))
            (one_less files reads file to path place (lists_of items) listed (imports.are reads are) i)
