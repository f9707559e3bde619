-- Which statement imports a path, and that it is one.
use Rattle.std.proofs.Common.{◌≡◌, ℕ, suc, ◌+◌, ◌<◌, ◌⊎◌, ◌==◌, List, [], ◌∷◌, ◌++◌, length, map, refl, sym, ◌∙◌, ap, subst, inl, inr, arith, Contains, bytes_eq, eq-eqb, eqb-true, true≢false}
use Rattle.proto_base.proofs.Common.{list_any, and_from, and_parts, cases_Bool, Contains-append_cases, Contains-append_right, or_nothing, any_from, any_to, contains_cases, contains_head, from_map, same_from_word, word_from_same}
use Rattle.proto_text.proofs.Common.{StandsFor, strings_have_values, value_again}
use Rattle.proto_tree.specs.declared.piece.Header.{Header}
use Rattle.proto_tree.specs.declared.piece.Statement.{Statement}
use Rattle.proto_tree.specs.declared.piece.Statement.TheVariants as statement
use Rattle.proto_tree.specs.declared.tree.Import.{Import}
use Rattle.proto_tree.specs.Tree.{Tree, End, Leaf, Block}
use Rattle.proto_files.proofs.Common.{AreRead, ReadOf, read_at, FileOf, file_at, paths_of}
use Rattle.proto_names_rules.proofs.Common.{AskedImport, file_with_path, At, Follows}
use Rattle.proto_names_outline.proofs.Common.{Wanted, imports_in, statement_imports, imports_are_strings}
use Rattle.proto_names_imports.specs.Links.{all_wanted, asked_as, text_of}
use Rattle.proto_edit_rules.specs.Statements.{AfterBlock, AfterLeaf, First, StandsIn, tree_at}
use Rattle.proto_edit_statement_laws.proofs.ChangesCommon.{IsImportOf, word_of_token}
use Rattle.proto_edit_rules.specs.AddImport.{IsImported, asked_in, is_import_of, unknown_file}
use Rattle.proto_edit_rules.specs.DropImport.{no_such_file, not_imported}
use Rattle.proto_edit_statement_described.specs.Statements.{FilesAreThere, ImportsAreOne, ImportsAreThere}
use Rattle.proto_edit_statement_described.proofs.FilePlaces.{place_within}
use Rattle.proto_edit_statement_described.proofs.ImportFaults.{follows_front, none_or, not_twice}
use Rattle.proto_edit_statement_described.proofs.Inserted.{wanted_by}

-- ---- statements of a tree

stands_from : (t : Tree) (w : Wanted) → Contains (imports_in t) w → (i : Import) × StandsIn (statement.Import i) t × (wanted_by i ≡ w)
stands_from End w c = absurd (omega (arith, c.1))
stands_from (Leaf s rest) w c = elim (Contains-append_cases (statement_imports s) (imports_in rest) w c) [
  | inl d ↦ here s d
  | inr d ↦ let r = stands_from rest w d in (r.0, AfterLeaf s rest r.1, r.2)
]
  where
    here : (s : Statement) → Contains (statement_imports s) w → (i : Import) × StandsIn (statement.Import i) (Leaf s rest) × (wanted_by i ≡ w)
    here (statement.Import i) d = elim (contains_cases (wanted_by i) w [] d) [
      | inl e ↦ (i, First rest, e)
      | inr n ↦ absurd (omega (arith, n.1))
    ]
    here _ d = absurd (omega (arith, d.1))
stands_from (Block h i within j rest) w c = let r = stands_from rest w c in (r.0, AfterBlock h i within j rest r.1, r.2)

end_cases : (s : Statement) → StandsIn s End → ⊥
end_cases s h = elim h [ ]

leaf_cases : (s x : Statement) (rest : Tree) → StandsIn s (Leaf x rest) → (x ≡ s) ⊎ StandsIn s rest
leaf_cases s _ _ (First rest) = inl refl
leaf_cases s _ _ (AfterLeaf x rest h) = inr h

block_cases : (s : Statement) (h : Header) (i : ℕ) (within : Tree) (j : ℕ) (rest : Tree) → StandsIn s (Block h i within j rest) → StandsIn s rest
block_cases s _ _ _ _ _ (AfterBlock h i within j rest k) = k

stands_imported : (i : Import) (t : Tree) → StandsIn (statement.Import i) t → Contains (imports_in t) (wanted_by i)
stands_imported i End h = absurd (end_cases (statement.Import i) h)
stands_imported i (Leaf x rest) h = elim (leaf_cases (statement.Import i) x rest h) [
  | inl e ↦ subst (λ (s : Statement). Contains (statement_imports s ++ imports_in rest) (wanted_by i)) (sym e) (contains_head (wanted_by i) (imports_in rest))
  | inr k ↦ Contains-append_right (statement_imports x) (imports_in rest) (wanted_by i) (stands_imported i rest k)
]
stands_imported i (Block k n within j rest) h = stands_imported i rest (block_cases (statement.Import i) k n within j rest h)

-- the import of a statement, or another one
import_or : Import → Statement → Import
import_or i (statement.Import j) = j
import_or i _ = i

one_import : (i j : Import) → statement.Import i ≡ statement.Import j → i ≡ j
unfolding import_or
one_import i j e = ap (import_or i) e

stands_two : (i j : Import) (t : Tree) → StandsIn (statement.Import i) t → StandsIn (statement.Import j) t
    → (i ≡ j) ⊎ (Follows (imports_in t) (wanted_by i) (wanted_by j) ⊎ Follows (imports_in t) (wanted_by j) (wanted_by i))
stands_two i j End h k = absurd (end_cases (statement.Import i) h)
stands_two i j (Leaf x rest) h k = by (λ a b. stands_two i j rest a b) (leaf_cases (statement.Import i) x rest h) (leaf_cases (statement.Import j) x rest k)
  where
    by : (StandsIn (statement.Import i) rest → StandsIn (statement.Import j) rest → (i ≡ j) ⊎ (Follows (imports_in rest) (wanted_by i) (wanted_by j) ⊎ Follows (imports_in rest) (wanted_by j) (wanted_by i)))
        → (x ≡ statement.Import i) ⊎ StandsIn (statement.Import i) rest → (x ≡ statement.Import j) ⊎ StandsIn (statement.Import j) rest
        → (i ≡ j) ⊎ (Follows (imports_in (Leaf x rest)) (wanted_by i) (wanted_by j) ⊎ Follows (imports_in (Leaf x rest)) (wanted_by j) (wanted_by i))
    by further (inl e) (inl f) = inl (one_import i j (sym e ∙ f))
    by further (inl e) (inr b) = inr (inl (subst (λ (s : Statement). Follows (statement_imports s ++ imports_in rest) (wanted_by i) (wanted_by j)) (sym e) (inl (refl, stands_imported j rest b))))
    by further (inr a) (inl f) = inr (inr (subst (λ (s : Statement). Follows (statement_imports s ++ imports_in rest) (wanted_by j) (wanted_by i)) (sym f) (inl (refl, stands_imported i rest a))))
    by further (inr a) (inr b) = elim (further a b) [
      | inl e ↦ inl e
      | inr (inl f) ↦ inr (inl (follows_front (statement_imports x) (imports_in rest) (wanted_by i) (wanted_by j) f))
      | inr (inr f) ↦ inr (inr (follows_front (statement_imports x) (imports_in rest) (wanted_by j) (wanted_by i) f))
    ]
stands_two i j (Block x n within m rest) h k = stands_two i j rest (block_cases (statement.Import i) x n within m rest h) (block_cases (statement.Import j) x n within m rest k)

-- ---- imports of all files

-- the file of an import, and its place in the tree
record IsWanted (text : At → List ℕ) (n : ℕ) (rs : List ReadOf) (a : AskedImport) : Type 0 where
  k : ℕ
  w : Wanted
  within : Contains (imports_in (read_at rs k).tree) w
  is : asked_as text (n + k) w ≡ a

wanted_from : (text : At → List ℕ) (n : ℕ) (rs : List ReadOf) (a : AskedImport) → Contains (all_wanted text n rs) a → IsWanted text n rs a
wanted_from text n [] a c = absurd (omega (arith, c.1))
wanted_from text n (r ∷ rs) a c = elim (Contains-append_cases (map (asked_as text n) (imports_in r.tree)) (all_wanted text (suc n) rs) a c) [
  | inl d ↦
      let w = from_map (asked_as text n) (imports_in r.tree) a d in
      let e : n ≡ n + 0 = omega arith in
      record { k = 0; w = w.0; within = w.1; is = subst (λ m. asked_as text m w.0 ≡ a) e w.2 }
  | inr d ↦
      let v = wanted_from text (suc n) rs a d in
      let e : suc n + v.k ≡ n + suc v.k = omega arith in
      record { k = suc v.k; w = v.w; within = v.within; is = subst (λ m. asked_as text m v.w ≡ a) e v.is }
]

-- ---- the laws

pub files_are_there : FilesAreThere
files_are_there files reads file path free = none_or (file_with_path (paths_of files) file) (λ e. free 11 (unknown_file e))

module _ (files : List FileOf) (reads : List ReadOf) (read : AreRead files reads) (place : ℕ) (within : place < length files) where
  -- the string of an import has one value
  stands_for : (path : List ℕ) (i : Import) → StandsIn (statement.Import i) (tree_at reads place) → (asked_as (text_of files reads) place (wanted_by i)).path ≡ path → StandsFor (word_of_token files reads place i.path) path
  stands_for path i h e =
      let word : List ℕ = word_of_token files reads place i.path in
      let string = imports_are_strings (file_at files place).profile (file_at files place).bytes (read_at reads place).tokens (tree_at reads place) (read.trees place within) (wanted_by i) (stands_imported i (tree_at reads place) h) in
      let v = strings_have_values word string in
      subst (StandsFor word) (sym (ap or_nothing (value_again word v.0 v.1)) ∙ e) v.1

  found : (path : List ℕ) → IsImported files reads place path → (i : Import) × IsImportOf files reads place path i
  found path (a, c, here, says) =
      let v = wanted_from (text_of files reads) 0 reads a c in
      let zero_is : 0 + v.k ≡ v.k = omega arith in
      let same : v.k ≡ place = sym zero_is ∙ ap (λ (z : AskedImport). z.place.file) v.is ∙ here in
      let is : asked_as (text_of files reads) place v.w ≡ a = subst (λ m. asked_as (text_of files reads) m v.w ≡ a) (zero_is ∙ same) v.is in
      let r = stands_from (tree_at reads place) v.w (subst (λ m. Contains (imports_in (tree_at reads m)) v.w) same v.within) in
      (r.0, record { within = within; stands = r.1; value = stands_for path r.0 r.1 (ap (λ (w : Wanted). (asked_as (text_of files reads) place w).path) r.2 ∙ ap (λ (z : AskedImport). z.path) is ∙ says) })

  -- whether it is imported can be told
  is_imported : (path : List ℕ) → ((IsImported files reads place path → ⊥) → ⊥) → IsImported files reads place path
  is_imported path not_none = elim (cases_Bool (list_any (is_import_of place path) (asked_in files reads))) [
    | inl t ↦
        let a = any_to (is_import_of place path) (asked_in files reads) t in
        let p = and_parts (a.0.place.file == place) (bytes_eq a.0.path path) a.2 in
        (a.0, a.1, eqb-true a.0.place.file place p.0, word_from_same a.0.path path p.1)
    | inr f ↦ absurd (not_none (λ x.
        true≢false (sym (any_from (is_import_of place path) (asked_in files reads) x.0 x.1 (and_from (x.0.place.file == place) (bytes_eq x.0.path path) (eq-eqb x.0.place.file place x.2) (same_from_word x.0.path path x.3))) ∙ f)))
  ]

pub imports_are_there : ImportsAreThere
imports_are_there files reads file path read free =
    let at = none_or (file_with_path (paths_of files) file) (λ e. free 11 (no_such_file e)) in
    let within = place_within files file at.0 at.1 in
    let i = found files reads read at.0 within path (is_imported files reads read at.0 within path (λ none. free 13 (not_imported at.0 at.1 none))) in
    (at.0, i.0, at.1, i.1)

pub imports_are_one : ImportsAreOne
imports_are_one files reads path place i j read clean a b =
    let v = value_again (word_of_token files reads place i.path) path a.value in
    let w = value_again (word_of_token files reads place j.path) path b.value in
    let same : (asked_as (text_of files reads) place (wanted_by i)).path ≡ (asked_as (text_of files reads) place (wanted_by j)).path = ap or_nothing (v ∙ sym w) in
    elim (stands_two i j (tree_at reads place) a.stands b.stands) [
      | inl e ↦ e
      | inr (inl f) ↦ absurd (not_twice files reads read clean place (wanted_by i) (wanted_by j) f same)
      | inr (inr f) ↦ absurd (not_twice files reads read clean place (wanted_by j) (wanted_by i) f (sym same))
    ]
