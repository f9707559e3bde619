-- What is found of an import that leads to no file that a reference needs.
use Rattle.std.proofs.Common.{◌≡◌, ◌↔◌, ◌||◌, ℕ, ◌<◌, Bool, true, false, List, [], ◌++◌, length, map, Option, None, Some, refl, sym, ◌∙◌, ap, arith, if◌then◌else◌, bytes_eq}
use Rattle.proto_base.proofs.Common.{length-map, position-Some}
use Rattle.proto_tree.specs.declared.tree.Import.{Import}
use Rattle.proto_tree.specs.Modifiers.{is_public}
use Rattle.proto_files.proofs.Common.{FileOf, paths_of, ReadOf, AreRead}
use Rattle.proto_names_rules.proofs.Common.{file_with_path, Workspace}
use Rattle.proto_names_imports.specs.Links.{link_imports, names_of_files}
use Rattle.proto_lint_rules.specs.declared.rule.Rule.TheVariants as rule
use Rattle.proto_lint_names.proofs.Common.{Found, found_at, found_by, unless, LintFile}
use Rattle.proto_lint_rules.specs.Rules.{is_chosen}
use Rattle.proto_lint.specs.Common.{import_used, is_used, import_path, LeadsToMarked, MarksUsed}

same_truth : (a b : Bool) → (a ≡ true) ↔ (b ≡ true) → a ≡ b
same_truth true b h = sym (h.0 refl)
same_truth false true h = h.1 refl
same_truth false false h = refl

-- the place of a path is that of a file
pub place_within : (files : List FileOf) (path : List ℕ) (to : ℕ) → file_with_path (paths_of files) path ≡ Some to → to < length files
place_within files path to e =
    let l = (position-Some (bytes_eq path) (paths_of files) to [] e).0 in
    omega (arith, l, length-map files (λ f. f.path))

-- an import is used where its file leads to one of these
pub leads_is_used : (files : List FileOf) (reads : List ReadOf) → AreRead files reads → (file : ℕ) (marks : List Bool) → MarksUsed files file marks → (path : List ℕ) (b : Bool)
    → (b ≡ true) ↔ LeadsToMarked (link_imports files reads) (file_with_path (paths_of files) path) marks → b ≡ is_used (names_of_files files reads) file (file_with_path (paths_of files) path)
leads_is_used files reads are file marks used path b h = go (file_with_path (paths_of files) path) refl b h
  where
    go : (o : Option ℕ) → file_with_path (paths_of files) path ≡ o → (a : Bool) → (a ≡ true) ↔ LeadsToMarked (link_imports files reads) o marks → a ≡ is_used (names_of_files files reads) file o
    go None e true k = absurd (k.0 refl)
    go None e false k = refl
    go (Some to) e a k =
        let u = used.used reads are to (place_within files path to e) in
        same_truth a (is_used (names_of_files files reads) file (Some to)) ((λ t. u.0 (k.0 t)), λ t. k.1 (u.1 t))

pub used_found : (rules : List Bool) (r : LintFile) (w : Workspace) (paths : List (List ℕ)) (file : ℕ) (i : Import) (old new : List Found) (path : List ℕ) (passes : Bool)
    → is_chosen rules rule.ImportUsed ≡ true → is_public i.modifier ≡ false → import_path r i ≡ path → passes ≡ is_used w file (file_with_path paths path)
    → new ≡ old ++ map (found_at r rule.ImportUsed) (unless passes i.keyword path) → new ≡ old ++ found_by rules r rule.ImportUsed (import_used w paths r file i)
used_found rules r w paths file i old new path passes chosen plain is uses e =
    e
    ∙ ap (λ (b : Bool). old ++ map (found_at r rule.ImportUsed) (unless b i.keyword path)) uses
    ∙ ap (λ (p : List ℕ). old ++ map (found_at r rule.ImportUsed) (unless (is_used w file (file_with_path paths p)) i.keyword p)) (sym is)
    ∙ ap (λ (b : Bool). old ++ map (found_at r rule.ImportUsed) (unless (b || is_used w file (file_with_path paths (import_path r i))) i.keyword (import_path r i))) (sym plain)
    ∙ ap (λ (b : Bool). old ++ (if b then map (found_at r rule.ImportUsed) (import_used w paths r file i) else [])) (sym chosen)
