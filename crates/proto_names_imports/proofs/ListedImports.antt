-- The imports of files, given as lists, file by file.
use Rattle.std.proofs.Common.{◌≡◌, ℕ, suc, ◌+◌, ◌<◌, List, [], ◌∷◌, ◌++◌, length, get_or, map, refl, sym, ◌∙◌, ap, subst, arith, Contains}
use Rattle.proto_base.proofs.Common.{filter_map-append}
use Rattle.proto_files.proofs.Common.{paths_of, ReadOf, read_at}
use Rattle.proto_names_rules.proofs.Common.{At, Import, Leads, import_from_asked, imports_of}
use Rattle.proto_names_imports.proofs.KeptImports.{Own, sound_by_file}
use Rattle.proto_names_imports.specs.Common.{FileImport, all_imports, import_from}
use Rattle.proto_names_imports.specs.Laws.{ListedImportsAreSound, ListedImportsAreThese}
use Rattle.proto_names_imports.specs.Links.{all_wanted, link_imports, text_of}

-- the lists of the files from a number on, where each has the imports of its file
lists_are : (text : At → List ℕ) (ps : List (List ℕ)) (n : ℕ) (lists : List (List FileImport)) (rs : List ReadOf) → length lists ≡ length rs
    → ((k : ℕ) → k < length rs → imports_of ps (Own text (n + k) (read_at rs k)) ≡ map (import_from (n + k)) (get_or lists k [])) → all_imports n lists ≡ imports_of ps (all_wanted text n rs)
lists_are text ps n [] [] len h = refl
lists_are text ps n [] (r ∷ rs) len h = absurd (omega (arith, len))
lists_are text ps n (is ∷ lists) [] len h = absurd (omega (arith, len))
lists_are text ps n (is ∷ lists) (r ∷ rs) len h =
    let z : n + 0 ≡ n = omega arith in
    let first : imports_of ps (Own text n r) ≡ map (import_from n) is = subst (λ m. imports_of ps (Own text m r) ≡ map (import_from m) is) z (h 0 (omega arith)) in
    let rest =
    lists_are text ps (suc n) lists rs (omega (arith, len)) (λ k l.
    (let z' : n + suc k ≡ suc n + k = omega arith in
    subst (λ m. imports_of ps (Own text m (read_at rs k)) ≡ map (import_from m) (get_or lists k [])) z' (h (suc k) (omega (arith, l))))) in
    ap (λ (js : List Import). js ++ all_imports (suc n) lists) (sym first)
    ∙ ap (λ (js : List Import). imports_of ps (Own text n r) ++ js) rest
    ∙ sym (filter_map-append (import_from_asked ps) (Own text n r) (all_wanted text (suc n) rs))

pub listed_imports_are_these : ListedImportsAreThese
listed_imports_are_these files reads lists is =
    lists_are (text_of files reads) (paths_of files) 0 lists reads (is.count ∙ sym is.are_read.same)
    (λ k l.
    (let z : k ≡ 0 + k = omega arith in
    subst (λ m. imports_of (paths_of files) (Own (text_of files reads) m (read_at reads k)) ≡ map (import_from m) (get_or lists k [])) z
    (is.each k (omega (arith, l, is.are_read.same))).same))

pub listed_imports_are_sound : ListedImportsAreSound
listed_imports_are_sound files reads lists is acyclic =
    sound_by_file files reads is.are_read (λ file l f p. (is.each file l).clean f p)
    (λ i c leads. acyclic i (subst (λ (js : List Import). Contains js i) (sym these) c) (subst (λ (js : List Import). Leads js i.to i.from) (sym these) leads))
  where
    these : all_imports 0 lists ≡ link_imports files reads
    these = listed_imports_are_these files reads lists is
