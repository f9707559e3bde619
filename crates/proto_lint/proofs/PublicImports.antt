-- The lists of the files that are imported publicly are those of the link's imports.
use Rattle.std.proofs.Common.{◌≡◌, ℕ, zero, suc, ◌+◌, ◌<◌, Bool, true, false, List, [], ◌∷◌, ◌++◌, length, get_or, map, take, option_map, Option, None, Some, refl, sym, ◌∙◌, ap, subst, inl, inr, arith, if◌then◌else◌, option_to_list, All, Contains, filter_map, bytes_eq}
use Rattle.proto_base.proofs.Common.{cons_option, Contains-append_left, Contains-append_right, Contains-append_cases, Contains-get_or, filter_map-append, map-append, position-Some, none-some, same_Some, or_nothing, contains_cases, contains_head, contains_later, contains_map, from_map}
use Rattle.proto_text.specs.Values.{value_of}
use Rattle.proto_files.proofs.Common.{FileOf, paths_of, ReadOf, AreRead, read_at}
use Rattle.proto_names_rules.proofs.Common.{AskedImport, file_with_path, import_from_asked, At, at, Import}
use Rattle.proto_names_outline.proofs.Common.{Wanted, imports_in, wanted_of}
use Rattle.proto_names_outline.specs.declared.wanted.Wanted.{Wanted as WantedAt}
use Rattle.proto_names_imports.proofs.Common.{all_wanted, asked_as, link_imports, text_of, contains_filtered, contains_within, take_more}
use Rattle.proto_lint.specs.ImportTables.{ArePublic, public_target, public_targets}

-- ---- what a list keeps

from_filtered : {X Y : Type 0} (h : X → Option Y) (xs : List X) (y : Y) → Contains (filter_map h xs) y → (x : X) × Contains xs x × (h x ≡ Some y)
from_filtered h [] y c = absurd (omega (arith, c.1))
from_filtered {X = X} {Y = Y} h (x ∷ xs) y c = go (from_filtered h xs y) (h x) refl c
  where
    go : (Contains (filter_map h xs) y → (z : X) × Contains xs z × (h z ≡ Some y)) → (o : Option Y) → h x ≡ o → Contains (cons_option o (filter_map h xs)) y → (z : X) × Contains (x ∷ xs) z × (h z ≡ Some y)
    go rest None e d = let r = rest d in (r.0, contains_later x r.0 xs r.1, r.2)
    go rest (Some v) e d = elim (contains_cases v y (filter_map h xs) d) [
      | inl same ↦ (x, contains_head x xs, e ∙ ap (λ (q : Y). Some q) same)
      | inr k ↦ let r = rest k in (r.0, contains_later x r.0 xs r.1, r.2)
    ]

-- ---- the imports of files, file after file

asked_in : (text : At → List ℕ) (n k : ℕ) (rs : List ReadOf) (i : Wanted) → k < length rs → Contains (imports_in (read_at rs k).tree) i → Contains (all_wanted text n rs) (asked_as text (n + k) i)
asked_in text n k [] i l c = absurd (omega (arith, l))
asked_in text n zero (r ∷ rs) i l c =
    subst (λ m. Contains (all_wanted text n (r ∷ rs)) (asked_as text m i)) {x = n} {y = n + 0} (omega arith)
    (Contains-append_left (map (asked_as text n) (imports_in r.tree)) (all_wanted text (suc n) rs) (asked_as text n i) (contains_map (asked_as text n) (imports_in r.tree) i c))
asked_in text n (suc k) (r ∷ rs) i l c =
    subst (λ m. Contains (all_wanted text n (r ∷ rs)) (asked_as text m i)) {x = suc n + k} {y = n + suc k} (omega arith)
    (Contains-append_right (map (asked_as text n) (imports_in r.tree)) (all_wanted text (suc n) rs) (asked_as text (suc n + k) i) (asked_in text (suc n) k rs i (omega (arith, l)) c))

asked_from : (text : At → List ℕ) (n : ℕ) (rs : List ReadOf) (a : AskedImport) → Contains (all_wanted text n rs) a → (k : ℕ) × (k < length rs) × ((i : Wanted) × Contains (imports_in (read_at rs k).tree) i × (asked_as text (n + k) i ≡ a))
asked_from text n [] a c = absurd (omega (arith, c.1))
asked_from text n (r ∷ rs) a c = elim (Contains-append_cases (map (asked_as text n) (imports_in r.tree)) (all_wanted text (suc n) rs) a c) [
  | inl h ↦
      let i = from_map (asked_as text n) (imports_in r.tree) a h in
      (0, omega arith, (i.0, i.1, ap (λ m. asked_as text m i.0) {x = n + 0} {y = n} (omega arith) ∙ i.2))
  | inr t ↦
      let i = asked_from text (suc n) rs a t in
      (suc i.0, omega (arith, i.1), (i.2.0, i.2.1, ap (λ m. asked_as text m i.2.0) {x = n + suc i.0} {y = suc n + i.0} (omega arith) ∙ i.2.2))
]

-- ---- one import

abbrev path_at : (ℕ → List ℕ) → Wanted → List ℕ
path_at text i = or_nothing (value_of (text i.path))

target_public : (paths : List (List ℕ)) (text : ℕ → List ℕ) (i : Wanted) (to : ℕ) → public_target paths text i ≡ Some to → (i.is_public ≡ true) × (file_with_path paths (path_at text i) ≡ Some to)
target_public paths text i to h = go i.is_public h
  where
    go : (b : Bool) → (if b then file_with_path paths (path_at text i) else None) ≡ Some to → (b ≡ true) × (file_with_path paths (path_at text i) ≡ Some to)
    go true e = (refl, e)
    go false e = absurd (none-some to e)

import_named : (paths : List (List ℕ)) (a : AskedImport) (i : Import) → import_from_asked paths a ≡ Some i → (i.from ≡ a.place.file) × (file_with_path paths a.path ≡ Some i.to) × (i.is_public ≡ a.is_public)
import_named paths a i h = go (file_with_path paths a.path) refl h
  where
    made : ℕ → Import
    made to = record { from = a.place.file; to = to; is_public = a.is_public }

    go : (o : Option ℕ) → file_with_path paths a.path ≡ o → option_map (λ to. let j : Import = record { from = a.place.file; to = to; is_public = a.is_public } in j) o ≡ Some i → (i.from ≡ a.place.file) × (file_with_path paths a.path ≡ Some i.to) × (i.is_public ≡ a.is_public)
    go None e k = absurd (none-some i k)
    go (Some to) e k =
        let j : Import = record { from = a.place.file; to = to; is_public = a.is_public } in
        let same : j ≡ i = same_Some j i k in
        (ap (λ (x : Import). x.from) (sym same), e ∙ ap (λ (x : Import). Some x.to) same, ap (λ (x : Import). x.is_public) (sym same))

-- they name files of the workspace
pub targets_within : (paths : List (List ℕ)) (text : ℕ → List ℕ) (wanted : List Wanted) → All (λ g. g < length paths) (public_targets paths text wanted)
targets_within paths text wanted k d l =
    let g = get_or (public_targets paths text wanted) k d in
    let x = from_filtered (public_target paths text) wanted g (Contains-get_or (public_targets paths text wanted) k d l) in
    (position-Some (bytes_eq (path_at text x.0)) paths g [] (target_public paths text x.0 g x.2).1).0

-- one import more
pub targets_more : (paths : List (List ℕ)) (text : ℕ → List ℕ) (ws : List WantedAt) (i : ℕ) (d : WantedAt) → i < length ws
    → public_targets paths text (map wanted_of (take (i + 1) ws)) ≡ public_targets paths text (map wanted_of (take i ws)) ++ option_to_list (public_target paths text (wanted_of (get_or ws i d)))
targets_more paths text ws i d l =
    ap (λ (xs : List WantedAt). public_targets paths text (map wanted_of xs)) (take_more ws i d l)
    ∙ ap (public_targets paths text) (map-append wanted_of (take i ws) (get_or ws i d ∷ []))
    ∙ filter_map-append (public_target paths text) (map wanted_of (take i ws)) (wanted_of (get_or ws i d) ∷ [])
    ∙ ap (λ zs. public_targets paths text (map wanted_of (take i ws)) ++ zs) (alone (public_target paths text (wanted_of (get_or ws i d))))
  where
    alone : (o : Option ℕ) → cons_option o [] ≡ option_to_list o
    alone None = refl
    alone (Some g) = refl

module _ (files : List FileOf) (reads : List ReadOf) (are : AreRead files reads) (next : List (List ℕ)) (count : length next ≡ length files)
    (each : (k : ℕ) → k < length files → get_or next k [] ≡ public_targets (paths_of files) (λ i. text_of files reads (at k i)) (imports_in (read_at reads k).tree)) where
  abbrev paths : List (List ℕ)
  paths = paths_of files

  abbrev texts : At → List ℕ
  texts = text_of files reads

  abbrev here : ℕ → ℕ → List ℕ
  here k i = texts (at k i)

  listed_imported : (from to : ℕ) → Contains (get_or next from []) to → (i : Import) × Contains (link_imports files reads) i × (i.from ≡ from) × (i.to ≡ to) × (i.is_public ≡ true)
  listed_imported from to c =
      let l : from < length files = let q = contains_within next from to c in omega (arith, q, count) in
      let wanted = imports_in (read_at reads from).tree in
      let x = from_filtered (public_target paths (here from)) wanted to (subst (λ z. Contains z to) (each from l) c) in
      let t = target_public paths (here from) x.0 to x.2 in
      let a : AskedImport = asked_as texts from x.0 in
      let asked : Contains (all_wanted texts 0 reads) a = subst (λ m. Contains (all_wanted texts 0 reads) (asked_as texts m x.0)) {x = 0 + from} {y = from} (omega arith) (asked_in texts 0 from reads x.0 (omega (arith, l, are.same)) x.1) in
      let i : Import = record { from = from; to = to; is_public = x.0.is_public } in
      let named : import_from_asked paths a ≡ Some i = ap (option_map (λ (k : ℕ). let j : Import = record { from = from; to = k; is_public = x.0.is_public } in j)) t.1 in
      (i, contains_filtered (import_from_asked paths) (all_wanted texts 0 reads) a i asked named, refl, refl, t.0)

  imported_listed : (from to : ℕ) → (i : Import) × Contains (link_imports files reads) i × (i.from ≡ from) × (i.to ≡ to) × (i.is_public ≡ true) → Contains (get_or next from []) to
  imported_listed from to (i, c, f, t, p) =
      let a = from_filtered (import_from_asked paths) (all_wanted texts 0 reads) i c in
      let x = asked_from texts 0 reads a.0 a.1 in
      let n = import_named paths a.0 i a.2 in
      let one : Wanted = x.2.0 in
      let k : x.0 ≡ from = let q = ap (λ (z : AskedImport). z.place.file) x.2.2 in let r = n.0 in omega (arith, q, r, f) in
      let same : asked_as texts from one ≡ a.0 = ap (λ m. asked_as texts m one) {x = from} {y = 0 + x.0} (omega (arith, k)) ∙ x.2.2 in
      let is_public : one.is_public ≡ true = ap (λ (z : AskedImport). z.is_public) same ∙ sym n.2 ∙ p in
      let file : file_with_path paths (path_at (here from) one) ≡ Some to = ap (λ (z : AskedImport). file_with_path paths z.path) same ∙ n.1 ∙ ap (λ (z : ℕ). Some z) t in
      let target : public_target paths (here from) one ≡ Some to = ap (λ (b : Bool). if b then file_with_path paths (path_at (here from) one) else None) is_public ∙ file in
      let l : from < length files = let q = x.1 in omega (arith, q, k, are.same) in
      let wanted : Contains (imports_in (read_at reads from).tree) one = subst (λ j. Contains (imports_in (read_at reads j).tree) one) k x.2.1 in
      subst (λ z. Contains z to) (sym (each from l)) (contains_filtered (public_target paths (here from)) (imports_in (read_at reads from).tree) one to wanted target)

  pub are_public : ArePublic next (link_imports files reads)
  are_public from to = (listed_imported from to, imported_listed from to)
