-- The packages of marked files, as text, are the packages among the names.
use Rattle.std.proofs.Common.{◌≡◌, ◌↔◌, ℕ, ◌+◌, ◌<◌, Bool, true, false, List, [], ◌∷◌, ◌++◌, length, map, refl, sym, ap, subst, ◌∙◌, inl, inr, arith, Contains}
use Rattle.proto_base.proofs.Common.{both_ways, length-map, Contains-append_cases, Contains-append_left, contains_cases, contains_head, contains_later, contains_map, from_map}
use Rattle.proto_case.specs.Camel.{entry_name}
use Rattle.proto_files.proofs.Common.{ReadOf, AreRead, read_at, FileOf, file_at}
use Rattle.proto_names_imports.proofs.Common.{link_skeleton, names_in, names_of_files, text_of, name_in, plain_join}
use Rattle.proto_names_outline.proofs.Common.{items_in, items_below, package_first, same_declared, tree_span}
use Rattle.proto_names_rules.specs.declared.kind.Kind.{Kind}
use Rattle.proto_names_rules.specs.declared.kind.Kind.TheVariants.{Package, Field, Value, Method, Extension}
use Rattle.proto_names_rules.proofs.Common.{under, At, at, declared_of, ArePlain, IsPlain, joined, is_package, Symbol, Source, Token, name_of, shifted_declared, spell, symbol_of, Items, no_items, packaged, item, Member, field, map_field, oneof, message, enum, extend, service, Members, no_members, member, Placed, place, placed, all_placed, prefixes, package_of, file_placed, ItemsSpan, map_append, map_map, prefix_whole}
use Rattle.proto_edit_rename_laws.proofs.Common.{declared_by, declared_there, index_map}
use Rattle.proto_names_table.proofs.Search.{joined_more}
use Rattle.proto_tree.specs.Tree.{End}
use Rattle.proto_edit_captures.specs.Overtaking.{IsPackageSeen, fronts_from, is_marked, package_texts}
use Rattle.proto_edit_captures.proofs.Overtaken.{IsPackageIn}

-- ---- a file's packages are the fronts of its package

-- As EndAs of Declarations of proto_edit_rename_laws, of another property.
abbrev NoPackages : List Placed → Type 0
NoPackages [] = Unit {0}
NoPackages (p ∷ ps) = (is_package p.kind ≡ false) × NoPackages ps

none_append : (ps qs : List Placed) → NoPackages ps → NoPackages qs → NoPackages (ps ++ qs)
none_append [] qs h k = k
none_append (p ∷ ps) qs h k = (h.0, none_append ps qs h.1 k)

none_tokens : (path : List (Source ℕ)) (kind : Kind) → is_package kind ≡ false → (ts : List ℕ) → NoPackages (map (λ i. place path (Token i) kind) ts)
none_tokens path kind n [] = tt
none_tokens path kind n (t ∷ ts) = (n, none_tokens path kind n ts)

mutual
  none_of : (m : Member) (path : List (Source ℕ)) → NoPackages (placed path m)
  none_of (field t) path = (refl, tt)
  none_of (map_field t) path = (refl, (refl, (refl, (refl, tt))))
  none_of (oneof t fs) path = (refl, none_tokens path Field refl fs)
  none_of (message t ms) path = (refl, none_in ms (path ++ Token t ∷ []))
  none_of (enum t vs) path = (refl, none_tokens path Value refl vs)
  none_of (service t ms) path = (refl, none_tokens (path ++ Token t ∷ []) Method refl ms)
  none_of (extend ts) path = none_tokens path Extension refl ts

  none_in : (ms : Members) (path : List (Source ℕ)) → NoPackages (all_placed path ms)
  none_in no_members path = tt
  none_in (member m ms) path = none_append (placed path m) (all_placed path ms) (none_of m path) (none_in ms path)

none_below : (path : List (Source ℕ)) (is : Items) → NoPackages (items_below path is)
none_below path no_items = tt
none_below path (packaged ts rest) = none_below path rest
none_below path (item m rest) = none_append (placed path m) (items_below path rest) (none_of m path) (none_below path rest)

none_at : (ps : List Placed) → NoPackages ps → (p : Placed) → Contains ps p → p.kind ≡ Package → ⊥
none_at [] h p c e = absurd (omega (arith, c.1))
none_at (q ∷ ps) h p c e = elim (contains_cases q p ps c) [
  | inl same ↦ both_ways (is_package q.kind) h.0 (ap is_package (ap (λ (z : Placed). z.kind) same ∙ e))
  | inr d ↦ none_at ps h.1 p d e
]

among_prefixes : (is : Items) → ((low high : ℕ) × ItemsSpan low high is) → (p : Placed) → Contains (file_placed is) p → p.kind ≡ Package → Contains (prefixes [] (package_of is)) p
among_prefixes is span p c e = elim (Contains-append_cases (prefixes [] (package_of is)) (items_below (map (λ t. Token t) (package_of is)) is) p ((same_declared is span.0 span.1 span.2 p).1 c)) [
  | inl a ↦ a
  | inr b ↦ absurd (none_at (items_below (map (λ t. Token t) (package_of is)) is) (none_below (map (λ t. Token t) (package_of is)) is) p b e)
]

-- ---- their texts

module _ (text : ℕ → List ℕ) where
  abbrev N : List (Source ℕ) → List (List ℕ)
  N path = name_of text entry_name path

  abbrev full : Placed → List ℕ
  full p = joined (N (p.above ++ p.last ∷ []))

  N_more : (path : List (Source ℕ)) (t : ℕ) → N (path ++ Token t ∷ []) ≡ N path ++ text t ∷ []
  N_more path t = map_append (spell text entry_name) path (Token t ∷ [])

  more : (path : List (Source ℕ)) (t : ℕ) → ArePlain (N path) → under (joined (N path)) (text t) ≡ joined (N (path ++ Token t ∷ []))
  more path t plain = sym (joined_more (N path) (text t) plain) ∙ ap joined (sym (N_more path t))

  plain_more : (path : List (Source ℕ)) (t : ℕ) → ArePlain (N path) → IsPlain (text t) → ArePlain (N (path ++ Token t ∷ []))
  plain_more path t plain word = subst ArePlain (sym (N_more path t)) (plain_join (N path) (text t) plain word)

  prefix_to : (path : List (Source ℕ)) (ts : List ℕ) → ArePlain (N path) → ArePlain (map text ts) → (p : Placed) → Contains (prefixes path ts) p → Contains (fronts_from (joined (N path)) (map text ts)) (full p)
  prefix_to path [] plain words p c = absurd (omega (arith, c.1))
  prefix_to path (t ∷ ts) plain words p c =
      let here = more path t plain in
      let rest = fronts_from (under (joined (N path)) (text t)) (map text ts) in
      elim (contains_cases (place path (Token t) Package) p (prefixes (path ++ Token t ∷ []) ts) c) [
        | inl e ↦
            let same : under (joined (N path)) (text t) ≡ full p = here ∙ ap full e in
            subst (λ z. Contains (under (joined (N path)) (text t) ∷ rest) z) same (contains_head (under (joined (N path)) (text t)) rest)
        | inr d ↦
            contains_later (under (joined (N path)) (text t)) (full p) rest
            (subst (λ z. Contains (fronts_from z (map text ts)) (full p)) (sym here) (prefix_to (path ++ Token t ∷ []) ts (plain_more path t plain words.0) words.1 p d))
      ]

  prefix_from : (path : List (Source ℕ)) (ts : List ℕ) → ArePlain (N path) → ArePlain (map text ts) → (x : List ℕ) → Contains (fronts_from (joined (N path)) (map text ts)) x
      → (p : Placed) × Contains (prefixes path ts) p × (p.kind ≡ Package) × (full p ≡ x)
  prefix_from path [] plain words x c = absurd (omega (arith, c.1))
  prefix_from path (t ∷ ts) plain words x c =
      let here = more path t plain in
      let head : Placed = place path (Token t) Package in
      elim (contains_cases (under (joined (N path)) (text t)) x (fronts_from (under (joined (N path)) (text t)) (map text ts)) c) [
        | inl e ↦ (head, contains_head head (prefixes (path ++ Token t ∷ []) ts), refl, sym here ∙ e)
        | inr d ↦
            let r = prefix_from (path ++ Token t ∷ []) ts (plain_more path t plain words.0) words.1 x (subst (λ z. Contains (fronts_from z (map text ts)) x) here d) in
            (r.0, contains_later head r.0 (prefixes (path ++ Token t ∷ []) ts) r.1, r.2, r.3)
      ]

-- ---- of all files

module _ (files : List FileOf) (reads : List ReadOf) (are : AreRead files reads) (marks : List Bool) (plain : (s : Symbol) → Contains (names_of_files files reads).symbols s → ArePlain s.name) where
  abbrev T : At → List ℕ
  T = text_of files reads

  abbrev own : ℕ → ℕ → List ℕ
  own k i = T (at k i)

  abbrev items : ℕ → Items
  items k = items_in (read_at reads k).tree

  -- the symbol of what a file declares
  abbrev symbol_at : ℕ → Placed → Symbol
  symbol_at k p = symbol_of T entry_name (shifted_declared (at k) (declared_of k p))

  name_at_is : (k : ℕ) (p : Placed) → (symbol_at k p).name ≡ name_of (own k) entry_name (p.above ++ p.last ∷ [])
  name_at_is k p = name_in T k (p.above ++ p.last ∷ [])

  inside : (k : ℕ) → k < length files → k < length reads
  inside k l = let s = are.same in omega (arith, l, s)

  declared_here : (k : ℕ) → k < length files → (p : Placed) → Contains (file_placed (items k)) p → Contains (names_of_files files reads).symbols (symbol_at k p)
  declared_here k l p c =
      let zero_is : 0 + k ≡ k = omega arith in
      let n = length-map reads names_in in
      let m = inside k l in
      contains_map (symbol_of T entry_name) (link_skeleton files reads).declared (shifted_declared (at k) (declared_of k p))
      (subst (λ z. Contains (link_skeleton files reads).declared (shifted_declared (at z) (declared_of z p))) zero_is
      (declared_there 0 (map names_in reads) k (names_in (read_at reads k)) p (omega (arith, m, n)) (index_map names_in reads (record { tokens = []; tree = End }) (names_in (read_at reads k)) k m) c))

  span : (k : ℕ) → k < length files → (low high : ℕ) × ItemsSpan low high (items k)
  span k l = tree_span (file_at files k).profile (file_at files k).bytes (read_at reads k).tokens (read_at reads k).tree (are.trees k l)

  -- the words of a file's package
  words_plain : (k : ℕ) → k < length files → ArePlain (map (own k) (package_of (items k)))
  words_plain k l = by (package_of (items k)) refl
    where
      by : (ts : List ℕ) → package_of (items k) ≡ ts → ArePlain (map (own k) ts)
      by [] e = tt
      by (t ∷ ts) e =
          let u = prefix_whole t ts [] in
          let s = span k l in
          let c : Contains (file_placed (items k)) u.0 = (same_declared (items k) s.0 s.1 s.2 u.0).0 (in_front u.0 (subst (λ z. Contains (prefixes [] z) u.0) (sym e) u.1)) in
          let name : (symbol_at k u.0).name ≡ map (own k) (t ∷ ts) = name_at_is k u.0 ∙ ap (name_of (own k) entry_name) (sym u.2) ∙ map_map (λ i. Token i) (spell (own k) entry_name) (t ∷ ts) in
          subst ArePlain name (plain (symbol_at k u.0) (declared_here k l u.0 c))
        where
          in_front : (p : Placed) → Contains (prefixes [] (package_of (items k))) p → Contains (package_first (items k)) p
          in_front p c = Contains-append_left (prefixes [] (package_of (items k))) (items_below (map (λ t. Token t) (package_of (items k))) (items k)) p c

  -- a package of a file, as text and as a symbol
  to_symbol : (k : ℕ) → k < length files → (x : List ℕ) → Contains (package_texts files reads k) x → (s : Symbol) × Contains (names_of_files files reads).symbols s × (s.kind ≡ Package) × (joined s.name ≡ x) × (s.file ≡ k)
  to_symbol k l x c =
      let r = prefix_from (own k) [] (package_of (items k)) tt (words_plain k l) x c in
      let s = span k l in
      let there : Contains (file_placed (items k)) r.0 = (same_declared (items k) s.0 s.1 s.2 r.0).0 (Contains-append_left (prefixes [] (package_of (items k))) (items_below (map (λ t. Token t) (package_of (items k))) (items k)) r.0 r.1) in
      (symbol_at k r.0, declared_here k l r.0 there, r.2, ap joined (name_at_is k r.0) ∙ r.3, refl)

  from_symbol : (s : Symbol) → Contains (names_of_files files reads).symbols s → s.kind ≡ Package → (s.file < length files) × Contains (package_texts files reads s.file) (joined s.name)
  from_symbol s c kind =
      let d = from_map (symbol_of T entry_name) (link_skeleton files reads).declared s c in
      let o = declared_by 0 reads d.0 d.1 in
      let zero_is : 0 + o.k ≡ o.k = omega arith in
      let one : symbol_at o.k o.p ≡ s = ap (symbol_of T entry_name) (subst (λ z. shifted_declared (at z) (declared_of z o.p) ≡ d.0) zero_is o.is) ∙ d.2 in
      let len = are.same in
      let low = o.inside in
      let l : o.k < length files = omega (arith, low, len) in
      let p = among_prefixes (items o.k) (span o.k l) o.p o.within (ap (λ (z : Symbol). z.kind) one ∙ kind) in
      let t = prefix_to (own o.k) [] (package_of (items o.k)) tt (words_plain o.k l) o.p p in
      let name : full (own o.k) o.p ≡ joined s.name = ap joined (sym (name_at_is o.k o.p)) ∙ ap (λ (z : Symbol). joined z.name) one in
      let file : o.k ≡ s.file = ap (λ (z : Symbol). z.file) one in
      (subst (λ z. z < length files) file l, subst (λ z. Contains (package_texts files reads z) (joined s.name)) file (subst (Contains (package_texts files reads o.k)) name t))

  pub packages_are : (packages : List ℕ → Bool) → ((text : List ℕ) → (packages text ≡ true) ↔ IsPackageSeen files reads marks text) → (text : List ℕ) → (packages text ≡ true) ↔ IsPackageIn (names_of_files files reads) marks text
  packages_are packages tells text = (
    λ h. (
        let x = (tells text).0 h in
        let s = to_symbol x.0 x.1 text x.3 in
        (s.0, s.1, s.2, s.3, ap (is_marked marks) s.4 ∙ x.2)),
    λ s. (
        let f = from_symbol s.0 s.1 s.2 in
        (tells text).1 (s.0.file, f.0, s.4, subst (Contains (package_texts files reads s.0.file)) s.3 f.1)),
  )
