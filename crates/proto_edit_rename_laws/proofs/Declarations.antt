-- Declarations by the files and trees that they stand in, and what their names end with (for the crates above).
use Rattle.std.proofs.Common.{◌≡◌, ℕ, zero, suc, ◌+◌, ◌<◌, Bool, true, false, List, [], ◌∷◌, ◌++◌, length, map, refl, sym, ap, subst, ◌∙◌, inl, inr, arith, Contains, slice_index_or}
use Rattle.proto_base.proofs.Common.{Contains-append_cases, Contains-append_left, Contains-append_right, contains_cases, contains_map, from_map}
use Rattle.proto_files.specs.FilesRead.{ReadOf, read_at}
use Rattle.proto_names_rules.proofs.Common.{FileNames, At, at, declared_of, file_declared, all_declared, Source, Token, EntryOf, Given, Declared, shifted_declared, shifted_source, Member, field, map_field, oneof, message, enum, service, extend, Members, no_members, member, Items, no_items, packaged, item, package_of, Placed, place, placed, all_placed, prefixes, items_placed, file_placed, map_append}
use Rattle.proto_names_rules.specs.declared.kind.Kind.{Kind}
use Rattle.proto_names_rules.specs.declared.kind.Kind.TheVariants.{Package, Message, Entry, Enum, Service, Field, EntryField, Oneof, Value, Method, Extension}
use Rattle.proto_names_outline.specs.FromTree.{items_in}
use Rattle.proto_names_imports.specs.Links.{names_in}

-- ---- what a name ends with

-- declared by a token
abbrev pub is_written : Kind → Bool
is_written Package = true
is_written Message = true
is_written Entry = false
is_written Enum = true
is_written Service = true
is_written Field = true
is_written EntryField = false
is_written Oneof = true
is_written Value = true
is_written Method = true
is_written Extension = true

abbrev pub EndsAs : Source ℕ → Kind → Type 0
EndsAs (Token t) k = is_written k ≡ true
EndsAs (EntryOf t) k = k ≡ Entry
EndsAs (Given w) k = k ≡ EntryField

-- As AreGivenPlain of PlainNames of proto_names_imports, of another property: each takes three lines a kind of
-- declaration, and one lemma over a property would ask for as many.
abbrev EndAs : List Placed → Type 0
EndAs [] = Unit {0}
EndAs (p ∷ ps) = EndsAs p.last p.kind × EndAs ps

ends_append : (ps qs : List Placed) → EndAs ps → EndAs qs → EndAs (ps ++ qs)
ends_append [] qs h k = k
ends_append (p ∷ ps) qs h k = (h.0, ends_append ps qs h.1 k)

ends_tokens : (path : List (Source ℕ)) (kind : Kind) → is_written kind ≡ true → (ts : List ℕ) → EndAs (map (λ i. place path (Token i) kind) ts)
ends_tokens path kind w [] = tt
ends_tokens path kind w (t ∷ ts) = (w, ends_tokens path kind w ts)

mutual
  ends_of : (m : Member) (path : List (Source ℕ)) → EndAs (placed path m)
  ends_of (field t) path = (refl, tt)
  ends_of (map_field t) path = (refl, (refl, (refl, (refl, tt))))
  ends_of (oneof t fs) path = (refl, ends_tokens path Field refl fs)
  ends_of (message t ms) path = (refl, ends_in ms (path ++ Token t ∷ []))
  ends_of (enum t vs) path = (refl, ends_tokens path Value refl vs)
  ends_of (service t ms) path = (refl, ends_tokens (path ++ Token t ∷ []) Method refl ms)
  ends_of (extend ts) path = ends_tokens path Extension refl ts

  ends_in : (ms : Members) (path : List (Source ℕ)) → EndAs (all_placed path ms)
  ends_in no_members path = tt
  ends_in (member m ms) path = ends_append (placed path m) (all_placed path ms) (ends_of m path) (ends_in ms path)

ends_prefixes : (path : List (Source ℕ)) (ts : List ℕ) → EndAs (prefixes path ts)
ends_prefixes path [] = tt
ends_prefixes path (t ∷ ts) = (refl, ends_prefixes (path ++ Token t ∷ []) ts)

ends_items : (path : List (Source ℕ)) (is : Items) → EndAs (items_placed path is)
ends_items path no_items = tt
ends_items path (packaged ts rest) = ends_append (prefixes [] ts) (items_placed path rest) (ends_prefixes [] ts) (ends_items path rest)
ends_items path (item m rest) = ends_append (placed path m) (items_placed path rest) (ends_of m path) (ends_items path rest)

ends_at : (ps : List Placed) → EndAs ps → (p : Placed) → Contains ps p → EndsAs p.last p.kind
ends_at [] h p c = absurd (omega (arith, c.1))
ends_at (q ∷ ps) h p c = elim (contains_cases q p ps c) [ inl e ↦ subst (λ (z : Placed). EndsAs z.last z.kind) e h.0 | inr d ↦ ends_at ps h.1 p d ]

pub placed_ends : (is : Items) (p : Placed) → Contains (file_placed is) p → EndsAs p.last p.kind
placed_ends is p c = ends_at (file_placed is) (ends_items (map (λ t. Token t) (package_of is)) is) p c

-- ---- declarations by their files

pub record IsDeclaredBy (n : ℕ) (rs : List ReadOf) (d : Declared At) : Type 0 where
  pub k : ℕ
  pub inside : k < length rs
  pub p : Placed
  pub within : Contains (file_placed (items_in (read_at rs k).tree)) p
  pub is : shifted_declared (at (n + k)) (declared_of (n + k) p) ≡ d

pub declared_by : (n : ℕ) (rs : List ReadOf) (d : Declared At) → Contains (all_declared n (map names_in rs)) d → IsDeclaredBy n rs d
declared_by n [] d c = absurd (omega (arith, c.1))
declared_by n (r ∷ rs) d c = elim (Contains-append_cases (file_declared n (names_in r)) (all_declared (suc n) (map names_in rs)) d c) [
  | inl a ↦
      let p = from_map (λ p. shifted_declared (at n) (declared_of n p)) (file_placed (items_in r.tree)) d a in
      let e : n ≡ n + 0 = omega arith in
      record { k = 0; inside = omega arith; p = p.0; within = p.1; is = subst (λ m. shifted_declared (at m) (declared_of m p.0) ≡ d) e p.2 }
  | inr b ↦
      let r = declared_by (suc n) rs d b in
      let l = r.inside in
      let e : suc n + r.k ≡ n + suc r.k = omega arith in
      record { k = suc r.k; inside = omega (arith, l); p = r.p; within = r.within; is = subst (λ m. shifted_declared (at m) (declared_of m r.p) ≡ d) e r.is }
]

pub path_of_declared : (n : ℕ) (rs : List ReadOf) (d : Declared At) (o : IsDeclaredBy n rs d) → d.path ≡ map (shifted_source (at (n + o.k))) o.p.above ++ shifted_source (at (n + o.k)) o.p.last ∷ []
path_of_declared n rs d o = ap (λ (z : Declared At). z.path) (sym o.is) ∙ map_append (shifted_source (at (n + o.k))) o.p.above (o.p.last ∷ [])

-- a declaration of a written kind ends with a token of its file
pub ends_with_token : (n : ℕ) (rs : List ReadOf) (d : Declared At) → Contains (all_declared n (map names_in rs)) d → is_written d.kind ≡ true → (above : List (Source At)) × (i : ℕ) × (d.path ≡ above ++ Token (at d.file i) ∷ [])
ends_with_token n rs d c w =
    let o = declared_by n rs d c in
    by (declared_by n rs d c) ((declared_by n rs d c).p.last) refl (placed_ends (items_in (read_at rs o.k).tree) o.p o.within)
  where
    by : (o : IsDeclaredBy n rs d) (s : Source ℕ) → o.p.last ≡ s → EndsAs o.p.last o.p.kind → (above : List (Source At)) × (i : ℕ) × (d.path ≡ above ++ Token (at d.file i) ∷ [])
    by o (Token t) q h = (
      map (shifted_source (at (n + o.k))) o.p.above,
      t,
      path_of_declared n rs d o ∙ ap (λ z. map (shifted_source (at (n + o.k))) o.p.above ++ shifted_source (at (n + o.k)) z ∷ []) q ∙ ap (λ f. map (shifted_source (at (n + o.k))) o.p.above ++ Token (at f t) ∷ []) (ap (λ (z : Declared At). z.file) o.is),
    )
    by o (EntryOf t) q h =
        let e : o.p.kind ≡ Entry = subst (λ z. EndsAs z o.p.kind) q h in
        let f : is_written Entry ≡ true = ap is_written (sym e ∙ ap (λ (z : Declared At). z.kind) o.is) ∙ w in
        absurd cc
    by o (Given v) q h =
        let e : o.p.kind ≡ EntryField = subst (λ z. EndsAs z o.p.kind) q h in
        let f : is_written EntryField ≡ true = ap is_written (sym e ∙ ap (λ (z : Declared At). z.kind) o.is) ∙ w in
        absurd cc

-- ---- what a file declares is declared

pub declared_there : (n : ℕ) (fs : List FileNames) (k : ℕ) (f : FileNames) (p : Placed) → k < length fs → slice_index_or fs k f ≡ f → Contains (file_placed f.items) p → Contains (all_declared n fs) (shifted_declared (at (n + k)) (declared_of (n + k) p))
declared_there n [] k f p l e c = absurd (omega (arith, l))
declared_there n (x ∷ fs) zero f p l e c =
    let here : Contains (file_placed x.items) p = subst (λ (z : FileNames). Contains (file_placed z.items) p) (sym e) c in
    let zero_is : n ≡ n + 0 = omega arith in
    subst (λ m. Contains (all_declared n (x ∷ fs)) (shifted_declared (at m) (declared_of m p))) zero_is
    (Contains-append_left (file_declared n x) (all_declared (suc n) fs) (shifted_declared (at n) (declared_of n p)) (contains_map (λ q. shifted_declared (at n) (declared_of n q)) (file_placed x.items) p here))
declared_there n (x ∷ fs) (suc k) f p l e c =
    let more : suc n + k ≡ n + suc k = omega arith in
    subst (λ m. Contains (all_declared n (x ∷ fs)) (shifted_declared (at m) (declared_of m p))) more
    (Contains-append_right (file_declared n x) (all_declared (suc n) fs) (shifted_declared (at (suc n + k)) (declared_of (suc n + k) p)) (declared_there (suc n) fs k f p (omega (arith, l)) e c))
