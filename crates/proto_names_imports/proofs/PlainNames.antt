-- The full names that files declare are of plain words (for the crates above).
use Rattle.std.proofs.Common.{◌≡◌, ℕ, zero, suc, ◌+◌, ◌<◌, List, [], ◌∷◌, ◌++◌, length, map, Some, refl, sym, ◌∙◌, ap, subst, inl, inr, arith, length-append, Contains}
use Rattle.proto_base.proofs.Common.{Contains-append_cases, contains_cases, from_map}
use Rattle.proto_files.proofs.Common.{FileOf, file_at, ReadOf, AreRead, read_at}
use Rattle.proto_case.specs.Camel.{entry_name}
use Rattle.proto_names_outline.proofs.Common.{items_in, whole, last_token, token_last, entry_last, placed_plain, entry_plain}
use Rattle.proto_names_rules.proofs.Common.{At, at, declared_of, file_declared, all_declared, IsPlain, ArePlain, Symbol, shifted_source, Source, Token, EntryOf, Given, Declared, name_of, spell, symbol_of, shifted_declared, Member, field, map_field, oneof, message, enum, service, extend, Members, no_members, member, Items, no_items, packaged, item, package_of, Placed, place, placed, all_placed, prefixes, items_placed, file_placed, map_append, file_stands}
use Rattle.proto_names_imports.specs.Links.{text_of, names_in, link_skeleton, names_of_files}
use Rattle.proto_names_rules.specs.declared.kind.Kind.{Kind}
use Rattle.proto_names_rules.specs.declared.kind.Kind.TheVariants.{Field, Value, Method, Extension}

-- the name that tokens of one file spell, among those of all files
pub name_in : (text : At → List ℕ) (n : ℕ) (path : List (Source ℕ))
    → name_of text entry_name (map (shifted_source (at n)) path)
    ≡ name_of (λ i. text (at n i)) entry_name path
name_in text n [] = refl
name_in text n (Token t ∷ rest) = ap (λ (ws : List (List ℕ)). text (at n t) ∷ ws) (name_in text n rest)
name_in text n (EntryOf t ∷ rest) =
    ap (λ (ws : List (List ℕ)). entry_name (text (at n t)) ∷ ws) (name_in text n rest)
name_in text n (Given w ∷ rest) = ap (λ (ws : List (List ℕ)). w ∷ ws) (name_in text n rest)

-- ---- given words are plain

abbrev IsGivenPlain : Source ℕ → Type 0
IsGivenPlain (Token t) = Unit {0}
IsGivenPlain (EntryOf t) = Unit {0}
IsGivenPlain (Given w) = IsPlain w

abbrev AreGivenPlain : List Placed → Type 0
AreGivenPlain [] = Unit {0}
AreGivenPlain (p ∷ ps) = IsGivenPlain p.last × AreGivenPlain ps

given_append : (ps qs : List Placed) → AreGivenPlain ps → AreGivenPlain qs → AreGivenPlain (ps ++ qs)
given_append [] qs h k = k
given_append (p ∷ ps) qs h k = (h.0, given_append ps qs h.1 k)

given_tokens : (path : List (Source ℕ)) (kind : Kind) (ts : List ℕ) → AreGivenPlain (map (λ i. place path (Token i) kind) ts)
given_tokens path kind [] = tt
given_tokens path kind (t ∷ ts) = (tt, given_tokens path kind ts)

mutual
  given_of : (m : Member) (path : List (Source ℕ)) → AreGivenPlain (placed path m)
  given_of (field t) path = (tt, tt)
  given_of (map_field t) path = (tt, (tt, ((refl, λ e. cc), ((refl, λ e. cc), tt))))
  given_of (oneof t fs) path = (tt, given_tokens path Field fs)
  given_of (message t ms) path = (tt, given_in ms (path ++ Token t ∷ []))
  given_of (enum t vs) path = (tt, given_tokens path Value vs)
  given_of (extend ts) path = given_tokens path Extension ts
  given_of (service t ms) path = (tt, given_tokens (path ++ Token t ∷ []) Method ms)

  given_in : (ms : Members) (path : List (Source ℕ)) → AreGivenPlain (all_placed path ms)
  given_in no_members path = tt
  given_in (member m ms) path = given_append (placed path m) (all_placed path ms) (given_of m path) (given_in ms path)

given_prefixes : (path : List (Source ℕ)) (ts : List ℕ) → AreGivenPlain (prefixes path ts)
given_prefixes path [] = tt
given_prefixes path (t ∷ ts) = (tt, given_prefixes (path ++ Token t ∷ []) ts)

given_items : (path : List (Source ℕ)) (is : Items) → AreGivenPlain (items_placed path is)
given_items path no_items = tt
given_items path (packaged ts rest) = given_append (prefixes [] ts) (items_placed path rest) (given_prefixes [] ts) (given_items path rest)
given_items path (item m rest) = given_append (placed path m) (items_placed path rest) (given_of m path) (given_items path rest)

given_at : (ps : List Placed) → AreGivenPlain ps → (p : Placed) → Contains ps p → IsGivenPlain p.last
given_at [] h p c = absurd (omega (arith, c.1))
given_at (q ∷ ps) h p c = elim (contains_cases q p ps c) [ inl e ↦ subst (λ z. IsGivenPlain z.last) e h.0 | inr d ↦ given_at ps h.1 p d ]

-- ---- the names of one file

pub plain_join : (x : List (List ℕ)) (w : List ℕ) → ArePlain x → IsPlain w → ArePlain (x ++ w ∷ [])
plain_join [] w p q = (q, tt)
plain_join (v ∷ x) w p q = (p.0, plain_join x w p.1 q)

abbrev AreKnown : (ℕ → List ℕ) → Items → Type 0
AreKnown own is = (p : Placed) → Contains (file_placed is) p → (t : ℕ) → last_token (whole p) ≡ Some t → IsPlain (own t)

module _ (own : ℕ → List ℕ) (is : Items) (known : AreKnown own is) where
  last_plain : (p : Placed) → Contains (file_placed is) p → IsPlain (spell own entry_name p.last)
  last_plain p c = go p.last refl (given_at (file_placed is) (given_items (map (λ t. Token t) (package_of is)) is) p c)
    where
      go : (s : Source ℕ) → p.last ≡ s → IsGivenPlain s → IsPlain (spell own entry_name s)
      go (Token t) e g = known p c t (ap (λ z. last_token (p.above ++ z ∷ [])) e ∙ token_last p.above t)
      go (EntryOf t) e g = entry_plain (own t) (known p c t (ap (λ z. last_token (p.above ++ z ∷ [])) e ∙ entry_last p.above t))
      go (Given w) e g = g

  -- a declaration stands in another one, or outermost
  whole_plain : (n : ℕ) (p : Placed) → length p.above < n → Contains (file_placed is) p → ArePlain (name_of own entry_name (whole p))
  whole_plain zero p l c = absurd (omega (arith, l))
  whole_plain (suc n) p l c =
      let above : ArePlain (name_of own entry_name p.above) = elim (file_stands is p c) [
        | inl none ↦ subst (λ z. ArePlain (name_of own entry_name z)) (sym none) tt
        | inr u ↦
            let long = length-append u.0.above (u.0.last ∷ []) in
            let same = ap length u.2 in
            subst (λ z. ArePlain (name_of own entry_name z)) (sym u.2) (whole_plain n u.0 (omega (arith, l, long, same)) u.1)
      ] in
      subst ArePlain (sym (map_append (spell own entry_name) p.above (p.last ∷ []))) (plain_join (name_of own entry_name p.above) (spell own entry_name p.last) above (last_plain p c))

-- ---- the names of all files

declared_plain : (text : At → List ℕ) (n : ℕ) (rs : List ReadOf) → ((k : ℕ) → k < length rs → AreKnown (λ t. text (at (n + k) t)) (items_in (read_at rs k).tree)) → (d : Declared At) → Contains (all_declared n (map names_in rs)) d → ArePlain (name_of text entry_name d.path)
declared_plain text n [] known d c = absurd (omega (arith, c.1))
declared_plain text n (r ∷ rs) known d c = elim (Contains-append_cases (file_declared n (names_in r)) (all_declared (suc n) (map names_in rs)) d c) [
  | inl a ↦
      let z : n + 0 ≡ n = omega arith in
      let p = from_map (λ p. shifted_declared (at n) (declared_of n p)) (file_placed (items_in r.tree)) d a in
      subst (λ (x : Declared At). ArePlain (name_of text entry_name x.path)) p.2
      (subst ArePlain (sym (name_in text n (whole p.0)))
      (whole_plain (λ t. text (at n t)) (items_in r.tree) (λ q cq t e. subst (λ i. IsPlain (text (at i t))) z (known 0 (omega arith) q cq t e)) (suc (length p.0.above)) p.0 (omega arith) p.1))
  | inr b ↦
      declared_plain text (suc n) rs (λ k l q cq t e.
      let z : n + suc k ≡ suc n + k = omega arith in
      subst (λ i. IsPlain (text (at i t))) z (known (suc k) (omega (arith, l)) q cq t e)) d b
]

pub names_are_plain : (files : List FileOf) (reads : List ReadOf) → AreRead files reads → (s : Symbol) → Contains (names_of_files files reads).symbols s → ArePlain s.name
names_are_plain files reads are s c =
    let d = from_map (symbol_of (text_of files reads) entry_name) (link_skeleton files reads).declared s c in
    subst (λ (x : Symbol). ArePlain x.name) d.2
    (declared_plain (text_of files reads) 0 reads (λ k l q cq t e.
    let m = are.same in
    let z : k ≡ 0 + k = omega arith in
    subst (λ i. IsPlain (text_of files reads (at i t))) z (placed_plain (file_at files k).profile (file_at files k).bytes (read_at reads k).tokens (read_at reads k).tree (are.trees k (omega (arith, l, m))) q cq t e)) d.0 d.1)
