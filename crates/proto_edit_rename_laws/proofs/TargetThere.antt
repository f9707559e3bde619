-- A name that no case refuses is that of a target (for the crates above).
use Rattle.std.proofs.Common.{◌≡◌, ◌≢◌, ℕ, ◌+◌, ◌<◌, ◌⊎◌, Bool, true, false, List, [], ◌∷◌, ◌++◌, length, map, find, Option, Some, None, refl, sym, ap, subst, ◌∙◌, inl, inr, arith, Contains, bytes_eq, true≢false}
use Rattle.proto_base.proofs.Common.{list_any, cases_Bool, cond-false, cond-true, any_from, any_to, contains_cases, from_map, same_from_word, word_from_same}
use Rattle.proto_case.specs.Camel.{entry_name}
use Rattle.proto_text.proofs.Common.{length_map, lexeme_at}
use Rattle.proto_tree.specs.declared.tree.Value.{Value as ValueParts}
use Rattle.proto_tree.proofs.Common.{Numbered, End, flat, trees_are_numbered_in}
use Rattle.proto_files.proofs.Common.{FileOf, file_at, ReadOf, AreRead, read_at}
use Rattle.proto_names_rules.specs.declared.kind.Kind.{Kind}
use Rattle.proto_names_rules.specs.declared.kind.Kind.TheVariants.{Package, Message, Entry, Enum, Service, Field, EntryField, Oneof, Value, Method, Extension}
use Rattle.proto_names_rules.proofs.Common.{place_from, place_of, At, at, declared_of, joined, Symbol, Source, Token, EntryOf, Given, Declared, IsAimEntry, name_of, shifted_declared, shifted_source, symbol_of, package_of, map_append, snoc_parts}
use Rattle.proto_names_outline.specs.FromTree.{items_in}
use Rattle.proto_names_imports.specs.Links.{link_skeleton, names_in, names_of_files, text_of}
use Rattle.proto_ast.specs.Parts.{BlockOf, blocks_in, values_in}
use Rattle.proto_resolved.specs.SceneOf.{is_enum_at}
use Rattle.proto_edit_rename_laws.specs.Common.{kind_not_allowed, unknown_target, TargetsAreThere, same_at, HasEnum, IsNamed, Target, may_rename}
use Rattle.proto_edit_rename_laws.proofs.Blocks.{one_named}
use Rattle.proto_edit_rename_laws.proofs.NoLinkFault.{files_are_woven}
use Rattle.proto_edit_rename_laws.proofs.Declarations.{EndsAs, IsDeclaredBy, declared_by, ends_with_token, is_written, path_of_declared, placed_ends, declared_there}
use Rattle.proto_edit_rename_laws.proofs.EnumsOfValues.{in_items}
use Rattle.proto_edit_rename_laws.proofs.OneTarget.{place_last}
use Rattle.proto_edit_rename_laws.proofs.Places.{at_same, same_at_itself}
use Rattle.proto_edit_rename_laws.proofs.Scenes.{find_there, index_map}

-- ---- whether a path ends with an entry

is_entry : At → Source At → Bool
is_entry token (Token i) = false
is_entry token (EntryOf i) = same_at token i
is_entry token (Given w) = false

ends_entry : At → List (Source At) → Bool
ends_entry token [] = false
ends_entry token (x ∷ []) = is_entry token x
ends_entry token (x ∷ y ∷ rest) = ends_entry token (y ∷ rest)

entry_is : (token : At) (x : Source At) → is_entry token x ≡ true → x ≡ EntryOf token
unfolding is_entry
entry_is token (Token i) e = absurd cc
entry_is token (EntryOf i) e = ap (λ z. EntryOf z) (sym (at_same token i e))
entry_is token (Given w) e = absurd cc

from_ends : (token : At) (path : List (Source At)) → ends_entry token path ≡ true → (a : List (Source At)) × (path ≡ a ++ EntryOf token ∷ [])
unfolding ends_entry
from_ends token [] e = absurd cc
from_ends token (x ∷ []) e = ([], ap (λ z. z ∷ []) (entry_is token x e))
from_ends token (x ∷ y ∷ rest) e = let r = from_ends token (y ∷ rest) e in (x ∷ r.0, ap (λ z. x ∷ z) r.1)

to_ends : (token : At) (a : List (Source At)) → ends_entry token (a ++ EntryOf token ∷ []) ≡ true
unfolding ends_entry is_entry
to_ends token [] = same_at_itself token
to_ends token (x ∷ []) = same_at_itself token
to_ends token (x ∷ y ∷ a) = to_ends token (y ∷ a)

-- what ends so is an entry
entry_kind : (reads : List ReadOf) (d : Declared At) → IsDeclaredBy 0 reads d → (a : List (Source At)) (token : At) → d.path ≡ a ++ EntryOf token ∷ [] → d.kind ≡ Entry
entry_kind reads d o a token e =
    let parts = snoc_parts (map (shifted_source (at (0 + o.k))) o.p.above) a (shifted_source (at (0 + o.k)) o.p.last) (EntryOf token) (sym (path_of_declared 0 reads d o) ∙ e) in
    sym (ap (λ (z : Declared At). z.kind) o.is) ∙ by o.p.last parts.1 (placed_ends (items_in (read_at reads o.k).tree) o.p o.within)
  where
    by : (s : Source ℕ) → shifted_source (at (0 + o.k)) s ≡ EntryOf token → EndsAs s o.p.kind → o.p.kind ≡ Entry
    by (Token t) q h = absurd (no_token (at (0 + o.k) t) q)
      where
        no_token : (i : At) → ◌≡◌ {A = Source At} (Token i) (EntryOf token) → ⊥
        no_token i e = cc
    by (EntryOf t) q h = h
    by (Given w) q h = absurd (no_given q)
      where
        no_given : ◌≡◌ {A = Source At} (Given w) (EntryOf token) → ⊥
        no_given e = cc

is_value : (k : Kind) → (k ≡ Value) ⊎ (k ≢ Value)
is_value Value = inl refl
is_value _ = inr (λ e. cc)

written : (k : Kind) → may_rename k ≡ true → is_written k ≡ true
written Package h = refl
written Message h = refl
written Entry h = h
written Enum h = refl
written Service h = refl
written Field h = refl
written EntryField h = h
written Oneof h = refl
written Value h = refl
written Method h = refl
written Extension h = refl

find_some : (p : BlockOf → Bool) (xs : List BlockOf) (x : BlockOf) → Contains xs x → p x ≡ true → (y : BlockOf) × (find p xs ≡ Some y)
find_some p [] x c h = absurd (omega (arith, c.1))
find_some p (z ∷ ys) x c h = elim (cases_Bool (p z)) [
  | inl t ↦ (z, cond-true (p z) (Some z) (find p ys) t)
  | inr f ↦ elim (contains_cases z x ys c) [
    | inl e ↦ absurd (true≢false (sym h ∙ ap p (sym e) ∙ f))
    | inr d ↦ (let r = find_some p ys x d h in (r.0, cond-false (p z) (Some z) (find p ys) f ∙ r.1))
  ]
]

module _ (files : List FileOf) (reads : List ReadOf) (r : AreRead files reads) where
  abbrev declared : List (Declared At)
  declared = (link_skeleton files reads).declared

  -- the enum of a value
  enum_of : (d : Declared At) (above : List (Source At)) (i : ℕ) → Contains (link_skeleton files reads).declared d → d.path ≡ above ++ Token (at d.file i) ∷ [] → d.kind ≡ Value → (o : Option (List (List ℕ))) × HasEnum files reads d (at d.file i) o
  enum_of d above i cd path kind =
      let o = declared_by 0 reads d cd in
      let tree = (read_at reads o.k).tree in
      let zero_is : 0 + o.k ≡ o.k = omega arith in
      let file_is : o.k ≡ d.file = sym zero_is ∙ ap (λ (z : Declared At). z.file) o.is in
      let e = in_items (read_at reads o.k).tree (map (λ t. Token t) (package_of (items_in (read_at reads o.k).tree))) o.p (ap (λ (z : Declared At). z.kind) o.is ∙ kind) o.within in
      let parts = snoc_parts (map (shifted_source (at (0 + o.k))) o.p.above) above (shifted_source (at (0 + o.k)) o.p.last) (Token (at d.file i)) (sym (path_of_declared 0 reads d o) ∙ path) in
      let v_is : e.v ≡ i = ap (λ (z : At). z.token) (same_token (at (0 + o.k) e.v) (at d.file i) (ap (shifted_source (at (0 + o.k))) (sym e.named) ∙ parts.1)) in
      let q : Declared At = shifted_declared (at o.k) (declared_of o.k e.q) in
      let names_len = length_map names_in reads in
      let l = o.inside in
      let cq : Contains (link_skeleton files reads).declared q = subst (λ m. Contains (link_skeleton files reads).declared (shifted_declared (at m) (declared_of m e.q))) zero_is (declared_there 0 (map names_in reads) o.k (names_in (read_at reads o.k)) e.q (omega (arith, l, names_len)) (index_map names_in reads (record { tokens = []; tree = End }) (names_in (read_at reads o.k)) o.k l) e.placed) in
      let q_path : q.path ≡ map (shifted_source (at o.k)) e.q.above ++ Token (at o.k e.n) ∷ [] = map_append (shifted_source (at o.k)) e.q.above (e.q.last ∷ []) ∙ ap (λ z. map (shifted_source (at o.k)) e.q.above ++ shifted_source (at o.k) z ∷ []) e.last in
      let q_place : place_of q ≡ at o.k e.n = ap (place_from (at o.k 0)) q_path ∙ place_last (at o.k 0) (map (shifted_source (at o.k)) e.q.above) (at o.k e.n) in
      let found = find_some (λ x. is_enum_at e.n x.header) (blocks_in (read_at reads o.k).tree) e.b e.block e.is in
      let first = find_there (λ (x : BlockOf). is_enum_at e.n x.header) (blocks_in (read_at reads o.k).tree) found.0 found.1 in
      let in_files : o.k < length files = (let m = r.same in omega (arith, l, m)) in
      let numbered : Numbered 0 (flat (read_at reads o.k).tree) = trees_are_numbered_in (file_at files o.k).profile (read_at reads o.k).tree (map (lexeme_at (file_at files o.k).bytes) (read_at reads o.k).tokens) (r.trees o.k in_files).spells in
      let one : e.b ≡ found.0 = one_named (read_at reads o.k).tree 0 e.n e.b found.0 numbered e.block first.0 e.is first.1 in
      let has : Contains (map (λ (x : ValueParts). x.name) (values_in found.0.within)) i = subst (λ j. Contains (map (λ (x : ValueParts). x.name) (values_in found.0.within)) j) v_is (subst (λ (z : BlockOf). Contains (map (λ (x : ValueParts). x.name) (values_in z.within)) e.v) one e.has) in
      let looked : find (λ (x : BlockOf). is_enum_at (place_of q).token x.header) (blocks_in (read_at reads d.file).tree) ≡ Some found.0 =
      subst (λ f. find (λ (x : BlockOf). is_enum_at (place_of q).token x.header) (blocks_in (read_at reads f).tree) ≡ Some found.0) file_is (subst (λ m. find (λ (x : BlockOf). is_enum_at m x.header) (blocks_in (read_at reads o.k).tree) ≡ Some found.0) (sym (ap (λ (z : At). z.token) q_place)) found.1) in
      (Some (name_of (text_of files reads) entry_name q.path), (kind, record { d = q; declared = cq; kind = e.kind; name_is = refl; file_is = file_is; b = found.0; found = looked; within = has }))
    where
      same_token : (x y : At) → ◌≡◌ {A = Source At} (Token x) (Token y) → x ≡ y
      same_token x y e = cc

  of_declared : (name : List ℕ) (d : Declared At) → Contains (link_skeleton files reads).declared d → joined (name_of (text_of files reads) entry_name d.path) ≡ name → may_rename d.kind ≡ true → (t : Target) × IsNamed files reads name t
  of_declared name d cd named may =
      let w = ends_with_token 0 reads d cd (written d.kind may) in
      let m = map_is w.0 w.1 w.2 in
      let e = enum_is w.0 w.1 w.2 in
      (record { token = at d.file w.1; above = w.0; aim = d; is_map = m.0; enum = e.0 }, record { within = cd; path = w.2; name_is = named; kind = may; entry = m.1; enum_is = e.1 })
    where
      map_is : (above : List (Source At)) (i : ℕ) → d.path ≡ above ++ Token (at d.file i) ∷ [] → (b : Bool) × IsAimEntry (link_skeleton files reads) (at d.file i) above b
      map_is above i path = elim (cases_Bool (list_any (λ (s : Declared At). ends_entry (at d.file i) s.path) (link_skeleton files reads).declared)) [
        | inl t ↦ (
            let s = any_to (λ (s : Declared At). ends_entry (at d.file i) s.path) (link_skeleton files reads).declared t in
            let p = from_ends (at d.file i) s.0.path s.2 in
            let a = (files_are_woven files reads r).entries s.0 d s.1 cd p.0 above (at d.file i) p.1 path in
            (true, (s.0, s.1, p.1 ∙ ap (λ z. z ++ EntryOf (at d.file i) ∷ []) a, entry_kind reads s.0 (declared_by 0 reads s.0 s.1) p.0 (at d.file i) p.1)))
        | inr f ↦ (false, λ s cs e. true≢false (sym (any_from (λ (s : Declared At). ends_entry (at d.file i) s.path) (link_skeleton files reads).declared s cs (ap (ends_entry (at d.file i)) e ∙ to_ends (at d.file i) above)) ∙ f))
      ]

      enum_is : (above : List (Source At)) (i : ℕ) → d.path ≡ above ++ Token (at d.file i) ∷ [] → (o : Option (List (List ℕ))) × HasEnum files reads d (at d.file i) o
      enum_is above i path = elim (is_value d.kind) [
        | inl k ↦ enum_of d above i cd path k
        | inr other ↦ (None, other)
      ]

pub targets_are_there : TargetsAreThere
targets_are_there files reads name to r known allowed = elim (cases_Bool (list_any (λ (s : Symbol). bytes_eq (joined s.name) name) (names_of_files files reads).symbols)) [
  | inl t ↦
      let s = any_to (λ (s : Symbol). bytes_eq (joined s.name) name) (names_of_files files reads).symbols t in
      let named : joined s.0.name ≡ name = word_from_same (joined s.0.name) name s.2 in
      let d = from_map (symbol_of (text_of files reads) entry_name) (link_skeleton files reads).declared s.0 s.1 in
      let may : may_rename s.0.kind ≡ true = elim (cases_Bool (may_rename s.0.kind)) [ inl y ↦ y | inr n ↦ absurd (allowed (kind_not_allowed s.0 s.1 named n)) ] in
      of_declared files reads r name d.0 d.1 (ap (λ (z : Symbol). joined z.name) d.2 ∙ named) (ap (λ (z : Symbol). may_rename z.kind) d.2 ∙ may)
  | inr f ↦ absurd (known (unknown_target (λ s cs e. true≢false (sym (any_from (λ (s : Symbol). bytes_eq (joined s.name) name) (names_of_files files reads).symbols s cs (same_from_word (joined s.name) name e)) ∙ f))))
]
