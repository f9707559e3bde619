-- What stands in a tree is declared below the path of the block that it stands in (for the crates above).
use Rattle.std.proofs.Common.{◌≡◌, ℕ, true, false, List, [], ◌∷◌, ◌++◌, map, refl, subst, inl, inr, arith, Contains, None}
use Rattle.proto_base.proofs.Common.{Contains-append_left, Contains-append_right, contains_cases, contains_head, contains_later, contains_map}
use Rattle.proto_ast.proofs.Common.{BlockOf, FieldOf, blocks_in, fields_from, fields_in, plain_field}
use Rattle.proto_desc_build.specs.Described.{is_map}
use Rattle.proto_desc_checks_laws.proofs.Outermost.{no_map_field, no_oneof}
use Rattle.proto_names_outline.specs.FromTree.{block_names, field_names, items_in, members_in, method_names, no_names, picked, value_names}
use Rattle.proto_names_rules.proofs.Common.{Placed, Source, Token, all_placed, enum, extend, field, file_placed, items_placed, map_field, message, oneof, package_of, place, placed, prefixes, service}
use Rattle.proto_names_rules.specs.declared.kind.Kind.TheVariants.{Message, Enum, Extension}
use Rattle.proto_tree.proofs.Common.{Block, End, IsOuter, IsWellFormed, Leaf, Tree, after, dotted, last_outer, statement_kind}
use Rattle.proto_tree.specs.declared.context.Context.{Context}
use Rattle.proto_tree.specs.declared.context.Context.TheVariants as context
use Rattle.proto_tree.specs.declared.context.Kind.TheVariants as kind
use Rattle.proto_tree.specs.declared.piece.Header.{Header}
use Rattle.proto_tree.specs.declared.piece.Header.TheVariants as header
use Rattle.proto_tree.specs.declared.piece.Statement.TheVariants as statement

no : false ≡ true → ⊥
no h = cc

abbrev pub block_with : Header → Tree → BlockOf
block_with h within = record { header = h; within = within }

-- the extensions of an `extend` are the fields that it declares, and none is a map
extension_there : (n : ℕ) (t : Tree) → IsWellFormed context.Extend t → (f : FieldOf) → Contains (fields_from n t) f → Contains (picked field_names no_names t) f.name × (is_map f ≡ false)
extension_there n End w f c = absurd (omega (arith, c.1))
extension_there n (Leaf (statement.Field g) rest) w f c = elim (contains_cases (plain_field None g) f (fields_from n rest) c) [
  | inl q ↦ subst (λ (z : FieldOf). Contains (g.name ∷ picked field_names no_names rest) z.name × (is_map z ≡ false)) q (contains_head g.name (picked field_names no_names rest), refl)
  | inr d ↦ (let r = extension_there n rest w.1 f d in (contains_later g.name f.name (picked field_names no_names rest) r.0, r.1))
]
extension_there n (Leaf (statement.MapField g) rest) w f c = absurd (no w.0)
extension_there n (Leaf _ rest) w f c = extension_there n rest w.1 f c
extension_there n (Block (header.Oneof h) opens within closes rest) w f c = absurd (no w.0)
extension_there n (Block whole opens within closes rest) w f c = extension_there n rest w.2 f c

module _ (root : Tree) where
  abbrev Inside : List Placed → Type 0
  Inside ps = (p : Placed) → Contains ps p → Contains (file_placed (items_in root)) p

  fore : (ps qs : List Placed) → Inside (ps ++ qs) → Inside ps
  fore ps qs i p c = i p (Contains-append_left ps qs p c)

  aft : (ps qs : List Placed) → Inside (ps ++ qs) → Inside qs
  aft ps qs i p c = i p (Contains-append_right ps qs p c)

  abbrev IsBlock : Header → Tree → Type 0
  IsBlock h within = Contains (blocks_in root) (block_with h within)

  abbrev InRoot : Tree → Type 0
  InRoot t = (b : BlockOf) → Contains (blocks_in t) b → Contains (blocks_in root) b

  module _ (h : Header) (opens : ℕ) (within : Tree) (closes : ℕ) (rest : Tree) (r : InRoot (Block h opens within closes rest)) where
    block_there : IsBlock h within
    block_there = r (block_with h within) (contains_head (block_with h within) (blocks_in within ++ blocks_in rest))

    within_there : InRoot within
    within_there b c = r b (contains_later (block_with h within) b (blocks_in within ++ blocks_in rest) (Contains-append_left (blocks_in within) (blocks_in rest) b c))

    rest_there : InRoot rest
    rest_there b c = r b (contains_later (block_with h within) b (blocks_in within ++ blocks_in rest) (Contains-append_right (blocks_in within) (blocks_in rest) b c))

  -- an extension is declared below this path, and is no map
  abbrev pub IsExtensionHere : List (Source ℕ) → FieldOf → Type 0
  IsExtensionHere path f = Contains (file_placed (items_in root)) (place path (Token f.name) Extension) × (is_map f ≡ false)

  -- what stands right in a block of this path is declared below it: the entry of each map field, each message with what
  -- stands in it, each enum, and each extension
  abbrev pub AreHere : List (Source ℕ) → Tree → Type 0
  AreHere path End = Unit {0}
  AreHere path (Leaf (statement.MapField f) rest) = Inside (placed path (map_field f.name)) × AreHere path rest
  AreHere path (Leaf s rest) = AreHere path rest
  AreHere path (Block (header.Message h) opens within closes rest) =
      Contains (file_placed (items_in root)) (place path (Token h.name) Message)
      × IsBlock (header.Message h) within
      × AreHere (path ++ Token h.name ∷ []) within
      × AreHere path rest
  AreHere path (Block (header.Enum h) opens within closes rest) =
      Contains (file_placed (items_in root)) (place path (Token h.name) Enum)
      × IsBlock (header.Enum h) within
      × AreHere path rest
  AreHere path (Block (header.Extend e) opens within closes rest) =
      ((f : FieldOf) → Contains (fields_in within) f → IsExtensionHere path f)
      × AreHere path rest
  AreHere path (Block (header.Oneof h) opens within closes rest) = AreHere path rest
  AreHere path (Block (header.Service h) opens within closes rest) = AreHere path rest
  AreHere path (Block (header.Method s) opens within closes rest) = AreHere path rest

  extensions_here : (path : List (Source ℕ)) (within : Tree) → IsWellFormed context.Extend within → Inside (placed path (extend (picked field_names no_names within))) → (f : FieldOf) → Contains (fields_in within) f → IsExtensionHere path f
  extensions_here path within w i f c =
      let d = extension_there 0 within w f c in
      (i (place path (Token f.name) Extension) (contains_map (λ t. place path (Token t) Extension) (picked field_names no_names within) f.name d.0), d.1)

  members_here : (path : List (Source ℕ)) (t : Tree) → IsWellFormed context.Message t → Inside (all_placed path (members_in t)) → InRoot t → AreHere path t
  members_here path End w i r = tt
  members_here path (Leaf (statement.MapField f) rest) w i r = (
    fore (placed path (map_field f.name)) (all_placed path (members_in rest)) i,
    members_here path rest w.1 (aft (placed path (map_field f.name)) (all_placed path (members_in rest)) i) r,
  )
  members_here path (Leaf (statement.Field f) rest) w i r = members_here path rest w.1 (aft (placed path (field f.name)) (all_placed path (members_in rest)) i) r
  members_here path (Leaf s rest) w i r = members_here path rest w.1 i r
  members_here path (Block (header.Message h) opens within closes rest) w i r =
      let mine = placed path (message h.name (members_in within)) in
      let inner : Inside (all_placed (path ++ Token h.name ∷ []) (members_in within)) =
      λ p c. i p (Contains-append_left (placed path (message h.name (members_in within))) (all_placed path (members_in rest)) p (contains_later (place path (Token h.name) Message) p (all_placed (path ++ Token h.name ∷ []) (members_in within)) c)) in (
        i (place path (Token h.name) Message) (0, omega arith, refl),
        block_there (header.Message h) opens within closes rest r,
        members_here (path ++ Token h.name ∷ []) within w.1 inner (within_there (header.Message h) opens within closes rest r),
        members_here path rest w.2 (aft mine (all_placed path (members_in rest)) i) (rest_there (header.Message h) opens within closes rest r),
      )
  members_here path (Block (header.Oneof h) opens within closes rest) w i r =
      members_here path rest w.2 (aft (placed path (oneof h.name (picked field_names no_names within))) (all_placed path (members_in rest)) i) (rest_there (header.Oneof h) opens within closes rest r)
  members_here path (Block (header.Enum h) opens within closes rest) w i r = (
    i (place path (Token h.name) Enum) (0, omega arith, refl),
    block_there (header.Enum h) opens within closes rest r,
    members_here path rest w.2 (aft (placed path (enum h.name (picked value_names no_names within))) (all_placed path (members_in rest)) i) (rest_there (header.Enum h) opens within closes rest r),
  )
  members_here path (Block (header.Service h) opens within closes rest) w i r = absurd (no w.0)
  members_here path (Block (header.Extend e) opens within closes rest) w i r =
      let mine = placed path (extend (picked field_names no_names within)) in (
        extensions_here path within w.1 (fore mine (all_placed path (members_in rest)) i),
        members_here path rest w.2 (aft mine (all_placed path (members_in rest)) i) (rest_there (header.Extend e) opens within closes rest r),
      )
  members_here path (Block (header.Method s) opens within closes rest) w i r = members_here path rest w.2 i (rest_there (header.Method s) opens within closes rest r)

  items_here : (path : List (Source ℕ)) (c : Context) → IsOuter c → (t : Tree) → IsWellFormed c t → Inside (items_placed path (items_in t)) → InRoot t → AreHere path t
  items_here path c o End w i r = tt
  items_here path c o (Leaf (statement.MapField f) rest) w i r = absurd (no_map_field c o w.0)
  items_here path c o (Leaf (statement.Package p) rest) w i r =
      items_here path (after c kind.Package) (last_outer (Leaf (statement.Package p) End) c o) rest w.1 (aft (prefixes [] (dotted p.name)) (items_placed path (items_in rest)) i) r
  items_here path c o (Leaf s rest) w i r = items_here path (after c (statement_kind s)) (last_outer (Leaf s End) c o) rest w.1 i r
  items_here path c o (Block (header.Message h) opens within closes rest) w i r =
      let mine = placed path (message h.name (members_in within)) in
      let inner : Inside (all_placed (path ++ Token h.name ∷ []) (members_in within)) =
      λ p d. i p (Contains-append_left (placed path (message h.name (members_in within))) (items_placed path (items_in rest)) p (contains_later (place path (Token h.name) Message) p (all_placed (path ++ Token h.name ∷ []) (members_in within)) d)) in (
        i (place path (Token h.name) Message) (0, omega arith, refl),
        block_there (header.Message h) opens within closes rest r,
        members_here (path ++ Token h.name ∷ []) within w.1 inner (within_there (header.Message h) opens within closes rest r),
        items_here path (after c kind.OpenMessage) (last_outer (Block (header.Message h) opens within closes End) c o) rest w.2 (aft mine (items_placed path (items_in rest)) i) (rest_there (header.Message h) opens within closes rest r),
      )
  items_here path c o (Block (header.Oneof h) opens within closes rest) w i r = absurd (no_oneof c o w.0)
  items_here path c o (Block (header.Enum h) opens within closes rest) w i r =
      let mine = placed path (enum h.name (picked value_names no_names within)) in (
        i (place path (Token h.name) Enum) (0, omega arith, refl),
        block_there (header.Enum h) opens within closes rest r,
        items_here path (after c kind.OpenEnum) (last_outer (Block (header.Enum h) opens within closes End) c o) rest w.2 (aft mine (items_placed path (items_in rest)) i) (rest_there (header.Enum h) opens within closes rest r),
      )
  items_here path c o (Block (header.Service h) opens within closes rest) w i r =
      items_here path (after c kind.OpenService) (last_outer (Block (header.Service h) opens within closes End) c o) rest w.2 (aft (placed path (service h.name (picked method_names block_names within))) (items_placed path (items_in rest)) i) (rest_there (header.Service h) opens within closes rest r)
  items_here path c o (Block (header.Extend e) opens within closes rest) w i r =
      let mine = placed path (extend (picked field_names no_names within)) in (
        extensions_here path within w.1 (fore mine (items_placed path (items_in rest)) i),
        items_here path (after c kind.OpenExtend) (last_outer (Block (header.Extend e) opens within closes End) c o) rest w.2 (aft mine (items_placed path (items_in rest)) i) (rest_there (header.Extend e) opens within closes rest r),
      )
  items_here path c o (Block (header.Method s) opens within closes rest) w i r = items_here path (after c kind.OpenMethod) (last_outer (Block (header.Method s) opens within closes End) c o) rest w.2 i (rest_there (header.Method s) opens within closes rest r)

  pub tree_here : IsWellFormed context.Start root → AreHere (map (λ t. Token t) (package_of (items_in root))) root
  tree_here w = items_here (map (λ t. Token t) (package_of (items_in root))) context.Start refl root w (λ p c. c) (λ b c. c)
