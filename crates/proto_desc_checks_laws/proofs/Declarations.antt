-- What the blocks of a tree hold is declared (for the crates above).
use Rattle.std.proofs.Common.{◌≡◌, ℕ, suc, true, false, List, [], ◌∷◌, ◌++◌, map, flat_map, Option, Some, None, is_some, refl, sym, ap, subst, ◌∙◌, inl, inr, arith, Contains}
use Rattle.proto_base.proofs.Common.{AllByRecursion, All-contains, All-from_recursion, Contains-append_cases, Contains-append_left, Contains-append_right, contains_cases, contains_head, contains_later, contains_map}
use Rattle.proto_tree.specs.declared.context.Context.{Context}
use Rattle.proto_tree.specs.declared.context.Context.TheVariants as context
use Rattle.proto_tree.specs.declared.context.Kind.{Kind}
use Rattle.proto_tree.specs.declared.context.Kind.TheVariants as kind
use Rattle.proto_tree.specs.declared.piece.Extending.{Extending}
use Rattle.proto_tree.specs.declared.piece.Header.{Header}
use Rattle.proto_tree.specs.declared.piece.Header.TheVariants as header
use Rattle.proto_tree.specs.declared.piece.Heading.{Heading}
use Rattle.proto_tree.specs.declared.piece.Statement.{Statement}
use Rattle.proto_tree.specs.declared.piece.Statement.TheVariants as statement
use Rattle.proto_tree.specs.declared.tree.Value.{Value as ValueParts}
use Rattle.proto_tree.proofs.Common.{IsOuter, dotted, Tree, End, Leaf, Block, IsWellFormed, after, allows, field_kind, header_kind, statement_kind, last_outer}
use Rattle.proto_names_rules.specs.declared.kind.Kind.TheVariants.{Message, Entry, Enum, Service, Field, Oneof, Value, Method, Extension}
use Rattle.proto_names_rules.proofs.Common.{Source, Token, EntryOf, Items, Members, Placed, all_placed, enum, extend, field, file_placed, items_placed, map_field, message, oneof, package_of, place, placed, prefixes, service}
use Rattle.proto_names_outline.specs.FromTree.{add_statement, block_names, field_names, file_statement, items_in, members_in, method_names, no_names, picked, value_names}
use Rattle.proto_ast.specs.Parts.{BlockOf, FieldOf, blocks_in, fields_from, fields_in, map_field as field_of_map, plain_field, statement_fields, statements, values_in}
use Rattle.proto_desc_checks.proofs.FlawTokens.{both}
use Rattle.proto_desc_checks_laws.specs.Declarations.{BlocksAreDeclared, FieldsAreDeclared, IsDeclared, IsDeclaredField, IsDeclaredIn, ValuesAreDeclared}
use Rattle.proto_desc_checks_laws.proofs.Outermost.{no_method, no_oneof}

differ : false ≡ true → ⊥
differ h = cc

none_in : {A : Type 0} (xs : List A) (x : A) → xs ≡ [] → Contains xs x → ⊥
none_in [] x e c = omega (arith, c.1)
none_in (y ∷ xs) x e c = absurd cc

-- ---- what a context keeps out

-- the pieces of this context stand in it again
record IsInner (c : Context) : Type 0 where
  stays : (k : Kind) → after c k ≡ c

leaf_behind : (c : Context) → IsInner c → (s : Statement) (rest : Tree) → IsWellFormed c (Leaf s rest) → IsWellFormed c rest
leaf_behind c inner s rest w = subst (λ x. IsWellFormed x rest) (inner.stays (statement_kind s)) w.1

block_behind : (c : Context) → IsInner c → (h : Header) (i : ℕ) (within : Tree) (j : ℕ) (rest : Tree) → IsWellFormed c (Block h i within j rest) → IsWellFormed c rest
block_behind c inner h i within j rest w = subst (λ x. IsWellFormed x rest) (inner.stays (header_kind h)) w.2

in_message : IsInner context.Message
in_message = record { stays = λ k. refl }

in_oneof : IsInner context.Oneof
in_oneof = record { stays = λ k. refl }

in_enum : IsInner context.Enum
in_enum = record { stays = λ k. refl }

in_service : IsInner context.Service
in_service = record { stays = λ k. refl }

in_method : IsInner context.Method
in_method = record { stays = λ k. refl }

in_extend : IsInner context.Extend
in_extend = record { stays = λ k. refl }

no_values : (c : Context) → IsInner c → (allows c kind.Value ≡ true → ⊥) → (t : Tree) → IsWellFormed c t → values_in t ≡ []
no_values c inner none End w = refl
no_values c inner none (Leaf (statement.Value v) rest) w = absurd (none w.0)
no_values c inner none (Leaf s rest) w = no_values c inner none rest (leaf_behind c inner s rest w)
no_values c inner none (Block h i within j rest) w = no_values c inner none rest (block_behind c inner h i within j rest w)

-- no field and no oneof may stand here
record HasNoFields (c : Context) : Type 0 where
  plain_out : (label : Option ℕ) → allows c (field_kind label) ≡ true → ⊥
  map_out : allows c kind.MapField ≡ true → ⊥
  oneof_out : allows c kind.OpenOneof ≡ true → ⊥

no_fields : (c : Context) → IsInner c → HasNoFields c → (n : ℕ) (t : Tree) → IsWellFormed c t → fields_from n t ≡ []
no_fields c inner none n End w = refl
no_fields c inner none n (Leaf (statement.Field f) rest) w = absurd (none.plain_out f.label w.0)
no_fields c inner none n (Leaf (statement.MapField f) rest) w = absurd (none.map_out w.0)
no_fields c inner none n (Leaf s rest) w = no_fields c inner none n rest (leaf_behind c inner s rest w)
no_fields c inner none n (Block (header.Oneof h) i within j rest) w = absurd (none.oneof_out w.0)
no_fields c inner none n (Block h i within j rest) w = no_fields c inner none n rest (block_behind c inner h i within j rest w)

enum_fields : HasNoFields context.Enum
enum_fields = record { plain_out = by; map_out = λ e. differ e; oneof_out = λ e. differ e }
  where
    by : (label : Option ℕ) → allows context.Enum (field_kind label) ≡ true → ⊥
    by None e = differ e
    by (Some i) e = differ e

service_fields : HasNoFields context.Service
service_fields = record { plain_out = by; map_out = λ e. differ e; oneof_out = λ e. differ e }
  where
    by : (label : Option ℕ) → allows context.Service (field_kind label) ≡ true → ⊥
    by None e = differ e
    by (Some i) e = differ e

method_fields : HasNoFields context.Method
method_fields = record { plain_out = by; map_out = λ e. differ e; oneof_out = λ e. differ e }
  where
    by : (label : Option ℕ) → allows context.Method (field_kind label) ≡ true → ⊥
    by None e = differ e
    by (Some i) e = differ e

no_blocks : (c : Context) → IsInner c → ((h : Header) → allows c (header_kind h) ≡ true → ⊥) → (t : Tree) → IsWellFormed c t → blocks_in t ≡ []
no_blocks c inner none End w = refl
no_blocks c inner none (Leaf s rest) w = no_blocks c inner none rest (leaf_behind c inner s rest w)
no_blocks c inner none (Block h i within j rest) w = absurd (none h w.0)

none_in_oneof : (h : Header) → allows context.Oneof (header_kind h) ≡ true → ⊥
none_in_oneof (header.Message h) e = differ e
none_in_oneof whole e = differ e

none_in_enum : (h : Header) → allows context.Enum (header_kind h) ≡ true → ⊥
none_in_enum (header.Message h) e = differ e
none_in_enum whole e = differ e

none_in_method : (h : Header) → allows context.Method (header_kind h) ≡ true → ⊥
none_in_method (header.Message h) e = differ e
none_in_method whole e = differ e

none_in_extend : (h : Header) → allows context.Extend (header_kind h) ≡ true → ⊥
none_in_extend (header.Message h) e = differ e
none_in_extend whole e = differ e

-- plain fields alone stand here: those of a oneof or of an `extend` block
record HasPlainFields (c : Context) : Type 0 where
  inner : IsInner c
  map_out : allows c kind.MapField ≡ true → ⊥
  block_out : (h : Header) → allows c (header_kind h) ≡ true → ⊥

of_oneof : HasPlainFields context.Oneof
of_oneof = record { inner = in_oneof; map_out = λ e. differ e; block_out = none_in_oneof }

of_extend : HasPlainFields context.Extend
of_extend = record { inner = in_extend; map_out = λ e. differ e; block_out = none_in_extend }

-- ---- fields and values of one block

module _ (c : Context) (plain : HasPlainFields c) where
  -- each has a name among those of the block, and is no map field
  named_there : (o : Option ℕ) (t : Tree) → IsWellFormed c t → (f : FieldOf) → Contains (flat_map (statement_fields o) (statements t)) f → Contains (picked field_names no_names t) f.name × (f.map_key ≡ None)
  named_there o End w f d = absurd (omega (arith, d.1))
  named_there o (Leaf (statement.Field g) rest) w f d = elim (contains_cases (plain_field o g) f (flat_map (statement_fields o) (statements rest)) d) [
    | inl q ↦ subst (λ (z : FieldOf). Contains (g.name ∷ picked field_names no_names rest) z.name × (z.map_key ≡ None)) q (contains_head g.name (picked field_names no_names rest), refl)
    | inr x ↦ let r = named_there o rest (leaf_behind c plain.inner (statement.Field g) rest w) f x in (contains_later g.name f.name (picked field_names no_names rest) r.0, r.1)
  ]
  named_there o (Leaf (statement.MapField g) rest) w f d = absurd (plain.map_out w.0)
  named_there o (Leaf s rest) w f d = named_there o rest (leaf_behind c plain.inner s rest w) f d
  named_there o (Block h i within j rest) w f d = absurd (plain.block_out h w.0)

  -- no block stands there, so they are those of its statements
  flat_fields : (n : ℕ) (t : Tree) → IsWellFormed c t → fields_from n t ≡ flat_map (statement_fields None) (statements t)
  flat_fields n End w = refl
  flat_fields n (Leaf s rest) w = ap (λ (fs : List FieldOf). statement_fields None s ++ fs) (flat_fields n rest (leaf_behind c plain.inner s rest w))
  flat_fields n (Block h i within j rest) w = absurd (plain.block_out h w.0)

-- of the fields of a oneof, wherever it stands
pub oneof_field : (o : Option ℕ) (t : Tree) → IsWellFormed context.Oneof t → (f : FieldOf) → Contains (flat_map (statement_fields o) (statements t)) f → Contains (picked field_names no_names t) f.name × (f.map_key ≡ None)
oneof_field = named_there context.Oneof of_oneof

value_name : (t : Tree) (v : ValueParts) → Contains (values_in t) v → Contains (picked value_names no_names t) v.name
value_name End v c = absurd (omega (arith, c.1))
value_name (Leaf (statement.Value u) rest) v c = elim (contains_cases u v (values_in rest) c) [
  | inl q ↦ subst (λ (z : ValueParts). Contains (u.name ∷ picked value_names no_names rest) z.name) q (contains_head u.name (picked value_names no_names rest))
  | inr d ↦ contains_later u.name v.name (picked value_names no_names rest) (value_name rest v d)
]
value_name (Leaf _ rest) v c = value_name rest v c
value_name (Block h i within j rest) v c = value_name rest v c

declared_behind : (path : List (Source ℕ)) (ps qs : List Placed) (f : FieldOf) → IsDeclaredField qs path f → IsDeclaredField (ps ++ qs) path f
declared_behind path ps qs f r = (Contains-append_right ps qs (place path (Token f.name) Field) r.0, λ h. Contains-append_right ps qs (place path (EntryOf f.name) Entry) (r.1 h))

-- a oneof's field stands beside it
beside_oneof : (path : List (Source ℕ)) (h : Heading) (o : Option ℕ) (within : Tree) → IsWellFormed context.Oneof within → (f : FieldOf) → Contains (flat_map (statement_fields o) (statements within)) f
    → IsDeclaredField (placed path (oneof h.name (picked field_names no_names within))) path f
beside_oneof path h o within w f c =
    let r = oneof_field o within w f c in
    let fs = picked field_names no_names within in (
      contains_later (place path (Token h.name) Oneof) (place path (Token f.name) Field) (map (λ i. place path (Token i) Field) fs) (contains_map (λ i. place path (Token i) Field) fs f.name r.0),
      λ e. absurd (differ (sym (ap (λ (z : Option ℕ). is_some z) r.1) ∙ e)),
    )

declared_before : (path : List (Source ℕ)) (ps qs : List Placed) (f : FieldOf) → IsDeclaredField ps path f → IsDeclaredField (ps ++ qs) path f
declared_before path ps qs f r = (Contains-append_left ps qs (place path (Token f.name) Field) r.0, λ h. Contains-append_left ps qs (place path (EntryOf f.name) Entry) (r.1 h))

field_declared : (path : List (Source ℕ)) (n : ℕ) (t : Tree) → IsWellFormed context.Message t → (f : FieldOf) → Contains (fields_from n t) f → IsDeclaredField (all_placed path (members_in t)) path f
field_declared path n End w f c = absurd (omega (arith, c.1))
field_declared path n (Leaf (statement.Field g) rest) w f c = elim (contains_cases (plain_field None g) f (fields_from n rest) c) [
  | inl q ↦ subst (λ z. IsDeclaredField (placed path (field g.name) ++ all_placed path (members_in rest)) path z) q (contains_head (place path (Token g.name) Field) (all_placed path (members_in rest)), λ h. absurd (differ h))
  | inr d ↦ declared_behind path (placed path (field g.name)) (all_placed path (members_in rest)) f (field_declared path n rest w.1 f d)
]
field_declared path n (Leaf (statement.MapField g) rest) w f c = elim (contains_cases (field_of_map g) f (fields_from n rest) c) [
  | inl q ↦ subst (λ z. IsDeclaredField (placed path (map_field g.name) ++ all_placed path (members_in rest)) path z) q ((0, omega arith, refl), λ h. (1, omega arith, refl))
  | inr d ↦ declared_behind path (placed path (map_field g.name)) (all_placed path (members_in rest)) f (field_declared path n rest w.1 f d)
]
field_declared path n (Leaf _ rest) w f c = field_declared path n rest w.1 f c
field_declared path n (Block (header.Oneof h) i within j rest) w f c = elim (Contains-append_cases (flat_map (statement_fields (Some n)) (statements within)) (fields_from (suc n) rest) f c) [
  | inl d ↦ declared_before path (placed path (oneof h.name (picked field_names no_names within))) (all_placed path (members_in rest)) f (beside_oneof path h (Some n) within w.1 f d)
  | inr d ↦ declared_behind path (placed path (oneof h.name (picked field_names no_names within))) (all_placed path (members_in rest)) f (field_declared path (suc n) rest w.2 f d)
]
field_declared path n (Block (header.Message h) i within j rest) w f c =
    declared_behind path (placed path (message h.name (members_in within))) (all_placed path (members_in rest)) f (field_declared path n rest w.2 f c)
field_declared path n (Block (header.Enum h) i within j rest) w f c =
    declared_behind path (placed path (enum h.name (picked value_names no_names within))) (all_placed path (members_in rest)) f (field_declared path n rest w.2 f c)
field_declared path n (Block (header.Extend e) i within j rest) w f c =
    declared_behind path (placed path (extend (picked field_names no_names within))) (all_placed path (members_in rest)) f (field_declared path n rest w.2 f c)
field_declared path n (Block whole i within j rest) w f c = field_declared path n rest w.2 f c

-- ---- the blocks of a message

module _ (declared : List Placed) where
  abbrev Inside : List Placed → Type 0
  Inside ps = (p : Placed) → Contains ps p → Contains declared p

  fore : (ps qs : List Placed) → Inside (ps ++ qs) → Inside ps
  fore ps qs i p c = i p (Contains-append_left ps qs p c)

  aft : (ps qs : List Placed) → Inside (ps ++ qs) → Inside qs
  aft ps qs i p c = i p (Contains-append_right ps qs p c)

  field_inside : (ps : List Placed) → Inside ps → (path : List (Source ℕ)) (f : FieldOf) → IsDeclaredField ps path f → IsDeclaredField declared path f
  field_inside ps i path f d = (i (place path (Token f.name) Field) d.0, λ h. i (place path (EntryOf f.name) Entry) (d.1 h))

  abbrev Block_is : BlockOf → Type 0
  Block_is b = IsDeclared declared b.header b.within

  abbrev Blocks_are : List BlockOf → Type 0
  Blocks_are bs = AllByRecursion Block_is bs

  nothing : (bs : List BlockOf) → bs ≡ [] → Blocks_are bs
  nothing [] e = tt
  nothing (b ∷ bs) e = absurd cc

  message_is : (path : List (Source ℕ)) (h : Heading) (within : Tree) → IsWellFormed context.Message within → Inside (placed path (message h.name (members_in within))) → IsDeclared declared (header.Message h) within
  message_is path h within w i =
      let below = path ++ Token h.name ∷ [] in
      let inner : Inside (all_placed (path ++ Token h.name ∷ []) (members_in within)) = λ p c. i p (contains_later (place path (Token h.name) Message) p (all_placed (path ++ Token h.name ∷ []) (members_in within)) c) in (
        path,
        i (place path (Token h.name) Message) (0, omega arith, refl),
        λ f c. field_inside (all_placed (path ++ Token h.name ∷ []) (members_in within)) inner (path ++ Token h.name ∷ []) f (field_declared (path ++ Token h.name ∷ []) 0 within w f c),
        no_values context.Message in_message (λ e. differ e) within w,
      )

  oneof_is : (path : List (Source ℕ)) (h : Heading) (within : Tree) → IsWellFormed context.Oneof within → Inside (placed path (oneof h.name (picked field_names no_names within))) → IsDeclared declared (header.Oneof h) within
  oneof_is path h within w i = (
    path,
    i (place path (Token h.name) Oneof) (0, omega arith, refl),
    λ f c. field_inside (placed path (oneof h.name (picked field_names no_names within))) i path f (beside_oneof path h None within w f (subst (λ fs. Contains fs f) (flat_fields context.Oneof of_oneof 0 within w) c)),
    no_values context.Oneof in_oneof (λ e. differ e) within w,
  )

  enum_is : (path : List (Source ℕ)) (h : Heading) (within : Tree) → IsWellFormed context.Enum within → Inside (placed path (enum h.name (picked value_names no_names within))) → IsDeclared declared (header.Enum h) within
  enum_is path h within w i =
      let vs = picked value_names no_names within in (
        path,
        i (place path (Token h.name) Enum) (0, omega arith, refl),
        λ v c. i (place path (Token v.name) Value)
            (contains_later (place path (Token h.name) Enum) (place path (Token v.name) Value) (map (λ i. place path (Token i) Value) vs) (contains_map (λ i. place path (Token i) Value) vs v.name (value_name within v c))),
        no_fields context.Enum in_enum enum_fields 0 within w,
      )

  extend_is : (path : List (Source ℕ)) (e : Extending) (within : Tree) → IsWellFormed context.Extend within → Inside (placed path (extend (picked field_names no_names within))) → IsDeclared declared (header.Extend e) within
  extend_is path e within w i = (
    path,
    λ f c. i (place path (Token f.name) Extension)
        (contains_map (λ t. place path (Token t) Extension) (picked field_names no_names within) f.name
        (named_there context.Extend of_extend None within w f (subst (λ fs. Contains fs f) (flat_fields context.Extend of_extend 0 within w) c)).0),
    no_values context.Extend in_extend (λ e. differ e) within w,
  )

  members_behind : (path : List (Source ℕ)) (s : Statement) (ms : Members) → Inside (all_placed path (add_statement s ms)) → Inside (all_placed path ms)
  members_behind path (statement.Field f) ms i = aft (placed path (field f.name)) (all_placed path ms) i
  members_behind path (statement.MapField f) ms i = aft (placed path (map_field f.name)) (all_placed path ms) i
  members_behind path _ ms i = i

  members_are : (path : List (Source ℕ)) (t : Tree) → IsWellFormed context.Message t → Inside (all_placed path (members_in t)) → Blocks_are (blocks_in t)
  members_are path End w i = tt
  members_are path (Leaf s rest) w i = members_are path rest w.1 (members_behind path s (members_in rest) i)
  members_are path (Block (header.Message h) opens within closes rest) w i =
      let mine : Inside (placed path (message h.name (members_in within))) = fore (placed path (message h.name (members_in within))) (all_placed path (members_in rest)) i in
      let inner : Inside (all_placed (path ++ Token h.name ∷ []) (members_in within)) = λ p c. mine p (contains_later (place path (Token h.name) Message) p (all_placed (path ++ Token h.name ∷ []) (members_in within)) c) in (
        message_is path h within w.1 mine,
        both Block_is (blocks_in within) (blocks_in rest) (members_are (path ++ Token h.name ∷ []) within w.1 inner)
            (members_are path rest w.2 (aft (placed path (message h.name (members_in within))) (all_placed path (members_in rest)) i)),
      )
  members_are path (Block (header.Oneof h) opens within closes rest) w i =
      let mine = placed path (oneof h.name (picked field_names no_names within)) in (
        oneof_is path h within w.1 (fore mine (all_placed path (members_in rest)) i),
        both Block_is (blocks_in within) (blocks_in rest) (nothing (blocks_in within) (no_blocks context.Oneof in_oneof none_in_oneof within w.1))
            (members_are path rest w.2 (aft mine (all_placed path (members_in rest)) i)),
      )
  members_are path (Block (header.Enum h) opens within closes rest) w i =
      let mine = placed path (enum h.name (picked value_names no_names within)) in (
        enum_is path h within w.1 (fore mine (all_placed path (members_in rest)) i),
        both Block_is (blocks_in within) (blocks_in rest) (nothing (blocks_in within) (no_blocks context.Enum in_enum none_in_enum within w.1))
            (members_are path rest w.2 (aft mine (all_placed path (members_in rest)) i)),
      )
  members_are path (Block (header.Extend e) opens within closes rest) w i =
      let mine = placed path (extend (picked field_names no_names within)) in (
        extend_is path e within w.1 (fore mine (all_placed path (members_in rest)) i),
        both Block_is (blocks_in within) (blocks_in rest) (nothing (blocks_in within) (no_blocks context.Extend in_extend none_in_extend within w.1))
            (members_are path rest w.2 (aft mine (all_placed path (members_in rest)) i)),
      )
  members_are path (Block whole opens within closes rest) w i = absurd (differ w.0)

  -- ---- the blocks of a service

  module _ (path : List (Source ℕ)) where
    abbrev Methods : List ℕ → Type 0
    Methods ms = (m : ℕ) → Contains ms m → Contains declared (place path (Token m) Method)

    methods_are : (t : Tree) → IsWellFormed context.Service t → Methods (picked method_names block_names t) → Blocks_are (blocks_in t)
    methods_are End w m = tt
    methods_are (Leaf s rest) w m = methods_are rest w.1 (λ i c. m i (Contains-append_right (method_names s) (picked method_names block_names rest) i c))
    methods_are (Block (header.Method s) opens within closes rest) w m = (
      (
        path,
        m s.name (contains_head s.name (picked method_names block_names rest)),
        no_fields context.Method in_method method_fields 0 within w.1,
        no_values context.Method in_method (λ e. differ e) within w.1,
      ),
      both Block_is (blocks_in within) (blocks_in rest) (nothing (blocks_in within) (no_blocks context.Method in_method none_in_method within w.1))
          (methods_are rest w.2 (λ i c. m i (contains_later s.name i (picked method_names block_names rest) c))),
    )
    methods_are (Block whole opens within closes rest) w m = absurd (differ w.0)

  -- ---- the blocks of a file

  items_behind : (path : List (Source ℕ)) (s : Statement) (is : Items) → Inside (items_placed path (file_statement s is)) → Inside (items_placed path is)
  items_behind path (statement.Package x) is i = aft (prefixes [] (dotted x.name)) (items_placed path is) i
  items_behind path _ is i = i

  items_are : (path : List (Source ℕ)) (c : Context) → IsOuter c → (t : Tree) → IsWellFormed c t → Inside (items_placed path (items_in t)) → Blocks_are (blocks_in t)
  items_are path c o End w i = tt
  items_are path c o (Leaf s rest) w i = items_are path (after c (statement_kind s)) (last_outer (Leaf s End) c o) rest w.1 (items_behind path s (items_in rest) i)
  items_are path c o (Block (header.Message h) opens within closes rest) w i =
      let mine : Inside (placed path (message h.name (members_in within))) = fore (placed path (message h.name (members_in within))) (items_placed path (items_in rest)) i in
      let inner : Inside (all_placed (path ++ Token h.name ∷ []) (members_in within)) = λ p c. mine p (contains_later (place path (Token h.name) Message) p (all_placed (path ++ Token h.name ∷ []) (members_in within)) c) in (
        message_is path h within w.1 mine,
        both Block_is (blocks_in within) (blocks_in rest) (members_are (path ++ Token h.name ∷ []) within w.1 inner)
            (items_are path (after c kind.OpenMessage) (last_outer (Block (header.Message h) opens within closes End) c o) rest w.2 (aft (placed path (message h.name (members_in within))) (items_placed path (items_in rest)) i)),
      )
  items_are path c o (Block (header.Enum h) opens within closes rest) w i =
      let mine = placed path (enum h.name (picked value_names no_names within)) in (
        enum_is path h within w.1 (fore mine (items_placed path (items_in rest)) i),
        both Block_is (blocks_in within) (blocks_in rest) (nothing (blocks_in within) (no_blocks context.Enum in_enum none_in_enum within w.1))
            (items_are path (after c kind.OpenEnum) (last_outer (Block (header.Enum h) opens within closes End) c o) rest w.2 (aft mine (items_placed path (items_in rest)) i)),
      )
  items_are path c o (Block (header.Service h) opens within closes rest) w i =
      let ms = picked method_names block_names within in
      let mine : Inside (placed path (service h.name (picked method_names block_names within))) = fore (placed path (service h.name (picked method_names block_names within))) (items_placed path (items_in rest)) i in (
        (
          path,
          mine (place path (Token h.name) Service) (0, omega arith, refl),
          no_fields context.Service in_service service_fields 0 within w.1,
          no_values context.Service in_service (λ e. differ e) within w.1,
        ),
        both Block_is (blocks_in within) (blocks_in rest)
            (methods_are (path ++ Token h.name ∷ []) within w.1
            (λ m d. mine (place (path ++ Token h.name ∷ []) (Token m) Method)
            (contains_later (place path (Token h.name) Service) (place (path ++ Token h.name ∷ []) (Token m) Method) (map (λ x. place (path ++ Token h.name ∷ []) (Token x) Method) ms)
            (contains_map (λ x. place (path ++ Token h.name ∷ []) (Token x) Method) ms m d))))
            (items_are path (after c kind.OpenService) (last_outer (Block (header.Service h) opens within closes End) c o) rest w.2 (aft (placed path (service h.name (picked method_names block_names within))) (items_placed path (items_in rest)) i)),
      )
  items_are path c o (Block (header.Extend e) opens within closes rest) w i =
      let mine = placed path (extend (picked field_names no_names within)) in (
        extend_is path e within w.1 (fore mine (items_placed path (items_in rest)) i),
        both Block_is (blocks_in within) (blocks_in rest) (nothing (blocks_in within) (no_blocks context.Extend in_extend none_in_extend within w.1))
            (items_are path (after c kind.OpenExtend) (last_outer (Block (header.Extend e) opens within closes End) c o) rest w.2 (aft mine (items_placed path (items_in rest)) i)),
      )
  items_are path c o (Block (header.Oneof h) opens within closes rest) w i = absurd (no_oneof c o w.0)
  items_are path c o (Block (header.Method s) opens within closes rest) w i = absurd (no_method c o w.0)

-- ---- the laws

pub blocks_are_declared : BlocksAreDeclared
blocks_are_declared profile tree ls spells b c =
    let declared = file_placed (items_in tree) in
    let all = items_are declared (map (λ t. Token t) (package_of (items_in tree))) context.Start refl tree spells.well_formed (λ p d. d) in
    All-contains (Block_is declared) (blocks_in tree) b (All-from_recursion (Block_is declared) (blocks_in tree) all) c

pub fields_are_declared : FieldsAreDeclared
fields_are_declared profile tree ls spells b f cb cf = by b.header refl (blocks_are_declared profile tree ls spells b cb)
  where
    by : (h : Header) → b.header ≡ h → IsDeclared (file_placed (items_in tree)) h b.within → (path : List (Source ℕ)) × IsDeclaredIn (file_placed (items_in tree)) path b f
    by (header.Message h) is d = (d.0 ++ Token h.name ∷ [], inl (d.2 f cf))
    by (header.Oneof h) is d = (d.0, inl (d.2 f cf))
    by (header.Enum h) is d = absurd (none_in (fields_in b.within) f d.3 cf)
    by (header.Extend e) is d = (d.0, inr (e, is, d.1 f cf))
    by whole is d = absurd (none_in (fields_in b.within) f d.2 cf)

pub values_are_declared : ValuesAreDeclared
values_are_declared profile tree ls spells b v cb cv = by b.header refl (blocks_are_declared profile tree ls spells b cb)
  where
    by : (k : Header) → b.header ≡ k → IsDeclared (file_placed (items_in tree)) k b.within
        → (h : Heading) × (path : List (Source ℕ)) × (b.header ≡ header.Enum h) × Contains (file_placed (items_in tree)) (place path (Token h.name) Enum) × Contains (file_placed (items_in tree)) (place path (Token v.name) Value)
    by (header.Enum h) e d = (h, d.0, e, d.1, d.2 v cv)
    by (header.Extend x) e d = absurd (none_in (values_in b.within) v d.2 cv)
    by whole e d = absurd (none_in (values_in b.within) v d.3 cv)
