-- Each value that a tree declares is that of an enum's block.
use Rattle.std.proofs.Common.{◌≡◌, ℕ, true, List, [], ◌∷◌, ◌++◌, map, refl, sym, ap, subst, ◌∙◌, inl, inr, arith, Contains, eq-eqb}
use Rattle.proto_base.proofs.Common.{Contains-append_left, Contains-append_right, Contains-append_cases, contains_cases, contains_head, contains_later, from_map}
use Rattle.proto_tree.specs.declared.tree.Value.{Value as ValueParts}
use Rattle.proto_tree.specs.declared.piece.Statement.{Statement}
use Rattle.proto_tree.specs.declared.piece.Header.{Header}
use Rattle.proto_tree.specs.declared.piece.Heading.{Heading}
use Rattle.proto_tree.proofs.Common.{Tree, End, Leaf, Block, dotted}
use Rattle.proto_tree.specs.declared.piece.Statement.TheVariants as statement
use Rattle.proto_tree.specs.declared.piece.Header.TheVariants as header
use Rattle.proto_names_rules.specs.declared.kind.Kind.{Kind}
use Rattle.proto_names_rules.specs.declared.kind.Kind.TheVariants.{Message, Enum, Service, Field, Oneof, Value, Method, Extension}
use Rattle.proto_names_rules.proofs.Common.{Source, Token, Items, Members, Placed, place, placed, all_placed, prefixes, items_placed, beside, extend, field, map_field, message, service}
use Rattle.proto_names_outline.specs.FromTree.{add_statement, block_names, field_names, file_statement, items_in, members_in, method_names, no_names, picked, value_names}
use Rattle.proto_ast.specs.Parts.{BlockOf, blocks_in, statement_values, values_in}
use Rattle.proto_resolved.specs.SceneOf.{is_enum_at}

abbrev names_of_values : Tree → List ℕ
names_of_values t = map (λ (x : ValueParts). x.name) (values_in t)

pub record EnumHas (ps : List Placed) (t : Tree) (p : Placed) : Type 0 where
  pub q : Placed
  pub placed : Contains ps q
  pub kind : q.kind ≡ Enum
  pub n : ℕ
  pub last : q.last ≡ Token n
  pub b : BlockOf
  pub block : Contains (blocks_in t) b
  pub is : is_enum_at n b.header ≡ true
  pub v : ℕ
  pub named : p.last ≡ Token v
  pub has : Contains (map (λ (x : ValueParts). x.name) (values_in b.within)) v

wider : (ps qs : List Placed) (t u : Tree) (p : Placed) → ((q : Placed) → Contains ps q → Contains qs q) → ((b : BlockOf) → Contains (blocks_in t) b → Contains (blocks_in u) b) → EnumHas ps t p → EnumHas qs u p
wider ps qs t u p f g h = record { q = h.q; placed = f h.q h.placed; kind = h.kind; n = h.n; last = h.last; b = h.b; block = g h.b h.block; is = h.is; v = h.v; named = h.named; has = h.has }

picked_leaf : (s : Statement) (xs : List ℕ) (ys : List ValueParts) → xs ≡ map (λ (x : ValueParts). x.name) ys → value_names s ++ xs ≡ map (λ (x : ValueParts). x.name) (statement_values s ++ ys)
picked_leaf (statement.Value x) xs ys e = ap (λ z. x.name ∷ z) e
picked_leaf _ xs ys e = e

picked_values : (t : Tree) → picked value_names no_names t ≡ names_of_values t
picked_values End = refl
picked_values (Leaf s rest) = picked_leaf s (picked value_names no_names rest) (values_in rest) (picked_values rest)
picked_values (Block h i within j rest) = picked_values rest

-- a value beside its enum
of_enum : (path : List (Source ℕ)) (h : Heading) (within : Tree) (p : Placed) → p.kind ≡ Value → Contains (beside path h.name Enum Value (picked value_names no_names within)) p → (i j : ℕ) (rest : Tree)
    → EnumHas (beside path h.name Enum Value (picked value_names no_names within)) (Block (header.Enum h) i within j rest) p
of_enum path h within p k c i j rest = elim (contains_cases (place path (Token h.name) Enum) p (map (λ v. place path (Token v) Value) (picked value_names no_names within)) c) [
  | inl e ↦ absurd (no (ap (λ (z : Placed). z.kind) e ∙ k))
  | inr d ↦ (
      let v = from_map (λ v. place path (Token v) Value) (picked value_names no_names within) p d in
      record {
        q = place path (Token h.name) Enum;
        placed = contains_head (place path (Token h.name) Enum) (map (λ v. place path (Token v) Value) (picked value_names no_names within));
        kind = refl;
        n = h.name;
        last = refl;
        b = record { header = header.Enum h; within = within };
        block = contains_head (record { header = header.Enum h; within = within }) (blocks_in within ++ blocks_in rest);
        is = eq-eqb h.name h.name refl;
        v = v.0;
        named = ap (λ (z : Placed). z.last) (sym v.2);
        has = subst (λ z. Contains z v.0) (picked_values within) v.1;
      })
]
  where
    no : Enum ≡ Value → ⊥
    no e = cc

no_beside : (path : List (Source ℕ)) (t : ℕ) (a b : Kind) (ts : List ℕ) (p : Placed) → (a ≡ Value → ⊥) → (b ≡ Value → ⊥) → p.kind ≡ Value → Contains (beside path t a b ts) p → ⊥
no_beside path t a b ts p na nb k c = elim (contains_cases (place path (Token t) a) p (map (λ i. place path (Token i) b) ts) c) [
  | inl e ↦ na (ap (λ (z : Placed). z.kind) e ∙ k)
  | inr d ↦ (let v = from_map (λ i. place path (Token i) b) ts p d in nb (ap (λ (z : Placed). z.kind) v.2 ∙ k))
]

no_extension : (path : List (Source ℕ)) (ts : List ℕ) (p : Placed) → p.kind ≡ Value → Contains (map (λ i. place path (Token i) Extension) ts) p → ⊥
no_extension path ts p k c = let v = from_map (λ i. place path (Token i) Extension) ts p c in differ (ap (λ (z : Placed). z.kind) v.2 ∙ k)
  where
    differ : Extension ≡ Value → ⊥
    differ e = cc

-- none of a list whose kinds are others
abbrev NoValues : List Placed → Type 0
NoValues [] = Unit {0}
NoValues (p ∷ ps) = (p.kind ≡ Value → ⊥) × NoValues ps

no_value : (ps : List Placed) → NoValues ps → (p : Placed) → p.kind ≡ Value → Contains ps p → ⊥
no_value [] h p k c = omega (arith, c.1)
no_value (q ∷ ps) h p k c = elim (contains_cases q p ps c) [ inl e ↦ h.0 (ap (λ (z : Placed). z.kind) e ∙ k) | inr d ↦ no_value ps h.1 p k d ]

no_prefix : (path : List (Source ℕ)) (ts : List ℕ) → NoValues (prefixes path ts)
no_prefix path [] = tt
no_prefix path (t ∷ ts) = ((λ e. cc), no_prefix (path ++ Token t ∷ []) ts)

-- in a statement of a message
in_leaf : (path : List (Source ℕ)) (s : Statement) (ms : Members) (t : Tree) (p : Placed) → p.kind ≡ Value → (Contains (all_placed path ms) p → EnumHas (all_placed path ms) t p) → Contains (all_placed path (add_statement s ms)) p → EnumHas (all_placed path (add_statement s ms)) t p
in_leaf path (statement.Field f) ms t p k more c = elim (Contains-append_cases (placed path (field f.name)) (all_placed path ms) p c) [
  | inl a ↦ absurd (no_value (placed path (field f.name)) ((λ e. cc), tt) p k a)
  | inr a ↦ wider (all_placed path ms) _ t t p (λ q d. Contains-append_right (placed path (field f.name)) (all_placed path ms) q d) (λ b d. d) (more a)
]
in_leaf path (statement.MapField f) ms t p k more c = elim (Contains-append_cases (placed path (map_field f.name)) (all_placed path ms) p c) [
  | inl a ↦ absurd (no_value (placed path (map_field f.name)) ((λ e. cc), ((λ e. cc), ((λ e. cc), ((λ e. cc), tt)))) p k a)
  | inr a ↦ wider (all_placed path ms) _ t t p (λ q d. Contains-append_right (placed path (map_field f.name)) (all_placed path ms) q d) (λ b d. d) (more a)
]
in_leaf path _ ms t p k more c = more c

abbrev later : (h : Header) (i : ℕ) (within : Tree) (j : ℕ) (rest : Tree) (b : BlockOf) → Contains (blocks_in rest) b → Contains (blocks_in (Block h i within j rest)) b
later h i within j rest b c = contains_later (record { header = h; within = within }) b (blocks_in within ++ blocks_in rest) (Contains-append_right (blocks_in within) (blocks_in rest) b c)

abbrev inner : (h : Header) (i : ℕ) (within : Tree) (j : ℕ) (rest : Tree) (b : BlockOf) → Contains (blocks_in within) b → Contains (blocks_in (Block h i within j rest)) b
inner h i within j rest b c = contains_later (record { header = h; within = within }) b (blocks_in within ++ blocks_in rest) (Contains-append_left (blocks_in within) (blocks_in rest) b c)

-- a message, whose own are these
of_message : (path : List (Source ℕ)) (h : Heading) (i : ℕ) (within : Tree) (j : ℕ) (rest : Tree) (p : Placed) → p.kind ≡ Value
    → (Contains (all_placed (path ++ Token h.name ∷ []) (members_in within)) p → EnumHas (all_placed (path ++ Token h.name ∷ []) (members_in within)) within p)
    → Contains (placed path (message h.name (members_in within))) p → EnumHas (placed path (message h.name (members_in within))) (Block (header.Message h) i within j rest) p
of_message path h i within j rest p k own c = elim (contains_cases (place path (Token h.name) Message) p (all_placed (path ++ Token h.name ∷ []) (members_in within)) c) [
  | inl e ↦ absurd (no (ap (λ (z : Placed). z.kind) e ∙ k))
  | inr d ↦ wider (all_placed (path ++ Token h.name ∷ []) (members_in within)) (placed path (message h.name (members_in within))) within (Block (header.Message h) i within j rest) p
      (λ q x. contains_later (place path (Token h.name) Message) q (all_placed (path ++ Token h.name ∷ []) (members_in within)) x) (λ b x. inner (header.Message h) i within j rest b x) (own d)
]
  where
    no : Message ≡ Value → ⊥
    no e = cc

-- first or behind
either : (xs ys : List Placed) (t u : Tree) (p : Placed) → ((b : BlockOf) → Contains (blocks_in u) b → Contains (blocks_in t) b) → (Contains xs p → EnumHas xs t p) → (Contains ys p → EnumHas ys u p) → Contains (xs ++ ys) p → EnumHas (xs ++ ys) t p
either xs ys t u p f first more c = elim (Contains-append_cases xs ys p c) [
  | inl a ↦ wider xs (xs ++ ys) t t p (λ q d. Contains-append_left xs ys q d) (λ b d. d) (first a)
  | inr a ↦ wider ys (xs ++ ys) u t p (λ q d. Contains-append_right xs ys q d) f (more a)
]

in_members : (t : Tree) (path : List (Source ℕ)) (p : Placed) → p.kind ≡ Value → Contains (all_placed path (members_in t)) p → EnumHas (all_placed path (members_in t)) t p
in_members End path p k c = absurd (omega (arith, c.1))
in_members (Leaf s rest) path p k c = in_leaf path s (members_in rest) (Leaf s rest) p k (λ d. wider _ _ rest (Leaf s rest) p (λ q x. x) (λ b x. x) (in_members rest path p k d)) c
in_members (Block (header.Message h) i within j rest) path p k c =
    either (placed path (message h.name (members_in within))) (all_placed path (members_in rest)) (Block (header.Message h) i within j rest) rest p (λ b x. later (header.Message h) i within j rest b x)
    (of_message path h i within j rest p k (in_members within (path ++ Token h.name ∷ []) p k)) (in_members rest path p k) c
in_members (Block (header.Oneof h) i within j rest) path p k c =
    either (beside path h.name Oneof Field (picked field_names no_names within)) (all_placed path (members_in rest)) (Block (header.Oneof h) i within j rest) rest p (λ b x. later (header.Oneof h) i within j rest b x)
    (λ d. absurd (no_beside path h.name Oneof Field (picked field_names no_names within) p (λ e. cc) (λ e. cc) k d)) (in_members rest path p k) c
in_members (Block (header.Enum h) i within j rest) path p k c =
    either (beside path h.name Enum Value (picked value_names no_names within)) (all_placed path (members_in rest)) (Block (header.Enum h) i within j rest) rest p (λ b x. later (header.Enum h) i within j rest b x)
    (λ d. of_enum path h within p k d i j rest) (in_members rest path p k) c
in_members (Block (header.Extend x) i within j rest) path p k c =
    either (placed path (extend (picked field_names no_names within))) (all_placed path (members_in rest)) (Block (header.Extend x) i within j rest) rest p (λ b y. later (header.Extend x) i within j rest b y)
    (λ d. absurd (no_extension path (picked field_names no_names within) p k d)) (in_members rest path p k) c
in_members (Block whole i within j rest) path p k c = wider _ _ rest _ p (λ q x. x) (λ b x. later whole i within j rest b x) (in_members rest path p k c)

in_package : (path : List (Source ℕ)) (s : Statement) (is : Items) (t : Tree) (p : Placed) → p.kind ≡ Value → (Contains (items_placed path is) p → EnumHas (items_placed path is) t p) → Contains (items_placed path (file_statement s is)) p → EnumHas (items_placed path (file_statement s is)) t p
in_package path (statement.Package x) is t p k more c = elim (Contains-append_cases (prefixes [] (dotted x.name)) (items_placed path is) p c) [
  | inl a ↦ absurd (no_value (prefixes [] (dotted x.name)) (no_prefix [] (dotted x.name)) p k a)
  | inr a ↦ wider (items_placed path is) _ t t p (λ q d. Contains-append_right (prefixes [] (dotted x.name)) (items_placed path is) q d) (λ b d. d) (more a)
]
in_package path _ is t p k more c = more c

pub in_items : (t : Tree) (path : List (Source ℕ)) (p : Placed) → p.kind ≡ Value → Contains (items_placed path (items_in t)) p → EnumHas (items_placed path (items_in t)) t p
in_items End path p k c = absurd (omega (arith, c.1))
in_items (Leaf s rest) path p k c = in_package path s (items_in rest) (Leaf s rest) p k (λ d. wider _ _ rest (Leaf s rest) p (λ q x. x) (λ b x. x) (in_items rest path p k d)) c
in_items (Block (header.Message h) i within j rest) path p k c =
    either (placed path (message h.name (members_in within))) (items_placed path (items_in rest)) (Block (header.Message h) i within j rest) rest p (λ b x. later (header.Message h) i within j rest b x)
    (of_message path h i within j rest p k (in_members within (path ++ Token h.name ∷ []) p k)) (in_items rest path p k) c
in_items (Block (header.Enum h) i within j rest) path p k c =
    either (beside path h.name Enum Value (picked value_names no_names within)) (items_placed path (items_in rest)) (Block (header.Enum h) i within j rest) rest p (λ b x. later (header.Enum h) i within j rest b x)
    (λ d. of_enum path h within p k d i j rest) (in_items rest path p k) c
in_items (Block (header.Service h) i within j rest) path p k c =
    either (placed path (service h.name (picked method_names block_names within))) (items_placed path (items_in rest)) (Block (header.Service h) i within j rest) rest p (λ b x. later (header.Service h) i within j rest b x)
    (λ d. absurd (no_methods d)) (in_items rest path p k) c
  where
    no_methods : Contains (placed path (service h.name (picked method_names block_names within))) p → ⊥
    no_methods d = elim (contains_cases (place path (Token h.name) Service) p _ d) [
      | inl e ↦ bad (ap (λ (z : Placed). z.kind) e ∙ k)
      | inr x ↦ (let v = from_map (λ m. place (path ++ Token h.name ∷ []) (Token m) Method) (picked method_names block_names within) p x in worse (ap (λ (z : Placed). z.kind) v.2 ∙ k))
    ]
      where
        bad : Service ≡ Value → ⊥
        bad e = cc

        worse : Method ≡ Value → ⊥
        worse e = cc
in_items (Block (header.Extend x) i within j rest) path p k c =
    either (placed path (extend (picked field_names no_names within))) (items_placed path (items_in rest)) (Block (header.Extend x) i within j rest) rest p (λ b y. later (header.Extend x) i within j rest b y)
    (λ d. absurd (no_extension path (picked field_names no_names within) p k d)) (in_items rest path p k) c
in_items (Block whole i within j rest) path p k c = wider _ _ rest _ p (λ q x. x) (λ b x. later whole i within j rest b x) (in_items rest path p k c)
