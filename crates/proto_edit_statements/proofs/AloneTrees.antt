-- Whether a field is alone in a oneof of trees that stand one behind another; and that this is so by their blocks.
use Rattle.std.proofs.Common.{◌≡◌, ◌⊎◌, ℕ, Bool, true, false, ◌||◌, List, [], ◌∷◌, ◌++◌, map, refl, sym, ap, subst, ◌∙◌, inl, inr, arith, Contains, eq-eqb, eqb-true}
use Rattle.proto_base.proofs.Common.{both_ways, or_cases, or_left, or_right, Contains-append_cases, Contains-append_left, Contains-append_right, contains_cases, contains_head, contains_later}
use Rattle.proto_ast.specs.Parts.{BlockOf, FieldOf, blocks_in, fields_in}
use Rattle.proto_edit_statements.specs.FieldPlaces.{alone_in, is_only}
use Rattle.proto_tree.specs.declared.context.Context.{Context}
use Rattle.proto_tree.specs.declared.context.Context.TheVariants as context
use Rattle.proto_tree.specs.declared.context.Kind.{Kind}
use Rattle.proto_tree.specs.declared.piece.Header.{Header}
use Rattle.proto_tree.specs.declared.piece.Header.TheVariants as header
use Rattle.proto_tree.specs.declared.piece.Heading.{Heading}
use Rattle.proto_tree.specs.declared.tree.Block.{Block as Braced}
use Rattle.proto_tree.specs.declared.tree.OneofItem.{OneofItem}
use Rattle.proto_tree.specs.declared.tree.Member.{Member}
use Rattle.proto_tree.specs.declared.tree.Signature.{Signature}
use Rattle.proto_tree.proofs.Common.{member_tree, message_tree, oneof_item_tree, oneof_tree, trees, Tree, End, Leaf, Block, IsWellFormed, after, allows, header_kind, joined_trees, statement_kind}

or_assoc : (a b c : Bool) → ((a || b) || c) ≡ (a || (b || c))
or_assoc true b c = refl
or_assoc false b c = refl

or_none : (a : Bool) → (a || false) ≡ a
or_none true = refl
or_none false = refl

pub alone_joined : (name : ℕ) (t u : Tree) → alone_in name (joined_trees t u) ≡ (alone_in name t || alone_in name u)
alone_joined name End u = refl
alone_joined name (Leaf s rest) u = alone_joined name rest u
alone_joined name (Block (header.Message h) i within j rest) u =
    ap (λ b. alone_in name within || b) (alone_joined name rest u) ∙ sym (or_assoc (alone_in name within) (alone_in name rest) (alone_in name u))
alone_joined name (Block (header.Oneof h) i within j rest) u =
    ap (λ b. is_only name (fields_in within) || b) (alone_joined name rest u) ∙ sym (or_assoc (is_only name (fields_in within)) (alone_in name rest) (alone_in name u))
alone_joined name (Block whole i within j rest) u = alone_joined name rest u

pub alone_message : (name : ℕ) (m : Braced Member) → alone_in name (message_tree m) ≡ alone_in name (trees member_tree m.members.items)
alone_message name m = or_none (alone_in name (trees member_tree m.members.items))

pub alone_oneof : (name : ℕ) (o : Braced OneofItem) → alone_in name (oneof_tree o) ≡ is_only name (fields_in (trees oneof_item_tree o.members.items))
alone_oneof name o = or_none (is_only name (fields_in (trees oneof_item_tree o.members.items)))

-- ---- by blocks

-- a block of the tree that is a oneof with this field alone
pub record HoldsAlone (name : ℕ) (t : Tree) : Type 0 where
  pub h : Heading
  pub b : BlockOf
  pub block : Contains (blocks_in t) b
  pub oneof : b.header ≡ header.Oneof h
  pub only : map (λ f. f.name) (fields_in b.within) ≡ name ∷ []

only_names : (name : ℕ) (fs : List FieldOf) → is_only name fs ≡ true → map (λ f. f.name) fs ≡ name ∷ []
only_names name [] e = absurd (both_ways false refl e)
only_names name (f ∷ []) e = ap (λ z. z ∷ []) (eqb-true f.name name e)
only_names name (f ∷ g ∷ fs) e = absurd (both_ways false refl e)

only_from : (name : ℕ) (fs : List FieldOf) → map (λ f. f.name) fs ≡ name ∷ [] → is_only name fs ≡ true
only_from name [] e = absurd cc
only_from name (f ∷ []) e = eq-eqb f.name name (first e)
  where
    first : ◌≡◌ {A = List ℕ} (f.name ∷ []) (name ∷ []) → f.name ≡ name
    first z = cc
only_from name (f ∷ g ∷ fs) e = absurd cc

-- one block more stands around or before
later : (name : ℕ) (t u : Tree) → ((b : BlockOf) → Contains (blocks_in t) b → Contains (blocks_in u) b) → HoldsAlone name t → HoldsAlone name u
later name t u more x = record { h = x.h; b = x.b; block = more x.b x.block; oneof = x.oneof; only = x.only }

within_block : (h : Header) (i : ℕ) (within : Tree) (j : ℕ) (rest : Tree) (b : BlockOf) → Contains (blocks_in within) b → Contains (blocks_in (Block h i within j rest)) b
within_block h i within j rest b c = contains_later (record { header = h; within = within }) b (blocks_in within ++ blocks_in rest) (Contains-append_left (blocks_in within) (blocks_in rest) b c)

behind_block : (h : Header) (i : ℕ) (within : Tree) (j : ℕ) (rest : Tree) (b : BlockOf) → Contains (blocks_in rest) b → Contains (blocks_in (Block h i within j rest)) b
behind_block h i within j rest b c = contains_later (record { header = h; within = within }) b (blocks_in within ++ blocks_in rest) (Contains-append_right (blocks_in within) (blocks_in rest) b c)

pub alone_holds : (name : ℕ) (t : Tree) → alone_in name t ≡ true → HoldsAlone name t
alone_holds name End e = absurd (both_ways false refl e)
alone_holds name (Leaf s rest) e = later name rest (Leaf s rest) (λ b c. c) (alone_holds name rest e)
alone_holds name (Block (header.Message h) i within j rest) e = elim (or_cases (alone_in name within) (alone_in name rest) e) [
  | inl x ↦ later name within (Block (header.Message h) i within j rest) (within_block (header.Message h) i within j rest) (alone_holds name within x)
  | inr x ↦ later name rest (Block (header.Message h) i within j rest) (behind_block (header.Message h) i within j rest) (alone_holds name rest x)
]
alone_holds name (Block (header.Oneof h) i within j rest) e = elim (or_cases (is_only name (fields_in within)) (alone_in name rest) e) [
  | inl x ↦
      let own : BlockOf = record { header = header.Oneof h; within = within } in
      record { h = h; b = own; block = contains_head own (blocks_in within ++ blocks_in rest); oneof = refl; only = only_names name (fields_in within) x }
  | inr x ↦ later name rest (Block (header.Oneof h) i within j rest) (behind_block (header.Oneof h) i within j rest) (alone_holds name rest x)
]
alone_holds name (Block whole i within j rest) e = later name rest (Block whole i within j rest) (behind_block whole i within j rest) (alone_holds name rest e)

-- ---- only messages have oneofs

no_method : (s : Signature) (o : Heading) → header.Method s ≡ header.Oneof o → ⊥
no_method s o e = cc

-- where no block may stand
no_blocks : (c : Context) → ((h : Header) → allows c (header_kind h) ≡ false) → ((k : Kind) → after c k ≡ c) → (t : Tree) → IsWellFormed c t → (b : BlockOf) → Contains (blocks_in t) b → ⊥
no_blocks c none stays End fine b d = absurd (omega (arith, d.1))
no_blocks c none stays (Leaf s rest) fine b d = no_blocks c none stays rest (subst (λ (z : Context). IsWellFormed z rest) (stays (statement_kind s)) fine.1) b d
no_blocks c none stays (Block h i within j rest) fine b d = absurd (both_ways (allows c (header_kind h)) (none h) fine.0)

none_in_oneof : (h : Header) → allows context.Oneof (header_kind h) ≡ false
none_in_oneof (header.Message h) = refl
none_in_oneof whole = refl

none_in_enum : (h : Header) → allows context.Enum (header_kind h) ≡ false
none_in_enum (header.Message h) = refl
none_in_enum whole = refl

none_in_method : (h : Header) → allows context.Method (header_kind h) ≡ false
none_in_method (header.Message h) = refl
none_in_method whole = refl

none_in_extend : (h : Header) → allows context.Extend (header_kind h) ≡ false
none_in_extend (header.Message h) = refl
none_in_extend whole = refl

none_in_service : (t : Tree) → IsWellFormed context.Service t → (b : BlockOf) → Contains (blocks_in t) b → (o : Heading) → b.header ≡ header.Oneof o → ⊥
none_in_service End fine b c o e = absurd (omega (arith, c.1))
none_in_service (Leaf s rest) fine b c o e = none_in_service rest fine.1 b c o e
none_in_service (Block (header.Method s) i within j rest) fine b c o e = elim (contains_cases (record { header = header.Method s; within = within }) b (blocks_in within ++ blocks_in rest) c) [
  | inl same ↦ no_method s o (ap (λ (z : BlockOf). z.header) same ∙ e)
  | inr d ↦ elim (Contains-append_cases (blocks_in within) (blocks_in rest) b d) [
    | inl x ↦ no_blocks context.Method none_in_method (λ k. refl) within fine.1 b x
    | inr x ↦ none_in_service rest fine.2 b x o e
  ]
]
none_in_service (Block whole i within j rest) fine b c o e = absurd (both_ways false refl fine.0)

-- the block itself, one in it, or one behind it
in_block : (h : Header) (within rest : Tree) (b : BlockOf) → Contains (record { header = h; within = within } ∷ (blocks_in within ++ blocks_in rest)) b → (h ≡ b.header) × (within ≡ b.within) ⊎ (Contains (blocks_in within) b ⊎ Contains (blocks_in rest) b)
in_block h within rest b c = elim (contains_cases (record { header = h; within = within }) b (blocks_in within ++ blocks_in rest) c) [
  | inl same ↦ inl (ap (λ (z : BlockOf). z.header) same, ap (λ (z : BlockOf). z.within) same)
  | inr d ↦ inr (Contains-append_cases (blocks_in within) (blocks_in rest) b d)
]

again : (name : ℕ) (t u : Tree) (x : HoldsAlone name t) → Contains (blocks_in u) x.b → HoldsAlone name u
again name t u x c = record { h = x.h; b = x.b; block = c; oneof = x.oneof; only = x.only }

pub holds_alone : (name : ℕ) (c : Context) (t : Tree) → IsWellFormed c t → HoldsAlone name t → alone_in name t ≡ true
holds_alone name c End fine x = absurd (let b = x.block in omega (arith, b.1))
holds_alone name c (Leaf s rest) fine x = holds_alone name (after c (statement_kind s)) rest fine.1 (again name (Leaf s rest) rest x x.block)
holds_alone name c (Block (header.Message h) i within j rest) fine x = elim (in_block (header.Message h) within rest x.b x.block) [
  | inl e ↦ absurd (no_message (e.0 ∙ x.oneof))
  | inr (inl d) ↦ or_left (alone_in name within) (alone_in name rest) (holds_alone name context.Message within fine.1 (again name (Block (header.Message h) i within j rest) within x d))
  | inr (inr d) ↦ or_right (alone_in name within) (alone_in name rest) (holds_alone name (after c (header_kind (header.Message h))) rest fine.2 (again name (Block (header.Message h) i within j rest) rest x d))
]
  where
    no_message : header.Message h ≡ header.Oneof x.h → ⊥
    no_message e = cc
holds_alone name c (Block (header.Oneof h) i within j rest) fine x = elim (in_block (header.Oneof h) within rest x.b x.block) [
  | inl e ↦ or_left (is_only name (fields_in within)) (alone_in name rest) (only_from name (fields_in within) (ap (λ z. map (λ f. f.name) (fields_in z)) e.1 ∙ x.only))
  | inr (inl d) ↦ absurd (no_blocks context.Oneof none_in_oneof (λ k. refl) within fine.1 x.b d)
  | inr (inr d) ↦ or_right (is_only name (fields_in within)) (alone_in name rest) (holds_alone name (after c (header_kind (header.Oneof h))) rest fine.2 (again name (Block (header.Oneof h) i within j rest) rest x d))
]
holds_alone name c (Block (header.Enum h) i within j rest) fine x = elim (in_block (header.Enum h) within rest x.b x.block) [
  | inl e ↦ absurd (not_it (e.0 ∙ x.oneof))
  | inr (inl d) ↦ absurd (no_blocks context.Enum none_in_enum (λ k. refl) within fine.1 x.b d)
  | inr (inr d) ↦ holds_alone name (after c (header_kind (header.Enum h))) rest fine.2 (again name (Block (header.Enum h) i within j rest) rest x d)
]
  where
    not_it : header.Enum h ≡ header.Oneof x.h → ⊥
    not_it e = cc
holds_alone name c (Block (header.Service h) i within j rest) fine x = elim (in_block (header.Service h) within rest x.b x.block) [
  | inl e ↦ absurd (not_it (e.0 ∙ x.oneof))
  | inr (inl d) ↦ absurd (none_in_service within fine.1 x.b d x.h x.oneof)
  | inr (inr d) ↦ holds_alone name (after c (header_kind (header.Service h))) rest fine.2 (again name (Block (header.Service h) i within j rest) rest x d)
]
  where
    not_it : header.Service h ≡ header.Oneof x.h → ⊥
    not_it e = cc
holds_alone name c (Block (header.Method s) i within j rest) fine x = elim (in_block (header.Method s) within rest x.b x.block) [
  | inl e ↦ absurd (not_it (e.0 ∙ x.oneof))
  | inr (inl d) ↦ absurd (no_blocks context.Method none_in_method (λ k. refl) within fine.1 x.b d)
  | inr (inr d) ↦ holds_alone name (after c (header_kind (header.Method s))) rest fine.2 (again name (Block (header.Method s) i within j rest) rest x d)
]
  where
    not_it : header.Method s ≡ header.Oneof x.h → ⊥
    not_it e = cc
holds_alone name c (Block (header.Extend k) i within j rest) fine x = elim (in_block (header.Extend k) within rest x.b x.block) [
  | inl e ↦ absurd (not_it (e.0 ∙ x.oneof))
  | inr (inl d) ↦ absurd (no_blocks context.Extend none_in_extend (λ k. refl) within fine.1 x.b d)
  | inr (inr d) ↦ holds_alone name (after c (header_kind (header.Extend k))) rest fine.2 (again name (Block (header.Extend k) i within j rest) rest x d)
]
  where
    not_it : header.Extend k ≡ header.Oneof x.h → ⊥
    not_it e = cc
