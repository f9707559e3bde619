-- What is declared as a message is no enum: its block begins with another word.
use Rattle.std.proofs.Common.{◌≡◌, ℕ, suc, ◌+◌, Bool, true, false, ◌||◌, List, [], ◌∷◌, ◌++◌, length, map, find, Option, Some, None, refl, sym, ◌∙◌, ap, subst, inl, inr, arith, Contains, true≢false, eq-eqb, eqb-true}
use Rattle.proto_base.proofs.Common.{Contains-append_cases, Contains-append_left, Contains-append_right, any_from, contains_cases, contains_head, contains_later, list_any}
use Rattle.proto_tree.specs.declared.class.Class.{Class}
use Rattle.proto_tree.specs.declared.class.Class.TheVariants as class
use Rattle.proto_tree.specs.declared.class.Expected.{Expected}
use Rattle.proto_tree.specs.declared.class.Expected.TheVariants as want
use Rattle.proto_tree.specs.declared.piece.Header.{Header}
use Rattle.proto_tree.specs.declared.piece.Header.TheVariants as header
use Rattle.proto_tree.specs.declared.piece.Heading.{Heading}
use Rattle.proto_tree.specs.declared.piece.Statement.{Statement}
use Rattle.proto_tree.specs.declared.piece.Statement.TheVariants as statement
use Rattle.proto_tree.proofs.Common.{Block, End, Leaf, Mark, Numbered, Tree, dotted, flat, flat_header, flat_heading, flat_statement, mark, name, numbered_append, one}
use Rattle.proto_tree.proofs.MarkLaws.{headers_have_marks, mark_at_index}
use Rattle.proto_tree.specs.Laws.{HasHeader}
use Rattle.proto_names_rules.specs.declared.kind.Kind.{Kind}
use Rattle.proto_names_rules.specs.declared.kind.Kind.TheVariants.{Enum, Extension, Field, Message, Method, Oneof, Value}
use Rattle.proto_names_rules.proofs.Common.{Items, Members, Placed, Source, Token, all_placed, beside, enum, extend, field, items_placed, map_field, message, oneof, place, placed, prefixes, service}
use Rattle.proto_names_outline.specs.FromTree.{add_block, add_statement, block_names, field_names, file_block, file_statement, items_in, members_in, method_names, no_names, picked, value_names}
use Rattle.proto_ast.specs.Parts.{BlockOf, blocks_in}
use Rattle.proto_resolved.specs.SceneOf.{is_enum_at}
use Rattle.proto_desc_extensions.specs.Extensions.{is_message_at}
use Rattle.proto_desc_affected.proofs.Declared.{found_passes}

-- ---- one token is not the name of a message and of an enum

record Stands (t : Tree) (h : Header) : Type 0 where
  within : HasHeader h t
  start : ℕ
  numbered : Numbered start (flat_header h)

stands : (t : Tree) (n : ℕ) (b : BlockOf) → Numbered n (flat t) → Contains (blocks_in t) b → Stands t b.header
stands End n b num c = absurd (omega (arith, c.1))
stands (Leaf s rest) n b num c =
    let r = stands rest (n + length (flat_statement s)) b (numbered_append n (flat_statement s) (flat rest) num).1 c in
    record { within = r.within; start = r.start; numbered = r.numbered }
stands (Block h i within j rest) n b num c =
    let front = flat_header h ++ one class.Open i in
    let parts = numbered_append n (flat_header h ++ one class.Open i) (flat within ++ (one class.Close j ++ flat rest)) num in
    let inner = numbered_append (n + length front) (flat within) (one class.Close j ++ flat rest) parts.1 in
    let behind = numbered_append ((n + length front) + length (flat within)) (one class.Close j) (flat rest) inner.1 in
    elim (contains_cases (record { header = h; within = within }) b (blocks_in within ++ blocks_in rest) c) [
      | inl e ↦ subst (λ (x : BlockOf). Stands (Block h i within j rest) x.header) e (record { within = inl refl; start = n; numbered = (numbered_append n (flat_header h) (one class.Open i) parts.0).0 })
      | inr d ↦ elim (Contains-append_cases (blocks_in within) (blocks_in rest) b d) [
        | inl x ↦ (let r = stands within (n + length front) b inner.0 x in record { within = inr (inl r.within); start = r.start; numbered = r.numbered })
        | inr x ↦ (let r = stands rest (((n + length front) + length (flat within)) + length (one class.Close j)) b behind.1 x in record { within = inr (inr r.within); start = r.start; numbered = r.numbered })
      ]
    ]

abbrev wants_message : Expected → Bool
wants_message (want.One class.Message) = true
wants_message _ = false

-- the name comes right behind the keyword
name_follows : (c : Class) (h : Heading) (n : ℕ) → Numbered n (flat_heading c h) → h.name ≡ suc h.keyword
name_follows c h n num = omega (arith, num.0, num.1.0)

not_both : (t : Tree) → Numbered 0 (flat t) → (b d : BlockOf) → Contains (blocks_in t) b → Contains (blocks_in t) d → (i : ℕ) → is_message_at i b.header ≡ true → is_enum_at i d.header ≡ true → ⊥
not_both t num b d cb cd i eb ed = by b.header d.header (stands t 0 b num cb) (stands t 0 d num cd) eb ed
  where
    differ : (k l : ℕ) → mark (want.One class.Message) k ≡ mark (want.One class.Enum) l → ⊥
    differ k l e = true≢false (ap (λ (m : Mark). wants_message m.want) e)

    by : (h k : Header) → Stands t h → Stands t k → is_message_at i h ≡ true → is_enum_at i k ≡ true → ⊥
    by (header.Message m) (header.Enum e) sm se x y =
        let names : m.name ≡ e.name = eqb-true m.name i x ∙ sym (eqb-true e.name i y) in
        let keywords : m.keyword ≡ e.keyword = omega (arith, names, name_follows class.Message m sm.start sm.numbered, name_follows class.Enum e se.start se.numbered) in
        let of_message = mark (want.One class.Message) m.keyword in
        let of_enum = mark (want.One class.Enum) e.keyword in
        differ m.keyword e.keyword (mark_at_index 0 (flat t) of_message of_enum num
        (headers_have_marks (header.Message m) t of_message sm.within (contains_head of_message (name m.name)))
        (headers_have_marks (header.Enum e) t of_enum se.within (contains_head of_enum (name e.name))) keywords)
    by (header.Message m) whole sm sk x y = absurd cc
    by whole k sm sk x y = absurd cc

-- ---- a declared message has its block

abbrev is_message_kind : Kind → Bool
is_message_kind Message = true
is_message_kind _ = false

-- where none of some declarations is a message
no_message : (ps : List Placed) → list_any (λ p. is_message_kind p.kind) ps ≡ false → (p : Placed) → p.kind ≡ Message → Contains ps p → ⊥
no_message ps none p e c = true≢false (sym (any_from (λ q. is_message_kind q.kind) ps p c (ap is_message_kind e)) ∙ none)

none_of : (path : List (Source ℕ)) (k : Kind) → is_message_kind k ≡ false → (ts : List ℕ) → list_any (λ p. is_message_kind p.kind) (map (λ i. place path (Token i) k) ts) ≡ false
none_of path k e [] = refl
none_of path k e (t ∷ ts) = ap (λ b. b || list_any (λ p. is_message_kind p.kind) (map (λ i. place path (Token i) k) ts)) e ∙ none_of path k e ts

none_beside : (path : List (Source ℕ)) (t : ℕ) (outer inner : Kind) (ts : List ℕ) → is_message_kind outer ≡ false → is_message_kind inner ≡ false → list_any (λ p. is_message_kind p.kind) (beside path t outer inner ts) ≡ false
none_beside path t outer inner ts e f = ap (λ b. b || list_any (λ p. is_message_kind p.kind) (map (λ i. place path (Token i) inner) ts)) e ∙ none_of path inner f ts

no_prefix : (path : List (Source ℕ)) (ts : List ℕ) → list_any (λ p. is_message_kind p.kind) (prefixes path ts) ≡ false
no_prefix path [] = refl
no_prefix path (t ∷ ts) = no_prefix (path ++ Token t ∷ []) ts

-- the block of a message of the tree
pub record HasBlock (t : Tree) (p : Placed) : Type 0 where
  pub token : ℕ
  pub last : p.last ≡ Token token
  pub block : BlockOf
  pub there : Contains (blocks_in t) block
  pub is : is_message_at token block.header ≡ true

wider : (t u : Tree) (p : Placed) → ((b : BlockOf) → Contains (blocks_in t) b → Contains (blocks_in u) b) → HasBlock t p → HasBlock u p
wider t u p f h = record { token = h.token; last = h.last; block = h.block; there = f h.block h.there; is = h.is }

-- of messages and what is in them
of_message : (path : List (Source ℕ)) (h : Heading) (i : ℕ) (within : Tree) (j : ℕ) (rest : Tree) (p : Placed) → (Contains (all_placed (path ++ Token h.name ∷ []) (members_in within)) p → HasBlock within p) → Contains (placed path (message h.name (members_in within))) p → HasBlock (Block (header.Message h) i within j rest) p
of_message path h i within j rest p inner c =
    let own : BlockOf = record { header = header.Message h; within = within } in
    elim (contains_cases (place path (Token h.name) Message) p (all_placed (path ++ Token h.name ∷ []) (members_in within)) c) [
      | inl e ↦ record { token = h.name; last = ap (λ (q : Placed). q.last) (sym e); block = own; there = contains_head own (blocks_in within ++ blocks_in rest); is = eq-eqb h.name h.name refl }
      | inr d ↦ wider within (Block (header.Message h) i within j rest) p (λ b x. contains_later own b (blocks_in within ++ blocks_in rest) (Contains-append_left (blocks_in within) (blocks_in rest) b x)) (inner d)
    ]

-- behind a block
behind : (h : Header) (i : ℕ) (within : Tree) (j : ℕ) (rest : Tree) (p : Placed) → HasBlock rest p → HasBlock (Block h i within j rest) p
behind h i within j rest p =
    let own : BlockOf = record { header = h; within = within } in
    wider rest (Block h i within j rest) p (λ b x. contains_later own b (blocks_in within ++ blocks_in rest) (Contains-append_right (blocks_in within) (blocks_in rest) b x))

later : (ps qs : List Placed) (p : Placed) → list_any (λ x. is_message_kind x.kind) ps ≡ false → p.kind ≡ Message → Contains (ps ++ qs) p → Contains qs p
later ps qs p none e c = elim (Contains-append_cases ps qs p c) [ inl a ↦ absurd (no_message ps none p e a) | inr b ↦ b ]

in_statement : (path : List (Source ℕ)) (s : Statement) (ms : Members) (p : Placed) → p.kind ≡ Message → Contains (all_placed path (add_statement s ms)) p → Contains (all_placed path ms) p
in_statement path (statement.Field f) ms p e c = later (placed path (field f.name)) (all_placed path ms) p refl e c
in_statement path (statement.MapField f) ms p e c = later (placed path (map_field f.name)) (all_placed path ms) p refl e c
in_statement path whole ms p e c = c

in_block : (path : List (Source ℕ)) (h : Header) (i : ℕ) (within : Tree) (j : ℕ) (rest : Tree) (p : Placed) → p.kind ≡ Message
    → ((below : List (Source ℕ)) → Contains (all_placed below (members_in within)) p → HasBlock within p) → (Contains (all_placed path (members_in rest)) p → HasBlock rest p)
    → Contains (all_placed path (add_block h (members_in within) within (members_in rest))) p → HasBlock (Block h i within j rest) p
in_block path (header.Message h) i within j rest p e inner more c = elim (Contains-append_cases (placed path (message h.name (members_in within))) (all_placed path (members_in rest)) p c) [
  | inl a ↦ of_message path h i within j rest p (inner (path ++ Token h.name ∷ [])) a
  | inr b ↦ behind (header.Message h) i within j rest p (more b)
]
in_block path (header.Oneof h) i within j rest p e inner more c =
    let ts = picked field_names no_names within in
    behind (header.Oneof h) i within j rest p (more (later (placed path (oneof h.name ts)) (all_placed path (members_in rest)) p (none_beside path h.name Oneof Field ts refl refl) e c))
in_block path (header.Enum h) i within j rest p e inner more c =
    let ts = picked value_names no_names within in
    behind (header.Enum h) i within j rest p (more (later (placed path (enum h.name ts)) (all_placed path (members_in rest)) p (none_beside path h.name Enum Value ts refl refl) e c))
in_block path (header.Extend h) i within j rest p e inner more c =
    let ts = picked field_names no_names within in
    behind (header.Extend h) i within j rest p (more (later (placed path (extend ts)) (all_placed path (members_in rest)) p (none_of path Extension refl ts) e c))
in_block path (header.Service h) i within j rest p e inner more c = behind (header.Service h) i within j rest p (more c)
in_block path (header.Method h) i within j rest p e inner more c = behind (header.Method h) i within j rest p (more c)

in_members : (t : Tree) (path : List (Source ℕ)) (p : Placed) → p.kind ≡ Message → Contains (all_placed path (members_in t)) p → HasBlock t p
in_members End path p e c = absurd (omega (arith, c.1))
in_members (Leaf s rest) path p e c = wider rest (Leaf s rest) p (λ b x. x) (in_members rest path p e (in_statement path s (members_in rest) p e c))
in_members (Block h i within j rest) path p e c = in_block path h i within j rest p e (λ below. in_members within below p e) (in_members rest path p e) c

in_head : (path : List (Source ℕ)) (s : Statement) (is : Items) (p : Placed) → p.kind ≡ Message → Contains (items_placed path (file_statement s is)) p → Contains (items_placed path is) p
in_head path (statement.Package x) is p e c = later (prefixes [] (dotted x.name)) (items_placed path is) p (no_prefix [] (dotted x.name)) e c
in_head path whole is p e c = c

in_item : (path : List (Source ℕ)) (h : Header) (i : ℕ) (within : Tree) (j : ℕ) (rest : Tree) (p : Placed) → p.kind ≡ Message → (Contains (items_placed path (items_in rest)) p → HasBlock rest p)
    → Contains (items_placed path (file_block h within (items_in rest))) p → HasBlock (Block h i within j rest) p
in_item path (header.Message h) i within j rest p e more c = elim (Contains-append_cases (placed path (message h.name (members_in within))) (items_placed path (items_in rest)) p c) [
  | inl a ↦ of_message path h i within j rest p (in_members within (path ++ Token h.name ∷ []) p e) a
  | inr b ↦ behind (header.Message h) i within j rest p (more b)
]
in_item path (header.Enum h) i within j rest p e more c =
    let ts = picked value_names no_names within in
    behind (header.Enum h) i within j rest p (more (later (placed path (enum h.name ts)) (items_placed path (items_in rest)) p (none_beside path h.name Enum Value ts refl refl) e c))
in_item path (header.Service h) i within j rest p e more c =
    let ts = picked method_names block_names within in
    behind (header.Service h) i within j rest p (more (later (placed path (service h.name ts)) (items_placed path (items_in rest)) p (none_of (path ++ Token h.name ∷ []) Method refl ts) e c))
in_item path (header.Extend h) i within j rest p e more c =
    let ts = picked field_names no_names within in
    behind (header.Extend h) i within j rest p (more (later (placed path (extend ts)) (items_placed path (items_in rest)) p (none_of path Extension refl ts) e c))
in_item path (header.Oneof h) i within j rest p e more c = behind (header.Oneof h) i within j rest p (more c)
in_item path (header.Method h) i within j rest p e more c = behind (header.Method h) i within j rest p (more c)

pub in_items : (t : Tree) (path : List (Source ℕ)) (p : Placed) → p.kind ≡ Message → Contains (items_placed path (items_in t)) p → HasBlock t p
in_items End path p e c = absurd (omega (arith, c.1))
in_items (Leaf s rest) path p e c = wider rest (Leaf s rest) p (λ b x. x) (in_items rest path p e (in_head path s (items_in rest) p e c))
in_items (Block h i within j rest) path p e c = in_item path h i within j rest p e (in_items rest path p e) c

-- ---- so its name is no enum's

pub no_enum_there : (t : Tree) → Numbered 0 (flat t) → (path : List (Source ℕ)) (p : Placed) → p.kind ≡ Message → Contains (items_placed path (items_in t)) p → (i : ℕ) → p.last ≡ Token i → find (λ (b : BlockOf). is_enum_at i b.header) (blocks_in t) ≡ None
no_enum_there t num path p e c i last = by (find (λ (b : BlockOf). is_enum_at i b.header) (blocks_in t)) refl
  where
    same_token : (x y : ℕ) → ◌≡◌ {A = Source ℕ} (Token x) (Token y) → x ≡ y
    same_token x y q = cc

    by : (o : Option BlockOf) → find (λ (b : BlockOf). is_enum_at i b.header) (blocks_in t) ≡ o → o ≡ None
    by None q = refl
    by (Some d) q =
        let h = in_items t path p e c in
        let f = found_passes (λ (b : BlockOf). is_enum_at i b.header) (blocks_in t) d q in
        let is : is_message_at i h.block.header ≡ true = ap (λ n. is_message_at n h.block.header) (same_token i h.token (sym last ∙ h.last)) ∙ h.is in
        absurd (not_both t num h.block d h.there f.0 i is f.1)
