-- Each declared field has its statement.
use Rattle.std.proofs.Common.{◌≡◌, ◌⊎◌, inl, inr, ℕ, Option, Some, None, List, [], ◌∷◌, ◌++◌, map, refl, sym, ap, subst, ◌∙◌, arith, Contains}
use Rattle.proto_base.proofs.Common.{Contains-append_cases, contains_cases, from_map}
use Rattle.proto_tree.specs.declared.piece.Header.{Header}
use Rattle.proto_tree.specs.declared.piece.Header.TheVariants as header
use Rattle.proto_tree.specs.declared.piece.Heading.{Heading}
use Rattle.proto_tree.specs.declared.piece.Statement.{Statement}
use Rattle.proto_tree.specs.declared.piece.Statement.TheVariants as statement
use Rattle.proto_tree.proofs.Common.{Tree, End, Leaf, Block, dotted}
use Rattle.proto_names_rules.specs.declared.kind.Kind.{Kind}
use Rattle.proto_names_rules.specs.declared.kind.Kind.TheVariants as kind
use Rattle.proto_names_rules.proofs.Common.{Source, Token, EntryOf, Given, Items, Placed, extend, all_placed, extend, items_placed, key_word, package_of, place, placed, prefixes, map_field, value_word}
use Rattle.proto_names_outline.specs.FromTree.{block_names, field_names, items_in, members_in, method_names, no_names, picked, value_names}
use Rattle.proto_files.proofs.Common.{read_at, file_at}
use Rattle.proto_edit_statement_laws.specs.Deletions.{FieldsStandOnce}
use Rattle.proto_edit_rules.specs.DeleteField.{IsFieldOf, StandsAt, InMessage, InOneof, Deeper, PastLeaf, PastBlock, FieldAt}
use Rattle.proto_edit_rules.specs.Statements.{StandsIn, First, AfterLeaf, AfterBlock}
use Rattle.proto_edit_statement_laws.specs.DeletionChanges.{FieldsAreOne, FieldsAreThere}

-- ---- a field of this name token, right in a list of items, or further in

record IsRight (t : Tree) (name : ℕ) : Type 0 where
  s : Statement
  number : ℕ
  stands : StandsIn s t
  is : IsFieldOf s name number

record IsFurtherIn (t : Tree) (name : ℕ) : Type 0 where
  s : Statement
  o : Option ℕ
  number : ℕ
  stands : StandsAt s o t
  is : IsFieldOf s name number

abbrev IsIn : Tree → Placed → Type 0
IsIn t p = (name : ℕ) × (p.last ≡ Token name) × (IsRight t name ⊎ IsFurtherIn t name)

past_leaf : (x : Statement) (t : Tree) (p : Placed) → IsIn t p → IsIn (Leaf x t) p
past_leaf x t p h = (
  h.0,
  h.1,
  elim h.2 [
    | inl r ↦ inl (record { s = r.s; number = r.number; stands = AfterLeaf x t r.stands; is = r.is })
    | inr r ↦ inr (record { s = r.s; o = r.o; number = r.number; stands = PastLeaf r.o x t r.stands; is = r.is })
  ],
)

past_block : (h : Header) (i : ℕ) (within : Tree) (j : ℕ) (t : Tree) (p : Placed) → IsIn t p → IsIn (Block h i within j t) p
past_block k i within j t p h = (
  h.0,
  h.1,
  elim h.2 [
    | inl r ↦ inl (record { s = r.s; number = r.number; stands = AfterBlock k i within j t r.stands; is = r.is })
    | inr r ↦ inr (record { s = r.s; o = r.o; number = r.number; stands = PastBlock r.o k i within j t r.stands; is = r.is })
  ],
)

in_message : (h : Heading) (i : ℕ) (within : Tree) (j : ℕ) (rest : Tree) (p : Placed) → IsIn within p → (name : ℕ) × (p.last ≡ Token name) × IsFurtherIn (Block (header.Message h) i within j rest) name
in_message k i within j rest p h = (
  h.0,
  h.1,
  elim h.2 [
    | inl r ↦ record { s = r.s; o = None; number = r.number; stands = InMessage k i within j rest r.stands; is = r.is }
    | inr r ↦ record { s = r.s; o = r.o; number = r.number; stands = Deeper r.o k i within j rest r.stands; is = r.is }
  ],
)

-- ---- what is declared of other kinds

nothing_in : {P : Type 0} (p : Placed) → Contains [] p → P
nothing_in p c = absurd (omega (arith, c.1))

kind_is : (x p : Placed) → x ≡ p → p.kind ≡ kind.Field → x.kind ≡ kind.Field
kind_is x p e f = ap (λ (q : Placed). q.kind) e ∙ f

no_beside : {P : Type 0} (path : List (Source ℕ)) (k : Kind) (ts : List ℕ) (p : Placed) → (k ≡ kind.Field → ⊥) → p.kind ≡ kind.Field → Contains (map (λ i. place path (Token i) k) ts) p → P
no_beside path k ts p apart f c = let r = from_map (λ i. place path (Token i) k) ts p c in absurd (apart (kind_is (place path (Token r.0) k) p r.2 f))

no_package : {P : Type 0} (path : List (Source ℕ)) (ts : List ℕ) (p : Placed) → p.kind ≡ kind.Field → Contains (prefixes path ts) p → P
no_package path [] p f c = nothing_in p c
no_package path (t ∷ ts) p f c = elim (contains_cases (place path (Token t) kind.Package) p (prefixes (path ++ Token t ∷ []) ts) c) [
  | inl e ↦ (let bad = kind_is (place path (Token t) kind.Package) p e f in absurd cc)
  | inr d ↦ no_package (path ++ Token t ∷ []) ts p f d
]

-- the entry of a map field, and what is in it
abbrev entry_of : List (Source ℕ) → ℕ → List Placed
entry_of path t = place path (EntryOf t) kind.Entry ∷ place (path ++ EntryOf t ∷ []) (Given key_word) kind.EntryField ∷ place (path ++ EntryOf t ∷ []) (Given value_word) kind.EntryField ∷ []

entry_apart : kind.Entry ≡ kind.Field → ⊥
entry_apart e = cc

entry_field_apart : kind.EntryField ≡ kind.Field → ⊥
entry_field_apart e = cc

no_entry : {P : Type 0} (path : List (Source ℕ)) (t : ℕ) (p : Placed) → p.kind ≡ kind.Field → Contains (entry_of path t) p → P
no_entry path t p f c =
    let entry : Placed = place path (EntryOf t) kind.Entry in
    let key : Placed = place (path ++ EntryOf t ∷ []) (Given key_word) kind.EntryField in
    let value : Placed = place (path ++ EntryOf t ∷ []) (Given value_word) kind.EntryField in
    elim (contains_cases entry p (key ∷ value ∷ []) c) [
      | inl e ↦ absurd (entry_apart (kind_is entry p e f))
      | inr d ↦ elim (contains_cases key p (value ∷ []) d) [
        | inl e ↦ absurd (entry_field_apart (kind_is key p e f))
        | inr last ↦ elim (contains_cases value p [] last) [
          | inl e ↦ absurd (entry_field_apart (kind_is value p e f))
          | inr none ↦ nothing_in p none
        ]
      ]
    ]

value_apart : kind.Value ≡ kind.Field → ⊥
value_apart e = cc

method_apart : kind.Method ≡ kind.Field → ⊥
method_apart e = cc

-- an extension is no field
no_extension : {P : Type 0} (path : List (Source ℕ)) (t : Tree) (p : Placed) → p.kind ≡ kind.Field → Contains (placed path (extend (picked field_names no_names t))) p → P
no_extension path t p f c = no_beside path kind.Extension (picked field_names no_names t) p apart f c
  where
    apart : kind.Extension ≡ kind.Field → ⊥
    apart e = cc

-- ---- the fields of a oneof

among : (t : Tree) (name : ℕ) → Contains (picked field_names no_names t) name → IsRight t name
among End name c = absurd (omega (arith, c.1))
among (Leaf (statement.Field f) rest) name c = elim (contains_cases f.name name (picked field_names no_names rest) c) [
  | inl e ↦ record { s = statement.Field f; number = f.number; stands = First rest; is = (e, refl) }
  | inr d ↦ (let r = among rest name d in record { s = r.s; number = r.number; stands = AfterLeaf (statement.Field f) rest r.stands; is = r.is })
]
among (Leaf x rest) name c = let r = among rest name c in record { s = r.s; number = r.number; stands = AfterLeaf x rest r.stands; is = r.is }
among (Block h i within j rest) name c = let r = among rest name c in record { s = r.s; number = r.number; stands = AfterBlock h i within j rest r.stands; is = r.is }

-- ---- the members of a message

in_members : (t : Tree) (path : List (Source ℕ)) (p : Placed) → Contains (all_placed path (members_in t)) p → p.kind ≡ kind.Field → IsIn t p
in_members End path p c f = nothing_in p c
in_members (Leaf (statement.Field x) rest) path p c f = elim (contains_cases (place path (Token x.name) kind.Field) p (all_placed path (members_in rest)) c) [
  | inl e ↦ (x.name, ap (λ (q : Placed). q.last) (sym e), inl (record { s = statement.Field x; number = x.number; stands = First rest; is = (refl, refl) }))
  | inr d ↦ past_leaf (statement.Field x) rest p (in_members rest path p d f)
]
in_members (Leaf (statement.MapField x) rest) path p c f = elim (Contains-append_cases (placed path (map_field x.name)) (all_placed path (members_in rest)) p c) [
  | inl a ↦ elim (contains_cases (place path (Token x.name) kind.Field) p (entry_of path x.name) a) [
    | inl e ↦ (x.name, ap (λ (q : Placed). q.last) (sym e), inl (record { s = statement.MapField x; number = x.number; stands = First rest; is = (refl, refl) }))
    | inr more ↦ no_entry path x.name p f more
  ]
  | inr d ↦ past_leaf (statement.MapField x) rest p (in_members rest path p d f)
]
in_members (Leaf x rest) path p c f = past_leaf x rest p (in_members rest path p c f)
in_members (Block (header.Message h) i within j rest) path p c f = elim (contains_cases (place path (Token h.name) kind.Message) p _ c) [
  | inl e ↦ (let bad = kind_is (place path (Token h.name) kind.Message) p e f in absurd cc)
  | inr d ↦ elim (Contains-append_cases (all_placed (path ++ Token h.name ∷ []) (members_in within)) (all_placed path (members_in rest)) p d) [
    | inl a ↦ (let r = in_message h i within j rest p (in_members within (path ++ Token h.name ∷ []) p a f) in (r.0, r.1, inr r.2))
    | inr b ↦ past_block (header.Message h) i within j rest p (in_members rest path p b f)
  ]
]
in_members (Block (header.Oneof h) i within j rest) path p c f = elim (contains_cases (place path (Token h.name) kind.Oneof) p _ c) [
  | inl e ↦ (let bad = kind_is (place path (Token h.name) kind.Oneof) p e f in absurd cc)
  | inr d ↦ elim (Contains-append_cases (map (λ i. place path (Token i) kind.Field) (picked field_names no_names within)) (all_placed path (members_in rest)) p d) [
    | inl a ↦ (
        let r = from_map (λ i. place path (Token i) kind.Field) (picked field_names no_names within) p a in
        let v = among within r.0 r.1 in
        (r.0, ap (λ (q : Placed). q.last) (sym r.2), inr (record { s = v.s; o = Some j; number = v.number; stands = InOneof h i within j rest v.stands; is = v.is })))
    | inr b ↦ past_block (header.Oneof h) i within j rest p (in_members rest path p b f)
  ]
]
in_members (Block (header.Enum h) i within j rest) path p c f = elim (contains_cases (place path (Token h.name) kind.Enum) p _ c) [
  | inl e ↦ (let bad = kind_is (place path (Token h.name) kind.Enum) p e f in absurd cc)
  | inr d ↦ elim (Contains-append_cases (map (λ i. place path (Token i) kind.Value) (picked value_names no_names within)) (all_placed path (members_in rest)) p d) [
    | inl a ↦ no_beside path kind.Value (picked value_names no_names within) p value_apart f a
    | inr b ↦ past_block (header.Enum h) i within j rest p (in_members rest path p b f)
  ]
]
in_members (Block (header.Extend e) i within j rest) path p c f = elim (Contains-append_cases (placed path (extend (picked field_names no_names within))) (all_placed path (members_in rest)) p c) [
  | inl a ↦ no_extension path within p f a
  | inr b ↦ past_block (header.Extend e) i within j rest p (in_members rest path p b f)
]
in_members (Block whole i within j rest) path p c f = past_block whole i within j rest p (in_members rest path p c f)

-- ---- a file

abbrev IsThere : Tree → Placed → Type 0
IsThere t p = (name : ℕ) × (p.last ≡ Token name) × IsFurtherIn t name

leaf_there : (x : Statement) (t : Tree) (p : Placed) → IsThere t p → IsThere (Leaf x t) p
leaf_there x t p h = let r = h.2 in (h.0, h.1, record { s = r.s; o = r.o; number = r.number; stands = PastLeaf r.o x t r.stands; is = r.is })

block_there : (h : Header) (i : ℕ) (within : Tree) (j : ℕ) (t : Tree) (p : Placed) → IsThere t p → IsThere (Block h i within j t) p
block_there k i within j t p h = let r = h.2 in (h.0, h.1, record { s = r.s; o = r.o; number = r.number; stands = PastBlock r.o k i within j t r.stands; is = r.is })

in_file : (t : Tree) (path : List (Source ℕ)) (p : Placed) → Contains (items_placed path (items_in t)) p → p.kind ≡ kind.Field → IsThere t p
in_file End path p c f = nothing_in p c
in_file (Leaf (statement.Package x) rest) path p c f = elim (Contains-append_cases (prefixes [] (dotted x.name)) (items_placed path (items_in rest)) p c) [
  | inl a ↦ no_package [] (dotted x.name) p f a
  | inr b ↦ leaf_there (statement.Package x) rest p (in_file rest path p b f)
]
in_file (Leaf x rest) path p c f = leaf_there x rest p (in_file rest path p c f)
in_file (Block (header.Message h) i within j rest) path p c f = elim (contains_cases (place path (Token h.name) kind.Message) p _ c) [
  | inl e ↦ (let bad = kind_is (place path (Token h.name) kind.Message) p e f in absurd cc)
  | inr d ↦ elim (Contains-append_cases (all_placed (path ++ Token h.name ∷ []) (members_in within)) (items_placed path (items_in rest)) p d) [
    | inl a ↦ in_message h i within j rest p (in_members within (path ++ Token h.name ∷ []) p a f)
    | inr b ↦ block_there (header.Message h) i within j rest p (in_file rest path p b f)
  ]
]
in_file (Block (header.Enum h) i within j rest) path p c f = elim (contains_cases (place path (Token h.name) kind.Enum) p _ c) [
  | inl e ↦ (let bad = kind_is (place path (Token h.name) kind.Enum) p e f in absurd cc)
  | inr d ↦ elim (Contains-append_cases (map (λ i. place path (Token i) kind.Value) (picked value_names no_names within)) (items_placed path (items_in rest)) p d) [
    | inl a ↦ no_beside path kind.Value (picked value_names no_names within) p value_apart f a
    | inr b ↦ block_there (header.Enum h) i within j rest p (in_file rest path p b f)
  ]
]
in_file (Block (header.Service h) i within j rest) path p c f = elim (contains_cases (place path (Token h.name) kind.Service) p _ c) [
  | inl e ↦ (let bad = kind_is (place path (Token h.name) kind.Service) p e f in absurd cc)
  | inr d ↦ elim (Contains-append_cases (map (λ i. place (path ++ Token h.name ∷ []) (Token i) kind.Method) (picked method_names block_names within)) (items_placed path (items_in rest)) p d) [
    | inl a ↦ no_beside (path ++ Token h.name ∷ []) kind.Method (picked method_names block_names within) p method_apart f a
    | inr b ↦ block_there (header.Service h) i within j rest p (in_file rest path p b f)
  ]
]
in_file (Block (header.Extend e) i within j rest) path p c f = elim (Contains-append_cases (placed path (extend (picked field_names no_names within))) (items_placed path (items_in rest)) p c) [
  | inl a ↦ no_extension path within p f a
  | inr b ↦ block_there (header.Extend e) i within j rest p (in_file rest path p b f)
]
in_file (Block whole i within j rest) path p c f = block_there whole i within j rest p (in_file rest path p c f)

pub fields_are_there : FieldsAreThere
fields_are_there files reads file p within c f =
    let items : Items = items_in (read_at reads file).tree in
    let h = in_file (read_at reads file).tree (map (λ t. Token t) (package_of items)) p c f in
    let r = h.2 in (
      record { file = file; statement = r.s; oneof = r.o; name = h.0; number = r.number },
      record { within = within; stands = r.stands; declares = r.is },
      refl,
      h.1,
    )

-- ---- one field a token

same_number : (s : Statement) (name number other : ℕ) → IsFieldOf s name number → IsFieldOf s name other → number ≡ other
same_number (statement.Field f) name number other a b = sym a.1 ∙ b.1
same_number (statement.MapField f) name number other a b = sym a.1 ∙ b.1
same_number whole name number other a b = absurd a

abbrev made : ℕ → Statement → Option ℕ → ℕ → ℕ → FieldAt
made file s o name number = record { file = file; statement = s; oneof = o; name = name; number = number }

pub fields_are_one : FieldsStandOnce → FieldsAreOne
fields_are_one law files reads f g read a b same_file same_name =
    let stands : StandsAt g.statement g.oneof (read_at reads f.file).tree = subst (λ (k : ℕ). StandsAt g.statement g.oneof (read_at reads k).tree) (sym same_file) b.stands in
    let declares : IsFieldOf g.statement f.name g.number = subst (λ (n : ℕ). IsFieldOf g.statement n g.number) (sym same_name) b.declares in
    let one = law (file_at files f.file).profile (file_at files f.file).bytes (read_at reads f.file).tokens (read_at reads f.file).tree f.statement g.statement f.oneof g.oneof f.name f.number g.number (read.trees f.file a.within) a.stands stands a.declares declares in
    let number : f.number ≡ g.number = same_number g.statement f.name f.number g.number (subst (λ (s : Statement). IsFieldOf s f.name f.number) one.0 a.declares) declares in
    parts f g same_file one.0 one.1 same_name number
  where
    parts : (f g : FieldAt) → f.file ≡ g.file → f.statement ≡ g.statement → f.oneof ≡ g.oneof → f.name ≡ g.name → f.number ≡ g.number → f ≡ g
    parts f g a b c d e =
        ap (λ (x : ℕ). made x f.statement f.oneof f.name f.number) a ∙ ap (λ (x : Statement). made g.file x f.oneof f.name f.number) b ∙ ap (λ (x : Option ℕ). made g.file g.statement x f.name f.number) c
        ∙ ap (λ (x : ℕ). made g.file g.statement g.oneof x f.number) d ∙ ap (λ (x : ℕ). made g.file g.statement g.oneof g.name x) e
