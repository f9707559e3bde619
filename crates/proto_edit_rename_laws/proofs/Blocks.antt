-- Each enum's value, and each enum's name, is a token of one block (for the crates above).
use Rattle.std.proofs.Common.{◌≡◌, ℕ, suc, ◌+◌, ◌<◌, ◌≤◌, ◌⊎◌, true, List, [], ◌∷◌, ◌++◌, length, sym, ap, subst, ◌∙◌, inl, inr, arith, length-append, Contains, eqb-true}
use Rattle.proto_base.proofs.Common.{Contains-append_cases, contains_cases}
use Rattle.proto_tree.specs.declared.tree.Value.{Value}
use Rattle.proto_tree.specs.declared.piece.Statement.{Statement}
use Rattle.proto_tree.specs.declared.piece.Header.{Header}
use Rattle.proto_tree.proofs.Common.{Mark, one, flat_statement, flat_header, Numbered, Tree, End, Leaf, Block, flat}
use Rattle.proto_tree.specs.declared.class.Class.TheVariants as class
use Rattle.proto_tree.specs.declared.piece.Statement.TheVariants as statement
use Rattle.proto_tree.specs.declared.piece.Header.TheVariants as header
use Rattle.proto_ast.specs.Parts.{BlockOf, blocks_in, statement_values, values_in}
use Rattle.proto_resolved.specs.SceneOf.{is_enum_at}

abbrev block_with : Header → Tree → BlockOf
block_with h t = record { header = h; within = t }

num_left : (n : ℕ) (xs ys : List Mark) → Numbered n (xs ++ ys) → Numbered n xs
num_left n [] ys h = tt
num_left n (x ∷ xs) ys h = (h.0, num_left (suc n) xs ys h.1)

num_right : (n : ℕ) (xs ys : List Mark) → Numbered n (xs ++ ys) → Numbered (n + length xs) ys
num_right n [] ys h = let e : n ≡ n + 0 = omega arith in subst (λ k. Numbered k ys) e h
num_right n (x ∷ xs) ys h = let e : suc n + length xs ≡ n + suc (length xs) = omega arith in subst (λ k. Numbered k ys) e (num_right (suc n) xs ys h.1)

num_in : (n : ℕ) (ms : List Mark) (m : Mark) → Numbered n ms → Contains ms m → (n ≤ m.at) × (m.at < n + length ms)
num_in n [] m h c = absurd (omega (arith, c.1))
num_in n (x ∷ ms) m h c = elim (contains_cases x m ms c) [
  | inl e ↦ (let a : x.at ≡ m.at = ap (λ (z : Mark). z.at) e in let b = h.0 in (omega (arith, a, b), omega (arith, a, b)))
  | inr d ↦ (let r = num_in (suc n) ms m h.1 d in (omega (arith, r.0), omega (arith, r.1)))
]

-- where the parts of a block stand
record Stands (n : ℕ) (h : Header) (i : ℕ) (within : Tree) (j : ℕ) (rest : Tree) : Type 0 where
  a : ℕ
  r : ℕ
  head : Numbered n (flat_header h)
  headed : n + length (flat_header h) ≤ a
  inner : Numbered a (flat within)
  gap : a + length (flat within) ≤ r
  behind : Numbered r (flat rest)
  all : r + length (flat rest) ≡ n + length (flat (Block h i within j rest))

block_stands : (n : ℕ) (h : Header) (i : ℕ) (within : Tree) (j : ℕ) (rest : Tree) → Numbered n (flat (Block h i within j rest)) → Stands n h i within j rest
block_stands n h i within j rest x =
    let front = flat_header h ++ one class.Open i in
    let tail = one class.Close j ++ flat rest in
    let l1 = length-append (flat_header h) (one class.Open i) in
    let l2 = length-append (flat within) (one class.Close j ++ flat rest) in
    let l3 = length-append (flat_header h ++ one class.Open i) (flat within ++ (one class.Close j ++ flat rest)) in
    let behind = num_right n (flat_header h ++ one class.Open i) (flat within ++ (one class.Close j ++ flat rest)) x in
    let more = num_right (n + length (flat_header h ++ one class.Open i)) (flat within) (one class.Close j ++ flat rest) behind in
    record {
      a = n + length (flat_header h ++ one class.Open i);
      r = suc ((n + length (flat_header h ++ one class.Open i)) + length (flat within));
      head = num_left n (flat_header h) (one class.Open i) (num_left n (flat_header h ++ one class.Open i) (flat within ++ (one class.Close j ++ flat rest)) x);
      headed = omega (arith, l1);
      inner = num_left (n + length (flat_header h ++ one class.Open i)) (flat within) (one class.Close j ++ flat rest) behind;
      gap = omega arith;
      behind = more.1;
      all = omega (arith, l1, l2, l3);
    }

value_in_statement : (s : Statement) (n : ℕ) (v : Value) → Numbered n (flat_statement s) → Contains (statement_values s) v → (n ≤ v.name) × (v.name < n + length (flat_statement s))
value_in_statement (statement.Value x) n v h c = elim (contains_cases x v [] c) [
  | inl e ↦ (let a : x.name ≡ v.name = ap (λ (z : Value). z.name) e in let b = h.0 in (omega (arith, a, b), omega (arith, a, b)))
  | inr d ↦ absurd (omega (arith, d.1))
]
value_in_statement _ n v h c = absurd (omega (arith, c.1))

-- the values of a tree stand in it
values_stand : (t : Tree) (n : ℕ) (v : Value) → Numbered n (flat t) → Contains (values_in t) v → (n ≤ v.name) × (v.name < n + length (flat t))
values_stand End n v h c = absurd (omega (arith, c.1))
values_stand (Leaf s rest) n v h c =
    let l = length-append (flat_statement s) (flat rest) in
    elim (Contains-append_cases (statement_values s) (values_in rest) v c) [
      | inl d ↦ (let r = value_in_statement s n v (num_left n (flat_statement s) (flat rest) h) d in (r.0, omega (arith, r.1, l)))
      | inr d ↦ (let r = values_stand rest (n + length (flat_statement s)) v (num_right n (flat_statement s) (flat rest) h) d in (omega (arith, r.0), omega (arith, r.1, l)))
    ]
values_stand (Block k i within j rest) n v h c =
    let s = block_stands n k i within j rest h in
    let r = values_stand rest s.r v s.behind c in
    let u1 = s.headed in
    let u2 = s.gap in
    let u3 = s.all in
    (omega (arith, r.0, u1, u2), omega (arith, r.1, u3))

-- and those of its blocks
block_values_stand : (t : Tree) (n : ℕ) (b : BlockOf) (v : Value) → Numbered n (flat t) → Contains (blocks_in t) b → Contains (values_in b.within) v → (n ≤ v.name) × (v.name < n + length (flat t))
block_values_stand End n b v h cb c = absurd (omega (arith, cb.1))
block_values_stand (Leaf s rest) n b v h cb c =
    let l = length-append (flat_statement s) (flat rest) in
    let r = block_values_stand rest (n + length (flat_statement s)) b v (num_right n (flat_statement s) (flat rest) h) cb c in
    (omega (arith, r.0), omega (arith, r.1, l))
block_values_stand (Block k i within j rest) n b v h cb c =
    let s = block_stands n k i within j rest h in
    let u1 = s.headed in
    let u2 = s.gap in
    let u3 = s.all in
    elim (contains_cases (record { header = k; within = within }) b (blocks_in within ++ blocks_in rest) cb) [
      | inl e ↦ (let r = values_stand within s.a v s.inner (subst (λ (z : BlockOf). Contains (values_in z.within) v) (sym e) c) in (omega (arith, r.0, u1), omega (arith, r.1, u2, u3)))
      | inr d ↦ elim (Contains-append_cases (blocks_in within) (blocks_in rest) b d) [
        | inl x ↦ (let r = block_values_stand within s.a b v s.inner x c in (omega (arith, r.0, u1), omega (arith, r.1, u2, u3)))
        | inr x ↦ (let r = block_values_stand rest s.r b v s.behind x c in (omega (arith, r.0, u1, u2), omega (arith, r.1, u3)))
      ]
    ]

-- the values right in a tree are not those of its blocks
values_apart : (t : Tree) (n : ℕ) (b : BlockOf) (v w : Value) → Numbered n (flat t) → Contains (values_in t) v → Contains (blocks_in t) b → Contains (values_in b.within) w → v.name ≡ w.name → ⊥
values_apart End n b v w h cv cb cw e = omega (arith, cb.1)
values_apart (Leaf s rest) n b v w h cv cb cw e =
    let m = num_right n (flat_statement s) (flat rest) h in
    elim (Contains-append_cases (statement_values s) (values_in rest) v cv) [
      | inl d ↦ (
          let x = value_in_statement s n v (num_left n (flat_statement s) (flat rest) h) d in
          let y = block_values_stand rest (n + length (flat_statement s)) b w m cb cw in
          omega (arith, x.1, y.0, e))
      | inr d ↦ values_apart rest (n + length (flat_statement s)) b v w m d cb cw e
    ]
values_apart (Block k i within j rest) n b v w h cv cb cw e =
    let s = block_stands n k i within j rest h in
    let u1 = s.headed in
    let u2 = s.gap in
    let here = values_stand rest s.r v s.behind cv in
    elim (contains_cases (record { header = k; within = within }) b (blocks_in within ++ blocks_in rest) cb) [
      | inl q ↦ (let r = values_stand within s.a w s.inner (subst (λ (z : BlockOf). Contains (values_in z.within) w) (sym q) cw) in omega (arith, r.1, here.0, u2, e))
      | inr d ↦ elim (Contains-append_cases (blocks_in within) (blocks_in rest) b d) [
        | inl x ↦ (let r = block_values_stand within s.a b w s.inner x cw in omega (arith, r.1, here.0, u2, e))
        | inr x ↦ values_apart rest s.r b v w s.behind cv x cw e
      ]
    ]

-- Blocks that share a value's token are one.
pub one_block : (t : Tree) (n : ℕ) (b d : BlockOf) (v w : Value) → Numbered n (flat t) → Contains (blocks_in t) b → Contains (blocks_in t) d → Contains (values_in b.within) v → Contains (values_in d.within) w → v.name ≡ w.name → b ≡ d
one_block End n b d v w h cb cd cv cw e = absurd (omega (arith, cb.1))
one_block (Leaf s rest) n b d v w h cb cd cv cw e = one_block rest (n + length (flat_statement s)) b d v w (num_right n (flat_statement s) (flat rest) h) cb cd cv cw e
one_block (Block k i within j rest) n b d v w h cb cd cv cw e =
    elim (sides b cb) [
      | inl x ↦ elim (sides d cd) [
        | inl y ↦ sym x ∙ y
        | inr (inl y) ↦ absurd (values_apart within s.a d v w s.inner (subst (λ (z : BlockOf). Contains (values_in z.within) v) (sym x) cv) y cw e)
        | inr (inr y) ↦ absurd (let p = values_stand within s.a v s.inner (subst (λ (z : BlockOf). Contains (values_in z.within) v) (sym x) cv) in let q = block_values_stand rest s.r d w s.behind y cw in omega (arith, p.1, q.0, s.gap, e))
      ]
      | inr (inl x) ↦ elim (sides d cd) [
        | inl y ↦ absurd (values_apart within s.a b w v s.inner (subst (λ (z : BlockOf). Contains (values_in z.within) w) (sym y) cw) x cv (sym e))
        | inr (inl y) ↦ one_block within s.a b d v w s.inner x y cv cw e
        | inr (inr y) ↦ absurd (let p = block_values_stand within s.a b v s.inner x cv in let q = block_values_stand rest s.r d w s.behind y cw in omega (arith, p.1, q.0, s.gap, e))
      ]
      | inr (inr x) ↦ elim (sides d cd) [
        | inl y ↦ absurd (let p = values_stand within s.a w s.inner (subst (λ (z : BlockOf). Contains (values_in z.within) w) (sym y) cw) in let q = block_values_stand rest s.r b v s.behind x cv in omega (arith, p.1, q.0, s.gap, e))
        | inr (inl y) ↦ absurd (let p = block_values_stand within s.a d w s.inner y cw in let q = block_values_stand rest s.r b v s.behind x cv in omega (arith, p.1, q.0, s.gap, e))
        | inr (inr y) ↦ one_block rest s.r b d v w s.behind x y cv cw e
      ]
    ]
  where
    s : Stands n k i within j rest
    s = block_stands n k i within j rest h

    sides : (x : BlockOf) → Contains (blocks_in (Block k i within j rest)) x → (block_with k within ≡ x) ⊎ (Contains (blocks_in within) x ⊎ Contains (blocks_in rest) x)
    sides x c = elim (contains_cases (record { header = k; within = within }) x (blocks_in within ++ blocks_in rest) c) [
      | inl e ↦ inl e
      | inr d ↦ inr (Contains-append_cases (blocks_in within) (blocks_in rest) x d)
    ]

-- ---- enums' names

enum_stands : (n m : ℕ) (h : Header) → Numbered n (flat_header h) → is_enum_at m h ≡ true → (n ≤ m) × (m < n + length (flat_header h))
enum_stands n m (header.Enum h) x e = (let a = eqb-true h.name m e in let b = x.1.0 in (omega (arith, a, b), omega (arith, a, b)))
enum_stands n m whole x e = absurd cc

enums_stand : (t : Tree) (n m : ℕ) (b : BlockOf) → Numbered n (flat t) → Contains (blocks_in t) b → is_enum_at m b.header ≡ true → (n ≤ m) × (m < n + length (flat t))
enums_stand End n m b h cb e = absurd (omega (arith, cb.1))
enums_stand (Leaf s rest) n m b h cb e =
    let l = length-append (flat_statement s) (flat rest) in
    let r = enums_stand rest (n + length (flat_statement s)) m b (num_right n (flat_statement s) (flat rest) h) cb e in
    (omega (arith, r.0), omega (arith, r.1, l))
enums_stand (Block k i within j rest) n m b h cb e =
    let s = block_stands n k i within j rest h in
    let u1 = s.headed in
    let u2 = s.gap in
    let u3 = s.all in
    elim (contains_cases (record { header = k; within = within }) b (blocks_in within ++ blocks_in rest) cb) [
      | inl q ↦ (let r = enum_stands n m k s.head (subst (λ (z : BlockOf). is_enum_at m z.header ≡ true) (sym q) e) in (r.0, omega (arith, r.1, u1, u2, u3)))
      | inr d ↦ elim (Contains-append_cases (blocks_in within) (blocks_in rest) b d) [
        | inl x ↦ (let r = enums_stand within s.a m b s.inner x e in (omega (arith, r.0, u1), omega (arith, r.1, u2, u3)))
        | inr x ↦ (let r = enums_stand rest s.r m b s.behind x e in (omega (arith, r.0, u1, u2), omega (arith, r.1, u3)))
      ]
    ]

-- Blocks of one enum's name are one.
pub one_named : (t : Tree) (n m : ℕ) (b d : BlockOf) → Numbered n (flat t) → Contains (blocks_in t) b → Contains (blocks_in t) d → is_enum_at m b.header ≡ true → is_enum_at m d.header ≡ true → b ≡ d
one_named End n m b d h cb cd eb ed = absurd (omega (arith, cb.1))
one_named (Leaf s rest) n m b d h cb cd eb ed = one_named rest (n + length (flat_statement s)) m b d (num_right n (flat_statement s) (flat rest) h) cb cd eb ed
one_named (Block k i within j rest) n m b d h cb cd eb ed =
    elim (sides b cb) [
      | inl x ↦ elim (sides d cd) [
        | inl y ↦ sym x ∙ y
        | inr (inl y) ↦ absurd (let p = own b x eb in let q = enums_stand within s.a m d s.inner y ed in omega (arith, p.1, q.0, s.headed))
        | inr (inr y) ↦ absurd (let p = own b x eb in let q = enums_stand rest s.r m d s.behind y ed in omega (arith, p.1, q.0, s.headed, s.gap))
      ]
      | inr (inl x) ↦ elim (sides d cd) [
        | inl y ↦ absurd (let p = own d y ed in let q = enums_stand within s.a m b s.inner x eb in omega (arith, p.1, q.0, s.headed))
        | inr (inl y) ↦ one_named within s.a m b d s.inner x y eb ed
        | inr (inr y) ↦ absurd (let p = enums_stand within s.a m b s.inner x eb in let q = enums_stand rest s.r m d s.behind y ed in omega (arith, p.1, q.0, s.gap))
      ]
      | inr (inr x) ↦ elim (sides d cd) [
        | inl y ↦ absurd (let p = own d y ed in let q = enums_stand rest s.r m b s.behind x eb in omega (arith, p.1, q.0, s.headed, s.gap))
        | inr (inl y) ↦ absurd (let p = enums_stand within s.a m d s.inner y ed in let q = enums_stand rest s.r m b s.behind x eb in omega (arith, p.1, q.0, s.gap))
        | inr (inr y) ↦ one_named rest s.r m b d s.behind x y eb ed
      ]
    ]
  where
    s : Stands n k i within j rest
    s = block_stands n k i within j rest h

    own : (x : BlockOf) → block_with k within ≡ x → is_enum_at m x.header ≡ true → (n ≤ m) × (m < n + length (flat_header k))
    own x q e = enum_stands n m k s.head (subst (λ (z : BlockOf). is_enum_at m z.header ≡ true) (sym q) e)

    sides : (x : BlockOf) → Contains (blocks_in (Block k i within j rest)) x → (block_with k within ≡ x) ⊎ (Contains (blocks_in within) x ⊎ Contains (blocks_in rest) x)
    sides x c = elim (contains_cases (record { header = k; within = within }) x (blocks_in within ++ blocks_in rest) c) [
      | inl e ↦ inl e
      | inr d ↦ inr (Contains-append_cases (blocks_in within) (blocks_in rest) x d)
    ]
