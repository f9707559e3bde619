-- The tokens of a stretch of marks: they are numbered in order, and each is what its place wants.
use Rattle.std.proofs.Common.{◌≡◌, ℕ, suc, ◌+◌, ◌<◌, ◌≤◌, List, [], ◌∷◌, ◌++◌, length, refl, ap, subst, inl, inr, arith, length-append, Contains}
use Rattle.proto_tree.specs.declared.class.Class.{Class}
use Rattle.proto_tree.specs.declared.class.Class.TheVariants as class
use Rattle.proto_tree.specs.declared.class.Expected.{Expected}
use Rattle.proto_tree.specs.declared.class.Expected.TheVariants as want
use Rattle.proto_tree.specs.declared.piece.Statement.{Statement}
use Rattle.proto_tree.specs.declared.piece.Heading.{Heading}
use Rattle.proto_tree.specs.declared.piece.Header.{Header}
use Rattle.proto_tree.proofs.Common.{Mark, mark, one, flat_statement, flat_heading, flat_header, Numbered, Tree, Leaf, Block, flat}
use Rattle.proto_base.proofs.Lists.{contains_head, contains_later, contains_cases}
use Rattle.proto_names_rules.proofs.RisingLists.{Spreads}

module _ (W R S : ℕ → Type 0) where
  -- what is known of a token by what its place wants: W of a name, R of a word of a reference, S of a string
  abbrev pub Known : Expected → ℕ → Type 0
  Known (want.One class.Name) i = R i
  Known want.Word i = R i
  Known want.Name i = W i
  Known want.ValueName i = W i
  Known want.Text i = S i
  Known _ i = Unit {0}

  abbrev pub Are : ℕ → List Mark → Type 0
  Are n [] = Unit {0}
  Are n (m ∷ ms) = (m.at ≡ n) × Known m.want m.at × Are (n + 1) ms

  pub are_from : (n : ℕ) (ms : List Mark) → Numbered n ms → ((m : Mark) → Contains ms m → Known m.want m.at) → Are n ms
  are_from n [] num f = tt
  are_from n (m ∷ ms) num f =
      let e : suc n ≡ n + 1 = omega arith in
      (num.0, f m (contains_head m ms), subst (λ (k : ℕ). Are k ms) e (are_from (suc n) ms num.1 (λ x c. f x (contains_later m x ms c))))

  pub are_numbered : (n : ℕ) (ms : List Mark) → Are n ms → Numbered n ms
  are_numbered n [] a = tt
  are_numbered n (m ∷ ms) a = let e : n + 1 ≡ suc n = omega arith in (a.0, subst (λ (k : ℕ). Numbered k ms) e (are_numbered (n + 1) ms a.2))

  pub are_left : (n : ℕ) (xs ys : List Mark) → Are n (xs ++ ys) → Are n xs
  are_left n [] ys a = tt
  are_left n (x ∷ xs) ys a = (a.0, a.1, are_left (n + 1) xs ys a.2)

  pub are_right : (n : ℕ) (xs ys : List Mark) → Are n (xs ++ ys) → Are (n + length xs) ys
  are_right n [] ys a = let e : n ≡ n + 0 = omega arith in subst (λ (k : ℕ). Are k ys) e a
  are_right n (x ∷ xs) ys a = let e : (n + 1) + length xs ≡ n + suc (length xs) = omega arith in subst (λ (k : ℕ). Are k ys) e (are_right (n + 1) xs ys a.2)

  pub are_at : (n : ℕ) (ms : List Mark) (m : Mark) → Are n ms → Contains ms m → (n ≤ m.at) × (m.at < n + length ms) × Known m.want m.at
  are_at n [] m a c = absurd (omega (arith, c.1))
  are_at n (x ∷ ms) m a c = elim (contains_cases x m ms c) [
    | inl e ↦ let at : x.at ≡ m.at = ap (λ (z : Mark). z.at) e in (omega (arith, a.0, at), omega (arith, a.0, at), subst (λ (z : Mark). Known z.want z.at) e a.1)
    | inr d ↦ let r = are_at (n + 1) ms m a.2 d in (omega (arith, r.0), omega (arith, r.1), r.2)
  ]

  -- the name behind a keyword
  pub heading_at : (c : Class) (h : Heading) (n next : ℕ) → Are n (flat_heading c h) → n + length (flat_heading c h) ≤ next → (n ≤ h.name) × (h.name < next) × W h.name
  heading_at c h n next a le = let r = are_at n (flat_heading c h) (mark want.Name h.name) a (1, omega arith, refl) in (r.0, omega (arith, r.1, le), r.2)

  -- ---- a tree by its first statement or block

  module _ {X : Type 0} (Q : ℕ → ℕ → List X → Type 0) (law : Spreads Q) where
    pub leaf_step : (s : Statement) (rest : Tree) (n hi : ℕ) (xs ys : List X) → Are n (flat (Leaf s rest)) → hi ≡ n + length (flat (Leaf s rest))
        → (Are n (flat_statement s) → Q n (n + length (flat_statement s)) xs) → ((c : ℕ) → Are c (flat rest) → hi ≡ c + length (flat rest) → Q c hi ys) → Q n hi (xs ++ ys)
    leaf_step s rest n hi xs ys a e first more =
        let l = length-append (flat_statement s) (flat rest) in
        let c = n + length (flat_statement s) in
        law.append xs ys n c c hi (omega arith) (first (are_left n (flat_statement s) (flat rest) a)) (more c (are_right n (flat_statement s) (flat rest) a) (omega (arith, e, l)))

    -- the header from n on, what is between the braces from a place behind it
    pub block_step : (h : Header) (opens : ℕ) (within : Tree) (closes : ℕ) (rest : Tree) (n hi : ℕ) (xs ys : List X) → Are n (flat (Block h opens within closes rest)) → hi ≡ n + length (flat (Block h opens within closes rest))
        → ((a b : ℕ) → Are n (flat_header h) → n + length (flat_header h) ≤ a → Are a (flat within) → b ≡ a + length (flat within) → Q n b xs) → ((c : ℕ) → Are c (flat rest) → hi ≡ c + length (flat rest) → Q c hi ys) → Q n hi (xs ++ ys)
    block_step h i within j rest n hi xs ys are e first more =
        let l1 = length-append (flat_header h) (one class.Open i) in
        let l2 = length-append (flat within) (one class.Close j ++ flat rest) in
        let l3 = length-append (flat_header h ++ one class.Open i) (flat within ++ (one class.Close j ++ flat rest)) in
        let a = n + length (flat_header h ++ one class.Open i) in
        let b = a + length (flat within) in
        let head = are_left n (flat_header h) (one class.Open i) (are_left n (flat_header h ++ one class.Open i) (flat within ++ (one class.Close j ++ flat rest)) are) in
        let behind = are_right n (flat_header h ++ one class.Open i) (flat within ++ (one class.Close j ++ flat rest)) are in
        let inner = are_left a (flat within) (one class.Close j ++ flat rest) behind in
        let last = are_right a (flat within) (one class.Close j ++ flat rest) behind in
        law.append xs ys n b (b + 1) hi (omega arith) (first a b head (omega (arith, l1)) inner refl) (more (b + 1) last.2 (omega (arith, e, l2, l3)))
