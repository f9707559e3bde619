-- A token names the field of one statement (for the crates above).
use Rattle.std.proofs.Common.{◌≡◌, ◌⊎◌, inl, inr, ℕ, ◌+◌, ◌≤◌, Option, List, [], ◌∷◌, ◌++◌, length, refl, subst, arith, length-append, Contains}
use Rattle.proto_base.proofs.Common.{Contains-append_right, contains_head, contains_later}
use Rattle.proto_tree.specs.declared.class.Class.TheVariants as class
use Rattle.proto_tree.specs.declared.class.Expected.TheVariants as want
use Rattle.proto_tree.specs.declared.piece.Header.TheVariants as header
use Rattle.proto_tree.specs.declared.piece.Statement.{Statement}
use Rattle.proto_tree.specs.declared.piece.Statement.TheVariants as statement
use Rattle.proto_tree.proofs.Common.{Mark, mark, only, one, flat_option, flat_type, flat_settings, flat_header, flat_statement, Tree, End, Block, flat, numbered_at}
use Rattle.proto_edit_statement_laws.specs.Deletions.{FieldsStandOnce}
use Rattle.proto_edit_rules.specs.DeleteField.{IsFieldOf, StandsAt, InMessage, InOneof, Deeper, PastLeaf, PastBlock}
use Rattle.proto_edit_rules.specs.Statements.{StandsIn, First, AfterLeaf, AfterBlock, first_token}
use Rattle.proto_edit_statement_laws.proofs.Found.{found}
use Rattle.proto_edit_statement_laws.proofs.TakenOut.{before_field, before_it, block_long, stands_within}

-- ---- two statements are one, or one stands before the other

-- m tokens from a on, and n tokens from b on
abbrev AreApart : ℕ → ℕ → ℕ → ℕ → Type 0
AreApart a m b n = (a + m ≤ b) ⊎ (b + n ≤ a)

shifted : {P : Type 0} (k a m b n a' b' : ℕ) → a' ≡ k + a → b' ≡ k + b → P ⊎ AreApart a m b n → P ⊎ AreApart a' m b' n
shifted k a m b n a' b' e f (inl p) = inl p
shifted k a m b n a' b' e f (inr (inl le)) = inr (inl (omega (arith, le, e, f)))
shifted k a m b n a' b' e f (inr (inr le)) = inr (inr (omega (arith, le, e, f)))

in_in : {s x : Statement} (t : Tree) (h : StandsIn s t) (k : StandsIn x t) → (s ≡ x) ⊎ AreApart (before_it h) (length (flat_statement s)) (before_it k) (length (flat_statement x))
in_in _ (First rest) (First _) = inl refl
in_in _ (First rest) (AfterLeaf _ _ k) = inr (inl (omega arith))
in_in _ (AfterLeaf _ rest h) (First _) = inr (inr (omega arith))
in_in {s} {x} _ (AfterLeaf y rest h) (AfterLeaf _ _ k) = shifted (length (flat_statement y)) (before_it h) (length (flat_statement s)) (before_it k) (length (flat_statement x)) _ _ refl refl (in_in rest h k)
in_in {s} {x} _ (AfterBlock y i within j rest h) (AfterBlock _ _ _ _ _ k) = shifted (length (flat (Block y i within j End))) (before_it h) (length (flat_statement s)) (before_it k) (length (flat_statement x)) _ _ refl refl (in_in rest h k)

at_within : {s : Statement} {o : Option ℕ} (t : Tree) (h : StandsAt s o t) → before_field h + length (flat_statement s) ≤ length (flat t)
at_within _ (InMessage h i within j rest at) = let r = stands_within within at in omega (arith, r, block_long (header.Message h) i within j rest)
at_within _ (InOneof h i within j rest at) = let r = stands_within within at in omega (arith, r, block_long (header.Oneof h) i within j rest)
at_within _ (Deeper _ h i within j rest at) = let r = at_within within at in omega (arith, r, block_long (header.Message h) i within j rest)
at_within _ (PastLeaf _ x rest at) = let r = at_within rest at in omega (arith, r, length-append (flat_statement x) (flat rest))
at_within _ (PastBlock _ h i within j rest at) = let r = at_within rest at in omega (arith, r, block_long h i within j rest, block_long h i within j End)

-- one right among the items, the other further in
in_at : {s x : Statement} {p : Option ℕ} (t : Tree) (h : StandsIn s t) (k : StandsAt x p t) → AreApart (before_it h) (length (flat_statement s)) (before_field k) (length (flat_statement x))
in_at _ (First rest) (PastLeaf _ _ _ k) = inl (omega arith)
in_at _ (AfterLeaf y rest h) (PastLeaf _ _ _ k) = elim (in_at rest h k) [
  | inl le ↦ inl (omega (arith, le))
  | inr le ↦ inr (omega (arith, le))
]
in_at _ (AfterBlock _ _ _ _ rest h) (InMessage g i within j _ at) = let r = stands_within within at in inr (omega (arith, r, block_long (header.Message g) i within j End))
in_at _ (AfterBlock _ _ _ _ rest h) (InOneof g i within j _ at) = let r = stands_within within at in inr (omega (arith, r, block_long (header.Oneof g) i within j End))
in_at _ (AfterBlock _ _ _ _ rest h) (Deeper _ g i within j _ at) = let r = at_within within at in inr (omega (arith, r, block_long (header.Message g) i within j End))
in_at _ (AfterBlock y i within j rest h) (PastBlock _ _ _ _ _ _ k) = elim (in_at rest h k) [
  | inl le ↦ inl (omega (arith, le))
  | inr le ↦ inr (omega (arith, le))
]

abbrev AreOne : Statement → Statement → Option ℕ → Option ℕ → Type 0
AreOne s x o p = (s ≡ x) × (o ≡ p)

-- in one list of items
same_list : {s x : Statement} {o : Option ℕ} (a b : ℕ) → (s ≡ x) ⊎ AreApart a (length (flat_statement s)) b (length (flat_statement x)) → AreOne s x o o ⊎ AreApart a (length (flat_statement s)) b (length (flat_statement x))
same_list a b (inl e) = inl (e, refl)
same_list a b (inr apart) = inr apart

flipped : (a m b n : ℕ) → AreApart a m b n → AreApart b n a m
flipped a m b n (inl le) = inr le
flipped a m b n (inr le) = inl le

at_at : {s x : Statement} {o p : Option ℕ} (t : Tree) (h : StandsAt s o t) (k : StandsAt x p t) → AreOne s x o p ⊎ AreApart (before_field h) (length (flat_statement s)) (before_field k) (length (flat_statement x))
at_at {s} {x} _ (InMessage g i within j rest at) (InMessage _ _ _ _ _ k) =
    shifted (length (flat_header (header.Message g) ++ one class.Open i)) (before_it at) (length (flat_statement s)) (before_it k) (length (flat_statement x)) _ _ refl refl (same_list (before_it at) (before_it k) (in_in within at k))
at_at {s} {x} _ (InMessage g i within j rest at) (Deeper _ _ _ _ _ _ k) =
    shifted (length (flat_header (header.Message g) ++ one class.Open i)) (before_it at) (length (flat_statement s)) (before_field k) (length (flat_statement x)) _ _ refl refl (inr (in_at within at k))
at_at _ (InMessage g i within j rest at) (PastBlock _ _ _ _ _ _ k) = let r = stands_within within at in inr (inl (omega (arith, r, block_long (header.Message g) i within j End)))
at_at {s} {x} _ (InOneof g i within j rest at) (InOneof _ _ _ _ _ k) =
    shifted (length (flat_header (header.Oneof g) ++ one class.Open i)) (before_it at) (length (flat_statement s)) (before_it k) (length (flat_statement x)) _ _ refl refl (same_list (before_it at) (before_it k) (in_in within at k))
at_at _ (InOneof g i within j rest at) (PastBlock _ _ _ _ _ _ k) = let r = stands_within within at in inr (inl (omega (arith, r, block_long (header.Oneof g) i within j End)))
at_at {s} {x} _ (Deeper _ g i within j rest h) (InMessage _ _ _ _ _ k) =
    shifted (length (flat_header (header.Message g) ++ one class.Open i)) (before_field h) (length (flat_statement s)) (before_it k) (length (flat_statement x)) _ _ refl refl (inr (flipped (before_it k) (length (flat_statement x)) (before_field h) (length (flat_statement s)) (in_at within k h)))
at_at {s} {x} _ (Deeper _ g i within j rest h) (Deeper _ _ _ _ _ _ k) =
    shifted (length (flat_header (header.Message g) ++ one class.Open i)) (before_field h) (length (flat_statement s)) (before_field k) (length (flat_statement x)) _ _ refl refl (at_at within h k)
at_at _ (Deeper _ g i within j rest h) (PastBlock _ _ _ _ _ _ k) = let r = at_within within h in inr (inl (omega (arith, r, block_long (header.Message g) i within j End)))
at_at {s} {x} _ (PastLeaf _ y rest h) (PastLeaf _ _ _ k) = shifted (length (flat_statement y)) (before_field h) (length (flat_statement s)) (before_field k) (length (flat_statement x)) _ _ refl refl (at_at rest h k)
at_at _ (PastBlock _ _ _ _ _ rest h) (InMessage g i within j _ at) = let r = stands_within within at in inr (inr (omega (arith, r, block_long (header.Message g) i within j End)))
at_at _ (PastBlock _ _ _ _ _ rest h) (InOneof g i within j _ at) = let r = stands_within within at in inr (inr (omega (arith, r, block_long (header.Oneof g) i within j End)))
at_at _ (PastBlock _ _ _ _ _ rest h) (Deeper _ g i within j _ k) = let r = at_within within k in inr (inr (omega (arith, r, block_long (header.Message g) i within j End)))
at_at {s} {x} _ (PastBlock _ y i within j rest h) (PastBlock _ _ _ _ _ _ k) =
    shifted (length (flat (Block y i within j End))) (before_field h) (length (flat_statement s)) (before_field k) (length (flat_statement x)) _ _ refl refl (at_at rest h k)

-- ---- the name of a field is a token of its statement

pub name_mark : (s : Statement) (name number : ℕ) → IsFieldOf s name number → Contains (flat_statement s) (mark want.Name name)
name_mark (statement.Field f) name number is =
    let m : Mark = mark want.Name f.name in
    let tail : List Mark = one class.Equals f.equals ++ (one class.Number f.number ++ (flat_option flat_settings f.settings ++ one class.Semicolon f.semicolon)) in
    subst (λ (n : ℕ). Contains (flat_statement (statement.Field f)) (mark want.Name n)) is.0
    (Contains-append_right (flat_option (only want.Label) f.label) (flat_type f.kind ++ (m ∷ tail)) m (Contains-append_right (flat_type f.kind) (m ∷ tail) m (contains_head m tail)))
name_mark (statement.MapField f) name number is =
    let m : Mark = mark want.Name f.name in
    let tail : List Mark = one class.Equals f.equals ++ (one class.Number f.number ++ (flat_option flat_settings f.settings ++ one class.Semicolon f.semicolon)) in
    let front : List Mark = mark (want.One class.Map) f.keyword ∷ mark (want.One class.Less) f.«open» ∷ mark (want.One class.Scalar) f.key ∷ mark (want.One class.Comma) f.comma ∷ [] in
    let greater : Mark = mark (want.One class.Greater) f.close in
    subst (λ (n : ℕ). Contains (flat_statement (statement.MapField f)) (mark want.Name n)) is.0
    (Contains-append_right front (flat_type f.value ++ (greater ∷ m ∷ tail)) m (Contains-append_right (flat_type f.value) (greater ∷ m ∷ tail) m (contains_later greater m (m ∷ tail) (contains_head m tail))))
name_mark whole name number is = absurd is

pub fields_stand_once : FieldsStandOnce
fields_stand_once profile text tokens t s x o p name number other reads h k is_s is_x = elim (at_at t h k) [
  | inl e ↦ e
  | inr apart ↦ absurd (both apart)
]
  where
    both : AreApart (before_field h) (length (flat_statement s)) (before_field k) (length (flat_statement x)) → ⊥
    both apart =
        let a = found profile text tokens t s reads h in
        let b = found profile text tokens t x reads k in
        let c = name_mark s name number is_s in
        let d = name_mark x name other is_x in
        let name_a = numbered_at (first_token s) (flat_statement s) (mark want.Name name) a.marks c in
        let name_b = numbered_at (first_token x) (flat_statement x) (mark want.Name name) b.marks d in
        let below_a = c.1 in
        let below_b = d.1 in
        let at_a = a.at in
        let at_b = b.at in
        elim apart [
          | inl le ↦ omega (arith, le, name_a, name_b, below_a, below_b, at_a, at_b)
          | inr le ↦ omega (arith, le, name_a, name_b, below_a, below_b, at_a, at_b)
        ]
