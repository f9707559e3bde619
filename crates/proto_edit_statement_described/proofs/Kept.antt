-- Moved indices stay apart, and the version of a file stays (for the crates above).
use Rattle.std.proofs.Common.{◌≡◌, ℕ, ◌+◌, ◌-◌, ◌<◌, ◌≤◌, ◌⊎◌, inl, inr, Bool, ◌||◌, List, refl, sym, ap, ◌∙◌, arith, ltb, codes, bytes_eq, lt-ltb, le-ltb}
use Rattle.proto_base.proofs.Common.{list_any, cases_lt, cond-true, cond-false}
use Rattle.proto_text.specs.Segments.{moved}
use Rattle.proto_tree.specs.declared.piece.Statement.{Statement}
use Rattle.proto_tree.specs.declared.piece.Statement.TheVariants as statement
use Rattle.proto_tree.proofs.Common.{Move, move_statement, move_tree, Tree, End, Leaf, Block}
use Rattle.proto_ast.proofs.Common.{statements, is_proto3, is_proto3_statement}
use Rattle.proto_desc_checks_laws.proofs.Common.{without_imports, any_kept, statements_moved}
use Rattle.proto_edit_statement_described.specs.Kept.{DeletionsKeepVersions, ImportsKeepVersions, NewTokensAreOwn, OthersKeepApart}
use Rattle.proto_edit_statement_described.proofs.Parts.{outer_statements}

-- ---- moved indices

in_front : (place n k : ℕ) → k < place → moved place place n k ≡ k
in_front place n k lt = cond-true (ltb k place) k ((k - place) + (place + n)) (lt-ltb k place lt)

behind : (place n k : ℕ) → place ≤ k → moved place place n k ≡ k + n
behind place n k ge = cond-false (ltb k place) k ((k - place) + (place + n)) (le-ltb k place ge) ∙ (omega (arith, ge))

pub others_keep_apart : OthersKeepApart
others_keep_apart place n i j e = go (cases_lt i place) (cases_lt j place)
  where
    go : (i < place) ⊎ (place ≤ i) → (j < place) ⊎ (place ≤ j) → i ≡ j
    go (inl a) (inl b) = sym (in_front place n i a) ∙ e ∙ in_front place n j b
    go (inl a) (inr b) = absurd (omega (arith, sym (in_front place n i a) ∙ e ∙ behind place n j b, a, b))
    go (inr a) (inl b) = absurd (omega (arith, sym (behind place n i a) ∙ e ∙ in_front place n j b, a, b))
    go (inr a) (inr b) = omega (arith, sym (behind place n i a) ∙ e ∙ behind place n j b)

pub new_tokens_are_own : NewTokensAreOwn
new_tokens_are_own place n token i low high e = go (cases_lt i place)
  where
    go : (i < place) ⊎ (place ≤ i) → ⊥
    go (inl a) = absurd (omega (arith, sym (in_front place n i a) ∙ e, a, low))
    go (inr a) = absurd (omega (arith, sym (behind place n i a) ∙ e, a, high))

-- ---- versions

one_statement : (g : Move) (before after : ℕ → List ℕ) → ((i : ℕ) → after (g i) ≡ before i) → (s : Statement) → is_proto3_statement after (move_statement g s) ≡ is_proto3_statement before s
one_statement g before after e (statement.Syntax s) = ap (λ (w : List ℕ). bytes_eq w (codes "proto3")) (e s.text)
one_statement g before after e _ = refl

moved_version : (g : Move) (before after : ℕ → List ℕ) → ((i : ℕ) → after (g i) ≡ before i) → (t : Tree) → is_proto3 after (move_tree g t) ≡ is_proto3 before t
moved_version g before after e t =
    ap (list_any (is_proto3_statement after)) (statements_moved g t) ∙ any_kept (move_statement g) (is_proto3_statement before) (is_proto3_statement after) (one_statement g before after e) (statements t)

-- imports do not say it
version_without : (v : ℕ → List ℕ) (t : Tree) → is_proto3 v (without_imports t) ≡ is_proto3 v t
version_without v End = refl
version_without v (Leaf (statement.Syntax s) rest) = ap (λ (b : Bool). is_proto3_statement v (statement.Syntax s) || b) (version_without v rest)
version_without v (Leaf _ rest) = version_without v rest
version_without v (Block h i within j rest) = version_without v rest

pub imports_keep_versions : ImportsKeepVersions
imports_keep_versions g before after s t e h =
    sym (version_without after t) ∙ ap (is_proto3 after) h ∙ moved_version g before after e (without_imports s) ∙ version_without before s

pub deletions_keep_versions : DeletionsKeepVersions
deletions_keep_versions g k between before after w r x t u old new sw =
    let ss = outer_statements g k w r x t u sw in
    ap (list_any (is_proto3_statement after)) ss.1 ∙ moved_version k between after new x
    ∙ sym (ap (list_any (is_proto3_statement before)) ss.0 ∙ moved_version g between before old x)
