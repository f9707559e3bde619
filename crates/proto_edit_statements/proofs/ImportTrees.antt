-- The first import of a path in trees that stand one behind another.
use Rattle.std.proofs.Common.{◌≡◌, ℕ, Bool, true, false, Option, Some, None, refl, sym, ap, subst, ◌∙◌, inl, inr}
use Rattle.proto_base.proofs.Common.{cases_Bool, cond-false, cond-true, none-some, same_Some}
use Rattle.proto_tree.specs.declared.piece.Statement.{Statement}
use Rattle.proto_tree.specs.declared.piece.Statement.TheVariants as statement
use Rattle.proto_tree.specs.declared.tree.Import.{Import}
use Rattle.proto_tree.specs.Tree.{Tree, End, Leaf, Block, joined_trees}
use Rattle.proto_edit_rules.specs.Statements.{AfterBlock, AfterLeaf, First, StandsIn}
use Rattle.proto_edit_statements.specs.FieldPlaces.{or_else}
use Rattle.proto_edit_statements.specs.Imported.{import_if, import_in}

or_else_assoc : {A : Type 0} (a b c : Option A) → or_else (or_else a b) c ≡ or_else a (or_else b c)
or_else_assoc None b c = refl
or_else_assoc (Some x) b c = refl

module _ (says : ℕ → Bool) where
  pub import_joined : (t u : Tree) → import_in says (joined_trees t u) ≡ or_else (import_in says t) (import_in says u)
  import_joined End u = refl
  import_joined (Leaf s rest) u = ap (or_else (import_if says s)) (import_joined rest u) ∙ sym (or_else_assoc (import_if says s) (import_in says rest) (import_in says u))
  import_joined (Block h i within j rest) u = import_joined rest u

  -- the first of two
  pub import_here : (t u : Tree) (i : Import) → Some i ≡ import_in says t → Some i ≡ import_in says (joined_trees t u)
  import_here t u i h = ap (λ o. or_else o (import_in says u)) h ∙ sym (import_joined t u)

  pub import_behind : (t u : Tree) → None ≡ import_in says t → import_in says (joined_trees t u) ≡ import_in says u
  import_behind t u h = import_joined t u ∙ ap (λ o. or_else o (import_in says u)) (sym h)

  -- ---- what is found stands there

  if_import : (s : Statement) (i : Import) → import_if says s ≡ Some i → (s ≡ statement.Import i) × (says i.path ≡ true)
  if_import (statement.Import j) i h = elim (cases_Bool (says j.path)) [
    | inl t ↦
        let e : j ≡ i = same_Some j i (sym (cond-true (says j.path) (Some j) None t) ∙ h) in
        (ap (λ x. statement.Import x) e, ap (λ (x : Import). says x.path) (sym e) ∙ t)
    | inr f ↦ absurd (none-some i (sym (cond-false (says j.path) (Some j) None f) ∙ h))
  ]
  if_import _ i h = absurd (none-some i h)

  pub import_there : (t : Tree) (i : Import) → import_in says t ≡ Some i → StandsIn (statement.Import i) t × (says i.path ≡ true)
  import_there End i h = absurd (none-some i h)
  import_there (Leaf s rest) i h = by (import_there rest i) (import_if says s) refl h
    where
      first : s ≡ statement.Import i → StandsIn (statement.Import i) (Leaf s rest)
      first q = subst (λ z. StandsIn (statement.Import i) (Leaf z rest)) (sym q) (First rest)

      by : (import_in says rest ≡ Some i → StandsIn (statement.Import i) rest × (says i.path ≡ true)) → (o : Option Import) → import_if says s ≡ o → or_else o (import_in says rest) ≡ Some i
          → StandsIn (statement.Import i) (Leaf s rest) × (says i.path ≡ true)
      by later None e k = let r = later k in (AfterLeaf s rest r.0, r.1)
      by later (Some j) e k = let x = if_import s i (e ∙ k) in (first x.0, x.1)
  import_there (Block h i within j rest) x e = let r = import_there rest x e in (AfterBlock h i within j rest r.0, r.1)

  -- where none is found, none stands there
  or_none : {A : Type 0} (a b : Option A) → or_else a b ≡ None → (a ≡ None) × (b ≡ None)
  or_none None b h = (refl, h)
  or_none (Some x) b h = absurd (none-some x (sym h))

  pub none_there : (i : Import) (t : Tree) → StandsIn (statement.Import i) t → import_in says t ≡ None → says i.path ≡ false
  none_there i _ (First rest) h = elim (cases_Bool (says i.path)) [
    | inl t ↦ absurd (none-some i (sym (or_none (import_if says (statement.Import i)) (import_in says rest) h).0 ∙ cond-true (says i.path) (Some i) None t))
    | inr f ↦ f
  ]
  none_there i _ (AfterLeaf x rest k) h = none_there i rest k (or_none (import_if says x) (import_in says rest) h).1
  none_there i _ (AfterBlock x a within b rest k) h = none_there i rest k h
