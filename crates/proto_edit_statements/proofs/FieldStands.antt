-- The field of a name token stands where it is found, and is found where it stands.
use Rattle.std.proofs.Common.{◌≡◌, ◌⊎◌, ℕ, Bool, true, false, Option, Some, None, refl, sym, ap, subst, ◌∙◌, inl, inr, eqb-true, eq-eqb}
use Rattle.proto_base.proofs.Common.{both_ways, cases_Bool, cond-false, cond-true, none-some, same_Some}
use Rattle.proto_tree.specs.declared.context.Context.{Context}
use Rattle.proto_tree.specs.declared.context.Context.TheVariants as context
use Rattle.proto_tree.specs.declared.context.Kind.{Kind}
use Rattle.proto_tree.specs.declared.context.Kind.TheVariants as kind
use Rattle.proto_tree.specs.declared.piece.Header.{Header}
use Rattle.proto_tree.specs.declared.piece.Header.TheVariants as header
use Rattle.proto_tree.specs.declared.piece.Heading.{Heading}
use Rattle.proto_tree.specs.declared.piece.Statement.{Statement}
use Rattle.proto_tree.specs.declared.piece.Statement.TheVariants as statement
use Rattle.proto_tree.specs.Tree.{Tree, End, Leaf, Block, IsWellFormed, after, allows, field_kind, header_kind, statement_kind}
use Rattle.proto_edit_rules.specs.Statements.{AfterBlock, AfterLeaf, First, StandsIn}
use Rattle.proto_edit_rules.specs.DeleteField.{Deeper, InMessage, InOneof, IsFieldOf, PastBlock, PastLeaf, StandsAt}
use Rattle.proto_edit_statements.specs.FieldPlaces.{FieldStatement, field_among, field_if, field_in, has_name, number_token, or_else}

-- ---- the first of two

or_none : {A : Type 0} (a b : Option A) → or_else a b ≡ None → (a ≡ None) × (b ≡ None)
or_none None b h = (refl, h)
or_none (Some x) b h = absurd (none-some x (sym h))

or_some : {A : Type 0} (a b : Option A) (x : A) → or_else a b ≡ Some x → (a ≡ Some x) ⊎ (b ≡ Some x)
or_some None b x h = inr h
or_some (Some y) b x h = inl h

-- ---- one statement

named_field : (name : ℕ) (s : Statement) → has_name name s ≡ true → IsFieldOf s name (number_token s)
named_field name (statement.Field f) h = (eqb-true f.name name h, refl)
named_field name (statement.MapField f) h = (eqb-true f.name name h, refl)
named_field name _ h = absurd (both_ways false refl h)

field_named : (name number : ℕ) (s : Statement) → IsFieldOf s name number → has_name name s ≡ true
field_named name number (statement.Field f) h = eq-eqb f.name name h.0
field_named name number (statement.MapField f) h = eq-eqb f.name name h.0
field_named name number _ h = absurd h

-- what is found is this statement
pub record IsFieldAs (name : ℕ) (close : Option ℕ) (a : FieldStatement) : Type 0 where
  pub close_is : a.close ≡ close
  pub field : IsFieldOf a.statement name (number_token a.statement)

found_if : (name : ℕ) (close : Option ℕ) (s : Statement) (a : FieldStatement) → field_if name close s ≡ Some a → (s ≡ a.statement) × IsFieldAs name close a
found_if name close s a h = elim (cases_Bool (has_name name s)) [
  | inl t ↦
      let same : (let b : FieldStatement = record { statement = s; close = close } in b) ≡ a = same_Some (record { statement = s; close = close }) a (sym (cond-true (has_name name s) (Some (record { statement = s; close = close })) None t) ∙ h) in
      let e : s ≡ a.statement = ap (λ (z : FieldStatement). z.statement) same in
      (e, record { close_is = sym (ap (λ (z : FieldStatement). z.close) same); field = subst (λ z. IsFieldOf z name (number_token z)) e (named_field name s t) })
  | inr f ↦ absurd (none-some a (sym (cond-false (has_name name s) (Some (record { statement = s; close = close })) None f) ∙ h))
]

-- ---- where it stands

leaf_here : (s x : Statement) (rest : Tree) → s ≡ x → StandsIn x (Leaf s rest)
leaf_here s x rest e = subst (λ z. StandsIn x (Leaf z rest)) (sym e) (First rest)

stands_among : (name : ℕ) (close : Option ℕ) (t : Tree) (a : FieldStatement) → field_among name close t ≡ Some a → StandsIn a.statement t × IsFieldAs name close a
stands_among name close End a h = absurd (none-some a h)
stands_among name close (Leaf s rest) a h = elim (or_some (field_if name close s) (field_among name close rest) a h) [
  | inl e ↦ (let x = found_if name close s a e in (leaf_here s a.statement rest x.0, x.1))
  | inr e ↦ (let x = stands_among name close rest a e in (AfterLeaf s rest x.0, x.1))
]
stands_among name close (Block k i within j rest) a h = let x = stands_among name close rest a h in (AfterBlock k i within j rest x.0, x.1)

-- right among these, or in one of their messages
abbrev StandsFound : FieldStatement → Tree → Type 0
StandsFound a t = (StandsIn a.statement t × (a.close ≡ None)) ⊎ StandsAt a.statement a.close t

past_leaf : (a : FieldStatement) (s : Statement) (rest : Tree) → StandsFound a rest → StandsFound a (Leaf s rest)
past_leaf a s rest (inl (k, c)) = inl (AfterLeaf s rest k, c)
past_leaf a s rest (inr k) = inr (PastLeaf a.close s rest k)

past_block : (a : FieldStatement) (h : Header) (i : ℕ) (within : Tree) (j : ℕ) (rest : Tree) → StandsFound a rest → StandsFound a (Block h i within j rest)
past_block a h i within j rest (inl (k, c)) = inl (AfterBlock h i within j rest k, c)
past_block a h i within j rest (inr k) = inr (PastBlock a.close h i within j rest k)

in_block : (a : FieldStatement) (h : Heading) (i : ℕ) (within : Tree) (j : ℕ) (rest : Tree) → StandsFound a within → StandsFound a (Block (header.Message h) i within j rest)
in_block a h i within j rest (inl (k, c)) = inr (subst (λ o. StandsAt a.statement o (Block (header.Message h) i within j rest)) (sym c) (InMessage h i within j rest k))
in_block a h i within j rest (inr k) = inr (Deeper a.close h i within j rest k)

found_in : (name : ℕ) (t : Tree) (a : FieldStatement) → field_in name t ≡ Some a → StandsFound a t × IsFieldOf a.statement name (number_token a.statement)
found_in name End a h = absurd (none-some a h)
found_in name (Leaf s rest) a h = elim (or_some (field_if name None s) (field_in name rest) a h) [
  | inl e ↦ (let x = found_if name None s a e in (inl (leaf_here s a.statement rest x.0, x.1.close_is), x.1.field))
  | inr e ↦ (let x = found_in name rest a e in (past_leaf a s rest x.0, x.1))
]
found_in name (Block (header.Message k) i within j rest) a h = elim (or_some (field_in name within) (field_in name rest) a h) [
  | inl e ↦ (let x = found_in name within a e in (in_block a k i within j rest x.0, x.1))
  | inr e ↦ (let x = found_in name rest a e in (past_block a (header.Message k) i within j rest x.0, x.1))
]
found_in name (Block (header.Oneof k) i within j rest) a h = elim (or_some (field_among name (Some j) within) (field_in name rest) a h) [
  | inl e ↦ (
      let x = stands_among name (Some j) within a e in
      (inr (subst (λ o. StandsAt a.statement o (Block (header.Oneof k) i within j rest)) (sym x.1.close_is) (InOneof k i within j rest x.0)), x.1.field))
  | inr e ↦ (let x = found_in name rest a e in (past_block a (header.Oneof k) i within j rest x.0, x.1))
]
found_in name (Block whole i within j rest) a h = let x = found_in name rest a h in (past_block a whole i within j rest x.0, x.1)

-- ---- a file has no field right in it

abbrev is_outer : Context → Bool
is_outer context.Start = true
is_outer context.File = true
is_outer context.Packaged = true
is_outer _ = false

outer_after : (c : Context) (k : Kind) → is_outer c ≡ true → is_outer (after c k) ≡ true
outer_after context.Start kind.Package h = refl
outer_after context.Start _ h = refl
outer_after context.File kind.Package h = refl
outer_after context.File _ h = refl
outer_after context.Packaged k h = refl
outer_after _ k h = absurd (both_ways false refl h)

no_field : (c : Context) → is_outer c ≡ true → allows c kind.Field ≡ true → ⊥
no_field context.Start h e = both_ways false refl e
no_field context.File h e = both_ways false refl e
no_field context.Packaged h e = both_ways false refl e
no_field _ h e = both_ways false refl h

no_map : (c : Context) → is_outer c ≡ true → allows c kind.MapField ≡ true → ⊥
no_map context.Start h e = both_ways false refl e
no_map context.File h e = both_ways false refl e
no_map context.Packaged h e = both_ways false refl e
no_map _ h e = both_ways false refl h

no_labeled : (c : Context) → is_outer c ≡ true → allows c kind.LabeledField ≡ true → ⊥
no_labeled context.Start h e = both_ways false refl e
no_labeled context.File h e = both_ways false refl e
no_labeled context.Packaged h e = both_ways false refl e
no_labeled _ h e = both_ways false refl h

not_allowed : (c : Context) (s : Statement) (name number : ℕ) → is_outer c ≡ true → IsFieldOf s name number → allows c (statement_kind s) ≡ true → ⊥
not_allowed c (statement.Field f) name number o h e = by f.label e
  where
    by : (label : Option ℕ) → allows c (field_kind label) ≡ true → ⊥
    by None k = no_field c o k
    by (Some i) k = no_labeled c o k
not_allowed c (statement.MapField f) name number o h e = no_map c o e
not_allowed c _ name number o h e = absurd h

none_outer : {s : Statement} (c : Context) (t : Tree) (name number : ℕ) → is_outer c ≡ true → IsFieldOf s name number → StandsIn s t → IsWellFormed c t → ⊥
none_outer {s} c _ name number o f (First rest) w = not_allowed c s name number o f w.0
none_outer c _ name number o f (AfterLeaf x rest k) w = none_outer (after c (statement_kind x)) rest name number (outer_after c (statement_kind x) o) f k w.1
none_outer c _ name number o f (AfterBlock h i within j rest k) w = none_outer (after c (header_kind h)) rest name number (outer_after c (header_kind h) o) f k w.2

pub stands_found : (name : ℕ) (t : Tree) (a : FieldStatement) → IsWellFormed context.Start t → field_in name t ≡ Some a → StandsAt a.statement a.close t × IsFieldOf a.statement name (number_token a.statement)
stands_found name t a w h = let x = found_in name t a h in (by x.1 x.0, x.1)
  where
    by : IsFieldOf a.statement name (number_token a.statement) → StandsFound a t → StandsAt a.statement a.close t
    by f (inl (k, c)) = absurd (none_outer context.Start t name (number_token a.statement) refl f k w)
    by f (inr k) = k

-- ---- and is found there

rest_none : (name : ℕ) (h : Header) (i : ℕ) (within : Tree) (j : ℕ) (rest : Tree) → field_in name (Block h i within j rest) ≡ None → field_in name rest ≡ None
rest_none name (header.Message k) i within j rest h = (or_none (field_in name within) (field_in name rest) h).1
rest_none name (header.Oneof k) i within j rest h = (or_none (field_among name (Some j) within) (field_in name rest) h).1
rest_none name whole i within j rest h = h

not_here : (name number : ℕ) (close : Option ℕ) (s : Statement) → IsFieldOf s name number → field_if name close s ≡ None → ⊥
not_here name number close s f h = none-some (record { statement = s; close = close }) (sym h ∙ cond-true (has_name name s) (Some (record { statement = s; close = close })) None (field_named name number s f))

none_in : (name number : ℕ) {s : Statement} (t : Tree) → IsFieldOf s name number → StandsIn s t → field_in name t ≡ None → ⊥
none_in name number {s} _ f (First rest) h = not_here name number None s f (or_none (field_if name None s) (field_in name rest) h).0
none_in name number _ f (AfterLeaf x rest k) h = none_in name number rest f k (or_none (field_if name None x) (field_in name rest) h).1
none_in name number _ f (AfterBlock x i within j rest k) h = none_in name number rest f k (rest_none name x i within j rest h)

none_among : (name number : ℕ) (close : Option ℕ) {s : Statement} (t : Tree) → IsFieldOf s name number → StandsIn s t → field_among name close t ≡ None → ⊥
none_among name number close {s} _ f (First rest) h = not_here name number close s f (or_none (field_if name close s) (field_among name close rest) h).0
none_among name number close _ f (AfterLeaf x rest k) h = none_among name number close rest f k (or_none (field_if name close x) (field_among name close rest) h).1
none_among name number close _ f (AfterBlock x i within j rest k) h = none_among name number close rest f k h

pub none_missing : (name number : ℕ) {s : Statement} {o : Option ℕ} (t : Tree) → IsFieldOf s name number → StandsAt s o t → field_in name t ≡ None → ⊥
none_missing name number _ f (InMessage h i within j rest k) e = none_in name number within f k (or_none (field_in name within) (field_in name rest) e).0
none_missing name number _ f (InOneof h i within j rest k) e = none_among name number (Some j) within f k (or_none (field_among name (Some j) within) (field_in name rest) e).0
none_missing name number _ f (Deeper o h i within j rest k) e = none_missing name number within f k (or_none (field_in name within) (field_in name rest) e).0
none_missing name number _ f (PastLeaf o x rest k) e = none_missing name number rest f k (or_none (field_if name None x) (field_in name rest) e).1
none_missing name number _ f (PastBlock o x i within j rest k) e = none_missing name number rest f k (rest_none name x i within j rest e)
