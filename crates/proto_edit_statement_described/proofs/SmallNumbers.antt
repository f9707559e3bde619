-- Without a fault of the checks the number of each field is below 2^64.
use Rattle.std.proofs.Common.{◌≡◌, ◌⊎◌, inl, inr, ℕ, suc, ◌<◌, ◌^◌, pos, int_le, Bool, true, false, not, Option, Some, None, List, [], ◌∷◌, ◌++◌, map, flat_map, refl, ◌∙◌, subst, arith, Contains}
use Rattle.proto_base.proofs.Common.{and_parts, Contains-append_left, Contains-append_right, contains_cases, contains_head, contains_later, contains_map}
use Rattle.proto_tree.specs.declared.context.Context.{Context}
use Rattle.proto_tree.specs.declared.context.Context.TheVariants as context
use Rattle.proto_tree.specs.declared.piece.Header.{Header}
use Rattle.proto_tree.specs.declared.piece.Header.TheVariants as header
use Rattle.proto_tree.specs.declared.piece.Heading.{Heading}
use Rattle.proto_tree.specs.declared.piece.Statement.{Statement}
use Rattle.proto_tree.specs.Tree.{Tree, Leaf, Block, IsWellFormed, after, header_kind, statement_kind}
use Rattle.proto_files.specs.FilesRead.{read_at}
use Rattle.proto_desc_numbers.specs.declared.flaw.Flaw.{Flaw}
use Rattle.proto_desc_numbers.specs.declared.numbers.NumberAt.{NumberAt}
use Rattle.proto_desc_numbers.proofs.Common.{flaw_if, field_number_flaws, is_field_number, is_within, most_field, number_of_field as numbered, outside, range_of}
use Rattle.proto_ast.proofs.Common.{BlockOf, FieldOf, blocks_in, closed_ranges, fields_from, fields_in, options_in, statement_fields, statements, Scene, number_at, number_value as number_of_digits}
use Rattle.proto_desc_checks.proofs.Common.{field_flaws, file_flaws, option_flaws, block_flaws, flaws_in_blocks, message_flaws}
use Rattle.proto_desc_checks_laws.proofs.DeletedFlaws.{nil_parts}
use Rattle.proto_ast.specs.declared.options.Element.TheVariants as element
use Rattle.proto_edit_statement_described.proofs.Common.{fault_of_flaw, flaws_of, of_flaw, OfMap, Plain, WrittenField, written_field, written_number, statement_of, scene_at}
use Rattle.proto_base.specs.declared.fault.FaultKind.{FaultKind}
use Rattle.proto_base.specs.declared.fault.FaultKind.TheVariants as kind
use Rattle.proto_text.specs.Texts.{word_at}
use Rattle.proto_edit_rules.specs.DeleteField.{StandsAt, InMessage, InOneof, Deeper, PastLeaf, PastBlock}
use Rattle.proto_edit_rules.specs.Statements.{StandsIn, First, AfterLeaf, AfterBlock}
use Rattle.proto_edit_statement_described.specs.Fields.{NumbersAreSmall}
use Rattle.proto_edit_statement_described.proofs.Trees.{in_oneof, was_message}
use Rattle.proto_edit_statement_described.proofs.Written.{written}
use borrow.Author.Differences.{le-true}

-- ---- the field among those of its message

-- a message has a field with this number
record HasField (t : Tree) (number : ℕ) : Type 0 where
  heading : Heading
  block : BlockOf
  within : Contains (blocks_in t) block
  is : block.header ≡ header.Message heading
  field : FieldOf
  there : Contains (fields_in block.within) field
  same : field.number ≡ number

numbered_one : (o : Option ℕ) (w : WrittenField) → (written_field o w).number ≡ written_number w
numbered_one o (Plain f) = refl
numbered_one o (OfMap f) = refl

first_of_message : (w : WrittenField) (rest : Tree) (n : ℕ) → Contains (fields_from n (Leaf (statement_of w) rest)) (written_field None w)
first_of_message (Plain f) rest n = contains_head (written_field None (Plain f)) (fields_from n rest)
first_of_message (OfMap f) rest n = contains_head (written_field None (OfMap f)) (fields_from n rest)

first_of_oneof : (w : WrittenField) (rest : Tree) (o : Option ℕ) → Contains (flat_map (statement_fields o) (statements (Leaf (statement_of w) rest))) (written_field o w)
first_of_oneof (Plain f) rest o = contains_head (written_field o (Plain f)) (flat_map (statement_fields o) (statements rest))
first_of_oneof (OfMap f) rest o = contains_head (written_field o (OfMap f)) (flat_map (statement_fields o) (statements rest))

module _ (w : WrittenField) where
  -- behind a block
  behind : (y : Header) (i : ℕ) (within : Tree) (j : ℕ) (rest : Tree) (f : FieldOf) → ((n : ℕ) → Contains (fields_from n rest) f) → (n : ℕ) → Contains (fields_from n (Block y i within j rest)) f
  behind (header.Oneof h) i within j rest f c n = Contains-append_right (flat_map (statement_fields (Some n)) (statements within)) (fields_from (suc n) rest) f (c (suc n))
  behind whole i within j rest f c n = c n

  in_members : (t : Tree) → StandsIn (statement_of w) t → (n : ℕ) → Contains (fields_from n t) (written_field None w)
  in_members _ (First rest) n = first_of_message w rest n
  in_members _ (AfterLeaf x rest h) n = Contains-append_right (statement_fields None x) (fields_from n rest) (written_field None w) (in_members rest h n)
  in_members _ (AfterBlock y i within j rest h) n = behind y i within j rest (written_field None w) (in_members rest h) n

  in_fellows : (t : Tree) → StandsIn (statement_of w) t → (o : Option ℕ) → Contains (flat_map (statement_fields o) (statements t)) (written_field o w)
  in_fellows _ (First rest) o = first_of_oneof w rest o
  in_fellows _ (AfterLeaf x rest h) o = Contains-append_right (statement_fields o x) (flat_map (statement_fields o) (statements rest)) (written_field o w) (in_fellows rest h o)
  in_fellows _ (AfterBlock y i within j rest h) o = in_fellows rest h o

  -- the field is one of these items, of which so many oneofs stand before
  abbrev IsOne : Tree → Type 0
  IsOne t = (n : ℕ) → (f : FieldOf) × Contains (fields_from n t) f × (f.number ≡ written_number w)

  own_message : (h : Heading) (i : ℕ) (within : Tree) (j : ℕ) (rest : Tree) → IsOne within → HasField (Block (header.Message h) i within j rest) (written_number w)
  own_message h i within j rest one =
      let b : BlockOf = record { header = header.Message h; within = within } in
      let f = one 0 in
      record { heading = h; block = b; within = contains_head b (blocks_in within ++ blocks_in rest); is = refl; field = f.0; there = f.1; same = f.2 }

  inside : (y : Header) (i : ℕ) (within : Tree) (j : ℕ) (rest : Tree) → HasField within (written_number w) → HasField (Block y i within j rest) (written_number w)
  inside y i within j rest v = record {
    heading = v.heading;
    block = v.block;
    within = contains_later (let b : BlockOf = record { header = y; within = within } in b) v.block (blocks_in within ++ blocks_in rest) (Contains-append_left (blocks_in within) (blocks_in rest) v.block v.within);
    is = v.is;
    field = v.field;
    there = v.there;
    same = v.same;
  }

  past : (y : Header) (i : ℕ) (within : Tree) (j : ℕ) (rest : Tree) → HasField rest (written_number w) → HasField (Block y i within j rest) (written_number w)
  past y i within j rest v = record {
    heading = v.heading;
    block = v.block;
    within = contains_later (let b : BlockOf = record { header = y; within = within } in b) v.block (blocks_in within ++ blocks_in rest) (Contains-append_right (blocks_in within) (blocks_in rest) v.block v.within);
    is = v.is;
    field = v.field;
    there = v.there;
    same = v.same;
  }

  past_leaf : (x : Statement) (rest : Tree) → HasField rest (written_number w) → HasField (Leaf x rest) (written_number w)
  past_leaf x rest v = record { heading = v.heading; block = v.block; within = v.within; is = v.is; field = v.field; there = v.there; same = v.same }

  in_tree : (c : Context) (t : Tree) (o : Option ℕ) → IsWellFormed c t → StandsAt (statement_of w) o t → HasField t (written_number w) ⊎ ((c ≡ context.Message) × IsOne t)
  in_tree c _ _ wf (InMessage h i within j rest at) = inl (own_message h i within j rest (λ n. (written_field None w, in_members within at n, numbered_one None w)))
  in_tree c _ _ wf (InOneof h i within j rest at) = inr (
    in_oneof c wf.0,
    λ n. (written_field (Some n) w, Contains-append_left (flat_map (statement_fields (Some n)) (statements within)) (fields_from (suc n) rest) (written_field (Some n) w) (in_fellows within at (Some n)), numbered_one (Some n) w),
  )
  in_tree c _ o wf (Deeper _ h i within j rest at) = elim (in_tree context.Message within o wf.1 at) [
    | inl v ↦ inl (inside (header.Message h) i within j rest v)
    | inr v ↦ inl (own_message h i within j rest v.1)
  ]
  in_tree c _ o wf (PastLeaf _ x rest at) = elim (in_tree (after c (statement_kind x)) rest o wf.1 at) [
    | inl v ↦ inl (past_leaf x rest v)
    | inr v ↦ inr (was_message c (statement_kind x) v.0, λ n. (let f = v.1 n in (f.0, Contains-append_right (statement_fields None x) (fields_from n rest) f.0 f.1, f.2)))
  ]
  in_tree c _ o wf (PastBlock _ y i within j rest at) = elim (in_tree (after c (header_kind y)) rest o wf.2 at) [
    | inl v ↦ inl (past y i within j rest v)
    | inr v ↦ inr (was_message c (header_kind y) v.0, λ n. one_behind y i within j rest v.1 n)
  ]
    where
      one_behind : (y : Header) (i : ℕ) (within : Tree) (j : ℕ) (rest : Tree) → IsOne rest → IsOne (Block y i within j rest)
      one_behind (header.Oneof h) i within j rest one n = let f = one (suc n) in (f.0, Contains-append_right (flat_map (statement_fields (Some n)) (statements within)) (fields_from (suc n) rest) f.0 f.1, f.2)
      one_behind whole i within j rest one n = one n

start_no : context.Start ≡ context.Message → ⊥
start_no h = cc

-- ---- no flaw

none_of : (xs : List Flaw) → ((f : Flaw) → Contains xs f → ⊥) → xs ≡ []
none_of [] h = refl
none_of (x ∷ xs) h = absurd (h x (contains_head x xs))

pub none_at : {A : Type 0} (f : A → List Flaw) (xs : List A) (x : A) → Contains xs x → flat_map f xs ≡ [] → f x ≡ []
none_at f [] x c e = absurd (omega (arith, c.1))
none_at f (y ∷ xs) x c e =
    let p = nil_parts (f y) (flat_map f xs) e in
    elim (contains_cases y x xs c) [
      | inl same ↦ subst (λ z. f z ≡ []) same p.0
      | inr d ↦ none_at f xs x d p.1
    ]

-- a number of which none is outside
no_flaw : (b : Bool) (k : FaultKind) (t : ℕ) → flaw_if (not b) k t ≡ [] → b ≡ true
no_flaw true k t e = refl
no_flaw false k t e = absurd cc

small_enough : (n : ℕ) → is_field_number (pos n) ≡ true → n < 2 ^ 64
small_enough n h =
    let p = and_parts (is_within (pos 1) most_field (pos n)) (not (is_within (pos 19000) (pos 19999) (pos n))) h in
    let q = and_parts (int_le (pos 1) (pos n)) (int_le (pos n) most_field) p.0 in
    let x = le-true (pos n) most_field q.1 in
    omega (arith, x)

numbers_in_limits : (scene : Scene) (t : Tree) → message_flaws scene t ≡ [] → outside is_field_number (map (numbered scene) (fields_in t)) ≡ []
numbers_in_limits scene t e =
    let rest = (nil_parts (flat_map (field_flaws scene element.Field) (fields_in t)) _ e).1 in
    let numbers = (nil_parts (field_number_flaws (map (range_of scene) (flat_map closed_ranges (statements t))) (map (numbered scene) (fields_in t))) _ rest).0 in
    (nil_parts (outside is_field_number (map (numbered scene) (fields_in t))) _ numbers).0

pub numbers_are_small : NumbersAreSmall
numbers_are_small files reads f are clean at =
    let scene : Scene = scene_at files reads f.file in
    let tree : Tree = (read_at reads f.file).tree in
    let v = written f.statement f.name f.number at.declares in
    let stands = subst (λ (s : Statement). StandsAt s f.oneof tree) v.same at.stands in
    let it : HasField tree (written_number v.field) = elim (in_tree v.field context.Start tree f.oneof (are.trees f.file at.within).spells.well_formed stands) [
      | inl x ↦ x
      | inr x ↦ absurd (start_no x.0)
    ] in
    let none : flaws_of files reads f.file ≡ [] = none_of (flaws_of files reads f.file) (λ x c. clean (fault_of_flaw files reads f.file x) (of_flaw reads f.file x are at.within c)) in
    let alone : file_flaws scene tree ≡ [] = (nil_parts (file_flaws scene tree) _ none).0 in
    let blocks : flaws_in_blocks scene tree ≡ [] = (nil_parts (option_flaws scene element.File (options_in tree)) (flaws_in_blocks scene tree) alone).1 in
    let block : block_flaws scene it.block.header it.block.within ≡ [] = none_at (λ (b : BlockOf). block_flaws scene b.header b.within) (blocks_in tree) it.block it.within blocks in
    let message : message_flaws scene it.block.within ≡ [] = subst (λ (h : Header). block_flaws scene h it.block.within ≡ []) it.is block in
    let limits = numbers_in_limits scene it.block.within message in
    let one = none_at (λ (n : NumberAt). flaw_if (not (is_field_number n.number)) kind.NumberRange n.token) (map (numbered scene) (fields_in it.block.within)) (numbered scene it.field) (contains_map (numbered scene) (fields_in it.block.within) it.field it.there) limits in
    let passes = no_flaw (is_field_number (number_at scene it.field.number)) kind.NumberRange it.field.number one in
    let small = small_enough (number_of_digits (word_at scene.lexemes it.field.number)) passes in
    subst (λ (i : ℕ). number_of_digits (word_at scene.lexemes i) < 2 ^ 64) (it.same ∙ v.numbered) small
