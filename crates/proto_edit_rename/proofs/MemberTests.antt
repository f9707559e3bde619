-- Tests of the blocks that have members, and what they say of all blocks (for the crates above).
use Rattle.std.proofs.Common.{◌≡◌, ℕ, ◌<◌, ◌==◌, true, List, [], length, map, refl, subst, inl, inr, arith, Contains, eq-eqb, eqb-true}
use Rattle.proto_base.proofs.Common.{any_from, any_to, contains_map, from_map}
use Rattle.proto_text.specs.Tokens.{lexeme_at}
use Rattle.proto_tree.specs.declared.piece.Header.{Header}
use Rattle.proto_tree.specs.declared.piece.Header.TheVariants as header
use Rattle.proto_tree.specs.declared.tree.Value.{Value}
use Rattle.proto_tree.specs.Tree.{Tree}
use Rattle.proto_files.proofs.Common.{FileOf, file_at, AreRead, ReadOf, read_at}
use Rattle.proto_names_rules.specs.Tree.{Placed, file_placed}
use Rattle.proto_names_outline.specs.FromTree.{items_in}
use Rattle.proto_ast.specs.Parts.{BlockOf, FieldOf, blocks_in, fields_in, values_in}
use Rattle.proto_desc_checks_laws.proofs.Common.{IsDeclared, blocks_are_declared}
use Rattle.proto_edit_rules.specs.Rename.{HasMember}
use Rattle.proto_edit_rename.specs.MembersCommon.{may_hold, fields_by, has_field, has_member, has_value}

-- ---- members

field_there : (fs : List FieldOf) (token : ℕ) → Contains (map (λ (f : FieldOf). f.name) fs) token → has_field token fs ≡ true
field_there fs token c =
    let f = from_map (λ (f : FieldOf). f.name) fs token c in
    any_from (λ (f : FieldOf). f.name == token) fs f.0 f.1 (eq-eqb f.0.name token f.2)

from_field : (fs : List FieldOf) (token : ℕ) → has_field token fs ≡ true → Contains (map (λ (f : FieldOf). f.name) fs) token
from_field fs token e =
    let f = any_to (λ (f : FieldOf). f.name == token) fs e in
    subst (Contains (map (λ (f : FieldOf). f.name) fs)) (eqb-true f.0.name token f.2) (contains_map (λ (f : FieldOf). f.name) fs f.0 f.1)

pub value_there : (vs : List Value) (token : ℕ) → Contains (map (λ (v : Value). v.name) vs) token → has_value token vs ≡ true
value_there vs token c =
    let v = from_map (λ (v : Value). v.name) vs token c in
    any_from (λ (v : Value). v.name == token) vs v.0 v.1 (eq-eqb v.0.name token v.2)

from_value : (vs : List Value) (token : ℕ) → has_value token vs ≡ true → Contains (map (λ (v : Value). v.name) vs) token
from_value vs token e =
    let v = any_to (λ (v : Value). v.name == token) vs e in
    subst (Contains (map (λ (v : Value). v.name) vs)) (eqb-true v.0.name token v.2) (contains_map (λ (v : Value). v.name) vs v.0 v.1)

none_there : {X : Type 0} (xs : List X) (f : X → ℕ) (token : ℕ) → xs ≡ [] → Contains (map f xs) token → ⊥
none_there xs f token e c = let d : Contains {X = ℕ} [] token = subst (λ z. Contains (map f z) token) e c in omega (arith, d.1)

pub member_to : (h : Header) (within : Tree) (token : ℕ) → has_member token h within ≡ true → HasMember within token × (may_hold h ≡ true)
member_to (header.Message h) within token e = (inl (from_field (fields_in within) token e), refl)
member_to (header.Oneof h) within token e = (inl (from_field (fields_in within) token e), refl)
member_to (header.Enum h) within token e = (inr (from_value (values_in within) token e), refl)
member_to (header.Extend x) within token e = (inl (from_field (fields_in within) token e), refl)
member_to whole within token e = absurd cc

pub member_from : (ps : List Placed) (h : Header) (within : Tree) (token : ℕ) → IsDeclared ps h within → HasMember within token → has_member token h within ≡ true
member_from ps (header.Message h) within token d (inl c) = field_there (fields_in within) token c
member_from ps (header.Message h) within token d (inr c) = absurd (none_there (values_in within) (λ (v : Value). v.name) token d.3 c)
member_from ps (header.Oneof h) within token d (inl c) = field_there (fields_in within) token c
member_from ps (header.Oneof h) within token d (inr c) = absurd (none_there (values_in within) (λ (v : Value). v.name) token d.3 c)
member_from ps (header.Enum h) within token d (inl c) = absurd (none_there (fields_in within) (λ (f : FieldOf). f.name) token d.3 c)
member_from ps (header.Enum h) within token d (inr c) = value_there (values_in within) token c
member_from ps (header.Extend x) within token d (inl c) = field_there (fields_in within) token c
member_from ps (header.Extend x) within token d (inr c) = absurd (none_there (values_in within) (λ (v : Value). v.name) token d.2 c)
member_from ps whole within token d (inl c) = absurd (none_there (fields_in within) (λ (f : FieldOf). f.name) token d.2 c)
member_from ps whole within token d (inr c) = absurd (none_there (values_in within) (λ (v : Value). v.name) token d.3 c)

-- ---- fields

pub field_to : (h : Header) (within : Tree) (f : FieldOf) → Contains (fields_by h within) f → Contains (fields_in within) f
field_to (header.Message h) within f c = c
field_to (header.Oneof h) within f c = c
field_to (header.Extend x) within f c = c
field_to whole within f c = absurd (omega (arith, c.1))

none_here : (fs : List FieldOf) (f : FieldOf) → fs ≡ [] → Contains fs f → ⊥
none_here fs f e c = let d : Contains {X = FieldOf} [] f = subst (λ z. Contains z f) e c in omega (arith, d.1)

pub field_from : (ps : List Placed) (h : Header) (within : Tree) (f : FieldOf) → IsDeclared ps h within → Contains (fields_in within) f → Contains (fields_by h within) f × (may_hold h ≡ true)
field_from ps (header.Message h) within f d c = (c, refl)
field_from ps (header.Oneof h) within f d c = (c, refl)
field_from ps (header.Enum h) within f d c = absurd (none_here (fields_in within) f d.3 c)
field_from ps (header.Extend x) within f d c = (c, refl)
field_from ps whole within f d c = absurd (none_here (fields_in within) f d.2 c)

-- ---- blocks of a file that was read

pub block_declared : (files : List FileOf) (reads : List ReadOf) → AreRead files reads → (file : ℕ) → file < length files → (b : BlockOf) → Contains (blocks_in (read_at reads file).tree) b → IsDeclared (file_placed (items_in (read_at reads file).tree)) b.header b.within
block_declared files reads are file within b c =
    blocks_are_declared (file_at files file).profile (read_at reads file).tree (map (lexeme_at (file_at files file).bytes) (read_at reads file).tokens) (are.trees file within).spells b c
