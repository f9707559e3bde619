-- The first field of a name token in trees that stand one behind another.
use Rattle.std.proofs.Common.{◌≡◌, ℕ, List, ◌++◌, Option, Some, None, refl, sym, ap, ◌∙◌, option_map}
use Rattle.std.proofs.lemmas.Option.{none-some}
use Rattle.proto_edit_rules.specs.Statements.{first_index, first_token}
use Rattle.proto_edit_statements.specs.Common.{FieldPlace, FieldStatement, field_among, field_if, field_in, or_else, place_of_statement}
use Rattle.proto_tree.specs.declared.piece.Header.TheVariants as header
use Rattle.proto_tree.specs.declared.class.Expected.TheVariants as want
use Rattle.proto_tree.specs.declared.piece.Statement.TheVariants as statement
use Rattle.proto_tree.specs.declared.tree.Block.{Block as Braced}
use Rattle.proto_tree.specs.declared.tree.Field.{Field}
use Rattle.proto_tree.specs.declared.tree.OneofItem.{OneofItem}
use Rattle.proto_tree.specs.declared.tree.FieldType.{FieldType}
use Rattle.proto_tree.specs.declared.tree.FieldType.TheVariants as field_type
use Rattle.proto_tree.specs.declared.tree.Separated.{Separated}
use Rattle.proto_tree.proofs.Common.{oneof_item_tree, oneof_tree, trees, Mark, flat_option, flat_type, flat_words, only, Tree, End, Leaf, Block, joined_trees}

-- ---- the first token

words_first : (dot : Option ℕ) (words : Separated ℕ) (more : List Mark) → first_index (flat_words dot words ++ more) ≡ first_index (flat_words dot words)
words_first None words more = refl
words_first (Some i) words more = refl

type_first : (k : FieldType) (more : List Mark) → first_index (flat_type k ++ more) ≡ first_index (flat_type k)
type_first (field_type.Scalar i) more = refl
type_first (field_type.Reference r) more = words_first r.dot r.words more

option_first : (o : Option ℕ) (k : FieldType) (more : List Mark) → o ≡ None → first_index (flat_option (only want.Label) o ++ (flat_type k ++ more)) ≡ first_index (flat_type k)
option_first None k more e = type_first k more
option_first (Some i) k more e = absurd (none-some i (sym e))

pub first_unlabeled : (f : Field) → f.label ≡ None → first_index (flat_type f.kind) ≡ first_token (statement.Field f)
first_unlabeled f e = sym (option_first f.label f.kind _ e)

-- ---- trees behind one another

or_else_assoc : {A : Type 0} (a b c : Option A) → or_else (or_else a b) c ≡ or_else a (or_else b c)
or_else_assoc None b c = refl
or_else_assoc (Some x) b c = refl

pub or_else_none : {A : Type 0} (a : Option A) → or_else a None ≡ a
or_else_none None = refl
or_else_none (Some x) = refl

pub among_joined : (name : ℕ) (around : Option ℕ) (t u : Tree) → field_among name around (joined_trees t u) ≡ or_else (field_among name around t) (field_among name around u)
among_joined name around End u = refl
among_joined name around (Leaf s rest) u =
    ap (or_else (field_if name around s)) (among_joined name around rest u) ∙ sym (or_else_assoc (field_if name around s) (field_among name around rest) (field_among name around u))
among_joined name around (Block h i within j rest) u = among_joined name around rest u

pub field_joined : (name : ℕ) (t u : Tree) → field_in name (joined_trees t u) ≡ or_else (field_in name t) (field_in name u)
field_joined name End u = refl
field_joined name (Leaf s rest) u =
    ap (or_else (field_if name None s)) (field_joined name rest u) ∙ sym (or_else_assoc (field_if name None s) (field_in name rest) (field_in name u))
field_joined name (Block (header.Message h) i within j rest) u =
    ap (or_else (field_in name within)) (field_joined name rest u) ∙ sym (or_else_assoc (field_in name within) (field_in name rest) (field_in name u))
field_joined name (Block (header.Oneof h) i within j rest) u =
    let own = field_among name (Some j) within in
    ap (or_else own) (field_joined name rest u) ∙ sym (or_else_assoc own (field_in name rest) (field_in name u))
field_joined name (Block whole i within j rest) u = field_joined name rest u

-- the first of two, by what is told of it
or_here : (a b : Option FieldStatement) (p : FieldPlace) → Some p ≡ option_map place_of_statement a → Some p ≡ option_map place_of_statement (or_else a b)
or_here None b p h = absurd (none-some p (sym h))
or_here (Some x) b p h = h

or_behind : (a b : Option FieldStatement) → None ≡ option_map place_of_statement a → or_else a b ≡ b
or_behind None b h = refl
or_behind (Some x) b h = absurd (none-some (place_of_statement x) h)

pub here : (name : ℕ) (t u : Tree) (p : FieldPlace) → Some p ≡ option_map place_of_statement (field_in name t) → Some p ≡ option_map place_of_statement (field_in name (joined_trees t u))
here name t u p h = or_here (field_in name t) (field_in name u) p h ∙ ap (option_map place_of_statement) (sym (field_joined name t u))

pub behind : (name : ℕ) (t u : Tree) → None ≡ option_map place_of_statement (field_in name t) → field_in name (joined_trees t u) ≡ field_in name u
behind name t u h = field_joined name t u ∙ or_behind (field_in name t) (field_in name u) h

-- ---- blocks alone

pub oneof_place : (name : ℕ) (o : Braced OneofItem) → field_in name (oneof_tree o) ≡ field_among name (Some o.close) (trees oneof_item_tree o.members.items)
oneof_place name o = or_else_none (field_among name (Some o.close) (trees oneof_item_tree o.members.items))
