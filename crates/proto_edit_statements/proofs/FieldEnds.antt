-- The last token of a field's statement is its `;`.
use Rattle.std.proofs.Common.{◌≡◌, ℕ, suc, List, [], ◌∷◌, ◌++◌, refl, sym, ap, ◌∙◌, append_assoc}
use Rattle.proto_tree.specs.declared.class.Class.{Class}
use Rattle.proto_tree.specs.declared.class.Class.TheVariants as class
use Rattle.proto_tree.specs.declared.class.Expected.TheVariants as want
use Rattle.proto_tree.specs.declared.piece.Statement.{Statement}
use Rattle.proto_tree.specs.declared.piece.Statement.TheVariants as statement
use Rattle.proto_tree.specs.declared.tree.Field.{Field}
use Rattle.proto_tree.specs.declared.tree.MapField.{MapField}
use Rattle.proto_tree.specs.Flat.{Mark, flat_option, flat_settings, flat_statement, flat_type, name, one, only}
use Rattle.proto_edit_rules.specs.DeleteField.{IsFieldOf}
use Rattle.proto_edit_rules.specs.Statements.{last_index, next_token}
use Rattle.proto_edit_statements.specs.FieldPlaces.{statement_end}

record EndsAt (k : ℕ) (ms : List Mark) : Type 0 where
  init : List Mark
  c : Class
  parts : ms ≡ init ++ one c k

ends : (c : Class) (k : ℕ) → EndsAt k (one c k)
ends c k = record { init = []; c = c; parts = refl }

end_then : {k : ℕ} (x : List Mark) {y : List Mark} → EndsAt k y → EndsAt k (x ++ y)
end_then {k} x {y} h = record { init = x ++ h.init; c = h.c; parts = ap (λ (z : List Mark). x ++ z) h.parts ∙ sym (append_assoc x h.init (one h.c k)) }

last_behind : (init : List Mark) (m : Mark) → last_index (init ++ m ∷ []) ≡ m.at
last_behind [] m = refl
last_behind (x ∷ []) m = refl
last_behind (x ∷ y ∷ init) m = last_behind (y ∷ init) m

last_is : (k : ℕ) (ms : List Mark) → EndsAt k ms → last_index ms ≡ k
last_is k ms h = ap last_index h.parts ∙ last_behind h.init _

field_ends : (f : Field) → EndsAt f.semicolon (flat_statement (statement.Field f))
field_ends f = end_then (flat_option (only want.Label) f.label) (end_then (flat_type f.kind) (end_then (name f.name) (end_then (one class.Equals f.equals) (end_then (one class.Number f.number) (end_then (flat_option flat_settings f.settings) (ends class.Semicolon f.semicolon))))))

map_ends : (f : MapField) → EndsAt f.semicolon (flat_statement (statement.MapField f))
map_ends f =
    end_then (one class.Map f.keyword) (end_then (one class.Less f.«open») (end_then (one class.Scalar f.key) (end_then (one class.Comma f.comma) (end_then (flat_type f.value) (end_then (one class.Greater f.close)
    (end_then (name f.name) (end_then (one class.Equals f.equals) (end_then (one class.Number f.number) (end_then (flat_option flat_settings f.settings) (ends class.Semicolon f.semicolon))))))))))

pub field_last : (s : Statement) (name number : ℕ) → IsFieldOf s name number → next_token s ≡ suc (statement_end s)
field_last (statement.Field f) name number h = ap suc (last_is f.semicolon (flat_statement (statement.Field f)) (field_ends f))
field_last (statement.MapField f) name number h = ap suc (last_is f.semicolon (flat_statement (statement.MapField f)) (map_ends f))
field_last _ name number h = absurd h
