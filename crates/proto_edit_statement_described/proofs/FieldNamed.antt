-- A name that no case refuses to delete is that of one field, and of its statement.
use Rattle.std.proofs.Common.{◌≡◌, ℕ, ◌+◌, List, map, sym, ◌∙◌, ap, arith}
use Rattle.proto_files.proofs.Common.{AreRead, ReadOf, FileOf}
use Rattle.proto_names_rules.proofs.Common.{At, at, Declared, Source, Token, shifted_source, snoc_parts}
use Rattle.proto_edit_rules.specs.Rename.{Target}
use Rattle.proto_edit_statement_laws.proofs.Declarations.{declared_by, path_of_declared}
use Rattle.proto_edit_statement_laws.specs.DeletionChanges.{FieldsAreOne as StatementsAreOne, FieldsAreThere as StatementsAreThere}
use Rattle.proto_edit_rules.specs.DeleteField.{FieldAt, IsFieldAt}
use Rattle.proto_edit_statement_laws.proofs.NamesCommon.{IsField, fields_are_one, fields_are_there}
use Rattle.proto_edit_statement_described.specs.Workspace.{DeletableFieldsAreOne, FieldsMayBeDeleted}

same_token : (x y : At) → ◌≡◌ {A = Source At} (Token x) (Token y) → x ≡ y
same_token x y h = cc

-- the statement of a field of this name
record IsStatement (files : List FileOf) (reads : List ReadOf) (t : Target) : Type 0 where
  field : FieldAt
  token : t.token ≡ at field.file field.name
  stands : IsFieldAt files reads field

its_statement : StatementsAreThere → (files : List FileOf) (reads : List ReadOf) (name : List ℕ) (t : Target) → AreRead files reads → IsField files reads name t → IsStatement files reads t
its_statement law files reads name t are is =
    let d = declared_by 0 reads t.aim is.named.within in
    let inside = d.inside in
    let same = are.same in
    let zero_is : 0 + d.k ≡ d.k = omega arith in
    let v = law files reads d.k d.p (omega (arith, inside, same)) d.within (ap (λ (z : Declared At). z.kind) d.is ∙ is.kind) in
    let path = path_of_declared 0 reads t.aim d in
    let last : ◌≡◌ {A = Source At} (shifted_source (at (0 + d.k)) d.p.last) (Token t.token) =
    (snoc_parts (map (shifted_source (at (0 + d.k))) d.p.above) t.above (shifted_source (at (0 + d.k)) d.p.last) (Token t.token) (sym path ∙ is.named.path)).1 in
    record {
      field = v.0;
      token = sym (same_token (at (0 + d.k) v.0.name) t.token (ap (shifted_source (at (0 + d.k))) (sym v.3) ∙ last)) ∙ ap (λ (m : ℕ). at m v.0.name) (zero_is ∙ sym v.2);
      stands = v.1;
    }

pub fields_may_be_deleted : StatementsAreThere → FieldsMayBeDeleted
fields_may_be_deleted law files reads name are link checks admissible =
    let t = fields_are_there files reads name are.read (admissible 1) (admissible 2) in
    let v = its_statement law files reads name t.0 are.read t.1 in
    (v.field, record { are = are; link = link; checks = checks; target = t.0; field = t.1; token = v.token; stands = v.stands; admissible = admissible })

pub fields_are_one_alone : StatementsAreOne → DeletableFieldsAreOne
fields_are_one_alone law files reads name f g a b =
    let same : a.target ≡ b.target = fields_are_one files reads name a.target b.target a.are.read a.link a.field b.field in
    let tokens : at f.file f.name ≡ at g.file g.name = sym a.token ∙ ap (λ (t : Target). t.token) same ∙ b.token in
    law files reads f g a.are.read a.stands b.stands (ap (λ (x : At). x.file) tokens) (ap (λ (x : At). x.token) tokens)
