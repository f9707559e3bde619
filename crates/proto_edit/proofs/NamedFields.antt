-- Two fields of one full name are one.
use Rattle.std.proofs.Common.{◌≡◌, ℕ, ◌∙◌, List, sym, ap}
use Rattle.proto_files.proofs.Common.{ReadOf, FileOf}
use Rattle.proto_names_rules.specs.Grown.{At, at}
use Rattle.proto_edit_rules.specs.Rename.{Target}
use Rattle.proto_edit_rules.specs.DeleteField.{FieldAt, IsFieldNamed}
use Rattle.proto_edit_statement_described.specs.Workspaces.{AreFaultless}
use Rattle.proto_edit.specs.StatementLaws.{StatementLaws}

pub fields_are_one : StatementLaws → (files : List FileOf) (reads : List ReadOf) (name : List ℕ) (f g : FieldAt) → AreFaultless files reads → IsFieldNamed files reads name f → IsFieldNamed files reads name g → f ≡ g
fields_are_one laws files reads name f g has x y =
    let same : x.t ≡ y.t = laws.one_named files reads name x.t y.t has.are.read has.links x.field y.field in
    let token : at f.file f.name ≡ at g.file g.name = sym x.token ∙ ap (λ (t : Target). t.token) same ∙ y.token in
    laws.one_field files reads f g has.are.read x.stands y.stands (ap (λ (a : At). a.file) token) (ap (λ (a : At). a.token) token)
