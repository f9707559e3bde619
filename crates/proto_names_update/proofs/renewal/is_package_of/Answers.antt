use Rattle.std.proofs.Common.{◌≡◌, true, ◌==◌, ◌∷◌, cond, [], sym, ◌∙◌, ap, subst, Contains, eqb-true}
use Rattle.proto_base.proofs.Common.{any_to, contains_later, list_any}
use Rattle.proto_names_table.specs.Tables.{files_of}
use Rattle.proto_names_update.proofs.renewal.is_package_of.Goals.{then-is_declared, else-is_declared}
use Rattle.proto_names_update.proofs.renewal.is_package_of.Goals as goal

pub returns-else-row-file-clause-file_is : goal.returns-else-row-file-clause-file_is
returns-else-row-file-clause-file_is c = λ h.
    let row = c.args.row.now in
    let file = c.args.file in
    let any : list_any (λ y. y == file) row.more.items ≡ true = sym (ap (list_any (λ y. y == file)) c.deref.ensures.value) ∙ sym c.contains.ensures.value ∙ h in
    let o = any_to (λ y. y == file) row.more.items any in
    let there : Contains row.more.items file = subst (Contains row.more.items) (eqb-true o.0 file o.2) o.1 in
    let known : row.is_declared ≡ true = elim c.if-is_declared.branch [ then-is_declared w ↦ cc | else-is_declared w ↦ cc ] in
    let files : files_of row ≡ row.symbol.file ∷ row.more.items = ap (λ b. cond b (row.symbol.file ∷ row.more.items) []) known in
    subst (λ z. Contains z file) (sym files) (contains_later row.symbol.file file row.more.items there)
