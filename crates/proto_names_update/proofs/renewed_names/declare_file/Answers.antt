use Rattle.std.proofs.Common.{◌∙◌, ap}
use Rattle.proto_names_table.specs.Spelled.{named_in}
use Rattle.proto_names_update.specs.NamesOfFiles.{declared_by}
use Rattle.proto_names_update.proofs.Again.{both_answered, file_again}
use Rattle.proto_names_update.proofs.renewed_names.declare_file.Goals as goal

pub returns-clause-declared : goal.returns-clause-declared
returns-clause-declared c =
    let t = c.args.table.now in
    let t' = c.declare_all_again.new.table in
    both_answered c.if_packages_stay.result c.ok_or.result c.ok_or.ensures.ok_part _ _ _ (λ own same packages reads are.
    file_again t t' c.args.file c.deref.result.now c.in_ok-rows.rows.items own.items c.args.before.now c.in_ok-rows.ensures.declared same packages (declared_by c.args.files.now reads c.args.file)
    (ap (named_in c.args.file) c.deref.ensures.value ∙ c.in_ok-spelled.ensures.named reads are)) c.if_packages_stay.ensures.same c.if_packages_stay.ensures.packages
