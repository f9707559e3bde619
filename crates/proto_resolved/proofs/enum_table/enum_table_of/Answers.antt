use Rattle.std.proofs.Common.{List, ℕ, ◌<◌, ◌↔◌, Contains, length, sym, subst}
use Rattle.proto_base.proofs.Common.{IfOk-weaker}
use Rattle.proto_file_sets.specs.FileSets.{IsIn}
use Rattle.proto_resolved.specs.Common.{IsEnumTableOf, IsEnumTableOfListed}
use Rattle.proto_resolved.proofs.EnumTables.{is_enum_table_of}
use Rattle.proto_resolved.proofs.enum_table.enum_table_of.Goals as goal

pub returns : goal.returns
returns c =
    let files = c.args.files.now in
    let set = c.args.set.now in
    let listed = c.deref.result.now in
    let there = subst (λ (ns : List ℕ). (file : ℕ) → file < length files → (Contains ns file ↔ IsIn set file)) (sym c.deref.ensures.value) c.in_ok-listed.ensures.listed in
    IfOk-weaker c.enums_of_files.result (IsEnumTableOfListed files listed) (IsEnumTableOf files set)
    (λ table. is_enum_table_of files set listed table there) c.enums_of_files.ensures
