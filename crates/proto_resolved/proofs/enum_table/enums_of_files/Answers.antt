use Rattle.std.proofs.Common.{◌≡◌, ◌<◌, length, subst, sym, take}
use Rattle.std.proofs.lemmas.List.{take_more}
use Rattle.std.proofs.lemmas.List.Elements.{All-get_or}
use Rattle.proto_names_rules.specs.Grown.{At}
use Rattle.proto_resolved.specs.Common.{enum_in, listed_enum_at}
use Rattle.proto_resolved.proofs.EnumTables.{file_listed, none_listed}
use Rattle.proto_resolved.proofs.enum_table.enums_of_files.Goals as goal

pub loop-file-init : goal.loop-file-init
loop-file-init c = λ reads are. none_listed c.args.files.now reads c.in_ok-table.table c.in_ok-table.ensures.empty

pub enums_of_file-requires : goal.enums_of_file-requires
enums_of_file-requires c = All-get_or (λ file. file < length c.args.files.now) c.args.listed.now c.loop-file.file-index 0 c.loop-file-test.true c.requires

pub loop-file-preserved : goal.loop-file-preserved
loop-file-preserved c = λ reads are.
    (let files = c.args.files.now in
    let listed = c.args.listed.now in
    let done = take c.loop-file.file-index listed in
    subst (λ ns. (a : At) → enum_in (record { files = c.insert.new.self }) a ≡ listed_enum_at ns files reads a) (sym (take_more listed c.loop-file.file-index 0 c.loop-file-test.true))
    (file_listed files reads done c.loop-file.table c.insert.new.self _ c.in_ok-enums.enums c.in_ok-insert.ensures.updates.0 (c.in_ok-enums.ensures reads are) (c.loop-file.invariant reads are)))
