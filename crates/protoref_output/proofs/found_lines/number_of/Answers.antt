use Rattle.std.proofs.Common.{◌∙◌, sym}
use Rattle.proto_base.proofs.Common.{Contains-get_or, contains_map}
use Rattle.proto_files.proofs.Common.{FileOf, file_at}
use Rattle.proto_edit_entries.proofs.TextPlaces.{file_found, no_path}
use Rattle.protoref_output.proofs.FoundFiles.{text_of_file, text_of_none_named}
use Rattle.protoref_output.proofs.found_lines.number_of.Goals as goal
use Rattle.proto_files.specs.GivenFiles.{no_file}

pub returns-in-Some : goal.returns-in-Some
returns-in-Some c =
    let found = file_found c.args.files.now c.args.path.now c.in-Some.file (sym c.place_of_path.ensures ∙ c.in-Some.is) in
    sym (text_of_file c.args.files.now c.in-Some.file c.args.path.now c.len-count.ensures.workspace.ordered found.0 found.1)

pub returns-in-None : goal.returns-in-None
returns-in-None c =
    let files = c.args.files.now in
    let path = c.args.path.now in
    let none : FileOf = no_file in
    text_of_none_named files path c.len-count.result c.len-count.ensures.len
    (λ k l e. no_path files path (sym c.place_of_path.ensures ∙ c.in-None.is) (file_at files k).path (contains_map (λ (f : FileOf). f.path) files (file_at files k) (Contains-get_or files k none l)) (sym e))
