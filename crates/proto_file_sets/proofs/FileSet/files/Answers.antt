use Rattle.std.proofs.Common.{◌*◌, length, filter, ap, ◌∙◌, arith}
use Rattle.std.specs.List.{range_with_len}
use Rattle.proto_file_sets.specs.FileSets.{files_in}
use Rattle.proto_file_sets.specs.Words.{has_file}
use Rattle.proto_file_sets.proofs.FilesInWords.{length-members}
use Rattle.proto_file_sets.proofs.FileLists.{files_of_words}
use Rattle.proto_file_sets.proofs.FileSet.files.Goals as goal

pub set_files-requires : goal.set_files-requires
set_files-requires c = omega (arith, c.requires.few, ap length c.self.view_is, length-members c.self.inside.file_count c.self.inside.words.items, c.self.invariant.count, ap length c.deref.ensures.value)

pub returns : goal.returns
returns c =
    c.in_ok-files.ensures
    ∙ ap (λ ws. filter (has_file ws) (range_with_len 0 (64 * length ws))) c.deref.ensures.value
    ∙ files_of_words c.self.inside.file_count c.self.inside.words.items c.self.invariant
    ∙ ap files_in c.self.view_is
