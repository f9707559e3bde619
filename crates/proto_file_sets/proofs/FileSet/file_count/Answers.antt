use Rattle.std.proofs.Common.{length, ap, sym, ◌∙◌}
use Rattle.proto_file_sets.proofs.FilesInWords.{length-members}
use Rattle.proto_file_sets.proofs.FileSet.file_count.Goals as goal

pub returns : goal.returns
returns c = sym (length-members c.self.inside.file_count c.self.inside.words.items) ∙ ap length c.self.view_is
