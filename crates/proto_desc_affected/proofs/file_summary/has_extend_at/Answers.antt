use Rattle.std.proofs.Common.{sym, ap, ◌∙◌}
use Rattle.proto_tree.specs.File.{tree_of_file}
use Rattle.proto_desc_extensions.specs.Extends.{has_extend}
use Rattle.proto_files.proofs.Common.{same_tree}
use Rattle.proto_desc_affected.proofs.file_summary.has_extend_at.Goals as goal

pub returns : goal.returns
returns c = λ reads are. c.has_extend.ensures ∙ ap has_extend (sym (same_tree c.args.files.now reads c.args.file (tree_of_file c.tree.result.now) are c.requires c.tree.ensures))
