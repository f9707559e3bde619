use Rattle.std.proofs.Common.{ap, sym, subst, ◌∙◌}
use Rattle.proto_file_sets.specs.Words.{members, AreWords}
use Rattle.proto_file_sets.proofs.FilesInWords.{AreWords-none, members-none}
use Rattle.proto_file_sets.proofs.FileSet.new.Goals as goal

pub invariant_of-result : goal.invariant_of-result
invariant_of-result c = subst (AreWords c.args.file_count) (sym c.in_ok-words.ensures) (AreWords-none c.args.file_count)

pub returns : goal.returns
returns c = ap (members c.args.file_count) c.in_ok-words.ensures ∙ members-none c.args.file_count
