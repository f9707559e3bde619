use Rattle.std.proofs.Common.{List, Bool, false, get_or, ap, sym, ◌∙◌}
use Rattle.proto_file_sets.specs.Words.{has_file}
use Rattle.proto_file_sets.proofs.FilesInWords.{member}
use Rattle.proto_file_sets.proofs.FileSet.contains_at.Goals as goal

pub returns : goal.returns
returns c =
    c.has_bit.ensures
    ∙ ap (λ words. has_file words c.args.index) c.deref.ensures.value
    ∙ sym (member c.self.inside.file_count c.self.inside.words.items c.args.index c.self.invariant)
    ∙ ap (λ (set : List Bool). get_or set c.args.index false) c.self.view_is
