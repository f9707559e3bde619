use Rattle.std.proofs.Common.{ap}
use Rattle.std.proofs.lemmas.Bool.Decides.{Decides-eqb}
use Rattle.std.proofs.lemmas.Slice.Eq.{slice_eq-Decides}
use Rattle.proto_file_sets.specs.Words.{has_file}
use Rattle.proto_file_sets.proofs.FilesInWords.{same_words}
use Rattle.proto_file_sets.proofs.words.are_same.Goals as goal

pub returns : goal.returns
returns c =
    let words = c.args.words.now in
    let others = c.args.others.now in
    let decides = slice_eq-Decides Decides-eqb words others c.eq.result c.eq.ensures in (
      λ told file. ap (λ ws. has_file ws file) (decides.0 told),
      λ files. decides.1 (same_words words others c.requires c.type_inv.words c.type_inv.others files),
    )
