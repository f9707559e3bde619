use Rattle.std.proofs.Common.{◌≡◌, ℕ, List, Bool, false, get_or, ap, sym, ◌∙◌}
use Rattle.proto_file_sets.specs.Words.{has_file}
use Rattle.proto_file_sets.proofs.FilesInWords.{member}
use Rattle.proto_file_sets.proofs.FileSet.intersects.Goals as goal

pub returns : goal.returns
returns c =
    let mine : (file : ℕ) → get_or c.args.self.now file false ≡ has_file c.deref.result.now file =
    λ file. ap (λ (set : List Bool). get_or set file false) (sym c.self.view_is)
    ∙ member c.self.inside.file_count c.self.inside.words.items file c.self.invariant
    ∙ ap (λ ws. has_file ws file) (sym c.deref.ensures.value)
    in
    let its : (file : ℕ) → get_or c.args.other.now file false ≡ has_file c.deref-2.result.now file =
    λ file. ap (λ (set : List Bool). get_or set file false) (sym c.other.view_is)
    ∙ member c.other.inside.file_count c.other.inside.words.items file c.other.invariant
    ∙ ap (λ ws. has_file ws file) (sym c.deref-2.ensures.value)
    in (
      λ told. let (file, is, also) = c.have_common.ensures.0 told in (file, (mine file ∙ is, its file ∙ also)),
      λ (file, both). c.have_common.ensures.1 (file, sym (mine file) ∙ both.0, sym (its file) ∙ both.1),
    )
