use Rattle.std.proofs.Common.{length, ap, sym, ◌∙◌}
use Rattle.std.proofs.lemmas.Bool.{eqb-true}
use Rattle.proto_file_sets.specs.Words.{has_file}
use Rattle.proto_file_sets.proofs.FilesInWords.{length-members, members-same, same_files}
use Rattle.proto_file_sets.proofs.FileSet.is_same.Goals as goal

pub returns-then-self-other : goal.returns-then-self-other
returns-then-self-other c =
    let mine = c.self.inside in
    let its = c.other.inside in
    let words = c.deref.ensures.value in
    let others = c.deref-then-self-other.ensures.value in (
      λ told.
          sym c.self.view_is
          ∙ members-same mine.file_count its.file_count mine.words.items its.words.items c.other.invariant c.if-self-other.true (λ file.
          ap (λ ws. has_file ws file) (sym words) ∙ c.are_same.ensures.0 told file ∙ ap (λ ws. has_file ws file) others)
          ∙ c.other.view_is,
      λ same. c.are_same.ensures.1 (λ file.
          ap (λ ws. has_file ws file) words
          ∙ same_files mine.file_count its.file_count mine.words.items its.words.items c.self.invariant c.other.invariant (c.self.view_is ∙ same ∙ sym c.other.view_is) file
          ∙ ap (λ ws. has_file ws file) (sym others)),
    )

pub returns-else-self-other : goal.returns-else-self-other
returns-else-self-other c =
    let mine = c.self.inside in
    let its = c.other.inside in (
      λ told. absurd (c.if-self-other.false (eqb-true mine.file_count its.file_count told)),
      λ same. absurd (c.if-self-other.false
          (sym (length-members mine.file_count mine.words.items) ∙ ap length (c.self.view_is ∙ same ∙ sym c.other.view_is) ∙ length-members its.file_count its.words.items)),
    )
