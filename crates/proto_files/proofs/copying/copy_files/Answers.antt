use Rattle.std.proofs.Common.{◌∷◌, [], ◌++◌, take, sym, ◌∙◌, ap, subst, take_all}
use Rattle.proto_base.proofs.Common.{take_more}
use Rattle.proto_files.specs.Common.{ReadFile, IsReadFile, read_file, read_files}
use Rattle.proto_files.proofs.FirstErrors.{same_push, all_push}
use Rattle.proto_files.proofs.copying.copy_files.Goals as goal

pub copy_file-requires : goal.copy_file-requires
copy_file-requires c = subst (λ (f : ReadFile). IsReadFile f) (sym c.file-item.is) (c.requires c.loop-file.file-index c.file-item.result c.loop-file-test.true)

pub loop-file-preserved : goal.loop-file-preserved
loop-file-preserved c =
    let copies = c.loop-file.copies.items in
    let copy = c.in_ok-copy_file.field-0 in
    let done = take c.loop-file.file-index c.args.files.now in (
      same_push read_file read_file copies c.push.new.self.items done copy c.file-item.result c.in_ok-push.ensures.items c.loop-file.invariant.0 c.in_ok-copy_file.ensures.same
          ∙ ap (λ (f : ReadFile). read_files (done ++ f ∷ [])) c.file-item.is
          ∙ ap read_files (sym (take_more c.args.files.now c.loop-file.file-index c.file-item.result c.loop-file-test.true)),
      all_push IsReadFile copies c.push.new.self.items copy c.in_ok-push.ensures.items c.loop-file.invariant.1 c.in_ok-copy_file.ensures.read,
    )

pub returns-clause-same : goal.returns-clause-same
returns-clause-same c = c.loop-file.invariant.0 ∙ ap read_files (take_all c.loop-file.file-index c.args.files.now c.loop-file-test.false)
