use Rattle.std.proofs.Common.{List, All, sym, ◌∙◌, ap, subst}
use Rattle.proto_files.specs.Common.{ReadFile, FileOf, AreWorkspaceFiles, IsReadFile, read_files}
use Rattle.proto_files.proofs.files.Files.copy.Goals as goal

pub copy_files-requires : goal.copy_files-requires
copy_files-requires c = subst (λ (fs : List ReadFile). All IsReadFile fs) (sym c.deref.ensures.value) c.self.invariant.read

pub invariant_of-result : goal.invariant_of-result
invariant_of-result c = record {
  workspace = subst (λ (fs : List FileOf). AreWorkspaceFiles fs) (sym (c.in_ok-files.ensures.same ∙ ap read_files c.deref.ensures.value)) c.self.invariant.workspace;
  read = c.in_ok-files.ensures.read;
}

pub returns : goal.returns
returns c = c.in_ok-files.ensures.same ∙ ap read_files c.deref.ensures.value ∙ c.self.view_is
