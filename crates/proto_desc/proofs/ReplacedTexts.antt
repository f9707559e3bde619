-- What is answered where files get other texts, and what stays where they do not.
use Rattle.std.proofs.Common.{◌≡◌, ℕ, List, ap, ◌∙◌, subst}
use Rattle.proto_base.proofs.Common.{Text}
use Rattle.proto_base.specs.declared.fault.SchemaFault.{SchemaFault}
use Rattle.proto_files.proofs.Common.{AreWorkspaceFiles, FileOf, HasNoFault, IsFilesError, ReadFaults}
use Rattle.proto_edit_entries.specs.Putting.{with_texts}
use Rattle.proto_desc.proofs.GivenInOrder.{read_in_order}
use Rattle.proto_desc.proofs.Opened.{files_error, no_fault}
use Rattle.proto_desc.proofs.WithTexts.{with_texts_at}
use Rattle.proto_desc.specs.NewTexts.{TextAt, texts_at, with_all}
use Rattle.proto_desc.specs.Opening.{IsOpenError}
use Rattle.proto_desc.specs.Whole.{FileFaults, WorkspaceFaults}

pub put_files : (files old new : List FileOf) (ps : List ℕ) (ts : List Text) (rs : List TextAt) → files ≡ old → rs ≡ texts_at ps ts → new ≡ with_all files rs → new ≡ with_texts old ps ts
put_files files old new ps ts rs was same put =
    put ∙ ap (with_all files) same ∙ with_texts_at files ps ts ∙ ap (λ (fs : List FileOf). with_texts fs ps ts) was

pub put_clean : (w new : List FileOf) → new ≡ w → AreWorkspaceFiles new → HasNoFault (ReadFaults new) → HasNoFault (FileFaults new) → HasNoFault (WorkspaceFaults w)
put_clean w new is workspace read clean = subst (λ (fs : List FileOf). HasNoFault (WorkspaceFaults fs)) is (no_fault new new (read_in_order new workspace read) clean)

pub put_error : (w new : List FileOf) (e : SchemaFault) → new ≡ w → AreWorkspaceFiles new → HasNoFault (ReadFaults new) → IsFilesError (FileFaults new) e → IsOpenError w e
put_error w new e is workspace read h = subst (λ (fs : List FileOf). IsOpenError fs e) is (files_error new new e (read_in_order new workspace read) h)
