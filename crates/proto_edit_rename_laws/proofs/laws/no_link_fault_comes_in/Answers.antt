use Rattle.proto_edit_rename_laws.proofs.NoLinkFault.{files_are_woven, files_are_linked, read_files_are_clean, no_link_fault}
use Rattle.proto_edit_rename_laws.proofs.laws.no_link_fault_comes_in.Goals as goal

pub returns : goal.returns
returns c = record { woven = files_are_woven; linked = files_are_linked; read = read_files_are_clean; link = no_link_fault }
