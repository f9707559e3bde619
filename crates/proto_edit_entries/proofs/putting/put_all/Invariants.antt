use Rattle.std.proofs.Common.{map}
use Rattle.proto_base.proofs.Common.{AreInLanguage, files_of_as}
use Rattle.proto_base.specs.declared.profile.Profile.{Profile}
use Rattle.proto_edit_entries.specs.Entries.{change_of}
use Rattle.proto_edit_entries.proofs.Walks.{IsWalked}
use Rattle.proto_edit_entries.proofs.putting.put_all.Given as goal

abbrev pub invariant-loop-place : goal.invariant-loop-place
invariant-loop-place l = (p : Profile) → AreInLanguage p l.files → IsWalked l.files (map change_of l.changes) l.place (map change_of l.left) (files_of_as p l.list.items)
