-- Worked rows of the definitions.
use Rattle.std.proofs.Common.{◌≡◌, true, false, refl, codes}
use Rattle.proto_files.specs.WorkspacePaths.{is_workspace_path, IsBefore}

a_path : is_workspace_path (codes "a/b-c_D.9/e.proto") ≡ true
a_path = refl

ending_alone : is_workspace_path (codes ".proto") ≡ true
ending_alone = refl

dot : is_workspace_path (codes "a/./b.proto") ≡ false
dot = refl

dots : is_workspace_path (codes "../b.proto") ≡ false
dots = refl

empty_part : is_workspace_path (codes "a//b.proto") ≡ false
empty_part = refl

no_ending : is_workspace_path (codes "a.prot") ≡ false
no_ending = refl

-- by bytes: `.` is before `/`, and a capital letter before a small one
order : IsBefore (codes "a.proto") (codes "a/b.proto")
order = refl

capital : IsBefore (codes "B.proto") (codes "a.proto")
capital = refl
