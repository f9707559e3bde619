use Rattle.std.proofs.Common.{◌≡◌, map, take}
use Rattle.proto_files.specs.GivenFiles.{files_of}
use Rattle.proto_base.specs.declared.profile.Profile.TheVariants.{Core}
use Rattle.proto_session_files.specs.Views.{open_of, seen_over}
use Rattle.proto_session_files.proofs.seeing.seen.Given as goal

abbrev pub invariant-loop-open : goal.invariant-loop-open
invariant-loop-open l =
    files_of l.files.items ≡ seen_over Core (files_of l.disk) (map open_of (take l.open-index l.opened))
