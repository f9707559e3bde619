-- What proofs of the crates above name of this crate, passed on from one place. Declares nothing.
pub use Rattle.proto_files.proofs.CoreFiles.{core_files_are_written, core_files_stay_clean}
pub use Rattle.proto_files.proofs.FaultOrder.{comes_before_cases}
pub use Rattle.proto_files.proofs.FilesAreRead.{each_pushed}
pub use Rattle.proto_files.proofs.OneOrder.{grammar_is_phase_2, one_order, paths_are_phase_0, texts_are_phase_1}
pub use Rattle.proto_files.proofs.OneReading.{AreWordsAt, IsTreeOf, same_tree, same_words}
pub use Rattle.proto_files.proofs.PathOrder.{PathsRise, before_trans, bytes_apart, count_once, never_before_itself, sides}
pub use Rattle.proto_files.proofs.ReadOnce.{one_reading, read_once, tokens_at}
pub use Rattle.proto_files.specs.Faults.{ComesBefore, FaultAt, HasNoFault, IsFilesError, IsLeastFault, fault_at}
pub use Rattle.proto_files.specs.FileTokens.{AreTokensOf, IsAtToken}
pub use Rattle.proto_files.specs.FilesRead.{AreRead, Each, ReadOf, read_at}
pub use Rattle.proto_files.specs.GivenFiles.{AreWorkspaceFiles, FileOf, file_at, file_of, files_of, paths_of}
pub use Rattle.proto_files.specs.PathFaults.{IsPathFault, PathFaults}
pub use Rattle.proto_files.specs.ReadFaults.{IsGrammarFault, IsText, IsTextFault, ReadFaults}
pub use Rattle.proto_files.specs.StringTokens.{is_string, string_at}
pub use Rattle.proto_files.specs.WorkspacePaths.{IsBefore, IsWorkspacePath}
