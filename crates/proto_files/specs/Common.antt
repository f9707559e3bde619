-- What proofs of this crate name of its own definitions, passed on from one place.
-- Declares nothing.
pub use Rattle.proto_files.specs.Faults.{ComesBefore, FaultAt, HasNoFault, IsFilesError, IsLeastFault, fault_at, fault_cmp}
pub use Rattle.proto_files.specs.FilesRead.{AreRead, Each, ReadOf, read_at}
pub use Rattle.proto_files.specs.FirstFault.{begins_with, fault_or}
unfoldable pub use Rattle.proto_files.specs.FirstFault.{fault_before, first_fault}
pub use Rattle.proto_files.specs.GivenFiles.{AreWorkspaceFiles, FileOf, file_at, file_of, file_of_as, files_of, files_of_as, no_file, paths_of}
pub use Rattle.proto_files.specs.PathFaults.{IsPathFault, PathFaults}
pub use Rattle.proto_files.specs.ReadFaults.{AreFileTokens, FaultsOf, GrammarFaults, IsGrammarFault, IsLexFault, IsText, IsTextFault, ReadFaults, TextFaults}
pub use Rattle.proto_files.specs.Reading.{HasNone, IsFileError, IsFirstError, IsFirstFault, IsLexedFile, IsOnlyFault, IsReadFile, grammar_error, lex_kind, text_error}
pub use Rattle.proto_files.specs.Stages.{lexed_file, lexed_files, named_file, named_files, named_paths, read_file, read_files}
pub use Rattle.proto_files.specs.StringTokens.{string_at, string_text}
pub use Rattle.proto_files.specs.WorkspacePaths.{IsBefore, IsInPathOrder, IsWorkspacePath, is_workspace_path, path_cmp}
pub use Rattle.proto_files.specs.declared.stages.LexedFile.{LexedFile}
pub use Rattle.proto_files.specs.declared.stages.NamedFile.{NamedFile}
pub use Rattle.proto_files.specs.declared.stages.ReadFile.{ReadFile}
