-- What proofs of this crate name of its own definitions, passed on from one place.
-- Declares nothing.
pub use Rattle.protoref_arguments.specs.CommandLines.{AskedCommand, Command, add_import, asked_by_line, asked_by_words, asked_by_command, asks_help, asks_version, bad_line, command_named, commands, compile, delete_field, drop_import, help, lint, log, migrate, command_name, names_rule, recover, rename, rules, taken, undo}
pub use Rattle.protoref_arguments.specs.Marked.{begins_dashed, is_bad_at, is_dashed, marked_first, words_marked, marks_for_word}
pub use Rattle.protoref_arguments.specs.Matched.{asked_of}
pub use Rattle.protoref_arguments.specs.Program.{program}
pub use Rattle.protoref_arguments.specs.Requests.{IsReplyTo, IsAnswerTo, IsWordsFaultOf, IsHelpOf, IsSetFor, IsTextOf, name_rule}
pub use Rattle.protoref_arguments.specs.declared.request.UsageError.{UsageError}
