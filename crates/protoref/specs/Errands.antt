-- What the program does for a request, and which commands write.
use Rattle.proto_edit_entries.specs.declared.edit.Edit.TheVariants as edit
use Rattle.protoref_commands.specs.declared.command.Command.{Command}
use Rattle.protoref_commands.specs.declared.command.Command.TheVariants as command
use Rattle.protoref_arguments.specs.declared.request.Request.{Request}
use Rattle.protoref_arguments.specs.declared.request.Request.TheVariants as request
use Rattle.protoref.specs.declared.errand.Errand.{Errand}
use Rattle.protoref.specs.declared.errand.Errand.TheVariants as errand
use Rattle.protoref.specs.declared.errand.Way.{Way}
use Rattle.protoref.specs.declared.errand.Way.TheVariants as way

-- the text or the version that is asked for; or the command, and the root that it is asked for
abbrev pub errand_of : Request → Errand
errand_of (request.Help text) = errand.Print text
errand_of request.Version = errand.PrintVersion
errand_of (request.Compile root) = errand.Run command.Compile root
errand_of (request.Lint root rules) = errand.Run (command.Lint rules) root
errand_of (request.Rename root name to) = errand.Run (command.Edit (edit.Rename name to)) root
errand_of (request.DeleteField root name) = errand.Run (command.Edit (edit.DeleteField name)) root
errand_of (request.AddImport root file path) =
    errand.Run (command.Edit (edit.AddImport file path)) root
errand_of (request.DropImport root file path) =
    errand.Run (command.Edit (edit.DropImport file path)) root
errand_of (request.Undo root) = errand.Run command.Undo root
errand_of (request.Log root) = errand.Run command.Log root
errand_of (request.Recover root) = errand.Run command.Recover root
errand_of (request.Migrate root) = errand.Run command.Migrate root

-- edits, undo, recovery and migration write, and no other command does
abbrev pub way_of : Command → Way
way_of command.Compile = way.Reads
way_of (command.Lint rules) = way.Reads
way_of (command.Edit edit) = way.Changes
way_of command.Undo = way.Changes
way_of command.Log = way.Reads
way_of command.Recover = way.Recovers
way_of command.Migrate = way.Changes
