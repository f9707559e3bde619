-- The program as `clap` has it: its commands with their arguments.
use Rattle.std.specs.Prelude.{List, [], ◌∷◌, Some, true, false, codes, map}
use Rattle.clap.specs.Lexer.{usize_max}
use Rattle.clap.specs.Walk.{Rule}
use Rattle.clap.specs.Simple.{App, Shape, new_rule, new_shape}
use Rattle.clap.specs.declared.builder.action.ArgAction.TheVariants.{Set, Append}
use Rattle.proto_base.specs.Texts.{Text}
use Rattle.protoref_arguments.specs.CommandLines.{Command, compile, lint, rename, delete_field, add_import, drop_import, undo, log, recover, migrate, commands, command_name}
use Rattle.protoref_arguments.specs.declared.commands.Argument.{Argument}
use Rattle.protoref_arguments.specs.declared.commands.Argument.TheVariants.{One, Many}
use Rattle.protoref_arguments.specs.declared.commands.Words.{Words}

-- an argument that is one word, which has to stand there
abbrev pub single_word : Text → Rule
single_word id = record (new_rule id) { action = Some Set; required = true }

-- an argument of any number of words
abbrev pub many_words : Text → Rule
many_words id = record (new_rule id) {
  action = Some Append;
  range = Some (record { start_inclusive = 0; end_inclusive = usize_max });
}

-- the folder of the schemas, which each command takes first
abbrev pub root : Rule
root = single_word (codes "ROOT")

-- the arguments of a command, in their order
abbrev pub arguments_of : Command → List Rule
arguments_of compile = root ∷ []
arguments_of lint = root ∷ many_words (codes "RULE") ∷ []
arguments_of rename = root ∷ single_word (codes "NAME") ∷ single_word (codes "TO") ∷ []
arguments_of delete_field = root ∷ single_word (codes "NAME") ∷ []
arguments_of add_import = root ∷ single_word (codes "FILE") ∷ single_word (codes "PATH") ∷ []
arguments_of drop_import = root ∷ single_word (codes "FILE") ∷ single_word (codes "PATH") ∷ []
arguments_of undo = root ∷ []
arguments_of log = root ∷ []
arguments_of recover = root ∷ []
arguments_of migrate = root ∷ []

-- a command of this name with these arguments
abbrev pub shape_with : Text → List Rule → Shape
shape_with name rules = record (new_shape name) { rules = rules }

-- a command of the program, with its name and its arguments
abbrev pub shape_of_command : Command → Shape
shape_of_command command = shape_with (command_name command) (arguments_of command)

-- the program with no command: one has to stand there, and none is called `help`
abbrev pub bare : Shape
bare = record (new_shape (codes "protoref")) {
  disable_help_subcommand = true;
  subcommand_required = true;
}

-- the program with all its commands
abbrev pub program : App
program = record { top = record bare { is_leaf = false }; subs = map shape_of_command commands }

-- ---- the table of the code

-- the argument that a row of the table stands for; its help is left out
abbrev pub rule_of_row : Argument → Rule
rule_of_row (One id help) = single_word id.now
rule_of_row (Many id help) = many_words id.now

-- the command that an entry of the table stands for; its help is left out
abbrev pub shape_of_words : Words → Shape
shape_of_words words = shape_with words.name.now (map rule_of_row words.arguments.now)
