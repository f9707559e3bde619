-- What a command line asks for. Its words are those behind the program's name.
use Rattle.std.specs.Prelude.{◌||◌, Bool, false, List, [], ◌∷◌, Option, find, codes, if◌then◌else◌}
use Rattle.std.specs.List.{list_all, list_any}
use Rattle.std.specs.Option.{option_map_or}
use Rattle.std.specs.Str.{bytes_eq}
use Rattle.proto_base.specs.Texts.{Text, Path}
use Rattle.proto_base.specs.declared.profile.Profile.{Profile}
use Rattle.proto_base.specs.declared.profile.Profile.TheVariants.{Core}
use Rattle.proto_lint_rules.specs.Rules.{identifier}
use Rattle.proto_lint_rules.specs.declared.rule.Rule.{Rule}
use Rattle.proto_lint_rules.specs.declared.rule.Rule.TheVariants as rule
use Rattle.protoref_arguments.specs.Languages.{asked_in}

-- a command of the program
pub data Command : Type 0 where
  compile : Command
  lint : Command
  rename : Command
  delete_field : Command
  add_import : Command
  drop_import : Command
  undo : Command
  log : Command
  recover : Command
  migrate : Command

-- the word that names a command
abbrev pub command_name : Command → Text
command_name compile = codes "compile"
command_name lint = codes "lint"
command_name rename = codes "rename"
command_name delete_field = codes "delete-field"
command_name add_import = codes "add-import"
command_name drop_import = codes "drop-import"
command_name undo = codes "undo"
command_name log = codes "log"
command_name recover = codes "recover"
command_name migrate = codes "migrate"

-- all commands of the program
abbrev pub commands : List Command
commands = compile
    ∷ lint
    ∷ rename
    ∷ delete_field
    ∷ add_import
    ∷ drop_import
    ∷ undo
    ∷ log
    ∷ recover
    ∷ migrate
    ∷ []

-- the command that a word names; none, where it is the name of none
abbrev pub command_named : Text → Option Command
command_named word = find (λ command. bytes_eq (command_name command) word) commands

-- a word asks for help: it is `-h` or `--help`
abbrev pub asks_help : Text → Bool
asks_help word = bytes_eq word (codes "-h") || bytes_eq word (codes "--help")

-- all lint rules
abbrev pub rules : List Rule
rules = rule.DirectorySamePackage
    ∷ rule.EnumFirstValueZero
    ∷ rule.EnumNoAllowAlias
    ∷ rule.EnumPascalCase
    ∷ rule.EnumValuePrefix
    ∷ rule.EnumValueUpperSnakeCase
    ∷ rule.EnumZeroValueSuffix
    ∷ rule.FieldLowerSnakeCase
    ∷ rule.FileLowerSnakeCase
    ∷ rule.ImportNoPublic
    ∷ rule.ImportUsed
    ∷ rule.MessagePascalCase
    ∷ rule.OneofLowerSnakeCase
    ∷ rule.PackageDefined
    ∷ rule.PackageDirectoryMatch
    ∷ rule.PackageLowerSnakeCase
    ∷ rule.PackageSameDirectory
    ∷ rule.PackageVersionSuffix
    ∷ rule.RpcNoClientStreaming
    ∷ rule.RpcNoServerStreaming
    ∷ rule.RpcPascalCase
    ∷ rule.RpcRequestResponseUnique
    ∷ rule.RpcRequestStandardName
    ∷ rule.RpcResponseStandardName
    ∷ rule.ServicePascalCase
    ∷ rule.ServiceSuffix
    ∷ rule.SyntaxSpecified
    ∷ []

-- a word is the identifier of a lint rule
abbrev pub names_rule : Text → Bool
names_rule word = list_any (λ r. bytes_eq word (identifier r)) rules

-- what a command line asks for, with the texts that its words are; `bad_line` asks for nothing
pub data AskedCommand : Type 0 where
  -- a text of help
  help : AskedCommand
  -- the version of the program
  version : AskedCommand
  -- the descriptors of the schemas in the folder ROOT
  compile_of : Path → AskedCommand
  -- what lint finds in the schemas in ROOT by the rules with these identifiers
  lint_of : Path → List Text → AskedCommand
  -- in ROOT, the symbol with the full name NAME gets the simple name TO
  rename_of : Path → Text → Text → AskedCommand
  -- in ROOT, the field with the full name NAME is deleted
  delete_field_of : Path → Text → AskedCommand
  -- in ROOT, the schema FILE imports PATH from now on
  add_import_of : Path → Path → Path → AskedCommand
  -- in ROOT, the schema FILE imports PATH no longer
  drop_import_of : Path → Path → Path → AskedCommand
  -- the last entry of the journal of ROOT is undone
  undo_of : Path → AskedCommand
  -- the entries of the journal of ROOT
  log_of : Path → AskedCommand
  -- ROOT is brought back to before the open entry of its journal
  recover_of : Path → AskedCommand
  -- the journal of ROOT goes over to the second version
  migrate_of : Path → AskedCommand
  -- nothing, since the line is a bad one
  bad_line : AskedCommand

-- what a command asks for with these texts behind it: it takes them in this order, and neither
-- more nor fewer, but for `lint`, which takes any number of identifiers of rules
abbrev pub taken : Command → List Text → AskedCommand
taken compile (root ∷ []) = compile_of root
taken lint (root ∷ names) = if list_all names_rule names then lint_of root names else bad_line
taken rename (root ∷ name ∷ to ∷ []) = rename_of root name to
taken delete_field (root ∷ name ∷ []) = delete_field_of root name
taken add_import (root ∷ file ∷ path ∷ []) = add_import_of root file path
taken drop_import (root ∷ file ∷ path ∷ []) = drop_import_of root file path
taken undo (root ∷ []) = undo_of root
taken log (root ∷ []) = log_of root
taken recover (root ∷ []) = recover_of root
taken migrate (root ∷ []) = migrate_of root
taken _ _ = bad_line

-- what a command asks for with these words behind it: help, where the first asks for it; else each
-- word is a text as it stands, whatever it begins with
abbrev pub asked_by_command : Command → List Text → AskedCommand
asked_by_command command [] = taken command []
asked_by_command command (word ∷ words) =
    if asks_help word then help else taken command (word ∷ words)

-- what the words of a command ask for: help, where the first asks for it; else what the command
-- asks for that the first names
abbrev pub asked_by_words : List Text → AskedCommand
asked_by_words [] = bad_line
asked_by_words (word ∷ words) = if asks_help word then help
    else option_map_or (λ command. asked_by_command command words) (command_named word) bad_line

-- all words of a line ask for the version: they are `--version` alone
abbrev pub asks_version : List Text → Bool
asks_version (word ∷ []) = bytes_eq word (codes "--version")
asks_version words = false

-- the language that a command line asks for, and what it asks for: the version, where all its words
-- ask for that; else what the words of the command do
abbrev pub asked_by_line : List Text → Profile × AskedCommand
asked_by_line words = if asks_version words then (Core, version)
    else ((asked_in words).0, asked_by_words (asked_in words).1)
