-- The answer to a command line, as the code has it.
use Rattle.std.specs.Prelude.{◌≡◌, ◌≢◌, Bool, true, false, List, [], ◌∷◌, Option, Some, None, String, string_bytes, Result, Ok, Err}
use Rattle.std.specs.List.{list_all, list_any}
use Rattle.std.specs.declared.alloc.Global.{Global}
use Rattle.clap.specs.declared.error.kind.ErrorKind.{ErrorKind}
use Rattle.clap.specs.declared.error.kind.ErrorKind.TheVariants as kind
use Rattle.std.specs.Str.{bytes_eq}
use Rattle.proto_base.specs.Texts.{Text}
use Rattle.proto_base.specs.declared.profile.Profile.{Profile}
use Rattle.proto_lint_rules.specs.Rules.{identifier, is_chosen}
use Rattle.proto_lint_rules.specs.declared.rule.Rule.{Rule}
use Rattle.proto_lint_rules.specs.declared.rule_set.RuleSet.{RuleSet}
use Rattle.protoref_arguments.specs.CommandLines.{AskedCommand, names_rule, help, version, compile_of, lint_of, rename_of, delete_field_of, add_import_of, drop_import_of, undo_of, log_of, recover_of, migrate_of, bad_line}
use Rattle.protoref_arguments.specs.declared.request.Request.{Request}
use Rattle.protoref_arguments.specs.declared.request.Request.TheVariants as request
use Rattle.protoref_arguments.specs.declared.request.UsageError.{UsageError}
use Rattle.protoref_arguments.specs.declared.request.UsageError.TheVariants as fault

-- one of these texts is the identifier of a rule
abbrev pub name_rule : List Text → Rule → Bool
name_rule names rule = list_any (λ name. bytes_eq name (identifier rule)) names

-- these identifiers ask for a rule: one of them is its own, or there are none, which asks for all
abbrev pub ask_for : List Text → Rule → Bool
ask_for [] rule = true
ask_for (name ∷ names) rule = name_rule (name ∷ names) rule

-- a set has just the rules that identifiers ask for
abbrev pub IsSetOf : List Text → RuleSet → Type 0
IsSetOf names set = (rule : Rule) → is_chosen set.chosen rule ≡ ask_for names rule

-- a request is what is asked for, text by text; what stands in a help is not said
abbrev pub IsRequest : AskedCommand → Request → Type 0
IsRequest asked (request.Help text) = asked ≡ help
IsRequest asked request.Version = asked ≡ version
IsRequest asked (request.Compile root) = asked ≡ compile_of (string_bytes root)
IsRequest asked (request.Lint root set) =
    (names : List Text) × (asked ≡ lint_of (string_bytes root) names) × IsSetOf names set
IsRequest asked (request.Rename root name to) =
    asked ≡ rename_of (string_bytes root) (string_bytes name) (string_bytes to)
IsRequest asked (request.DeleteField root name) =
    asked ≡ delete_field_of (string_bytes root) (string_bytes name)
IsRequest asked (request.AddImport root file path) =
    asked ≡ add_import_of (string_bytes root) (string_bytes file) (string_bytes path)
IsRequest asked (request.DropImport root file path) =
    asked ≡ drop_import_of (string_bytes root) (string_bytes file) (string_bytes path)
IsRequest asked (request.Undo root) = asked ≡ undo_of (string_bytes root)
IsRequest asked (request.Log root) = asked ≡ log_of (string_bytes root)
IsRequest asked (request.Recover root) = asked ≡ recover_of (string_bytes root)
IsRequest asked (request.Migrate root) = asked ≡ migrate_of (string_bytes root)

-- the answer to a command line: the language and the request that are asked for; a bad command line
-- exactly where nothing is asked for; or out of memory, which may come at any words
abbrev pub IsAnswerTo : Profile × AskedCommand → Result (Profile × Request) UsageError → Type 0
IsAnswerTo asked (Ok answer) = (answer.0 ≡ asked.0) × IsRequest asked.1 answer.1
IsAnswerTo asked (Err fault.BadCommandLine) = asked.1 ≡ bad_line
IsAnswerTo asked (Err fault.NoMemory) = Unit {0}

-- ---- the parts of an answer

-- the reply to the words of a command: as the answer to a line, but for the language
abbrev pub IsReplyTo : AskedCommand → Result Request UsageError → Type 0
IsReplyTo asked (Ok request) = IsRequest asked request
IsReplyTo asked (Err fault.BadCommandLine) = asked ≡ bad_line
IsReplyTo asked (Err fault.NoMemory) = Unit {0}

-- a fault is out of memory, or a bad command line where it is one
abbrev pub IsWordsFaultOf : Bool → UsageError → Type 0
IsWordsFaultOf is_bad fault.BadCommandLine = is_bad ≡ true
IsWordsFaultOf is_bad fault.NoMemory = Unit {0}

-- the answer where `clap` has an error of this kind: help alone is asked for
abbrev pub IsHelpOf : ErrorKind → Result Request UsageError → Type 0
IsHelpOf k (Ok (request.Help text)) = k ≡ kind.DisplayHelp
IsHelpOf k (Ok _) = ⊥
IsHelpOf k (Err fault.BadCommandLine) = (k ≢ kind.DisplayHelp) × (k ≢ kind.OutOfMemory)
IsHelpOf k (Err fault.NoMemory) = Unit {0}

-- a text that an argument has, or a bad command line where it has none
abbrev pub IsTextOf : Option Text → Result (String Global) UsageError → Type 0
IsTextOf (Some text) (Ok s) = string_bytes s ≡ text
IsTextOf None (Ok s) = ⊥
IsTextOf o (Err fault.BadCommandLine) = o ≡ None
IsTextOf o (Err fault.NoMemory) = Unit {0}

-- the set of the rules that identifiers ask for, or a bad command line where one is no rule's
abbrev pub IsSetFor : List Text → Result RuleSet UsageError → Type 0
IsSetFor names (Ok set) = (list_all names_rule names ≡ true) × IsSetOf names set
IsSetFor names (Err fault.BadCommandLine) = list_all names_rule names ≡ false
IsSetFor names (Err fault.NoMemory) = ⊥
