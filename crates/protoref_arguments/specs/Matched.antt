-- What the matches of `clap` ask for.
use Rattle.std.specs.Prelude.{List, [], ◌∷◌, Option, Some, None, codes, unwrap_or, if◌then◌else◌}
use Rattle.std.specs.Option.{option_map_or}
use Rattle.std.specs.Str.{bytes_eq}
use Rattle.clap.specs.Walk.{Row, all_of, first_of}
use Rattle.proto_base.specs.Texts.{Text}
use Rattle.protoref_arguments.specs.CommandLines.{AskedCommand, Command, bad_line, taken, compile, lint, rename, delete_field, add_import, drop_import, undo, log, recover, migrate, command_name}

-- what is asked for with the first text of an argument; nothing, where it has none
abbrev pub with_first_text : Text → List Row → (Text → AskedCommand) → AskedCommand
with_first_text id rows next = option_map_or next (first_of id rows) bad_line

-- what a command asks for with a root, and the texts of these two arguments behind it
abbrev pub with_two : Command → Text → Text → List Row → Text → AskedCommand
with_two command first second rows root = with_first_text first rows (λ a.
    with_first_text second rows (λ b. taken command (root ∷ a ∷ b ∷ [])))

-- what a command asks for with a root, and the text of this argument behind it
abbrev pub with_one : Command → Text → List Row → Text → AskedCommand
with_one command id rows root = with_first_text id rows (λ a. taken command (root ∷ a ∷ []))

-- what the command with this name asks for, with a root and the matches of its other arguments
abbrev pub with_root : Text → List Row → Text → AskedCommand
with_root name rows root = if bytes_eq name (command_name compile) then taken compile (root ∷ [])
    else if bytes_eq name (command_name lint)
    then taken lint (root ∷ unwrap_or (all_of (codes "RULE") rows) [])
    else if bytes_eq name (command_name rename)
    then with_two rename (codes "NAME") (codes "TO") rows root
    else if bytes_eq name (command_name delete_field)
    then with_one delete_field (codes "NAME") rows root
    else if bytes_eq name (command_name add_import)
    then with_two add_import (codes "FILE") (codes "PATH") rows root
    else if bytes_eq name (command_name drop_import)
    then with_two drop_import (codes "FILE") (codes "PATH") rows root
    else if bytes_eq name (command_name undo) then taken undo (root ∷ [])
    else if bytes_eq name (command_name log) then taken log (root ∷ [])
    else if bytes_eq name (command_name recover) then taken recover (root ∷ [])
    else if bytes_eq name (command_name migrate) then taken migrate (root ∷ [])
    else bad_line

-- what the command with this name and these matches asks for
abbrev pub asked_by_matches : Text → List Row → AskedCommand
asked_by_matches name rows = with_first_text (codes "ROOT") rows (with_root name rows)

-- what matches ask for, by the command that they name
abbrev pub asked_of : Option (Text × List Row) → AskedCommand
asked_of None = bad_line
asked_of (Some found) = asked_by_matches found.0 found.1
