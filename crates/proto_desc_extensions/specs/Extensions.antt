-- The extensions of a workspace, what is wrong with their numbers, and with the custom options that
-- are set by their names. An extension, the message that it extends and an option that means it may
-- stand in three files, so this is asked of all files at once.
use Rattle.std.specs.Prelude.{ℕ, zero, suc, Bool, false, not, ◌&&◌, ◌==◌, List, [], ◌++◌, map, flat_map, find, is_some, Option, Some, None, option_map}
use Rattle.std.specs.List.{list_any}
use Rattle.std.specs.Option.{option_and_then}
use Rattle.std.specs.Ordering.{int_eq}
use Rattle.proto_base.specs.Texts.{Text}
use Rattle.proto_base.specs.declared.fault.FaultKind.TheVariants as kind
use Rattle.proto_base.specs.declared.profile.Profile.{Profile}
use Rattle.proto_base.specs.declared.profile.Profile.TheVariants as profile
use Rattle.proto_tree.specs.References.{first_of}
use Rattle.proto_tree.specs.Tree.{Tree}
use Rattle.proto_tree.specs.declared.piece.Header.{Header}
use Rattle.proto_tree.specs.declared.piece.Header.TheVariants as header
use Rattle.proto_tree.specs.declared.tree.Reference.{Reference}
use Rattle.proto_files.specs.FilesRead.{ReadOf, read_at}
use Rattle.proto_files.specs.GivenFiles.{FileOf, file_at}
use Rattle.proto_names_rules.specs.Faults.{place_of}
use Rattle.proto_names_rules.specs.Grown.{At}
use Rattle.proto_names_rules.specs.Names.{same_name}
use Rattle.proto_custom_options.specs.CustomOptions.{CustomOf, customs_in, options_words}
use Rattle.proto_ast.specs.Parts.{BlockOf, blocks_in, extension_ranges, fields_in, statements}
use Rattle.proto_ast.specs.Scenes.{Scene}
use Rattle.proto_ast.specs.declared.ranges.RangeAt.{RangeAt}
use Rattle.proto_desc_numbers.specs.Flaws.{earlier, flaw_if, marked}
use Rattle.proto_desc_numbers.specs.NumberFlaws.{is_inside, number_of_field, range_of}
use Rattle.proto_desc_numbers.specs.declared.flaw.Flaw.{Flaw}
use Rattle.proto_desc_numbers.specs.declared.numbers.NumberAt.{NumberAt}
use Rattle.proto_desc_checks.specs.FileFlaws.{file_flaws}
use Rattle.proto_resolved.specs.SceneOf.{declared_as, scene_of}
pub use Rattle.proto_resolved.specs.SceneOf.{name_meant}

-- ---- extensions

-- an extension: its number, by the token that it stands at, and the full name, by its words, of
-- what it extends
pub record ExtensionOf : Type 0 where
  pub number : NumberAt
  pub extendee : List Text

-- what a block extends, as it is written, if it is an `extend` block
abbrev pub extendee_in : Header → Option Reference
extendee_in (header.Extend e) = Some e.extendee
extendee_in (header.Message h) = None
extendee_in (header.Oneof h) = None
extendee_in (header.Enum h) = None
extendee_in (header.Service h) = None
extendee_in (header.Method s) = None

-- the fields between the braces as extensions of what has this name, if there is a name
abbrev pub extensions_of : Scene → Option (List Text) → Tree → List ExtensionOf
extensions_of scene None within = []
extensions_of scene (Some name) within =
    map (λ f. record { number = number_of_field scene f; extendee = name }) (fields_in within)

-- the extensions of a block of a file: of an `extend` block its fields, where its extendee means
-- something (where it means nothing, that is a fault of an earlier phase)
abbrev pub block_extensions
    : Option ℕ → List FileOf → List ReadOf → ℕ → BlockOf → List ExtensionOf
block_extensions cap files reads file b =
    extensions_of (scene_of cap files reads file)
    (option_and_then (name_meant files reads file) (extendee_in b.header)) b.within

-- the extensions of a file in the order of their offsets, their numbers up to a cap, if there is
-- one; files are numbered from 0 in the order of their paths
abbrev pub extensions_in : Option ℕ → List FileOf → List ReadOf → ℕ → List ExtensionOf
extensions_in cap files reads file =
    flat_map (block_extensions cap files reads file) (blocks_in (read_at reads file).tree)

-- the extensions of all files before this one
abbrev pub extensions_before : Option ℕ → List FileOf → List ReadOf → ℕ → List ExtensionOf
extensions_before cap files reads zero = []
extensions_before cap files reads (suc file) =
    extensions_before cap files reads file ++ extensions_in cap files reads file

-- of the extensions before a file those whose numbers its own may not have: in the core language
-- all, as written none (two files may use one number there)
abbrev pub taken_before : {A : Type 0} → Profile → List A → List A
taken_before profile.Core before = before
taken_before profile.AsWritten before = []

-- ---- what messages leave to extensions

-- the header is that of a message whose name is at this token (as `is_enum_at` of proto_resolved is
-- of an enum: each lists all headers, so that a further one is asked in both)
abbrev pub is_message_at : ℕ → Header → Bool
is_message_at token (header.Message h) = h.name == token
is_message_at token (header.Oneof h) = false
is_message_at token (header.Enum h) = false
is_message_at token (header.Service h) = false
is_message_at token (header.Method s) = false
is_message_at token (header.Extend e) = false

-- the ranges that stand in a message, where there is one, as ranges that it leaves to extensions
abbrev pub ranges_within : Scene → Option BlockOf → List RangeAt
ranges_within scene None = []
ranges_within scene (Some b) =
    map (range_of scene) (flat_map extension_ranges (statements b.within))

-- the ranges that the message whose name is at this token of a file leaves to extensions; none
-- where no message has it
abbrev pub extension_ranges_at : Option ℕ → List FileOf → List ReadOf → At → List RangeAt
extension_ranges_at cap files reads a =
    ranges_within (scene_of cap files reads a.file)
    (find (λ b. is_message_at a.token b.header) (blocks_in (read_at reads a.file).tree))

-- the ranges at this place, where there is one
abbrev pub ranges_at_place : Option ℕ → List FileOf → List ReadOf → Option At → List RangeAt
ranges_at_place cap files reads None = []
ranges_at_place cap files reads (Some a) = extension_ranges_at cap files reads a

-- the ranges that the message with this full name leaves to extensions; none where no message has
-- it
abbrev pub ranges_named : Option ℕ → List FileOf → List ReadOf → List Text → List RangeAt
ranges_named cap files reads name =
    ranges_at_place cap files reads
    (option_map place_of (declared_as files reads name))

-- ---- sentences

-- the number is inside a range that what it extends leaves to extensions (also inside one that is
-- itself faulty; one that ends before it begins holds no number)
abbrev pub is_extendable : Option ℕ → List FileOf → List ReadOf → ExtensionOf → Bool
is_extendable cap files reads e =
    list_any (is_inside e.number.number) (ranges_named cap files reads e.extendee)

-- 36 NotExtendable at each number inside no extension range of what it extends
abbrev pub not_extendable : Option ℕ → List FileOf → List ReadOf → List ExtensionOf → List Flaw
not_extendable cap files reads es =
    flat_map (λ e. flaw_if
    (not (is_extendable cap files reads e)) kind.NotExtendable e.number.token) es

-- two extensions of one message have one number
abbrev pub are_same : ExtensionOf → ExtensionOf → Bool
are_same a b = same_name a.extendee b.extendee && int_eq a.number.number b.number.number

-- 37 DuplicateExtension at each number that an earlier extension of the same message has: one of
-- those that are taken before all of these, or one of these
abbrev pub repeated_extensions : List ExtensionOf → List ExtensionOf → List Flaw
repeated_extensions before es =
    marked kind.DuplicateExtension (map (λ e. e.number.token) es) (earlier are_same before es)

-- what is wrong with the numbers of a file's extensions
abbrev pub number_flaws : Option ℕ → List FileOf → List ReadOf → ℕ → List Flaw
number_flaws cap files reads file =
    not_extendable cap files reads (extensions_in cap files reads file)
    ++ repeated_extensions
    (taken_before (file_at files file).profile (extensions_before cap files reads file))
    (extensions_in cap files reads file)

-- ---- the options of elements

-- the block is an `extend` with an extension whose name is at this token
abbrev pub has_extension_at : ℕ → BlockOf → Bool
has_extension_at token b =
    is_some (extendee_in b.header) && list_any (λ f. f.name == token) (fields_in b.within)

-- the full name, by its words, of what a block of a file extends, if it means something
abbrev pub extendee_meant : List FileOf → List ReadOf → ℕ → BlockOf → Option (List Text)
extendee_meant files reads file b =
    option_and_then (name_meant files reads file) (extendee_in b.header)

-- the full name, by its words, of what the extension at this place extends
abbrev pub extended_at : List FileOf → List ReadOf → At → Option (List Text)
extended_at files reads a =
    option_and_then (extendee_meant files reads a.file)
    (find (has_extension_at a.token) (blocks_in (read_at reads a.file).tree))

-- what the extension with this full name extends
abbrev pub extended_by : List FileOf → List ReadOf → List Text → Option (List Text)
extended_by files reads name =
    option_and_then (λ d. extended_at files reads (place_of d)) (declared_as files reads name)

-- the name is that of the options message with this simple name
abbrev pub is_the_message : Text → Option (List Text) → Bool
is_the_message message None = false
is_the_message message (Some name) = same_name name (options_words message)

-- what the extension extends that a reference of a file means
abbrev pub option_extends : List FileOf → List ReadOf → ℕ → Reference → Option (List Text)
option_extends files reads file r =
    option_and_then (extended_by files reads) (name_meant files reads file r)

-- the extension that the option's name means extends the options message of the option's element
abbrev pub is_an_option : List FileOf → List ReadOf → ℕ → CustomOf → Bool
is_an_option files reads file c =
    is_the_message c.message (option_extends files reads file c.custom.name)

-- 39 NotAnOption at the name of each custom option of which that is not so (where the name means
-- nothing, that is also a fault of an earlier phase)
abbrev pub not_an_option : List FileOf → List ReadOf → ℕ → List CustomOf → List Flaw
not_an_option files reads file cs =
    flat_map (λ c. flaw_if (not (is_an_option files reads file c))
    kind.NotAnOption (first_of c.custom.name.dot c.custom.name.words)) cs

-- what is wrong with the custom options of a file
abbrev pub custom_flaws : List FileOf → List ReadOf → ℕ → List Flaw
custom_flaws files reads file =
    not_an_option files reads file (customs_in (read_at reads file).tree)

-- what is wrong with a file that its workspace decides: the numbers of its extensions, and its
-- custom options
abbrev pub workspace_flaws : Option ℕ → List FileOf → List ReadOf → ℕ → List Flaw
workspace_flaws cap files reads file =
    number_flaws cap files reads file ++ custom_flaws files reads file

-- what is wrong with a file of a workspace: with the file alone, and with it in its workspace
abbrev pub all_flaws : Option ℕ → List FileOf → List ReadOf → ℕ → List Flaw
all_flaws cap files reads file =
    file_flaws (scene_of cap files reads file) (read_at reads file).tree
    ++ workspace_flaws cap files reads file
