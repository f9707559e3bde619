-- The extensions of a file as the code lists them, and those that it has seen.
use Rattle.std.specs.Prelude.{◌≡◌, ℕ, Bool, not, ◌&&◌, List, length, map, flat_map, Option, Some, None}
use Rattle.std.specs.Global.{Vec}
use Rattle.std.specs.List.{list_any}
use Rattle.std.specs.Ordering.{int_eq}
use Rattle.std.specs.Str.{bytes_eq}
use Rattle.indexmap.specs.IndexSet.{IndexSet, contains}
use Rattle.proto_base.specs.Texts.{Text}
use Rattle.proto_base.specs.declared.fault.FaultKind.TheVariants as kind
use Rattle.proto_files.specs.FilesRead.{AreRead, Each, ReadOf}
use Rattle.proto_files.specs.GivenFiles.{FileOf}
use Rattle.proto_names_rules.specs.Joined.{joined}
use Rattle.proto_tree.specs.declared.tree.Reference.{Reference}
use Rattle.proto_ast.specs.Numbers.{past}
use Rattle.proto_ast.specs.declared.ranges.RangeAt.{RangeAt}
use Rattle.proto_desc_numbers.specs.Flaws.{earlier, flaw_if, marked}
use Rattle.proto_desc_numbers.specs.NumberFlaws.{is_inside}
use Rattle.proto_desc_numbers.specs.RangeIndex.{IsRangeIndexOf}
use Rattle.proto_desc_numbers.specs.declared.flaw.Flaw.{Flaw}
use Rattle.proto_desc_numbers.specs.declared.numbers.NumberAt.{NumberAt}
use Rattle.proto_desc_extensions.specs.Extensions.{ExtensionOf, extensions_in, is_extendable, name_meant, number_flaws, ranges_named, workspace_flaws}
use Rattle.proto_desc_extensions.specs.declared.listed.Extendee.{Extendee}
use Rattle.proto_desc_extensions.specs.declared.listed.ExtensionAt.{ExtensionAt}
use Rattle.proto_desc_extensions.specs.declared.flaws.Key.{Key}

-- ---- the extensions of a file

-- what is told of an extension: its number, the full name of what it extends, joined by dots, and
-- whether that leaves the number to extensions
pub record Told : Type 0 where
  pub number : NumberAt
  pub extendee : Text
  pub is_extendable : Bool

-- an extension of a workspace
abbrev pub told : List FileOf → List ReadOf → ExtensionOf → Told
told files reads e = record {
  number = e.number;
  extendee = joined e.extendee;
  is_extendable = is_extendable (Some past) files reads e;
}

-- the same as it is listed
abbrev pub told_by : ExtensionAt → Told
told_by e = record {
  number = e.number;
  extendee = e.extendee.now;
  is_extendable = e.is_extendable;
}

-- these are the extensions of the file with this number, from 0, their numbers up to a cap past
-- every limit
abbrev pub AreExtensionsOf : List FileOf → ℕ → List ExtensionAt → Type 0
AreExtensionsOf files file es =
    (reads : List ReadOf) → AreRead files reads
    → map told_by es ≡ map (told files reads) (extensions_in (Some past) files reads file)

-- what a reference of a file means as the code finds it: nothing, or the full name, joined by dots,
-- and an index of the ranges that the message of this name leaves to extensions
abbrev pub IsExtendee
    : List FileOf → List ReadOf → ℕ → Reference → Option Extendee → Type 0
IsExtendee files reads file r None = name_meant files reads file r ≡ None
IsExtendee files reads file r (Some x) =
    (name : List Text) × (name_meant files reads file r ≡ Some name)
    × (x.name.now ≡ joined name)
    × IsRangeIndexOf (ranges_named (Some past) files reads name) x.ranges.now

-- a number as an extension of what has the name and leaves the ranges to extensions
abbrev pub told_number : Text → List RangeAt → NumberAt → Told
told_number name ranges n = record {
  number = n;
  extendee = name;
  is_extendable = list_any (is_inside n.number) ranges;
}

-- ---- those that are seen

-- two extensions of one name have one number
abbrev pub are_one : Told → Told → Bool
are_one a b = bytes_eq a.extendee b.extendee && int_eq a.number.number b.number.number

-- two keys are equal
abbrev pub is_same_key : Key → Key → Bool
is_same_key a b = bytes_eq a.extendee.now b.extendee.now && int_eq a.number b.number

-- a key is that of an extension
abbrev pub is_key_of : Key → Told → Bool
is_key_of k e = bytes_eq e.extendee k.extendee.now && int_eq e.number.number k.number

-- the keys that were seen are those of these extensions
abbrev pub HasSeen : {S : Type 0} → IndexSet Key S → List Told → Type 0
HasSeen seen before = (k : Key) → contains is_same_key seen k ≡ list_any (is_key_of k) before

-- ---- flaws

-- 36 NotExtendable at each number that what it extends does not leave to extensions
abbrev pub outside_ranges : List Told → List Flaw
outside_ranges es =
    flat_map (λ e. flaw_if (not e.is_extendable) kind.NotExtendable e.number.token) es

-- 37 DuplicateExtension at each number that an earlier extension of the same name has
abbrev pub again : List Told → List Told → List Flaw
again before es =
    marked kind.DuplicateExtension (map (λ e. e.number.token) es) (earlier are_one before es)

-- for each file, in the order of their paths, what is wrong with the numbers of its extensions, up
-- to a cap past every limit
pub record AreNumberFlaws (files : List FileOf) (found : List (Vec Flaw)) : Type 0 where
  pub len : length found ≡ length files
  pub each : (reads : List ReadOf) → AreRead files reads
      → Each (λ k flaws. flaws.items ≡ number_flaws (Some past) files reads k) found

-- for each file, in the order of their paths, what is wrong with it that its workspace decides,
-- with numbers up to a cap past every limit
pub record AreWorkspaceFlaws (files : List FileOf) (found : List (Vec Flaw)) : Type 0 where
  pub len : length found ≡ length files
  pub each : (reads : List ReadOf) → AreRead files reads
      → Each (λ k flaws. flaws.items ≡ workspace_flaws (Some past) files reads k) found
