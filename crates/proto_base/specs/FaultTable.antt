-- The numbers, names and phases of the faults of schemas: the table of this product.
use Rattle.std.specs.Prelude.{ℕ, codes}
use Rattle.proto_base.specs.declared.fault.FaultKind.{FaultKind}
use Rattle.proto_base.specs.declared.fault.FaultKind.TheVariants.{TooLarge, NotUtf8, BadChar, OpenComment, OpenString, BadEscape, BadNumber, Syntax, TooDeep, UnknownImport, DoubleImport, ImportCycle, DuplicateName, Unresolved, WrongKind, MapEntryRef, NumberRange, DuplicateNumber, ReservedNumber, ReservedName, RangeOverlap, EmptyEnum, FirstNotZero, ClosedEnum, Label, BadMap, BadOption, BadDefault, EmptyOneof, JsonClash, NotInProto3, AliasNotAllowed, BadPath, DoublePath, TooManyFiles, NotExtendable, DuplicateExtension, RequiredExtension, NotAnOption}
use Rattle.proto_base.specs.declared.fault.SchemaFault.{SchemaFault}
use Rattle.proto_base.specs.declared.fault.SchemaFault.TheVariants as answer
use Rattle.proto_base.specs.Texts.{Text}

-- the number of each fault: 1 to 39, no two the same
abbrev pub kind_number : FaultKind → ℕ
kind_number TooLarge = 1
kind_number NotUtf8 = 2
kind_number BadChar = 3
kind_number OpenComment = 4
kind_number OpenString = 5
kind_number BadEscape = 6
kind_number BadNumber = 7
kind_number Syntax = 8
kind_number TooDeep = 9
kind_number UnknownImport = 10
kind_number DoubleImport = 11
kind_number ImportCycle = 12
kind_number DuplicateName = 13
kind_number Unresolved = 14
kind_number WrongKind = 15
kind_number MapEntryRef = 16
kind_number NumberRange = 17
kind_number DuplicateNumber = 18
kind_number ReservedNumber = 19
kind_number ReservedName = 20
kind_number RangeOverlap = 21
kind_number EmptyEnum = 22
kind_number FirstNotZero = 23
kind_number ClosedEnum = 24
kind_number Label = 25
kind_number BadMap = 26
kind_number BadOption = 27
kind_number BadDefault = 28
kind_number EmptyOneof = 29
kind_number JsonClash = 30
kind_number NotInProto3 = 31
kind_number AliasNotAllowed = 32
kind_number BadPath = 33
kind_number DoublePath = 34
kind_number TooManyFiles = 35
kind_number NotExtendable = 36
kind_number DuplicateExtension = 37
kind_number RequiredExtension = 38
kind_number NotAnOption = 39

-- the word that stands for each fault where one is printed
abbrev pub kind_name : FaultKind → Text
kind_name TooLarge = codes "TooLarge"
kind_name NotUtf8 = codes "NotUtf8"
kind_name BadChar = codes "BadChar"
kind_name OpenComment = codes "OpenComment"
kind_name OpenString = codes "OpenString"
kind_name BadEscape = codes "BadEscape"
kind_name BadNumber = codes "BadNumber"
kind_name Syntax = codes "Syntax"
kind_name TooDeep = codes "TooDeep"
kind_name UnknownImport = codes "UnknownImport"
kind_name DoubleImport = codes "DoubleImport"
kind_name ImportCycle = codes "ImportCycle"
kind_name DuplicateName = codes "DuplicateName"
kind_name Unresolved = codes "Unresolved"
kind_name WrongKind = codes "WrongKind"
kind_name MapEntryRef = codes "MapEntryRef"
kind_name NumberRange = codes "NumberRange"
kind_name DuplicateNumber = codes "DuplicateNumber"
kind_name ReservedNumber = codes "ReservedNumber"
kind_name ReservedName = codes "ReservedName"
kind_name RangeOverlap = codes "RangeOverlap"
kind_name EmptyEnum = codes "EmptyEnum"
kind_name FirstNotZero = codes "FirstNotZero"
kind_name ClosedEnum = codes "ClosedEnum"
kind_name Label = codes "Label"
kind_name BadMap = codes "BadMap"
kind_name BadOption = codes "BadOption"
kind_name BadDefault = codes "BadDefault"
kind_name EmptyOneof = codes "EmptyOneof"
kind_name JsonClash = codes "JsonClash"
kind_name NotInProto3 = codes "NotInProto3"
kind_name AliasNotAllowed = codes "AliasNotAllowed"
kind_name BadPath = codes "BadPath"
kind_name DoublePath = codes "DoublePath"
kind_name TooManyFiles = codes "TooManyFiles"
kind_name NotExtendable = codes "NotExtendable"
kind_name DuplicateExtension = codes "DuplicateExtension"
kind_name RequiredExtension = codes "RequiredExtension"
kind_name NotAnOption = codes "NotAnOption"

-- the phase that finds each fault: 0 paths, 1 text, 2 grammar, 3 imports, 4 names, 5 references,
-- 6 checks
abbrev pub phase_of : FaultKind → ℕ
phase_of TooLarge = 1
phase_of NotUtf8 = 1
phase_of BadChar = 1
phase_of OpenComment = 1
phase_of OpenString = 1
phase_of BadEscape = 1
phase_of BadNumber = 1
phase_of Syntax = 2
phase_of TooDeep = 2
phase_of UnknownImport = 3
phase_of DoubleImport = 3
phase_of ImportCycle = 3
phase_of DuplicateName = 4
phase_of Unresolved = 5
phase_of WrongKind = 5
phase_of MapEntryRef = 5
phase_of NumberRange = 6
phase_of DuplicateNumber = 6
phase_of ReservedNumber = 6
phase_of ReservedName = 6
phase_of RangeOverlap = 6
phase_of EmptyEnum = 6
phase_of FirstNotZero = 6
phase_of ClosedEnum = 6
phase_of Label = 6
phase_of BadMap = 6
phase_of BadOption = 6
phase_of BadDefault = 6
phase_of EmptyOneof = 6
phase_of JsonClash = 6
phase_of NotInProto3 = 6
phase_of AliasNotAllowed = 6
phase_of BadPath = 0
phase_of DoublePath = 0
phase_of TooManyFiles = 0
phase_of NotExtendable = 6
phase_of DuplicateExtension = 6
phase_of RequiredExtension = 6
phase_of NotAnOption = 6

-- ---- what is answered in place of files, a link, descriptors or a schema

-- the number of the fault, from 1 to 39; when out of memory, which is no fault of a schema, 0
abbrev pub answer_number : SchemaFault → ℕ
answer_number (answer.Schema fault) = kind_number fault.kind
answer_number answer.NoMemory = 0

-- the word for the fault; when out of memory `NoMemory`
abbrev pub answer_name : SchemaFault → Text
answer_name (answer.Schema fault) = kind_name fault.kind
answer_name answer.NoMemory = codes "NoMemory"
