-- The rules, by their identifiers.
use Rattle.std.specs.Prelude.{ℕ, Bool, false, List, codes, slice_index_or}
use Rattle.proto_base.specs.Texts.{Text}
use Rattle.proto_lint_rules.specs.declared.rule.Rule.{Rule}
use Rattle.proto_lint_rules.specs.declared.rule.Rule.TheVariants as rule

-- the identifier of a rule, by which it is chosen and printed
abbrev pub identifier : Rule → Text
identifier rule.DirectorySamePackage = codes "DIRECTORY_SAME_PACKAGE"
identifier rule.EnumFirstValueZero = codes "ENUM_FIRST_VALUE_ZERO"
identifier rule.EnumNoAllowAlias = codes "ENUM_NO_ALLOW_ALIAS"
identifier rule.EnumPascalCase = codes "ENUM_PASCAL_CASE"
identifier rule.EnumValuePrefix = codes "ENUM_VALUE_PREFIX"
identifier rule.EnumValueUpperSnakeCase = codes "ENUM_VALUE_UPPER_SNAKE_CASE"
identifier rule.EnumZeroValueSuffix = codes "ENUM_ZERO_VALUE_SUFFIX"
identifier rule.FieldLowerSnakeCase = codes "FIELD_LOWER_SNAKE_CASE"
identifier rule.FileLowerSnakeCase = codes "FILE_LOWER_SNAKE_CASE"
identifier rule.ImportNoPublic = codes "IMPORT_NO_PUBLIC"
identifier rule.ImportUsed = codes "IMPORT_USED"
identifier rule.MessagePascalCase = codes "MESSAGE_PASCAL_CASE"
identifier rule.OneofLowerSnakeCase = codes "ONEOF_LOWER_SNAKE_CASE"
identifier rule.PackageDefined = codes "PACKAGE_DEFINED"
identifier rule.PackageDirectoryMatch = codes "PACKAGE_DIRECTORY_MATCH"
identifier rule.PackageLowerSnakeCase = codes "PACKAGE_LOWER_SNAKE_CASE"
identifier rule.PackageSameDirectory = codes "PACKAGE_SAME_DIRECTORY"
identifier rule.PackageVersionSuffix = codes "PACKAGE_VERSION_SUFFIX"
identifier rule.RpcNoClientStreaming = codes "RPC_NO_CLIENT_STREAMING"
identifier rule.RpcNoServerStreaming = codes "RPC_NO_SERVER_STREAMING"
identifier rule.RpcPascalCase = codes "RPC_PASCAL_CASE"
identifier rule.RpcRequestResponseUnique = codes "RPC_REQUEST_RESPONSE_UNIQUE"
identifier rule.RpcRequestStandardName = codes "RPC_REQUEST_STANDARD_NAME"
identifier rule.RpcResponseStandardName = codes "RPC_RESPONSE_STANDARD_NAME"
identifier rule.ServicePascalCase = codes "SERVICE_PASCAL_CASE"
identifier rule.ServiceSuffix = codes "SERVICE_SUFFIX"
identifier rule.SyntaxSpecified = codes "SYNTAX_SPECIFIED"

-- the number of a rule in the order of identifiers
abbrev pub number : Rule → ℕ
number rule.DirectorySamePackage = 0
number rule.EnumFirstValueZero = 1
number rule.EnumNoAllowAlias = 2
number rule.EnumPascalCase = 3
number rule.EnumValuePrefix = 4
number rule.EnumValueUpperSnakeCase = 5
number rule.EnumZeroValueSuffix = 6
number rule.FieldLowerSnakeCase = 7
number rule.FileLowerSnakeCase = 8
number rule.ImportNoPublic = 9
number rule.ImportUsed = 10
number rule.MessagePascalCase = 11
number rule.OneofLowerSnakeCase = 12
number rule.PackageDefined = 13
number rule.PackageDirectoryMatch = 14
number rule.PackageLowerSnakeCase = 15
number rule.PackageSameDirectory = 16
number rule.PackageVersionSuffix = 17
number rule.RpcNoClientStreaming = 18
number rule.RpcNoServerStreaming = 19
number rule.RpcPascalCase = 20
number rule.RpcRequestResponseUnique = 21
number rule.RpcRequestStandardName = 22
number rule.RpcResponseStandardName = 23
number rule.ServicePascalCase = 24
number rule.ServiceSuffix = 25
number rule.SyntaxSpecified = 26

-- ---- sets of rules, as a mark for each

-- a rule is in the set
abbrev pub is_chosen : List Bool → Rule → Bool
is_chosen marks r = slice_index_or marks (number r) false
