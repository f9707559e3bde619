-- The rules of names: of messages, fields and oneofs, of enums and their values, and of services.
use Rattle.std.specs.Prelude.{ℕ, Bool, false, not, ◌==◌, ◌||◌, ◌&&◌, nat_eq, List, [], ◌∷◌, ◌++◌, flat_map, codes}
use Rattle.std.specs.List.{starts_with, ends_with}
use Rattle.std.specs.Str.{bytes_eq}
use Rattle.proto_base.specs.Ascii as ascii
use Rattle.proto_base.specs.Texts.{Text}
use Rattle.proto_tree.specs.declared.tree.Value.{Value}
use Rattle.proto_tree.specs.declared.piece.Statement.{Statement}
use Rattle.proto_tree.specs.declared.piece.Statement.TheVariants as statement
use Rattle.proto_tree.specs.Tree.{Tree}
use Rattle.proto_ast.specs.Numbers.{number_value}
use Rattle.proto_ast.specs.Options.{truth_of, is_true}
use Rattle.proto_ast.specs.Parts.{fields_in, statements, values_in}
use Rattle.proto_case.specs.Cases.{is_lower_snake, is_pascal, is_upper_snake, upper}
use Rattle.proto_lint_rules.specs.declared.rule.Rule.TheVariants as rule
use Rattle.proto_names_rules.specs.Forest.{under}
use Rattle.proto_lint_names.specs.Placed.{Found, NamedToken, found_by, unless, unless_word}
use Rattle.proto_lint_names.specs.Readings.{LintFile, word_in}
use Rattle.proto_tree.specs.declared.tree.Setting.{Setting}
use Rattle.proto_tree.specs.declared.tree.Setting.TheVariants as setting

-- ---- messages, with the scope around them

-- MESSAGE_PASCAL_CASE: a message whose name is not Pascal
abbrev pub message_pascal_case : LintFile → Text → ℕ → List NamedToken
message_pascal_case r scope name = unless_word r is_pascal scope name

-- FIELD_LOWER_SNAKE_CASE: a field, also of a oneof or a map, whose name is not lower snake
abbrev pub field_lower_snake_case : LintFile → Text → ℕ → Tree → List NamedToken
field_lower_snake_case r scope name within =
    flat_map (λ f. unless_word r is_lower_snake (under scope (word_in r name)) f.name)
    (fields_in within)

-- ONEOF_LOWER_SNAKE_CASE: a oneof whose name is not lower snake
abbrev pub oneof_lower_snake_case : LintFile → Text → ℕ → List NamedToken
oneof_lower_snake_case r scope name = unless_word r is_lower_snake scope name

-- ---- enums, with the scope around them, in which their values are, too

-- ENUM_PASCAL_CASE: an enum whose name is not Pascal
abbrev pub enum_pascal_case : LintFile → Text → ℕ → List NamedToken
enum_pascal_case r scope name = unless_word r is_pascal scope name

-- ENUM_VALUE_UPPER_SNAKE_CASE: a value whose name is not upper snake
abbrev pub enum_value_upper_snake_case : LintFile → Text → Tree → List NamedToken
enum_value_upper_snake_case r scope within =
    flat_map (λ v. unless_word r is_upper_snake scope v.name) (values_in within)

-- what the names of an enum's values begin with: its name in upper snake, and `_`
abbrev pub value_prefix : Text → Text
value_prefix enum = upper enum ++ ascii.underscore ∷ []

-- ENUM_VALUE_PREFIX: a value whose name does not begin with that
abbrev pub enum_value_prefix : LintFile → Text → ℕ → Tree → List NamedToken
enum_value_prefix r scope name within =
    flat_map (λ v. unless_word r
    (λ w. starts_with nat_eq w (value_prefix (word_in r name))) scope v.name) (values_in within)

-- a value has the number 0
abbrev pub is_zero : LintFile → Value → Bool
is_zero r v = number_value (word_in r v.number.number) == 0

-- ENUM_ZERO_VALUE_SUFFIX: a value with number 0 whose name does not end in `_UNSPECIFIED`
abbrev pub enum_zero_value_suffix : LintFile → Text → Tree → List NamedToken
enum_zero_value_suffix r scope within =
    flat_map (λ v. unless_word r
    (λ w. not (is_zero r v) || ends_with nat_eq w (codes "_UNSPECIFIED")) scope v.name)
    (values_in within)

-- the first of some values, where its number is not 0
abbrev pub first_not_zero : LintFile → Text → List Value → List NamedToken
first_not_zero r scope [] = []
first_not_zero r scope (v ∷ vs) = unless_word r (λ w. is_zero r v) scope v.name

-- ENUM_FIRST_VALUE_ZERO: the first value of an enum, if its number is not 0
abbrev pub enum_first_value_zero : LintFile → Text → Tree → List NamedToken
enum_first_value_zero r scope within = first_not_zero r scope (values_in within)

-- whether an option is `allow_alias = true`
abbrev pub allows_alias : LintFile → Setting → Bool
allows_alias r (setting.Plain o) = bytes_eq (word_in r o.name) (codes "allow_alias") && is_true
    (truth_of (word_in r) o.value)
allows_alias r (setting.Custom o) = false

-- a statement `option allow_alias = true`, at its `option`, with the enum's full name
abbrev pub allowed_alias : LintFile → Text → Statement → List NamedToken
allowed_alias r enum (statement.Option o) = unless
    (not (allows_alias r o.setting)) o.keyword enum
allowed_alias r enum _ = []

-- ENUM_NO_ALLOW_ALIAS: each such statement of an enum
abbrev pub enum_no_allow_alias : LintFile → Text → ℕ → Tree → List NamedToken
enum_no_allow_alias r scope name within =
    flat_map (allowed_alias r (under scope (word_in r name))) (statements within)

-- ---- services, with the scope around them

-- SERVICE_PASCAL_CASE: a service whose name is not Pascal
abbrev pub service_pascal_case : LintFile → Text → ℕ → List NamedToken
service_pascal_case r scope name = unless_word r is_pascal scope name

-- SERVICE_SUFFIX: a service whose name does not end in `Service`
abbrev pub service_suffix : LintFile → Text → ℕ → List NamedToken
service_suffix r scope name = unless_word r (λ w. ends_with nat_eq w (codes "Service")) scope name

-- ---- what they find

-- what the rules find at a message: its name, and those of its fields
abbrev pub message_finds : List Bool → LintFile → Text → ℕ → Tree → List Found
message_finds rules r scope name within =
    found_by rules r rule.MessagePascalCase (message_pascal_case r scope name)
    ++ found_by rules r rule.FieldLowerSnakeCase (field_lower_snake_case r scope name within)

-- what the rules find at the name of a oneof
abbrev pub oneof_finds : List Bool → LintFile → Text → ℕ → List Found
oneof_finds rules r scope name =
    found_by rules r rule.OneofLowerSnakeCase (oneof_lower_snake_case r scope name)

-- what the rules find at an enum: its name, its options and its values
abbrev pub enum_finds : List Bool → LintFile → Text → ℕ → Tree → List Found
enum_finds rules r scope name within =
    found_by rules r rule.EnumFirstValueZero (enum_first_value_zero r scope within)
    ++ (found_by rules r rule.EnumNoAllowAlias (enum_no_allow_alias r scope name within)
    ++ (found_by rules r rule.EnumPascalCase (enum_pascal_case r scope name)
    ++ (found_by rules r rule.EnumValuePrefix (enum_value_prefix r scope name within)
    ++ (found_by rules r rule.EnumValueUpperSnakeCase (enum_value_upper_snake_case r scope within)
    ++ found_by rules r rule.EnumZeroValueSuffix (enum_zero_value_suffix r scope within)))))

-- what the rules find at the name of a service
abbrev pub service_finds : List Bool → LintFile → Text → ℕ → List Found
service_finds rules r scope name =
    found_by rules r rule.ServicePascalCase (service_pascal_case r scope name)
    ++ found_by rules r rule.ServiceSuffix (service_suffix r scope name)
