-- The rules of packages, paths and syntax, from the heads of all files.
use Rattle.std.specs.Prelude.{ℕ, Bool, true, not, ◌||◌, ◌&&◌, ◌==◌, if◌then◌else◌, List, [], ◌∷◌, ◌++◌, map, find, length, take, ◌-◌, Option, Some, None}
use Rattle.std.specs.List.{list_all}
use Rattle.std.specs.Str.{bytes_eq}
use Rattle.proto_base.specs.Ascii as ascii
use Rattle.proto_base.specs.Texts.{Path, Text}
use Rattle.proto_names_rules.specs.Joined.{joined}
use Rattle.proto_case.specs.Cases.{is_lower_snake}
use Rattle.proto_case.specs.Versions.{is_version, is_empty_text}
use Rattle.proto_lint_rules.specs.declared.rule.Rule.{Rule}
use Rattle.proto_lint_rules.specs.declared.rule.Rule.TheVariants as rule
use Rattle.proto_lint_names.specs.Placed.{Found, before_last, behind_last}
use Rattle.proto_lint_rules.specs.Rules.{is_chosen}

-- what is read of a file: its path, the words of its package (none without one), where the
-- package's name begins (0 without), and whether it has a syntax statement
pub record Head : Type 0 where
  pub path : Path
  pub words : List Text
  pub offset : ℕ
  pub has_syntax : Bool

-- the full name of a file's package, empty without one
abbrev pub package_name : Head → Text
package_name h = joined h.words

-- a file has a package
abbrev pub has_package : Head → Bool
has_package h = not (is_empty_text (package_name h))

-- the directory of a file: what stands before the last slash of its path, or nothing
abbrev pub directory : Head → Text
directory h = before_last ascii.slash h.path

-- the name of a file: the last part of its path
abbrev pub file_name : Head → Text
file_name h = behind_last ascii.slash h.path

-- a file's name without its `.proto`
abbrev pub stem : Text → Text
stem name = take (length name - 6) name

-- ---- each rule, as what passes

-- a file has the package of a first file, where there is one
abbrev pub has_package_of : Head → Option Head → Bool
has_package_of h None = true
has_package_of h (Some first) = bytes_eq (package_name h) (package_name first)

-- a file is in the directory of a first file, where there is one
abbrev pub has_directory_of : Head → Option Head → Bool
has_directory_of h None = true
has_directory_of h (Some first) = bytes_eq (directory h) (directory first)

-- DIRECTORY_SAME_PACKAGE: a file's package is that of the first file of its directory
abbrev pub has_package_of_directory : List Head → Head → Bool
has_package_of_directory heads h =
    has_package_of h (find (λ g. bytes_eq (directory g) (directory h)) heads)

-- PACKAGE_SAME_DIRECTORY: the directory of a file with a package is that of the package's first
-- file
abbrev pub has_directory_of_package : List Head → Head → Bool
has_directory_of_package heads h =
    not (has_package h)
    || has_directory_of h (find (λ g. bytes_eq (package_name g) (package_name h)) heads)

-- a name with `/` for `.`
abbrev pub slashed : Text → Text
slashed name = map (λ b. if b == ascii.dot then ascii.slash else b) name

-- PACKAGE_DIRECTORY_MATCH: the directory of a file with a package is the package with `/` for `.`
abbrev pub has_directory_like_package : Head → Bool
has_directory_like_package h =
    not (has_package h) || bytes_eq (directory h) (slashed (package_name h))

-- PACKAGE_LOWER_SNAKE_CASE: each part of a file's package is lower snake
abbrev pub has_lower_snake_package : Head → Bool
has_lower_snake_package h = list_all is_lower_snake h.words

-- PACKAGE_VERSION_SUFFIX: the last part of a file's package, where it has one, is a version
abbrev pub has_version : Head → Bool
has_version h = not (has_package h) || is_version (behind_last ascii.dot (package_name h))

-- FILE_LOWER_SNAKE_CASE: a file's name without `.proto` is lower snake
abbrev pub has_lower_snake_file : Head → Bool
has_lower_snake_file h = is_lower_snake (stem (file_name h))

-- whether a file passes a rule of packages; no other rule is asked here
abbrev pub passes : Rule → List Head → Head → Bool
passes rule.DirectorySamePackage heads h = has_package_of_directory heads h
passes rule.PackageDefined heads h = has_package h
passes rule.PackageDirectoryMatch heads h = has_directory_like_package h
passes rule.PackageLowerSnakeCase heads h = has_lower_snake_package h
passes rule.PackageSameDirectory heads h = has_directory_of_package heads h
passes rule.PackageVersionSuffix heads h = has_version h
passes _ heads h = true

-- ---- what they find

-- what a rule of packages prints: the package, or `-`
abbrev pub package_or_dash : Head → Text
package_or_dash h = if has_package h then package_name h else ascii.hyphen ∷ []

-- what a rule finds at an offset, if it is one of those chosen, unless the file passes
abbrev pub found_unless : List Bool → Rule → Bool → ℕ → Text → List Found
found_unless rules rule passes offset name =
    if is_chosen rules rule && not passes
    then record { offset = offset; rule = rule; name = name } ∷ []
    else []

-- what a rule of packages finds, at the package's name or at the beginning of a file without one
abbrev pub package_unless : List Bool → Rule → Bool → Head → List Found
package_unless rules rule passes h = found_unless rules rule passes h.offset (package_or_dash h)

-- what the rules of packages, paths and syntax find in a file, by the heads of all files and its
-- own: with those above PACKAGE_DEFINED, that it has a package, and SYNTAX_SPECIFIED, a syntax
-- statement
abbrev pub head_finds : List Bool → List Head → Head → List Found
head_finds rules heads h =
    package_unless rules rule.DirectorySamePackage (has_package_of_directory heads h) h
    ++ (found_unless rules rule.FileLowerSnakeCase (has_lower_snake_file h) 0 (file_name h)
    ++ (package_unless rules rule.PackageDefined (has_package h) h
    ++ (package_unless rules rule.PackageDirectoryMatch (has_directory_like_package h) h
    ++ (package_unless rules rule.PackageLowerSnakeCase (has_lower_snake_package h) h
    ++ (package_unless rules rule.PackageSameDirectory (has_directory_of_package heads h) h
    ++ (package_unless rules rule.PackageVersionSuffix (has_version h) h
    ++ found_unless rules rule.SyntaxSpecified h.has_syntax 0 h.path))))))
