-- The line of a finding in one of the files: the choice of this project.
use Rattle.std.specs.Prelude.{ℕ, List, [], ◌++◌, codes, decimal}
use Rattle.std.specs.Option.{unwrap_or}
use Rattle.proto_base.specs.Texts.{Path, Text}
use Rattle.proto_files.specs.GivenFiles.{FileOf}
use Rattle.proto_lint_names.specs.Listings.{FindingOf}
use Rattle.proto_lint_rules.specs.Rules.{identifier}
use Rattle.proto_store.specs.Stores.{bytes_at}
use Rattle.proto_text.specs.Lines.{column_at, line_at}

-- the text of the file at a path
abbrev pub text_of_path : Path → List FileOf → Text
text_of_path path files = unwrap_or (bytes_at path files) []

-- `path:line:column: RULE name`
abbrev pub finding_line : FindingOf → ℕ → ℕ → Text
finding_line f line column =
    f.path ++ (codes ":" ++ (decimal line ++ (codes ":" ++ (decimal column
    ++ (codes ": " ++ (identifier f.rule ++ (codes " " ++ (f.name ++ codes "\n"))))))))

-- the line of a finding in one of the files
abbrev pub found_line : List FileOf → FindingOf → Text
found_line files f =
    finding_line f (line_at (text_of_path f.path files) f.offset)
    (column_at (text_of_path f.path files) f.offset)
