-- A cap past every limit of the language changes nothing of what is found wrong with the files of a
-- workspace.
use Rattle.std.specs.Prelude.{ℕ, List, Option, Some, None}
use Rattle.std.specs.List.{Contains}
use Rattle.proto_files.specs.FilesRead.{ReadOf}
use Rattle.proto_files.specs.GivenFiles.{FileOf}
use Rattle.proto_ast.specs.Numbers.{past}
use Rattle.proto_desc_numbers.specs.declared.flaw.Flaw.{Flaw}
use Rattle.proto_desc_numbers.specs.Flaws.{IsLeastOfFlaws}
use Rattle.proto_desc_extensions.specs.Extensions.{all_flaws}

-- the least flaw of a file is the same with the cap and without it
abbrev pub CapsKeepTheLeastOfFile : Type 0
CapsKeepTheLeastOfFile = (files : List FileOf) (reads : List ReadOf) (file : ℕ) (r : Option Flaw)
    → IsLeastOfFlaws (Contains (all_flaws (Some past) files reads file)) r
    → IsLeastOfFlaws (Contains (all_flaws None files reads file)) r
