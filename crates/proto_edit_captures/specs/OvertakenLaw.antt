-- What is first by texts is first by names.
use Rattle.std.specs.Prelude.{◌≡◌, ℕ, ◌<◌, Bool, List, [], length, get_or, map, Option}
use Rattle.proto_base.specs.Texts.{Text}
use Rattle.proto_files.specs.Faults.{HasNoFault}
use Rattle.proto_files.specs.FilesRead.{ReadOf, AreRead, read_at}
use Rattle.proto_files.specs.GivenFiles.{FileOf, file_at}
use Rattle.proto_names_imports.specs.Links.{LinkFaults}
use Rattle.proto_names_outline.specs.Listing.{read, used_by}
use Rattle.proto_names_outline.specs.declared.listing.Listed.{Listed}
use Rattle.proto_names_outline.specs.declared.listing.Use.{Use}
use Rattle.proto_names_rules.specs.Names.{Workspace}
use Rattle.proto_names_imports.specs.Links.{uses_of}
use Rattle.proto_names.specs.LinkOfFiles.{IsLinkOf}
use Rattle.proto_names.specs.Linking.{LinkOf}
use Rattle.proto_names.specs.Linking.{Meant}
use Rattle.proto_text.specs.Texts.{words}
use Rattle.proto_edit_captures.specs.FirstCaptured.{first_passing}
use Rattle.proto_edit_captures.specs.Overtaking.{IsFirstOvertaken, SeesMarked, TellsPackages, overtakes_by}

-- In linked files the first reference that the texts tell as overtaken, where a file sees marked
-- files, is the first one that the names of the workspace tell as overtaken.
abbrev pub FirstsAreOvertaken : Type 0
FirstsAreOvertaken = (files : List FileOf) (reads : List ReadOf)
    → AreRead files reads
    → HasNoFault (LinkFaults files)
    → (v : Workspace) (marks : List Bool) (l : LinkOf)
    → IsLinkOf files l
    → (file : ℕ)
    → file < length files
    → SeesMarked files reads v file marks
    → (packages : Text → Bool)
    → TellsPackages files marks packages
    → (declared : List Listed) (us : List Use) (ms : List Meant)
    → map (used_by (read declared)) us ≡ uses_of reads file
    → ms ≡ get_or l.meant file []
    → (first : Option ℕ)
    → first ≡ first_passing
    (overtakes_by l marks packages (words (file_at files file).bytes (read_at reads file).tokens)
    declared) us ms
    → IsFirstOvertaken files reads v file first
