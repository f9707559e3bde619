-- What an editor makes of the text edits of files.
use Rattle.std.specs.Prelude.{◌≡◌, ◌≢◌, List, [], ◌∷◌, map, if◌then◌else◌}
use Rattle.std.specs.List.{AllByRecursion, Contains}
use Rattle.std.specs.Str.{bytes_eq}
use Rattle.std.specs.String.{string_bytes}
use Rattle.proto_base.specs.Texts.{Path}
use Rattle.proto_edit_entries.specs.Entries.{ChangeOf}
use Rattle.proto_edit_entries.specs.Putting.{IsPut}
use Rattle.proto_files.specs.GivenFiles.{FileOf}
use Rattle.proto_positions.specs.EditViews.{edit_view}
use Rattle.proto_positions.specs.TextEdits.{HavePositions, TextEdit, lsp_put, text_edit}
use Rattle.proto_positions.specs.declared.encoding.Encoding.{Encoding}
use Rattle.proto_answers.specs.declared.answers.FileEdits.{FileEdits}

-- a file with text edits made
abbrev pub lsp_file : Encoding → FileOf → List TextEdit → FileOf
lsp_file e f edits = record f { bytes = lsp_put e f.bytes edits }

-- the files, each with its text edits made
abbrev pub lsp_all : Encoding → (FileOf → List TextEdit) → List FileOf → List FileOf
lsp_all e edits files =
    map (λ f. lsp_file e f (edits f)) files

-- the text edits of the file at a path; none where it has none
abbrev pub edits_at : List FileEdits → Path → List TextEdit
edits_at [] path = []
edits_at (v ∷ vs) path =
    if bytes_eq (string_bytes v.path) path then map edit_view v.edits.items else edits_at vs path

-- the files, as an editor has them that makes these edits
abbrev pub lsp_files : Encoding → List FileEdits → List FileOf → List FileOf
lsp_files e edits files = lsp_all e (λ f. edits_at edits f.path) files

-- These are the text edits of a file for the change of its path, both ends of whose splices have
-- positions of their own; none, where it has no change.
pub record AreTextEdits
    (e : Encoding) (cs : List ChangeOf) (f : FileOf) (edits : List TextEdit) : Type 0 where
  pub changed : (c : ChangeOf) → Contains cs c → c.path ≡ f.path
      → AllByRecursion (HavePositions f.bytes) c.splices
      × (edits ≡ map (text_edit e f.bytes) c.splices)
  pub unchanged : ((c : ChangeOf) → Contains cs c → c.path ≢ f.path) → edits ≡ []

-- What changes put into files is what an editor makes of their text edits.
abbrev pub EditsPutFiles : Type 0
EditsPutFiles =
    (e : Encoding) (files after : List FileOf) (cs : List ChangeOf)
    (edits : FileOf → List TextEdit)
    → IsPut files cs after
    → ((f : FileOf) → Contains files f → AreTextEdits e cs f (edits f))
    → lsp_all e edits files ≡ after
