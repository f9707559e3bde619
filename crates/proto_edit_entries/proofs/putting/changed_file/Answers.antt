use Rattle.std.proofs.Common.{◌∙◌, ℕ, List, ap, sym, position, bytes_eq}
use Rattle.proto_files.proofs.Common.{paths_of}
use Rattle.proto_edit_entries.specs.Entries.{change_of}
use Rattle.proto_edit_entries.proofs.TextPlaces.{file_changed, no_file_there, no_text_there}
use Rattle.proto_edit_entries.proofs.putting.changed_file.Goals as goal

pub returns-in_default : goal.returns-in_default
returns-in_default c =
    let files = c.args.files.now in
    let change = change_of c.args.change.now in
    no_file_there files change (sym c.in_default.is ∙ c.place_of_path.ensures ∙ ap (λ (p : List ℕ). position (bytes_eq p) (paths_of files)) c.as_str.ensures.value)

pub returns-in-Some-2 : goal.returns-in-Some-2
returns-in-Some-2 c =
    let files = c.args.files.now in
    let change = change_of c.args.change.now in
    let at = sym c.in-Some.is ∙ c.place_of_path.ensures ∙ ap (λ (p : List ℕ). position (bytes_eq p) (paths_of files)) c.as_str.ensures.value in
    file_changed files change c.in-Some.place c.as_bytes.result.now c.in-Some-2.text.items at (c.as_bytes.ensures.value ∙ c.source.ensures) (rw c.in-Some-2.is at c.in_ok-text.ensures)

pub returns-in-None : goal.returns-in-None
returns-in-None c =
    let files = c.args.files.now in
    let change = change_of c.args.change.now in
    let at = sym c.in-Some.is ∙ c.place_of_path.ensures ∙ ap (λ (p : List ℕ). position (bytes_eq p) (paths_of files)) c.as_str.ensures.value in
    no_text_there files change c.in-Some.place c.as_bytes.result.now c.requires.ordered at (c.as_bytes.ensures.value ∙ c.source.ensures) (rw c.in-None.is at c.in_ok-text.ensures)
