use Rattle.std.proofs.Common.{ℕ, List, position, bytes_eq, sym, ap, ◌∙◌, true≢false}
use Rattle.proto_edit_entries.proofs.Common.{change_of}
use Rattle.proto_files.proofs.Common.{paths_of}
use Rattle.proto_answers.proofs.EditsOfFiles.{edits_are, no_file_suits, none_suits}
use Rattle.proto_answers.proofs.SuitedEdits.{suited_within}
use Rattle.proto_answers.proofs.entry_edits.edits_of_change.Goals as goal

pub returns-in_default : goal.returns-in_default
returns-in_default c =
    let files = c.args.files.now in
    no_file_suits files (change_of c.args.change.now) (sym c.in_default.is ∙ c.place_of_path.ensures ∙ ap (λ (p : List ℕ). position (bytes_eq p) (paths_of files)) c.as_str.ensures.value)

pub returns-then-not-suit_editors : goal.returns-then-not-suit_editors
returns-then-not-suit_editors c =
    let files = c.args.files.now in
    let at = sym c.in-Some.is ∙ c.place_of_path.ensures ∙ ap (λ (p : List ℕ). position (bytes_eq p) (paths_of files)) c.as_str.ensures.value in
    none_suits files (change_of c.args.change.now) c.in-Some.file c.as_bytes-text.result.now at (c.as_bytes-text.ensures.value ∙ c.source.ensures) c.requires.ordered
    (λ s. true≢false (sym (c.suit_editors.ensures.1 s) ∙ c.if-not-suit_editors.true))

pub text_edits-requires-clause-within : goal.text_edits-requires-clause-within
text_edits-requires-clause-within c = suited_within c.as_bytes-text.result.now c.args.change.now.splices (c.suit_editors.ensures.0 c.if-not-suit_editors.false)

pub returns : goal.returns
returns c =
    let files = c.args.files.now in
    let at = sym c.in-Some.is ∙ c.place_of_path.ensures ∙ ap (λ (p : List ℕ). position (bytes_eq p) (paths_of files)) c.as_str.ensures.value in
    edits_are files (change_of c.args.change.now) c.in-Some.file c.as_bytes-text.result.now at (c.as_bytes-text.ensures.value ∙ c.source.ensures) c.args.encoding
    (record { path = c.in_ok-path.path; edits = c.in_ok-edits.edits }) (c.in_ok-path.ensures.ok ∙ c.as_str-2.ensures.value) (c.suit_editors.ensures.0 c.if-not-suit_editors.false) c.in_ok-edits.ensures.exact
