-- Files with their text edits made.
use Rattle.std.proofs.Common.{◌≡◌, List, [], ◌∷◌, refl, sym, ap, ◌∙◌, inl, inr, Contains}
use Rattle.proto_base.proofs.Common.{Path, Text, contains_head, contains_later}
use Rattle.proto_base.specs.declared.profile.Profile.{Profile}
use Rattle.proto_edit_entries.proofs.Common.{ChangeOf, EachPuts, PutsFile, find_change}
use Rattle.proto_files.proofs.Common.{FileOf}
use Rattle.proto_positions.specs.TextEdits.{TextEdit, lsp_put}
use Rattle.proto_positions.specs.declared.encoding.Encoding.{Encoding}
use Rattle.proto_positions.proofs.Puts.{text_edits_put}
use Rattle.proto_answers.specs.Common.{AreTextEdits, EditsPutFiles, lsp_all}

file_put : (e : Encoding) (cs : List ChangeOf) (f g : FileOf) (edits : List TextEdit) → PutsFile cs f g → AreTextEdits e cs f edits → lsp_put e f.bytes edits ≡ g.bytes
file_put e cs f g edits puts are = elim (find_change cs f.path) [
  | inl c ↦
      let made = are.changed c.0 c.1 c.2 in
      let put = puts.changed c.0 c.1 c.2 in
      ap (lsp_put e f.bytes) made.1 ∙ text_edits_put e f.bytes g.bytes c.0.splices put.1 made.0
  | inr none ↦ ap (lsp_put e f.bytes) (are.unchanged none) ∙ sym (puts.kept none)
]

abbrev made : Path → Text → Profile → FileOf
made path bytes profile = record { path = path; bytes = bytes; profile = profile }

each_put : (e : Encoding) (cs : List ChangeOf) (files after : List FileOf) (edits : FileOf → List TextEdit) → EachPuts cs files after
    → ((f : FileOf) → Contains files f → AreTextEdits e cs f (edits f)) → lsp_all e edits files ≡ after
each_put e cs [] [] edits puts are = refl
each_put e cs [] (g ∷ gs) edits puts are = absurd puts
each_put e cs (f ∷ fs) [] edits puts are = absurd puts
each_put e cs (f ∷ fs) (g ∷ gs) edits puts are =
    let bytes = file_put e cs f g (edits f) puts.0 (are f (contains_head f fs)) in
    let rest = each_put e cs fs gs edits puts.1 (λ h con. are h (contains_later f h fs con)) in
    ap (λ (b : Text). made f.path b f.profile ∷ lsp_all e edits fs) bytes
    ∙ ap (λ (p : Path). made p g.bytes f.profile ∷ lsp_all e edits fs) (sym puts.0.path)
    ∙ ap (λ (p : Profile). made g.path g.bytes p ∷ lsp_all e edits fs) (sym puts.0.profile)
    ∙ ap (λ (hs : List FileOf). g ∷ hs) rest

pub edits_put_files : EditsPutFiles
edits_put_files e files after cs edits put are = each_put e cs files after edits put.each are
