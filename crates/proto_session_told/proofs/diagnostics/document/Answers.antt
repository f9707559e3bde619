use Rattle.std.proofs.Common.{map, ap, ◌∙◌}
use Rattle.proto_base.proofs.Common.{Path, Text}
use Rattle.protoref_output.specs.FoundLines.{text_of_path}
use Rattle.proto_session_files.specs.Views.{uri_at, version_at, view_at}
use Rattle.proto_session_told.specs.Shown.{diagnostic_in, shown_of}
use Rattle.proto_session_told.proofs.InLanguage.{text_in}
use Rattle.proto_session_told.proofs.diagnostics.document.Goals as goal

pub returns : goal.returns
returns c =
    let v = view_at c.args.view.now in
    let path = c.args.path.now in
    let text = c.text_at-text.ensures ∙ (text_in c.args.view.now.profile path c.args.view.now.files.now ∙ ap (λ (q : Path). text_of_path q v.files) c.requires) in
    record {
      uri = c.in_ok-uri_at.ensures ∙ ap (uri_at v) c.requires;
      version = c.version_at.ensures ∙ ap (version_at v) c.requires;
      diagnostics = c.in_ok-diagnostics.ensures ∙ ap (λ (t : Text). map (diagnostic_in c.args.view.now.encoding t) (map shown_of c.args.run.now)) text;
    }
