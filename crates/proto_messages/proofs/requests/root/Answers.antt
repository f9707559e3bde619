use Rattle.std.proofs.Common.{Option, codes, option_map, string_bytes, ap, sym, ◌∙◌}
use Rattle.std.proofs.lemmas.Result.{IfOk-weaker}
use Rattle.std.specs.Option.{option_or}
use Rattle.serde_json.specs.View.{view}
use Rattle.proto_base.specs.Texts.{Text}
use Rattle.proto_messages.specs.Reading.{text_at}
use Rattle.proto_messages.proofs.requests.root.Goals as goal

pub returns-in-Some : goal.returns-in-Some
returns-in-Some c =
    let folder = text_at (codes "/workspaceFolders/0/uri") (view c.args.params.now) in
    ap (λ (o : Option Text). option_or o folder) (sym (ap (option_map string_bytes) c.in-Some.is) ∙ c.in_ok-uri.ensures)

pub returns-in-None : goal.returns-in-None
returns-in-None c =
    let folder = text_at (codes "/workspaceFolders/0/uri") (view c.args.params.now) in
    IfOk-weaker c.text_at-in-None.result _ _ (λ root is. is ∙ ap (λ (o : Option Text). option_or o folder) (sym (ap (option_map string_bytes) c.in-None.is) ∙ c.in_ok-uri.ensures))
    c.text_at-in-None.ensures
