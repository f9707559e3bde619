use Rattle.std.proofs.Common.{List, Option, ap, ◌∙◌}
use Rattle.std.proofs.lemmas.Result.{IfOk-weaker}
use Rattle.std.specs.Option.{option_map_or}
use Rattle.serde_json.specs.Data.{Data}
use Rattle.serde_json.specs.View.{view}
use Rattle.proto_messages.specs.Messages.{malformed}
use Rattle.proto_messages.specs.Reading.{changes_of}
use Rattle.proto_messages.proofs.notifications.did_change.Goals as goal

pub returns-in-Some : goal.returns-in-Some
returns-in-Some c =
    IfOk-weaker c.changed.result _ _ (λ said is. is ∙ ap (λ (o : Option (List Data)). option_map_or (changes_of (view c.args.params.now)) o malformed) c.in-Some.ensures)
    c.changed.ensures

pub returns-in-None : goal.returns-in-None
returns-in-None c = ap (λ (o : Option (List Data)). option_map_or (changes_of (view c.args.params.now)) o malformed) c.in-None.ensures
