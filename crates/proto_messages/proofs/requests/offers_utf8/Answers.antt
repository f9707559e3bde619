use Rattle.std.proofs.Common.{List, Option, false, ap, ◌∙◌}
use Rattle.std.specs.List.{list_any}
use Rattle.std.specs.Option.{option_map_or}
use Rattle.serde_json.specs.Data.{Data}
use Rattle.proto_messages.specs.Reading.{names_utf8}
use Rattle.proto_messages.proofs.requests.offers_utf8.Goals as goal

pub returns-in-Some : goal.returns-in-Some
returns-in-Some c = c.has_utf8.ensures ∙ ap (λ (names : Option (List Data)). option_map_or (list_any names_utf8) names false) c.in-Some.ensures

pub returns-in-None : goal.returns-in-None
returns-in-None c = ap (λ (names : Option (List Data)). option_map_or (list_any names_utf8) names false) c.in-None.ensures
