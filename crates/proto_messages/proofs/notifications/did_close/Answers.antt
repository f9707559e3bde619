use Rattle.std.proofs.Common.{Option, option_map, string_bytes, ap, sym, ◌∙◌}
use Rattle.proto_base.specs.Texts.{Text}
use Rattle.proto_messages.specs.Messages.{did_close}
use Rattle.proto_messages.specs.Reading.{or_malformed}
use Rattle.proto_messages.proofs.notifications.did_close.Goals as goal

pub returns-in-Some : goal.returns-in-Some
returns-in-Some c = ap (λ (uri : Option Text). or_malformed (option_map did_close uri)) (sym (ap (option_map string_bytes) c.in-Some.is) ∙ c.in_ok-uri.ensures)

pub returns-in-None : goal.returns-in-None
returns-in-None c = ap (λ (uri : Option Text). or_malformed (option_map did_close uri)) (sym (ap (option_map string_bytes) c.in-None.is) ∙ c.in_ok-uri.ensures)
