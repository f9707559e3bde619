use Rattle.std.proofs.Common.{option_map, refl, sym, ap}
use Rattle.std.proofs.lemmas.Result.{on_ok_weaker}
use Rattle.proto_descriptors.specs.declared.file.Syntax.{Syntax}
use Rattle.proto_descriptors_json.specs.Common.{syntax_name, json_string}
use Rattle.proto_descriptors_json.proofs.Sending.{valued, absent, member_sent, text_sent}
use Rattle.proto_descriptors_json.proofs.file.put_syntax.Goals as goal

pub returns-in-Proto2 : goal.returns-in-Proto2
returns-in-Proto2 g c = valued (ap (λ (s : Syntax). option_map json_string (syntax_name s)) (sym c.in-Proto2.is)) (absent _ refl)

pub returns-in_ok-key-in-Proto3 : goal.returns-in_ok-key-in-Proto3
returns-in_ok-key-in-Proto3 g c =
    on_ok_weaker c.str.result (λ sent.
    valued (ap (λ (s : Syntax). option_map json_string (syntax_name s)) (sym c.in-Proto3.is)) (member_sent _ _ c.in_ok-key-in-Proto3.ensures (text_sent _ sent)))
    c.str.ensures
