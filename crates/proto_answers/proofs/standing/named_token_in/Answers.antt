use Rattle.std.proofs.Common.{option_map, string_bytes, sym, ap}
use Rattle.proto_answers.proofs.NamedTokens.{name_there, no_name_there, no_token_there}
use Rattle.proto_answers.proofs.standing.named_token_in.Goals as goal

pub returns-in_default : goal.returns-in_default
returns-in_default c = no_token_there c.args.files.now c.args.spot c.word_at.result c.word_at.ensures (sym c.in_default.is)

pub returns-in-Some-2 : goal.returns-in-Some-2
returns-in-Some-2 c =
    let reads = c.are_read.ensures.0 in
    let are = c.are_read.ensures.1 in
    (reads, are, name_there c.args.files.now c.args.spot c.word_at.result c.word_at.ensures c.in-Some.token c.in-Some.is (option_map string_bytes c.in_ok-name.field-0) c.in_ok-name.ensures (string_bytes c.in-Some-2.name) (ap (option_map string_bytes) c.in-Some-2.is) reads are)

pub returns-in-None : goal.returns-in-None
returns-in-None c =
    no_name_there c.args.files.now c.args.spot c.word_at.result c.word_at.ensures c.in-Some.token c.in-Some.is (option_map string_bytes c.in_ok-name.field-0) c.in_ok-name.ensures (ap (option_map string_bytes) c.in-None.is)
