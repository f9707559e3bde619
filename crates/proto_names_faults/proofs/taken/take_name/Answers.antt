use Rattle.std.proofs.Common.{◌∙◌, true, not, ap, cond, string_bytes, bytes_eq}
use Rattle.std.proofs.Math.Bool.{not-not}
use Rattle.proto_base.proofs.Common.{contains_text, hash_set_updates_text}
use Rattle.proto_names_faults.proofs.TakenNames.{put_is}
use Rattle.proto_names_faults.proofs.taken.take_name.Goals as goal

pub returns-clause-was : goal.returns-clause-was
returns-clause-was c =
    ap not c.in_ok-is_new.ensures.added ∙ not-not (contains_text c.args.taken.now (string_bytes c.in_ok-own.own)) ∙ ap (contains_text c.args.taken.now) c.in_ok-own.ensures.ok

pub returns-clause-names : goal.returns-clause-names
returns-clause-names c = λ other. (
    let key = string_bytes c.in_ok-own.own in
    let copied = c.in_ok-own.ensures.ok in
    hash_set_updates_text key c.args.taken.now c.insert.new.self true c.in_ok-is_new.ensures.updates other
    ∙ ap (λ z. cond (bytes_eq z other) true (contains_text c.args.taken.now other)) copied
    ∙ put_is (bytes_eq c.args.text.now other) (contains_text c.args.taken.now other))
