use Rattle.std.proofs.Common.{string_bytes}
use Rattle.proto_answers.proofs.renaming.rename_at.Goals as goal

pub returns-in_default : goal.returns-in_default
returns-in_default c = rw c.in_default.is at c.in_ok-found.ensures

pub returns : goal.returns
returns c =
    let s = rw c.in-Some.is at c.in_ok-found.ensures in
    (s.0, s.1, c.in-Some.found.token, string_bytes c.in-Some.found.name, s.2, rw c.as_str.ensures.value at c.in_ok-answer.ensures)
