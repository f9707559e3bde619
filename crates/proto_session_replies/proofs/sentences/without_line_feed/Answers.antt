use Rattle.std.proofs.Common.{◌≡◌, length, string_bytes, rules}
use Rattle.std.specs.Prelude.{string_len}
use Rattle.proto_session_replies.proofs.FaultTexts.{without_feed}
use Rattle.proto_session_replies.proofs.sentences.without_line_feed.Goals as goal

pub returns : goal.returns
returns c = λ text is.
    (let count : string_len c.args.line ≡ length (string_bytes c.args.line) = search rules in
    without_feed (string_bytes c.args.line) (string_bytes c.pop.new.self) text (string_len c.args.line) count c.pop.ensures.ascii_bytes is)
