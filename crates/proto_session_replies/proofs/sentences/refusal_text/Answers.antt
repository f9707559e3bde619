use Rattle.std.proofs.Common.{◌++◌, List, ℕ, sym, ap, ◌∙◌}
use Rattle.std.specs.Prelude.{codes}
use Rattle.proto_session_replies.proofs.FaultTexts.{refused_line_ends}
use Rattle.proto_session_replies.proofs.sentences.refusal_text.Goals as goal

pub returns : goal.returns
returns c =
    let ends = refused_line_ends c.args.files.now c.args.refusal.now in
    let said = c.without_line_feed.ensures ends.0 (c.in_ok-line.ensures ∙ ends.1) in
    ap (λ (t : List ℕ). t ++ codes "\n") said ∙ sym ends.1
