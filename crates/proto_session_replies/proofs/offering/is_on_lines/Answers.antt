use Rattle.std.proofs.Common.{◌≡◌, ◌≤◌, string_bytes, sym, subst, ◌∙◌, rules}
use Rattle.proto_files.specs.GivenFiles.{file_at}
use Rattle.proto_positions.specs.declared.position.Position.{Position}
use Rattle.proto_session_files.specs.Places.{position_in}
use Rattle.proto_session_replies.proofs.OfferLists.{not_same}
use Rattle.proto_session_replies.proofs.offering.is_on_lines.Goals as goal

pub returns-then-ne : goal.returns-then-ne
returns-then-ne c = (λ t. cc, λ on. absurd (not_same c.as_str.result.now c.path.result.now c.ne.result c.ne.ensures c.if-ne.true (c.as_str.ensures.value ∙ (on.path ∙ sym c.path.ensures))))

pub returns : goal.returns
returns c =
    let at : c.position_in-position.result ≡ position_in c.args.view.now.encoding (file_at c.args.files.now c.args.lines.file).bytes c.args.finding.now.offset = search rules in
    let same : string_bytes c.args.finding.now.path ≡ (file_at c.args.files.now c.args.lines.file).path = search rules in (
      λ t. (let b = c.is_between.ensures.0 t in record {
        path = same;
        from = subst (λ (p : Position). c.args.lines.range.start.line ≤ p.line) at b.0;
        to = subst (λ (p : Position). p.line ≤ c.args.lines.range.end.line) at b.1;
      }),
      λ on. c.is_between.ensures.1 (subst (λ (p : Position). c.args.lines.range.start.line ≤ p.line) (sym at) on.from, subst (λ (p : Position). p.line ≤ c.args.lines.range.end.line) (sym at) on.to),
    )
