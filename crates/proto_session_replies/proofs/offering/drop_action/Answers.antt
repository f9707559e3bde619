use Rattle.std.proofs.Common.{◌≡◌, [], List, Some, None, inl, inr, refl, sym, subst, ◌∙◌, true≢false, rules}
use Rattle.proto_files.proofs.Common.{FileOf}
use Rattle.proto_files.specs.GivenFiles.{file_at}
use Rattle.proto_lint_names.proofs.Common.{finding_of}
use Rattle.proto_lint_rules.specs.declared.rule.Rule.TheVariants.{ImportUsed}
use Rattle.proto_session_replies.specs.Edits.{IsOnLines, drop_offers}
use Rattle.proto_session_replies.proofs.offering.drop_action.Goals as goal

pub returns-then-ne : goal.returns-then-ne
returns-then-ne c = ([], inl (λ h. (let is : c.args.finding.now.rule ≡ ImportUsed = h.0 in search rules), refl), tt)

pub returns-then-not-is_on_lines : goal.returns-then-not-is_on_lines
returns-then-not-is_on_lines c =
    let f = finding_of c.args.finding.now in
    let e = c.args.view.now.encoding in
    let ls = c.args.lines in
    ([], inl (λ h. true≢false (sym (c.is_on_lines.ensures.1 (subst (λ (fs : List FileOf). IsOnLines e (file_at fs ls.file) ls.range f) (sym c.files.ensures.files) h.1)) ∙ c.if-not-is_on_lines.true), refl), tt)

pub returns-in_default : goal.returns-in_default
returns-in_default c =
    let f = finding_of c.args.finding.now in
    let e = c.args.view.now.encoding in
    let ls = c.args.lines in
    let rule : c.args.finding.now.rule ≡ ImportUsed = search rules in
    let on = subst (λ (fs : List FileOf). IsOnLines e (file_at fs ls.file) ls.range f) c.files.ensures.files (c.is_on_lines.ensures.0 c.if-not-is_on_lines.false) in
    ([], inr (rule, on, None, rw c.in_default.is at (c.in_ok-edits.ensures.used rule), refl), tt)

pub returns : goal.returns
returns c =
    let f = finding_of c.args.finding.now in
    let e = c.args.view.now.encoding in
    let ls = c.args.lines in
    let rule : c.args.finding.now.rule ≡ ImportUsed = search rules in
    let on = subst (λ (fs : List FileOf). IsOnLines e (file_at fs ls.file) ls.range f) c.files.ensures.files (c.is_on_lines.ensures.0 c.if-not-is_on_lines.false) in
    (drop_offers (Some c.in-Some.edits), inr (rule, on, Some c.in-Some.edits, rw c.in-Some.is at (c.in_ok-edits.ensures.used rule), refl), search rules)
