use Rattle.std.proofs.Common.{◌≡◌, List, map, subst, sym, ap, ◌∙◌}
use Rattle.proto_files.proofs.Common.{FileOf, AreRead}
use Rattle.proto_lint_names.proofs.Common.{FindingOf, IsListingOf, finding_of}
use Rattle.proto_lint_rules.specs.declared.rule_set.RuleSet.{RuleSet}
use Rattle.proto_resolved.specs.LinkedFiles.{LinkedFiles}
use Rattle.proto_lint.specs.Findings.{findings}
use Rattle.proto_lint.proofs.linting.lint.Goals as goal

pub returns : goal.returns
returns c = λ reads are.
    (let l = c.in_ok-linter.linter in
    let given : l.linked.now.files ≡ c.args.files.now = ap (λ (x : LinkedFiles). x.files) c.in_ok-linter.ensures.linked ∙ c.new-linked.ensures.files in
    let here : AreRead l.linked.now.files reads = subst (λ (fs : List FileOf). AreRead fs reads) (sym given) are in
    let all = c.in_ok-found.ensures reads here
    ∙ ap (λ (fs : List FileOf). findings l.rules.now.chosen fs reads) given
    ∙ ap (λ (set : RuleSet). findings set.chosen c.args.files.now reads) c.in_ok-linter.ensures.rules in
    subst (λ (fs : List FindingOf). IsListingOf fs (map finding_of c.sorted_findings.result.items)) all c.sorted_findings.ensures)
