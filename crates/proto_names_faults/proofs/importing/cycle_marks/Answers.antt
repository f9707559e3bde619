use Rattle.std.proofs.Common.{◌≡◌, length, map, sym, ◌∙◌, ap, subst, arith}
use Rattle.proto_base.proofs.Common.{IfOk-weaker}
use Rattle.proto_names_rules.proofs.Common.{imports_of}
use Rattle.proto_names_imports.proofs.Common.{all_asked, all_imports}
use Rattle.proto_names_imports.proofs.ImportGraph.{resolved_within}
use Rattle.proto_names_faults.specs.Common.{MarksCycles}
use Rattle.proto_names_faults.proofs.importing.cycle_marks.Goals as goal

pub leading_marks-requires-clause-count : goal.leading_marks-requires-clause-count
leading_marks-requires-clause-count c = omega (arith, ap length c.deref.ensures.value, c.in_ok-imports.ensures.len, c.requires.count)

pub leading_marks-requires-clause-within : goal.leading_marks-requires-clause-within
leading_marks-requires-clause-within c =
    let paths = c.requires.index.0 in
    let asked = all_asked 0 (map (λ v. v.items) c.args.files.now) in
    let same = subst (λ z. all_imports 0 (map (λ v. v.items) z) ≡ imports_of paths asked) (sym c.deref.ensures.value) (c.in_ok-imports.ensures.imports paths c.requires.index.1) in
    resolved_within (λ v. v.items) c.deref.result.now paths asked (length c.deref.result.now) (c.requires.index.2 ∙ sym c.in_ok-imports.ensures.len ∙ sym (ap length c.deref.ensures.value)) same

pub returns : goal.returns
returns c = IfOk-weaker c.leading_marks.result _ _
    (λ marks h paths index.
    subst (λ is. MarksCycles is marks.items) (ap (λ z. all_imports 0 (map (λ v. v.items) z)) c.deref.ensures.value ∙ c.in_ok-imports.ensures.imports paths index) h)
    c.leading_marks.ensures
