use Rattle.std.proofs.Common.{length, map, ◌∙◌, ap}
use Rattle.proto_base.proofs.Common.{IfOk-weaker, length-map}
use Rattle.proto_files.proofs.Common.{paths_of}
use Rattle.proto_names_rules.proofs.Common.{imports_of}
use Rattle.proto_names_imports.proofs.Common.{all_asked}
use Rattle.proto_names_imports.proofs.ImportGraph.{resolved_within}
use Rattle.proto_names_faults.proofs.sight.imports_by_index.Goals as goal

pub returns-clause-len : goal.returns-clause-len
returns-clause-len c = IfOk-weaker c.resolved_imports.result _ _ (λ imports h. h ∙ ap length c.deref.ensures.value ∙ c.in_ok-written.ensures.len) c.resolved_imports.ensures.len

pub returns-clause-within : goal.returns-clause-within
returns-clause-within c =
    let paths = paths_of c.args.files.now in
    IfOk-weaker c.resolved_imports.result _ _
    (λ imports h. resolved_within (λ v. v.items) imports.items paths (all_asked 0 (map (λ v. v.items) c.deref.result.now)) (length c.args.files.now) (length-map c.args.files.now (λ f. f.path)) (h paths c.requires)) c.resolved_imports.ensures.imports

pub returns-clause-imports : goal.returns-clause-imports
returns-clause-imports c =
    let paths = paths_of c.args.files.now in
    IfOk-weaker c.resolved_imports.result _ _
    (λ imports h reads are. h paths c.requires ∙ ap (λ ws. imports_of paths (all_asked 0 (map (λ v. v.items) ws))) c.deref.ensures.value ∙ ap (imports_of paths) (c.in_ok-written.ensures.asked reads are))
    c.resolved_imports.ensures.imports
