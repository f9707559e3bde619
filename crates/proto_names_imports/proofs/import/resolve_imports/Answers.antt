use Rattle.std.proofs.Common.{map, sym, ◌∙◌}
use Rattle.proto_base.proofs.Common.{length-map, IfErr-weaker, IfOk-weaker}
use Rattle.proto_names_imports.proofs.import.resolve_imports.Goals as goal

pub imports_by_index-requires-clause-index : goal.imports_by_index-requires-clause-index
imports_by_index-requires-clause-index c =
    (map (λ p. p.now) c.args.paths.now, c.in_ok-index.ensures, length-map c.args.paths.now (λ p. p.now) ∙ sym c.requires.paired)

pub returns-clause-clean : goal.returns-clause-clean
returns-clause-clean c =
    IfOk-weaker c.imports_by_index.result _ _ (λ _ all. all (map (λ p. p.now) c.args.paths.now) c.in_ok-index.ensures) c.imports_by_index.ensures.clean

pub returns-clause-imports : goal.returns-clause-imports
returns-clause-imports c =
    IfOk-weaker c.imports_by_index.result _ _ (λ _ all. all (map (λ p. p.now) c.args.paths.now) c.in_ok-index.ensures) c.imports_by_index.ensures.imports

pub returns-clause-fault : goal.returns-clause-fault
returns-clause-fault c =
    IfErr-weaker c.imports_by_index.result _ _ (λ _ all. all (map (λ p. p.now) c.args.paths.now) c.in_ok-index.ensures) c.imports_by_index.ensures.fault
