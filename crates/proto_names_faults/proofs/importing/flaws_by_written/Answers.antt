use Rattle.std.proofs.Common.{map, sym, subst}
use Rattle.proto_base.proofs.Common.{IfOk-weaker}
use Rattle.proto_names_rules.proofs.Common.{imports_of}
use Rattle.proto_names_imports.proofs.Common.{all_asked}
use Rattle.proto_names_faults.specs.Common.{MarksCycles}
use Rattle.proto_names_faults.proofs.importing.flaws_by_written.Goals as goal

pub cycle_marks-requires-clause-count : goal.cycle_marks-requires-clause-count
cycle_marks-requires-clause-count c = c.requires.count

pub cycle_marks-requires-clause-index : goal.cycle_marks-requires-clause-index
cycle_marks-requires-clause-index c = c.requires.index

pub flaws_by_graph-requires : goal.flaws_by_graph-requires
flaws_by_graph-requires c = c.requires.count

pub returns : goal.returns
returns c = IfOk-weaker c.flaws_by_graph.result _ _
    (λ ws h paths index.
    h paths index (subst (λ ms. MarksCycles (imports_of paths (all_asked 0 (map (λ v. v.items) c.args.files.now))) ms) (sym c.deref.ensures.value) (c.in_ok-marks.ensures paths index)))
    c.flaws_by_graph.ensures
