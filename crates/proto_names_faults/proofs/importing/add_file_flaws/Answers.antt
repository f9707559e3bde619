use Rattle.std.proofs.Common.{◌||◌, rules, string_bytes, ◌∙◌, ap, subst, bytes_eq, take_all}
use Rattle.std.specs.HashSet.{contains_text}
use Rattle.proto_names_faults.specs.Common.{AreAdded, IsImportIn}
use Rattle.proto_names_faults.proofs.Added.{none_added}
use Rattle.proto_names_faults.proofs.ImportTurns.{import_turn, no_import_yet}
use Rattle.proto_names_faults.proofs.PathFaults.{named_more}
use Rattle.proto_names_faults.proofs.importing.add_file_flaws.Goals as goal

pub loop-import-init : goal.loop-import-init
loop-import-init c = record { named = λ text. search rules; flaws = λ paths index. none_added _ _ (no_import_yet paths c.args.graph.now.marks.now c.args.file c.args.written.now) }

pub loop-import-preserved : goal.loop-import-preserved
loop-import-preserved c =
    let w = c.import-item.result in
    let i = c.loop-import.import-index in
    let path = c.as_str.ensures.value in
    record {
      named = λ text.
          named_more text c.args.written.now i w c.loop-import-test.true c.import-item.is _ _ (c.loop-import.invariant.named text)
          (c.in_ok-is_double.ensures.names text ∙ ap (λ t. contains_text c.loop-import.named text || bytes_eq t text) path);
      flaws = λ paths index.
          (let double = c.in_ok-is_double.ensures.was ∙ ap (contains_text c.loop-import.named) path ∙ c.loop-import.invariant.named (string_bytes w.path) in
          import_turn paths c.args.graph.now.marks.now c.args.file c.args.written.now i w c.loop-import-test.true c.import-item.is c.in_ok-is_double.is_double double
          c.args.found.now.items c.loop-import.found.items c.add_import_flaws.new.found.items (c.loop-import.invariant.flaws paths index) (c.in_ok-add_import_flaws.ensures paths index));
    }

pub returns : goal.returns
returns c = λ paths index.
    subst (λ ws. AreAdded (IsImportIn paths c.args.graph.now.marks.now c.args.file ws) c.args.found.now.items c.loop-import.found.items) (take_all c.loop-import.import-index c.args.written.now c.loop-import-test.false) (c.loop-import.invariant.flaws paths index)
