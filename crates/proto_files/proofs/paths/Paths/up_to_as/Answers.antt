use Rattle.std.proofs.Common.{sym, ap, ◌∙◌}
use Rattle.proto_files.specs.Common.{named_paths, first_fault}
use Rattle.proto_files.proofs.FirstFaultSteps.{same_files, clean_walk, clean_files, stopped_walk}
use Rattle.proto_files.proofs.paths.Paths.up_to_as.Goals as goal

pub invariant_of-result : goal.invariant_of-result
invariant_of-result c =
    clean_files c.args.profile c.args.limit c.args.files.items c.in_ok-files.files.items c.sort_by_path.new.files.items c.requires c.in_ok-files.ensures c.sort_by_path.ensures.same c.sort_by_path.ensures.in_order
    (sym c.in-None.is ∙ c.first_fault.ensures.fault ∙ ap (λ files. first_fault 0 c.args.limit (named_paths files)) c.deref.ensures.value)

pub returns-in-None-clause-clean : goal.returns-in-None-clause-clean
returns-in-None-clause-clean c =
    (clean_walk c.args.profile c.args.limit c.args.files.items c.in_ok-files.files.items c.sort_by_path.new.files.items c.in_ok-files.ensures c.sort_by_path.ensures.same c.sort_by_path.ensures.in_order
    (sym c.in-None.is ∙ c.first_fault.ensures.fault ∙ ap (λ files. first_fault 0 c.args.limit (named_paths files)) c.deref.ensures.value)).0

pub returns-in-None-clause-same : goal.returns-in-None-clause-same
returns-in-None-clause-same c = same_files c.args.profile c.args.files.items c.in_ok-files.files.items c.sort_by_path.new.files.items c.in_ok-files.ensures c.sort_by_path.ensures.same

pub returns-in-None-clause-in_order : goal.returns-in-None-clause-in_order
returns-in-None-clause-in_order c =
    clean_files c.args.profile c.args.limit c.args.files.items c.in_ok-files.files.items c.sort_by_path.new.files.items c.requires c.in_ok-files.ensures c.sort_by_path.ensures.same c.sort_by_path.ensures.in_order
    (sym c.in-None.is ∙ c.first_fault.ensures.fault ∙ ap (λ files. first_fault 0 c.args.limit (named_paths files)) c.deref.ensures.value)

pub returns-in-Some-clause-fault : goal.returns-in-Some-clause-fault
returns-in-Some-clause-fault c =
    stopped_walk c.args.profile c.args.limit c.args.files.items c.in_ok-files.files.items c.sort_by_path.new.files.items c.in_ok-files.ensures c.sort_by_path.ensures.same c.sort_by_path.ensures.in_order
    c.in-Some.place c.in-Some.kind c.swap_remove-file.result
    (sym c.in-Some.is ∙ c.first_fault.ensures.fault ∙ ap (λ files. first_fault 0 c.args.limit (named_paths files)) c.deref.ensures.value)
    c.swap_remove-file.ensures.value
