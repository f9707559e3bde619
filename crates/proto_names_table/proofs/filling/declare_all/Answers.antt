use Rattle.std.proofs.Common.{map, ◌∙◌}
use Rattle.std.proofs.lemmas.Result.{err_from_is_err_and}
use Rattle.proto_names_table.specs.Spelled.{all_named}
use Rattle.proto_names_table.proofs.Passes.{held_clean, held_index}
use Rattle.proto_names_table.proofs.filling.declare_all.Goals as goal

pub returns-clause-index : goal.returns-clause-index
returns-clause-index c = held_index c.in_ok-named.named.0 (all_named 0 (map (λ v. v.items) c.args.files.now)) c.in_ok-named.ensures.held

pub returns-clause-clean : goal.returns-clause-clean
returns-clause-clean c = held_clean c.in_ok-named.named.0 (all_named 0 (map (λ v. v.items) c.args.files.now)) c.in_ok-named.ensures.held

pub returns-in_err-table : goal.returns-in_err-table
returns-in_err-table c =
    let p = err_from_is_err_and c.from_residual.result c.from_residual.ensures.1 in
    rw (p.1, p.2 ∙ c.in_err-table.ensures.fault) (record { table = tt; index = tt; rows = tt; clean = tt; fault = tt })

pub returns-in_err-packages : goal.returns-in_err-packages
returns-in_err-packages c =
    let p = err_from_is_err_and c.from_residual-in_err-packages.result c.from_residual-in_err-packages.ensures.1 in
    rw (p.1, p.2 ∙ c.in_err-packages.ensures.fault) (record { table = tt; index = tt; rows = tt; clean = tt; fault = tt })

pub returns-in_err-named : goal.returns-in_err-named
returns-in_err-named c =
    let p = err_from_is_err_and c.from_residual-in_err-named.result c.from_residual-in_err-named.ensures.1 in
    rw (p.1, p.2) (record { table = tt; index = tt; rows = tt; clean = tt; fault = c.in_err-named.ensures.fault })
