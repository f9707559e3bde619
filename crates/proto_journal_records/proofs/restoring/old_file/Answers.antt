use Rattle.std.proofs.Common.{List, ℕ, map, sym, ap, ◌∙◌, bytes_eq}
use Rattle.proto_base.proofs.Common.{list_any, err_from_is_err_and, any_map}
use Rattle.proto_edit_entries.specs.Entries.{change_of}
use Rattle.proto_journal_records.proofs.OldTexts.{counts_neither, is_listed, not_there}
use Rattle.proto_journal_records.proofs.restoring.old_file.Goals as goal

pub returns-then-not-contains-clause-err : goal.returns-then-not-contains-clause-err
returns-then-not-contains-clause-err g c =
    let known : List (List ℕ) = map (λ k. k.now) c.args.known.now.keys in
    not_there (g.S.Store.holds c.args.store.now) known (change_of c.args.change.now) c.requires.known
    (ap (λ (w : List ℕ). list_any (bytes_eq w) known) (sym c.as_str-path.ensures.value) ∙ any_map (bytes_eq c.as_str-path.result.now) (λ k. k.now) c.args.known.now.keys ∙ sym c.contains.ensures
    ∙ c.if-not-contains.true)

pub read-requires-clause-listed : goal.read-requires-clause-listed
read-requires-clause-listed g c =
    let known : List (List ℕ) = map (λ k. k.now) c.args.known.now.keys in
    is_listed (g.S.Store.holds c.args.store.now) known c.as_str-path.result.now c.requires.known
    (any_map (bytes_eq c.as_str-path.result.now) (λ k. k.now) c.args.known.now.keys ∙ sym c.contains.ensures ∙ c.if-not-contains.false)

pub returns-in_err-old-clause-count : goal.returns-in_err-old-clause-count
returns-in_err-old-clause-count g c =
    let p = err_from_is_err_and c.from_residual.result c.from_residual.ensures.1 in
    rw (p.1, p.2) (counts_neither (change_of c.args.change.now) c.as_slice.result.now (g.S.Store.failure_count c.args.store.now) (g.S.Store.failure_count c.read.new.self) _ c.in-Ok.ensures.count c.in_err-old.ensures.err)
