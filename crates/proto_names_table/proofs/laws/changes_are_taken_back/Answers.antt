use Rattle.std.proofs.Common.{◌≡◌, length, get_or, sym, ◌∙◌, ap, arith, slice_set, take, take_all, set-set, get_or-set_same}
use Rattle.std.proofs.lemmas.List.{set-get_or}
use Rattle.proto_base.proofs.Common.{take-append-le}
use Rattle.proto_names_table.specs.Tables.{with_declaration}
use Rattle.proto_names_table.proofs.laws.changes_are_taken_back.Goals as goal

pub returns-clause-declarations : goal.returns-clause-declarations
returns-clause-declarations c = λ rows k r symbol is_declared l is.
    (let other = with_declaration symbol is_declared r in
    let own : with_declaration r.symbol r.is_declared (get_or (slice_set rows k other) k r) ≡ r =
    ap (with_declaration r.symbol r.is_declared) (get_or-set_same rows k other r l) in
    set-set rows k other (with_declaration r.symbol r.is_declared (get_or (slice_set rows k other) k r))
    ∙ ap (slice_set rows k) (own ∙ is)
    ∙ set-get_or rows k r)

pub returns-clause-added : goal.returns-clause-added
returns-clause-added c = λ old new added ok rows front.
    (let shown : take (length old.rows.items) new.below.rows.keys ≡ old.below.rows.keys =
    ap (λ n. take n new.below.rows.keys) (sym ok.sized) ∙ front.rows in (
      ap (take (length old.rows.items)) rows ∙ take-append-le (length old.rows.items) old.rows.items added (omega arith) ∙ take_all (length old.rows.items) old.rows.items (omega arith),
      λ i. (front.words i, shown i),
    ))
