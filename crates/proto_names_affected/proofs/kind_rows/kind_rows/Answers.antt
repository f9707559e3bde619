use Rattle.std.proofs.Common.{◌≡◌, ℕ, ◌+◌, ◌<◌, List, [], ◌∷◌, ◌++◌, length, get_or, take, Option, Some, None, refl, sym, ◌∙◌, ap}
use Rattle.std.specs.List.{cons_option, filter_map}
use Rattle.std.specs.Option.{option_to_list}
use Rattle.std.proofs.lemmas.List.{take_more}
use Rattle.std.proofs.lemmas.List.Elements.{filter_map-append}
use Rattle.proto_names_affected.specs.KindRows.{kind_row}
use Rattle.proto_names_affected.specs.declared.kind_rows.KindRow.{KindRow}
use Rattle.proto_names_affected.proofs.kind_rows.kind_rows.Goals as goal

as_list : (o : Option KindRow) → option_to_list o ≡ cons_option o []
as_list None = refl
as_list (Some x) = refl

one_more : (h : ℕ → Option KindRow) (rows : List ℕ) (i : ℕ) → i < length rows → filter_map h (take i rows) ++ option_to_list (h (get_or rows i 0)) ≡ filter_map h (take (i + 1) rows)
one_more h rows i l =
    ap (λ z. filter_map h (take i rows) ++ z) (as_list (h (get_or rows i 0)))
    ∙ sym (filter_map-append h (take i rows) (get_or rows i 0 ∷ []))
    ∙ ap (filter_map h) (sym (take_more rows i 0 l))

pub loop-row-preserved : goal.loop-row-preserved
loop-row-preserved c =
    c.in_ok-add_kind.ensures
    ∙ ap (λ z. z ++ option_to_list (kind_row c.args.table.now (get_or c.args.rows.now c.loop-row.row-index 0))) c.loop-row.invariant
    ∙ one_more (kind_row c.args.table.now) c.args.rows.now c.loop-row.row-index c.loop-row-test.true
