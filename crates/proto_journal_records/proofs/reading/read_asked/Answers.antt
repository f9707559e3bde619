use Rattle.std.proofs.Common.{rules, ◌≡◌, ◌≢◌, ℕ, List, None, codes, refl, ap, sym, ◌∙◌}
use Rattle.std.specs.Prelude.{IsSomeAnd, option_map}
use Rattle.std.proofs.lemmas.Result.{IfOk-weaker}
use Rattle.json.specs.Value.{value_view}
use Rattle.serde_json.specs.Written.{outline}
use Rattle.proto_edit_entries.specs.EditsAsked.{asked, rename, delete_field, add_import, drop_import}
use Rattle.proto_journal_records.specs.RecordText.{asked_data}
use Rattle.proto_journal_records.proofs.EditData.{HasKind, Reads, kind_is, no_kind, reads_addition, reads_deletion, reads_drop, reads_none, reads_rename}
use Rattle.proto_journal_records.proofs.reading.read_asked.Goals as goal

pub returns-in_default : goal.returns-in_default
returns-in_default c = λ e same. no_kind (value_view c.args.value.now) e (sym c.text_at.ensures ∙ ap (option_map (λ s. s.now)) c.in_default.is) same

pub returns-then-eq : goal.returns-then-eq
returns-then-eq c =
    let d = value_view c.args.value.now in
    let same : c.in-Some.kind.now ≡ codes "rename" = search rules in
    let kind : HasKind d (codes "rename") = kind_is d c.in-Some.kind.now (codes "rename") c.in-Some.ensures same in
    IfOk-weaker c.read_rename.result
    (λ found. (name to : List ℕ) → d ≡ outline (asked_data (rename name to)) → IsSomeAnd found (λ edit. asked edit ≡ rename name to))
    (λ found. Reads found d) (λ found h. reads_rename found d kind h) c.read_rename.ensures

pub returns-then-eq-2 : goal.returns-then-eq-2
returns-then-eq-2 c =
    let d = value_view c.args.value.now in
    let same : c.in-Some.kind.now ≡ codes "delete-field" = search rules in
    let kind : HasKind d (codes "delete-field") = kind_is d c.in-Some.kind.now (codes "delete-field") c.in-Some.ensures same in
    IfOk-weaker c.read_deletion.result
    (λ found. (name : List ℕ) → d ≡ outline (asked_data (delete_field name)) → IsSomeAnd found (λ edit. asked edit ≡ delete_field name))
    (λ found. Reads found d) (λ found h. reads_deletion found d kind h) c.read_deletion.ensures

pub returns-then-eq-3 : goal.returns-then-eq-3
returns-then-eq-3 c =
    let d = value_view c.args.value.now in
    let same : c.in-Some.kind.now ≡ codes "add-import" = search rules in
    let kind : HasKind d (codes "add-import") = kind_is d c.in-Some.kind.now (codes "add-import") c.in-Some.ensures same in
    IfOk-weaker c.read_addition.result
    (λ found. (file path : List ℕ) → d ≡ outline (asked_data (add_import file path)) → IsSomeAnd found (λ edit. asked edit ≡ add_import file path))
    (λ found. Reads found d) (λ found h. reads_addition found d kind h) c.read_addition.ensures

pub returns-then-eq-4 : goal.returns-then-eq-4
returns-then-eq-4 c =
    let d = value_view c.args.value.now in
    let same : c.in-Some.kind.now ≡ codes "drop-import" = search rules in
    let kind : HasKind d (codes "drop-import") = kind_is d c.in-Some.kind.now (codes "drop-import") c.in-Some.ensures same in
    IfOk-weaker c.read_drop.result
    (λ found. (file path : List ℕ) → d ≡ outline (asked_data (drop_import file path)) → IsSomeAnd found (λ edit. asked edit ≡ drop_import file path))
    (λ found. Reads found d) (λ found h. reads_drop found d kind h) c.read_drop.ensures

pub returns : goal.returns
returns c =
    let d = value_view c.args.value.now in
    let kind : HasKind d c.in-Some.kind.now = kind_is d c.in-Some.kind.now c.in-Some.kind.now c.in-Some.ensures refl in
    let r : c.in-Some.kind.now ≢ codes "rename" = search rules in
    let f : c.in-Some.kind.now ≢ codes "delete-field" = search rules in
    let a : c.in-Some.kind.now ≢ codes "add-import" = search rules in
    let i : c.in-Some.kind.now ≢ codes "drop-import" = search rules in
    reads_none None d c.in-Some.kind.now kind r f a i
