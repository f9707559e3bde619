-- What is read of the outline of an edit's data.
use Rattle.std.proofs.Common.{◌≡◌, ◌≢◌, ℕ, true, false, List, codes, Option, Some, None, refl, sym, ap, ◌∙◌, subst, option_and_then, map}
use Rattle.std.specs.Prelude.{IsSomeAnd, MatchOption}
use Rattle.std.specs.Str.{bytes_eq}
use Rattle.std.proofs.lemmas.Bool.{false≢true}
use Rattle.std.proofs.lemmas.Slice.Eq.{bytes_eq-Decides}
use Rattle.json.specs.Json.{Json}
use Rattle.json.specs.Find.{get, as_array, is_null, as_str}
use Rattle.serde_json.specs.View.{items_of}
use Rattle.serde_json.specs.Written.{outline, items_outline}
use Rattle.proto_edit_entries.specs.declared.edit.Edit.{Edit}
use Rattle.proto_edit_entries.proofs.Common.{Asked, asked, rename, delete_field, add_import, drop_import, ChangeOf}
use Rattle.proto_journal_records.specs.Common.{State, Version, First, Second, state_name, RecordOf, IsNoted, asked_data, change_data, edit_data, record_data}
use Rattle.proto_journal_records.proofs.RecordTexts.{same_record}

-- the word of the kind of an edit
abbrev pub kind_of : Asked → List ℕ
kind_of (rename name to) = codes "rename"
kind_of (delete_field name) = codes "delete-field"
kind_of (add_import file path) = codes "add-import"
kind_of (drop_import file path) = codes "drop-import"

pub kind_in : (d : Json) (e : Asked) → d ≡ outline (asked_data e) → option_and_then as_str (get (codes "kind") d) ≡ Some (kind_of e)
unfolding asked_data
kind_in d (rename name to) same = ap (λ x. option_and_then as_str (get (codes "kind") x)) same
kind_in d (delete_field name) same = ap (λ x. option_and_then as_str (get (codes "kind") x)) same
kind_in d (add_import file path) same = ap (λ x. option_and_then as_str (get (codes "kind") x)) same
kind_in d (drop_import file path) same = ap (λ x. option_and_then as_str (get (codes "kind") x)) same

differ : {P : Type 0} (a b : List ℕ) → bytes_eq a b ≡ false → a ≡ b → P
differ a b f e = absurd (false≢true (sym f ∙ (bytes_eq-Decides a b).1 e))

abbrev pub Reads : Option Edit → Json → Type 0
Reads found d = (e : Asked) → d ≡ outline (asked_data e) → IsSomeAnd found (λ edit. asked edit ≡ e)

-- the kind that the value has
abbrev pub HasKind : Json → List ℕ → Type 0
HasKind d kind = (e : Asked) → d ≡ outline (asked_data e) → kind_of e ≡ kind

pub reads_rename : (found : Option Edit) (d : Json) → HasKind d (codes "rename") → ((name to : List ℕ) → d ≡ outline (asked_data (rename name to)) → IsSomeAnd found (λ edit. asked edit ≡ rename name to)) → Reads found d
reads_rename found d kind h (rename name to) same = h name to same
reads_rename found d kind h (delete_field name) same = differ (codes "delete-field") (codes "rename") refl (kind (delete_field name) same)
reads_rename found d kind h (add_import file path) same = differ (codes "add-import") (codes "rename") refl (kind (add_import file path) same)
reads_rename found d kind h (drop_import file path) same = differ (codes "drop-import") (codes "rename") refl (kind (drop_import file path) same)

pub reads_deletion : (found : Option Edit) (d : Json) → HasKind d (codes "delete-field") → ((name : List ℕ) → d ≡ outline (asked_data (delete_field name)) → IsSomeAnd found (λ edit. asked edit ≡ delete_field name)) → Reads found d
reads_deletion found d kind h (delete_field name) same = h name same
reads_deletion found d kind h (rename name to) same = differ (codes "rename") (codes "delete-field") refl (kind (rename name to) same)
reads_deletion found d kind h (add_import file path) same = differ (codes "add-import") (codes "delete-field") refl (kind (add_import file path) same)
reads_deletion found d kind h (drop_import file path) same = differ (codes "drop-import") (codes "delete-field") refl (kind (drop_import file path) same)

pub reads_addition : (found : Option Edit) (d : Json) → HasKind d (codes "add-import") → ((file path : List ℕ) → d ≡ outline (asked_data (add_import file path)) → IsSomeAnd found (λ edit. asked edit ≡ add_import file path)) → Reads found d
reads_addition found d kind h (add_import file path) same = h file path same
reads_addition found d kind h (rename name to) same = differ (codes "rename") (codes "add-import") refl (kind (rename name to) same)
reads_addition found d kind h (delete_field name) same = differ (codes "delete-field") (codes "add-import") refl (kind (delete_field name) same)
reads_addition found d kind h (drop_import file path) same = differ (codes "drop-import") (codes "add-import") refl (kind (drop_import file path) same)

pub reads_drop : (found : Option Edit) (d : Json) → HasKind d (codes "drop-import") → ((file path : List ℕ) → d ≡ outline (asked_data (drop_import file path)) → IsSomeAnd found (λ edit. asked edit ≡ drop_import file path)) → Reads found d
reads_drop found d kind h (drop_import file path) same = h file path same
reads_drop found d kind h (rename name to) same = differ (codes "rename") (codes "drop-import") refl (kind (rename name to) same)
reads_drop found d kind h (delete_field name) same = differ (codes "delete-field") (codes "drop-import") refl (kind (delete_field name) same)
reads_drop found d kind h (add_import file path) same = differ (codes "add-import") (codes "drop-import") refl (kind (add_import file path) same)

-- a value of no kind is no edit's
pub reads_none : (found : Option Edit) (d : Json) (kind : List ℕ) → HasKind d kind → kind ≢ codes "rename" → kind ≢ codes "delete-field" → kind ≢ codes "add-import" → kind ≢ codes "drop-import" → Reads found d
reads_none found d kind is r f a i (rename name to) same = absurd (r (sym (is (rename name to) same)))
reads_none found d kind is r f a i (delete_field name) same = absurd (f (sym (is (delete_field name) same)))
reads_none found d kind is r f a i (add_import file path) same = absurd (a (sym (is (add_import file path) same)))
reads_none found d kind is r f a i (drop_import file path) same = absurd (i (sym (is (drop_import file path) same)))

some_same : (a b : List ℕ) → Some a ≡ Some b → a ≡ b
some_same a b e = cc

pub kind_is : (d : Json) (kind word : List ℕ) → Some kind ≡ option_and_then as_str (get (codes "kind") d) → kind ≡ word → HasKind d word
kind_is d kind word found e = λ a same. sym (sym e ∙ some_same kind (kind_of a) (found ∙ kind_in d a same))

-- ---- an edit, or none

pub none_in : (o : Option Asked) (d : Json) → d ≡ outline (edit_data o) → is_null d ≡ true → None ≡ o
unfolding edit_data asked_data
none_in None d e null = refl
none_in (Some (rename name to)) d e null = absurd (false≢true (sym (ap is_null e) ∙ null))
none_in (Some (delete_field name)) d e null = absurd (false≢true (sym (ap is_null e) ∙ null))
none_in (Some (add_import file path)) d e null = absurd (false≢true (sym (ap is_null e) ∙ null))
none_in (Some (drop_import file path)) d e null = absurd (false≢true (sym (ap is_null e) ∙ null))

pub some_in : (o : Option Asked) (d : Json) → d ≡ outline (edit_data o) → is_null d ≡ false → (e : Asked) × (o ≡ Some e) × (d ≡ outline (asked_data e))
unfolding edit_data
some_in None d e null = absurd (false≢true (sym null ∙ ap is_null e))
some_in (Some a) d e null = (a, refl, e)

some_json : (a b : Json) → Some a ≡ Some b → a ≡ b
some_json a b e = cc

pub told_is : (d told : Json) (o : Option Asked) → Some told ≡ get (codes "edit") d → get (codes "edit") d ≡ Some (outline (edit_data o)) → told ≡ outline (edit_data o)
told_is d told o e h = some_json told (outline (edit_data o)) (e ∙ h)

pub some_told : (o : Option Asked) (a : Asked) (edit : Edit) → o ≡ Some a → asked edit ≡ a → Some (asked edit) ≡ o
some_told o a edit e h = ap (λ (x : Asked). Some x) h ∙ sym e

pub no_kind : {P : Type 0} (d : Json) (e : Asked) → option_and_then as_str (get (codes "kind") d) ≡ None → d ≡ outline (asked_data e) → P
no_kind d e none same = let both : Some (kind_of e) ≡ None = sym (kind_in d e same) ∙ none in cc

-- ---- the parts of a record

pub state_in : (v : Version) (r : RecordOf) (d : Json) → d ≡ outline (record_data v r) → option_and_then as_str (get (codes "state") d) ≡ Some (state_name r.state)
unfolding record_data
state_in First r d e = ap (λ x. option_and_then as_str (get (codes "state") x)) e
state_in Second r d e = ap (λ x. option_and_then as_str (get (codes "state") x)) e

pub files_in : (v : Version) (r : RecordOf) (d : Json) → d ≡ outline (record_data v r) → option_and_then as_array (get (codes "files") d) ≡ Some (items_outline (items_of (map change_data r.entry)))
unfolding record_data
files_in First r d e = ap (λ x. option_and_then as_array (get (codes "files") x)) e
files_in Second r d e = ap (λ x. option_and_then as_array (get (codes "files") x)) e

pub edit_in : (r : RecordOf) (d : Json) → d ≡ outline (record_data Second r) → get (codes "edit") d ≡ Some (outline (edit_data r.edit))
unfolding record_data
edit_in r d e = ap (get (codes "edit")) e

-- ---- a record that is made

pub made_is : (found : Option RecordOf) (r : RecordOf) (s : State) (cs : List ChangeOf) (o : Option Asked)
    → MatchOption found (IsNoted o → ⊥) (λ x. x ≡ record { state = s; entry = cs; edit = o })
    → IsNoted r.edit → s ≡ r.state → cs ≡ r.entry → o ≡ r.edit → IsSomeAnd found (λ x. x ≡ r)
made_is None r s cs o h is p q t = absurd (h (subst IsNoted (sym t) is))
made_is (Some x) r s cs o h is p q t = h ∙ same_record (let y : RecordOf = record { state = s; entry = cs; edit = o } in y) r p q t
