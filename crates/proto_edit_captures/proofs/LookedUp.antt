-- What is looked up in a link is a name of it.
use Rattle.std.proofs.Common.{◌≡◌, ◌↔◌, ℕ, Bool, true, false, IsTrue, List, Option, Some, None, option_map, refl, sym, ap, ap₂, ◌∙◌}
use Rattle.std.proofs.lemmas.Option.{none-some, same_Some}
use Rattle.proto_names_rules.specs.declared.kind.Kind.{Kind}
use Rattle.proto_names_rules.specs.declared.kind.Kind.TheVariants.{Package, Message, Entry, Enum, Service, Field, EntryField, Oneof, Value, Method, Extension}
use Rattle.proto_names_rules.proofs.Common.{At, at, is_package}
use Rattle.proto_names.specs.Linking.{LinkOf, NameOf, name_at, name_text}
use Rattle.proto_edit_rules.specs.Rename.{may_rename}
use Rattle.proto_edit_captures.specs.Looked.{HasDeclared, HasUnmoved, IsEntryThere, first_place}

pub named_by : (o : Option NameOf) (text : List ℕ) → option_map (λ (n : NameOf). n.text) o ≡ Some text → (n : NameOf) × (o ≡ Some n) × (n.text ≡ text)
named_by None text e = absurd (none-some text e)
named_by (Some n) text e = (n, refl, same_Some n.text text e)

package_stays : (k : Kind) → is_package k ≡ true → may_rename k ≡ false
package_stays Package e = refl
package_stays Message e = absurd cc
package_stays Entry e = absurd cc
package_stays Enum e = absurd cc
package_stays Service e = absurd cc
package_stays Field e = absurd cc
package_stays EntryField e = absurd cc
package_stays Oneof e = absurd cc
package_stays Value e = absurd cc
package_stays Method e = absurd cc
package_stays Extension e = absurd cc

-- a name with no place of its own is none that may be renamed
pub unmoved : (l : LinkOf) (row : ℕ) (text : List ℕ) → name_text l row ≡ Some text → ((n : NameOf) → name_at l row ≡ Some n → is_package n.kind ≡ true) → HasUnmoved l text
unmoved l row text e none =
    let n = named_by (name_at l row) text e in
    record { row = row; found = n.0; is = n.1; text_is = n.2; kind_is = package_stays n.0.kind (none n.0 n.1) }

-- the name of this text is the one that was found
abbrev Once : LinkOf → Type 0
Once l = (i j : ℕ) (text : List ℕ) → name_text l i ≡ Some text → name_text l j ≡ Some text → i ≡ j

one_found : (l : LinkOf) → Once l → (row : ℕ) (text : List ℕ) → name_text l row ≡ Some text → (n : NameOf) → name_at l row ≡ Some n → (kind : Kind) (place : At) (h : HasDeclared l text kind place) → h.found ≡ n
one_found l once row text e n is kind place h =
    let named : name_text l h.row ≡ Some text = ap (option_map (λ (z : NameOf). z.text)) h.is ∙ ap (λ (z : List ℕ). Some z) h.text_is in
    let same : h.row ≡ row = once h.row row text named e in
    same_Some h.found n (sym h.is ∙ ap (name_at l) same ∙ is)

pub entry_found : (l : LinkOf) → Once l → (row : ℕ) (text : List ℕ) → name_text l row ≡ Some text → (kind : Kind) (its_file its_token file token : ℕ)
    → ((n : NameOf) × (name_at l row ≡ Some n) × (n.kind ≡ kind) × (first_place n ≡ at its_file its_token))
    → (b : Bool) → IsTrue b ↔ IsEntryThere kind its_file its_token file token → IsTrue b ↔ HasDeclared l text Entry (at file token)
entry_found l once row text e kind its_file its_token file token n b test = (
  λ h.
      let t = test.0 h in
      let named = named_by (name_at l row) text e in
      let same : named.0 ≡ n.0 = same_Some named.0 n.0 (sym named.1 ∙ n.1) in
      record { row = row; found = n.0; is = n.1; text_is = sym (ap (λ (z : NameOf). z.text) same) ∙ named.2; kind_is = n.2 ∙ t.0; place_is = n.3 ∙ ap₂ (λ (x y : ℕ). at x y) t.1 t.2 },
  λ h.
      let same : h.found ≡ n.0 = one_found l once row text e n.0 n.1 Entry (at file token) h in
      let place : at its_file its_token ≡ at file token = sym n.3 ∙ sym (ap first_place same) ∙ h.place_is in
      test.1 (sym n.2 ∙ sym (ap (λ (z : NameOf). z.kind) same) ∙ h.kind_is, ap (λ (z : At). z.file) place, ap (λ (z : At). z.token) place),
)

pub no_entry_found : (l : LinkOf) → Once l → (row : ℕ) (text : List ℕ) → name_text l row ≡ Some text → ((n : NameOf) → name_at l row ≡ Some n → is_package n.kind ≡ true) → (place : At) → HasDeclared l text Entry place → ⊥
no_entry_found l once row text e none place h =
    let named = named_by (name_at l row) text e in
    let same : h.found ≡ named.0 = one_found l once row text e named.0 named.1 Entry place h in
    differ (sym (ap is_package (sym (ap (λ (z : NameOf). z.kind) same) ∙ h.kind_is)) ∙ none named.0 named.1)
  where
    differ : false ≡ true → ⊥
    differ z = cc

pub same_test : (b c : Bool) → (b ≡ true → c ≡ true) → (c ≡ true → b ≡ true) → b ≡ c
same_test true c f g = sym (f refl)
same_test false true f g = g refl
same_test false false f g = refl
