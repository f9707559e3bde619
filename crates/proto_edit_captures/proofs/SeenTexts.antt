-- What is seen by a text, by the row of the name that has it.
use Rattle.std.proofs.Common.{◌≡◌, ◌≢◌, ℕ, Bool, true, false, ◌&&◌, List, get_or, Option, Some, None, option_map, refl, sym, ap, ◌∙◌, inl, inr, option_and_then}
use Rattle.proto_base.proofs.Common.{cases_Bool, cond-false, cond-true, none-some, same_Some}
use Rattle.proto_names_rules.specs.declared.kind.Kind.{Kind}
use Rattle.proto_names_rules.specs.Linked.{is_package}
use Rattle.proto_names.specs.Linking.{LinkOf, NameOf, declaring_file, name_at, own_file, name_text}
use Rattle.proto_edit_captures.specs.Common.{Fit, fits_seen, is_marked, sees_name, sees_text, first_fits}
use Rattle.proto_edit_captures.proofs.KindNamed.{found_at, found_none}

module _ (l : LinkOf) (marks : List Bool) (packages : List ℕ → Bool) (fit : Fit) (text : List ℕ) where
  pub sees_none : ((row : ℕ) → name_text l row ≢ Some text) → false ≡ sees_text l marks packages fit text
  sees_none none = ap (fits_seen marks packages fit) (sym (found_none l.names text none))

  module _ (row : ℕ) (there : name_text l row ≡ Some text) (once : (i j : ℕ) (t : List ℕ) → name_text l i ≡ Some t → name_text l j ≡ Some t → i ≡ j) where
    sees_row : sees_text l marks packages fit text ≡ fits_seen marks packages fit (name_at l row)
    sees_row = ap (fits_seen marks packages fit) (found_at l.names text row there (λ i e. once i row text e there))

    -- the name in the row
    named : (n : NameOf) × (name_at l row ≡ Some n) × (n.text ≡ text)
    named = go (name_at l row) refl there
      where
        go : (o : Option NameOf) → name_at l row ≡ o → option_map (λ n. n.text) o ≡ Some text → (n : NameOf) × (name_at l row ≡ Some n) × (n.text ≡ text)
        go None e h = absurd (none-some text h)
        go (Some n) e h = (n, e, same_Some n.text text h)

    abbrev name : NameOf
    name = named.0

    kind_is : (k : Kind) → option_map (λ n. n.kind) (name_at l row) ≡ Some k → name.kind ≡ k
    kind_is k h = same_Some name.kind k (ap (option_map (λ n. n.kind)) (sym named.1) ∙ h)

    is : sees_text l marks packages fit text ≡ (first_fits fit name.kind && sees_name marks packages name)
    is = sees_row ∙ ap (fits_seen marks packages fit) named.1

    pub no_kind : option_map (λ n. n.kind) (name_at l row) ≡ None → false ≡ sees_text l marks packages fit text
    no_kind h = absurd (none-some name.kind (sym h ∙ ap (option_map (λ n. n.kind)) named.1))

    pub unfit : (k : Kind) → option_map (λ n. n.kind) (name_at l row) ≡ Some k → first_fits fit k ≡ false → false ≡ sees_text l marks packages fit text
    unfit k h bad = sym (is ∙ ap (λ b. b && sees_name marks packages name) (ap (first_fits fit) (kind_is k h) ∙ bad))

    fits_here : (k : Kind) → option_map (λ n. n.kind) (name_at l row) ≡ Some k → first_fits fit k ≡ true → sees_text l marks packages fit text ≡ sees_name marks packages name
    fits_here k h good = is ∙ ap (λ b. b && sees_name marks packages name) (ap (first_fits fit) (kind_is k h) ∙ good)

    own_is : declaring_file l row ≡ own_file name
    own_is = ap (option_and_then own_file) named.1

    pub of_file : (k : Kind) → option_map (λ n. n.kind) (name_at l row) ≡ Some k → first_fits fit k ≡ true → (f : ℕ) → declaring_file l row ≡ Some f → is_marked marks f ≡ sees_text l marks packages fit text
    of_file k h good f own = elim (cases_Bool (is_package name.kind)) [
      | inl p ↦ absurd (none-some f (sym (cond-true (is_package name.kind) None (Some (get_or name.files 0 0)) p) ∙ sym own_is ∙ own))
      | inr p ↦
          let first : get_or name.files 0 0 ≡ f = same_Some (get_or name.files 0 0) f (sym (cond-false (is_package name.kind) None (Some (get_or name.files 0 0)) p) ∙ sym own_is ∙ own) in
          sym (fits_here k h good ∙ cond-false (is_package name.kind) (packages name.text) (is_marked marks (get_or name.files 0 0)) p ∙ ap (is_marked marks) first)
    ]

    pub of_package : (k : Kind) → option_map (λ n. n.kind) (name_at l row) ≡ Some k → first_fits fit k ≡ true → declaring_file l row ≡ None → packages text ≡ sees_text l marks packages fit text
    of_package k h good own = elim (cases_Bool (is_package name.kind)) [
      | inl p ↦ sym (fits_here k h good ∙ cond-true (is_package name.kind) (packages name.text) (is_marked marks (get_or name.files 0 0)) p ∙ ap packages named.2)
      | inr p ↦ absurd (none-some (get_or name.files 0 0) (sym own ∙ own_is ∙ cond-false (is_package name.kind) None (Some (get_or name.files 0 0)) p))
    ]
