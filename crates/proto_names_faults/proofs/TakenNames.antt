-- The set of names that are taken, with one more.
use Rattle.std.proofs.Common.{◌≡◌, ◌||◌, ◌&&◌, ℕ, ◌+◌, ◌<◌, Bool, true, false, cond, not, List, length, get_or, map, take, string_bytes, refl, sym, ◌∙◌, ap, arith, bytes_eq, true≢false}
use Rattle.std.specs.List.{list_any}
use Rattle.proto_base.proofs.Common.{get_or-map, length-map, list_any_more}
use Rattle.proto_names_rules.proofs.Common.{is_package}
use Rattle.proto_names_rules.specs.declared.kind.Kind.{Kind}
use Rattle.proto_names_rules.specs.declared.kind.Kind.TheVariants.{Package}
use Rattle.proto_names_faults.specs.Common.{NameAt, NamedText, is_other_named, is_package_named, shown}

-- the declaration at a place, as it is seen
pub shown_at : (all : List NamedText) (i : ℕ) (one : NamedText) → i < length all → one ≡ get_or all i one → shown one ≡ get_or (map shown all) i (shown one)
shown_at all i one l is = ap shown is ∙ sym (get_or-map shown all i one (shown one) l)

or_false : (b : Bool) → (b || false) ≡ b
or_false true = refl
or_false false = refl

or_assoc : (a b c : Bool) → ((a || b) || c) ≡ (a || (b || c))
or_assoc true b c = refl
or_assoc false b c = refl

module _ (text : List ℕ) (all : List NamedText) (i : ℕ) (one : NamedText) (l : i < length all) (is : one ≡ get_or all i one) where
  next : (test : NameAt → Bool) → list_any test (take (i + 1) (map shown all)) ≡ (list_any test (take i (map shown all)) || test (shown one))
  next test =
      list_any_more test (map shown all) i (shown one) (omega (arith, l, length-map all shown))
      ∙ ap (λ (x : NameAt). list_any test (take i (map shown all)) || test x) (sym (shown_at all i one l is))

  -- a package more
  pub package_put : is_package one.kind ≡ true → (old new : Bool) → old ≡ list_any (is_package_named text) (take i (map shown all)) → new ≡ (old || bytes_eq (string_bytes one.text) text) → new ≡ list_any (is_package_named text) (take (i + 1) (map shown all))
  package_put k old new before now =
      now ∙ ap (λ b. b || bytes_eq (string_bytes one.text) text) before
      ∙ ap (λ b. list_any (is_package_named text) (take i (map shown all)) || (b && bytes_eq (string_bytes one.text) text)) (sym k)
      ∙ sym (next (is_package_named text))

  -- what is no package is not put in
  pub package_kept : is_package one.kind ≡ false → (old new : Bool) → old ≡ list_any (is_package_named text) (take i (map shown all)) → new ≡ old → new ≡ list_any (is_package_named text) (take (i + 1) (map shown all))
  package_kept k old new before now =
      now ∙ before ∙ sym (or_false (list_any (is_package_named text) (take i (map shown all))))
      ∙ ap (λ b. list_any (is_package_named text) (take i (map shown all)) || (b && bytes_eq (string_bytes one.text) text)) (sym k)
      ∙ sym (next (is_package_named text))

  -- behind the packages, another declaration more
  pub other_put : is_package one.kind ≡ false → (packages old new : Bool) → old ≡ (packages || list_any (is_other_named text) (take i (map shown all))) → new ≡ (old || bytes_eq (string_bytes one.text) text) → new ≡ (packages || list_any (is_other_named text) (take (i + 1) (map shown all)))
  other_put k packages old new before now =
      now ∙ ap (λ b. b || bytes_eq (string_bytes one.text) text) before
      ∙ or_assoc packages (list_any (is_other_named text) (take i (map shown all))) (bytes_eq (string_bytes one.text) text)
      ∙ ap (λ b. packages || (list_any (is_other_named text) (take i (map shown all)) || (not b && bytes_eq (string_bytes one.text) text))) (sym k)
      ∙ ap (λ b. packages || b) (sym (next (is_other_named text)))

  pub other_kept : is_package one.kind ≡ true → (packages old new : Bool) → old ≡ (packages || list_any (is_other_named text) (take i (map shown all))) → new ≡ old → new ≡ (packages || list_any (is_other_named text) (take (i + 1) (map shown all)))
  other_kept k packages old new before now =
      now ∙ before
      ∙ ap (λ b. packages || b) (sym (or_false (list_any (is_other_named text) (take i (map shown all)))))
      ∙ ap (λ b. packages || (list_any (is_other_named text) (take i (map shown all)) || (not b && bytes_eq (string_bytes one.text) text))) (sym k)
      ∙ ap (λ b. packages || b) (sym (next (is_other_named text)))

pub put_is : (same old : Bool) → cond same true old ≡ (old || same)
put_is true true = refl
put_is true false = refl
put_is false true = refl
put_is false false = refl

-- nothing behind the packages yet
pub none_taken : (taken packages : Bool) → taken ≡ packages → taken ≡ (packages || false)
none_taken taken packages e = e ∙ sym (or_false packages)

pub no_package : (kind : Kind) → is_package kind ≡ false → kind ≡ Package → ⊥
no_package kind plain e = true≢false (sym (ap is_package e) ∙ plain)
