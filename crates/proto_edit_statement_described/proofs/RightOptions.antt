-- Where each custom option of a file is one that was there, and its name means what extends the same, the options that were right are so.
use Rattle.std.proofs.Common.{◌≡◌, ℕ, not, List, [], ◌∷◌, flat_map, Option, Some, None, option_and_then, refl, sym, ◌∙◌, ap, ap₂, Contains}
use Rattle.proto_base.proofs.Common.{contains_head, contains_later}
use Rattle.proto_base.specs.declared.fault.FaultKind.TheVariants as kind
use Rattle.proto_tree.specs.declared.tree.Reference.{Reference}
use Rattle.proto_tree.proofs.Common.{first_of}
use Rattle.proto_files.proofs.Common.{FileOf, ReadOf}
use Rattle.proto_custom_options.specs.CustomOptions.{CustomOf, customs_in}
use Rattle.proto_desc_checks_laws.proofs.DeletedFlaws.{nil_joined}
use Rattle.proto_desc_numbers.specs.declared.flaw.Flaw.{Flaw}
use Rattle.proto_desc_numbers.proofs.Common.{flaw_if}
use Rattle.proto_desc_extensions.specs.Extensions.{custom_flaws, extended_by, is_an_option, is_the_message, name_meant, option_extends}
use Rattle.proto_edit_rules.specs.Statements.{tree_at}
use Rattle.proto_edit_statement_described.proofs.SameExtensions.{elsewhere}
use Rattle.proto_edit_statement_described.proofs.SmallNumbers.{none_at}

none_in_all : {A : Type 0} (f : A → List Flaw) (xs : List A) → ((x : A) → Contains xs x → f x ≡ []) → flat_map f xs ≡ []
none_in_all f [] h = refl
none_in_all f (x ∷ xs) h = nil_joined (f x) (flat_map f xs) (h x (contains_head x xs)) (none_in_all f xs (λ y c. h y (contains_later x y xs c)))

-- the flaw of a custom option
abbrev option_flaw : List FileOf → List ReadOf → ℕ → CustomOf → List Flaw
option_flaw files reads k c = flaw_if (not (is_an_option files reads k c)) kind.NotAnOption (first_of c.custom.name.dot c.custom.name.words)

-- the options of an element stay with it, and what their names mean extends the same
pub record ExtendsTheSame (files : List FileOf) (reads : List ReadOf) (after : List FileOf) (seen : List ReadOf) (k : ℕ) (c d : CustomOf) : Type 0 where
  pub message : d.message ≡ c.message
  pub extends : option_extends after seen k d.custom.name ≡ option_extends files reads k c.custom.name

module _ (files : List FileOf) (reads : List ReadOf) (after : List FileOf) (seen : List ReadOf) (k : ℕ) where
  pub extends_back : (c d : CustomOf) → ExtendsTheSame files reads after seen k c d → ExtendsTheSame after seen files reads k d c
  extends_back c d s = record { message = sym s.message; extends = sym s.extends }

  -- a name that means the same, of which the same is extended
  pub same_extends : (q r : Reference) → name_meant after seen k q ≡ name_meant files reads k r → ((m : List (List ℕ)) → name_meant files reads k r ≡ Some m → extended_by after seen m ≡ extended_by files reads m)
      → option_extends after seen k q ≡ option_extends files reads k r
  same_extends q r means same = ap (option_and_then (extended_by after seen)) means ∙ by (name_meant files reads k r) same
    where
      by : (o : Option (List (List ℕ))) → ((m : List (List ℕ)) → o ≡ Some m → extended_by after seen m ≡ extended_by files reads m) → option_and_then (extended_by after seen) o ≡ option_and_then (extended_by files reads) o
      by None e = refl
      by (Some m) e = e m refl

  -- each option of the file is one that was there
  abbrev pub AreOld : Type 0
  AreOld = (d : CustomOf) → Contains (customs_in (tree_at seen k)) d → (c : CustomOf) × Contains (customs_in (tree_at reads k)) c × ExtendsTheSame files reads after seen k c d

  pub options_stay_right : AreOld → custom_flaws files reads k ≡ [] → custom_flaws after seen k ≡ []
  options_stay_right old none = none_in_all (option_flaw after seen k) (customs_in (tree_at seen k)) (λ d within.
      let o = old d within in
      let c : CustomOf = o.0 in
      elsewhere kind.NotAnOption (not (is_an_option files reads k c)) (not (is_an_option after seen k d)) (first_of c.custom.name.dot c.custom.name.words) (first_of d.custom.name.dot d.custom.name.words)
      (ap not (ap₂ is_the_message o.2.message o.2.extends)) (none_at (option_flaw files reads k) (customs_in (tree_at reads k)) c o.1 none))
