-- Where the extensions of files stay, no flaw comes in that the workspace decides.
use Rattle.std.proofs.Common.{◌≡◌, ℕ, zero, suc, Bool, not, ◌&&◌, List, [], ◌∷◌, ◌++◌, length, map, None, refl, sym, ap, ap₂, ◌∙◌, arith, int_eq, Contains}
use Rattle.proto_base.proofs.Common.{contains_head, contains_later, length-map, list_any, map-append}
use Rattle.proto_base.specs.declared.fault.FaultKind.{FaultKind}
use Rattle.proto_base.specs.declared.fault.FaultKind.TheVariants as kind
use Rattle.proto_base.specs.declared.profile.Profile.{Profile}
use Rattle.proto_base.specs.declared.profile.Profile.TheVariants as language
use Rattle.proto_files.proofs.Common.{FileOf, ReadOf, file_at}
use Rattle.proto_names_rules.specs.Names.{same_name}
use Rattle.proto_desc_numbers.proofs.Common.{earlier, flaw_if, is_inside, marked}
use Rattle.proto_desc_checks_laws.proofs.Common.{any_kept}
use Rattle.proto_desc_checks_laws.proofs.DeletedFlaws.{nil_joined, nil_parts}
use Rattle.proto_desc_extensions.specs.Extensions.{ExtensionOf, are_same, custom_flaws, extensions_before, extensions_in, is_extendable, not_extendable, number_flaws, ranges_named, repeated_extensions, taken_before, workspace_flaws}
use Rattle.proto_edit_statement_described.specs.Extensions.{ExtensionsStay, Saying, saying_of}
use Rattle.proto_edit_statement_described.proofs.DeletedFlaws.{no_flaw}

-- ---- flaws at other tokens

pub elsewhere : (k : FaultKind) (b c : Bool) (t u : ℕ) → c ≡ b → flaw_if b k t ≡ [] → flaw_if c k u ≡ []
elsewhere k b c t u e n = ap (λ (z : Bool). flaw_if z k u) (e ∙ no_flaw b k t n)

marked_elsewhere : (k : FaultKind) (ts us : List ℕ) (flags : List Bool) → length us ≡ length ts → marked k ts flags ≡ [] → marked k us flags ≡ []
marked_elsewhere k ts [] flags l n = refl
marked_elsewhere k [] (u ∷ us) flags l n = absurd (omega (arith, l))
marked_elsewhere k (t ∷ ts) (u ∷ us) [] l n = refl
marked_elsewhere k (t ∷ ts) (u ∷ us) (b ∷ bs) l n =
    let p = nil_parts (flaw_if b k t) (marked k ts bs) n in
    nil_joined (flaw_if b k u) (marked k us bs) (elsewhere k b b t u refl p.0) (marked_elsewhere k ts us bs (omega (arith, l)) p.1)

-- ---- whether an earlier one says the same

abbrev alike : Saying → Saying → Bool
alike a b = same_name a.extendee b.extendee && int_eq a.number b.number

earlier_says : (before es : List ExtensionOf) → earlier are_same before es ≡ earlier alike (map saying_of before) (map saying_of es)
earlier_says before [] = refl
earlier_says before (e ∷ es) =
    ap₂ (λ (b : Bool) (bs : List Bool). b ∷ bs)
    (sym (any_kept saying_of (λ (p : ExtensionOf). are_same p e) (λ (p : Saying). alike p (saying_of e)) (λ p. refl) before))
    (earlier_says (before ++ e ∷ []) es ∙ ap (λ (z : List Saying). earlier alike z (map saying_of es)) (map-append saying_of before (e ∷ [])))

-- ---- files

module _ (files : List FileOf) (reads : List ReadOf) (after : List FileOf) (seen : List ReadOf) (stay : ExtensionsStay files reads after seen) where
  abbrev holds : Saying → Bool
  holds s = list_any (is_inside s.number) (ranges_named None after seen s.extendee)

  no_outside : (xs ys : List ExtensionOf) → map saying_of ys ≡ map saying_of xs → ((e : ExtensionOf) → Contains xs e → is_extendable None after seen e ≡ is_extendable None files reads e)
      → not_extendable None files reads xs ≡ [] → not_extendable None after seen ys ≡ []
  no_outside xs [] e same n = refl
  no_outside [] (y ∷ ys) e same n = absurd cc
  no_outside (x ∷ xs) (y ∷ ys) e same n =
      let here : saying_of y ≡ saying_of x = cc in
      let rest : map saying_of ys ≡ map saying_of xs = cc in
      let b : Bool = not (is_extendable None files reads x) in
      let c : Bool = not (is_extendable None after seen y) in
      let p = nil_parts (flaw_if b kind.NotExtendable x.number.token) (not_extendable None files reads xs) n in
      nil_joined (flaw_if c kind.NotExtendable y.number.token) (not_extendable None after seen ys)
      (elsewhere kind.NotExtendable b c x.number.token y.number.token (ap not (ap holds here ∙ same x (contains_head x xs))) p.0)
      (no_outside xs ys rest (λ z d. same z (contains_later x z xs d)) p.1)

  said_before : (k : ℕ) → map saying_of (extensions_before None after seen k) ≡ map saying_of (extensions_before None files reads k)
  said_before zero = refl
  said_before (suc k) =
      map-append saying_of (extensions_before None after seen k) (extensions_in None after seen k)
      ∙ ap₂ (λ (y z : List Saying). y ++ z) (said_before k) (stay.said k)
      ∙ sym (map-append saying_of (extensions_before None files reads k) (extensions_in None files reads k))

  said_taken : (k : ℕ) → map saying_of (taken_before (file_at after k).profile (extensions_before None after seen k)) ≡ map saying_of (taken_before (file_at files k).profile (extensions_before None files reads k))
  said_taken k =
      ap (λ (p : Profile). map saying_of (taken_before p (extensions_before None after seen k))) (stay.profiles k)
      ∙ by (file_at files k).profile
    where
      by : (p : Profile) → map saying_of (taken_before p (extensions_before None after seen k)) ≡ map saying_of (taken_before p (extensions_before None files reads k))
      by language.Core = said_before k
      by language.AsWritten = refl

  no_flaw_of_numbers : (k : ℕ) → number_flaws None files reads k ≡ [] → number_flaws None after seen k ≡ []
  no_flaw_of_numbers k n =
      let old : List ExtensionOf = extensions_in None files reads k in
      let new : List ExtensionOf = extensions_in None after seen k in
      let was : List ExtensionOf = taken_before (file_at files k).profile (extensions_before None files reads k) in
      let before : List ExtensionOf = taken_before (file_at after k).profile (extensions_before None after seen k) in
      let tokens : List ExtensionOf → List ℕ = map (λ (e : ExtensionOf). e.number.token) in
      let p = nil_parts (not_extendable None files reads old) (repeated_extensions was old) n in
      let flags : earlier are_same before new ≡ earlier are_same was old =
      earlier_says before new ∙ ap₂ (earlier alike) (said_taken k) (stay.said k) ∙ sym (earlier_says was old) in
      let many : length (tokens new) ≡ length (tokens old) =
      length-map new (λ (e : ExtensionOf). e.number.token) ∙ sym (length-map new saying_of) ∙ ap length (stay.said k) ∙ length-map old saying_of ∙ sym (length-map old (λ (e : ExtensionOf). e.number.token)) in
      nil_joined (not_extendable None after seen new) (repeated_extensions before new)
      (no_outside old new (stay.said k) (stay.extendable k) p.0)
      (ap (marked kind.DuplicateExtension (tokens new)) flags ∙ marked_elsewhere kind.DuplicateExtension (tokens old) (tokens new) (earlier are_same was old) many p.1)

  pub no_flaw_of_extensions : (k : ℕ) → workspace_flaws None files reads k ≡ [] → workspace_flaws None after seen k ≡ []
  no_flaw_of_extensions k n =
      let p = nil_parts (number_flaws None files reads k) (custom_flaws files reads k) n in
      nil_joined (number_flaws None after seen k) (custom_flaws after seen k) (no_flaw_of_numbers k p.0) (stay.options k p.1)
