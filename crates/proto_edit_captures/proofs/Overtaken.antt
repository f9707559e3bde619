-- What is seen by texts is seen by names, and so a reference that is overtaken by texts is overtaken by names.
use Rattle.std.proofs.Common.{◌≡◌, ◌↔◌, ℕ, zero, suc, ◌-◌, ◌<◌, ◌≤◌, Bool, true, false, ◌&&◌, List, [], ◌∷◌, ◌++◌, length, get_or, take, Option, Some, None, option_map, refl, sym, ap, subst, ◌∙◌, inl, inr, arith, AllPairs, Contains}
use Rattle.proto_base.proofs.Common.{and_from, and_parts, both_ways, cases_Bool, cond-false, cond-true, get_or_default, none-some, any_from}
use Rattle.proto_names_rules.specs.declared.kind.Kind.{Kind}
use Rattle.proto_names_rules.specs.declared.kind.Kind.TheVariants.{Package}
use Rattle.proto_names_rules.proofs.Common.{IsOvertaken, ArePlain, IsPlain, below, joined, AreApart, is_package, MarksSeen, Reference, Symbol, Workspace, fits_at_first, front_at, hit, hits_at, may_resolve_to, meaning, meaning_at, same_name, sees, shows, visible_as, same_from_name, joined_apart, hit_relative, package_from, one_symbol, shown}
use Rattle.proto_names_imports.proofs.PlainNames.{plain_join}
use Rattle.proto_names.proofs.Common.{HoldsNames, LinkOf, NameOf, name_at, name_with, name_text}
use Rattle.proto_edit_rename_laws.proofs.PlacesSuit.{meaning_parts}
use Rattle.proto_edit_captures.specs.Common.{Fit, bytes_before, fit_of, shown_from, fits_seen, is_marked, sees_name, overtakes_words, sees_text, first_fits}
use Rattle.proto_edit_captures.proofs.ByTexts.{below_is, named_at}
use Rattle.proto_edit_captures.proofs.CapturedWords.{fits_first, plain_take, taken}
use Rattle.proto_edit_captures.proofs.FrontLengths.{before_first, deeper, not_deeper, scan_from, scan_to}
use Rattle.proto_edit_captures.proofs.KindNamed.{found_at, found_some}
use Rattle.proto_edit_captures.proofs.NewlyShown.{same_truth}

-- a marked file is seen
marked_is : (marks : List Bool) (g : ℕ) → is_marked marks g ≡ get_or marks g false
marked_is [] g = refl
marked_is (m ∷ marks) zero = refl
marked_is (m ∷ marks) (suc g) = marked_is marks g

-- a package of a marked file, with this text
abbrev pub IsPackageIn : Workspace → List Bool → List ℕ → Type 0
IsPackageIn w marks text = (s : Symbol) × Contains w.symbols s × (s.kind ≡ Package) × (joined s.name ≡ text) × (is_marked marks s.file ≡ true)

module _ (w v : Workspace) (l : LinkOf) (file : ℕ) (marks : List Bool) (packages : List ℕ → Bool) (names : HoldsNames w l) (unique : AllPairs AreApart w.symbols)
    (same : v.symbols ≡ w.symbols) (seen : MarksSeen v file marks) (tells : (text : List ℕ) → (packages text ≡ true) ↔ IsPackageIn w marks text) where
  one_text : (i j : ℕ) (t : List ℕ) → name_text l i ≡ Some t → name_text l j ≡ Some t → i ≡ j
  one_text i j t h k =
      let m = named_at l i t h in
      let n = named_at l j t k in
      names.once i j m.0 n.0 m.1 n.1 (m.2 ∙ sym n.2)

  name_found : (row : ℕ) (n : NameOf) (text : List ℕ) → name_at l row ≡ Some n → n.text ≡ text → name_with l text ≡ Some n
  name_found row n text h e =
      let there : name_text l row ≡ Some text = ap (option_map (λ n. n.text)) h ∙ ap Some e in
      found_at l.names text row there (λ i k. one_text i row text k there) ∙ h

  seen_if : (g : ℕ) → is_marked marks g ≡ sees v file g
  seen_if g = marked_is marks g ∙ seen g

  module _ (fit : Fit) (x : List (List ℕ)) (plain : ArePlain x) where
    abbrev good : Kind → Bool
    good k = first_fits fit k

    abbrev found : Option NameOf
    found = name_with l (joined x)

    shows_it : (s : Symbol) → Contains w.symbols s → joined s.name ≡ joined x → good s.kind ≡ true → is_marked marks s.file ≡ true → shows v file good x ≡ true
    shows_it s c text fine marked =
        let name : s.name ≡ x = joined_apart s.name x (names.plain s c) plain text in
        any_from (λ s. same_name s.name x && (good s.kind && sees v file s.file)) v.symbols s (subst (λ (z : List Symbol). Contains z s) (sym same) c)
        (and_from (same_name s.name x) (good s.kind && sees v file s.file) (same_from_name s.name x name)
        (and_from (good s.kind) (sees v file s.file) fine (sym (seen_if s.file) ∙ marked)))

    forth_name : (row : ℕ) (n : NameOf) → name_at l row ≡ Some n → n.text ≡ joined x → good n.kind ≡ true → sees_name marks packages n ≡ true → shows v file good x ≡ true
    forth_name row n h text fine is = elim (cases_Bool (is_package n.kind)) [
      | inl p ↦
          let t = (tells n.text).0 (sym (cond-true (is_package n.kind) (packages n.text) (is_marked marks (get_or n.files 0 0)) p) ∙ is) in
          shows_it t.0 t.1 (t.3 ∙ text) (ap good (t.2 ∙ sym (package_from n.kind p)) ∙ fine) t.4
      | inr p ↦
          let marked : is_marked marks (get_or n.files 0 0) ≡ true = sym (cond-false (is_package n.kind) (packages n.text) (is_marked marks (get_or n.files 0 0)) p) ∙ is in
          let s = names.only row (get_or n.files 0 0) n h (0, names.declared row n h, get_or_default n.files 0 (get_or n.files 0 0) 0 (names.declared row n h)) in
          shows_it s.0 s.1 (s.2 ∙ text) (ap good s.3 ∙ fine) (ap (is_marked marks) s.4 ∙ marked)
    ]

    forth_found : (o : Option NameOf) → found ≡ o → fits_seen marks packages fit o ≡ true → shows v file good x ≡ true
    forth_found None e h = absurd (both_ways false refl h)
    forth_found (Some n) e h =
        let r = found_some l.names (joined x) n e in
        let t = and_parts (good n.kind) (sees_name marks packages n) h in
        forth_name r.0 n r.1 r.2 t.0 t.1

    back_name : (s : Symbol) → Contains w.symbols s → sees v file s.file ≡ true → (row : ℕ) (n : NameOf) → name_at l row ≡ Some n → n.text ≡ joined s.name → n.kind ≡ s.kind → sees_name marks packages n ≡ true
    back_name s c see row n h text kind = elim (cases_Bool (is_package n.kind)) [
      | inl p ↦
          cond-true (is_package n.kind) (packages n.text) (is_marked marks (get_or n.files 0 0)) p
          ∙ (tells n.text).1 (s, c, sym kind ∙ package_from n.kind p, sym text, seen_if s.file ∙ see)
      | inr p ↦
          let t = names.only row (get_or n.files 0 0) n h (0, names.declared row n h, get_or_default n.files 0 (get_or n.files 0 0) 0 (names.declared row n h)) in
          let name : t.0.name ≡ s.name = joined_apart t.0.name s.name (names.plain t.0 t.1) (names.plain s c) (t.2 ∙ text) in
          let own : is_marked marks (get_or n.files 0 0) ≡ true = elim (one_symbol w.symbols unique t.0 s t.1 c name) [
            | inl one ↦ ap (is_marked marks) (sym t.4 ∙ ap (λ (z : Symbol). z.file) one) ∙ seen_if s.file ∙ see
            | inr two ↦ absurd (both_ways (is_package n.kind) p (ap is_package (kind ∙ two.1)))
          ] in
          cond-false (is_package n.kind) (packages n.text) (is_marked marks (get_or n.files 0 0)) p ∙ own
    ]

    pub seen_is : sees_text l marks packages fit (joined x) ≡ shows v file (first_fits fit) x
    seen_is = same_truth (sees_text l marks packages fit (joined x)) (shows v file (first_fits fit) x) (forth_found found refl) back
      where
        back : shows v file (first_fits fit) x ≡ true → sees_text l marks packages fit (joined x) ≡ true
        back h =
            let s = shown v file (first_fits fit) x h in
            let c : Contains w.symbols s.0 = subst (λ (z : List Symbol). Contains z s.0) same s.1 in
            let n = names.there s.0 c in
            let text : n.1.text ≡ joined x = n.3 ∙ ap joined s.2 in
            ap (fits_seen marks packages fit) (name_found n.0 n.1 (joined x) n.2 text)
            ∙ and_from (good n.1.kind) (sees_name marks packages n.1) (ap good n.4 ∙ s.3) (back_name s.0 c s.4 n.0 n.1 n.2 n.3 n.4)

  module _ (r : Reference) (own : r.file ≡ file) (scope_plain : ArePlain r.scope) (p : List ℕ) (rest : List (List ℕ)) (words : r.words ≡ p ∷ rest) (word_plain : IsPlain p)
      (m : List (List ℕ)) (means : meaning w r ≡ Some m) where
    abbrev test : List ℕ → Bool
    test front = sees_text l marks packages (fit_of r.wants rest) (below front p)

    has_hit : r.is_absolute ≡ false → (k : ℕ) × (hit w r ≡ Some k)
    has_hit relative = by (hit w r) refl means
      where
        by : (o : Option ℕ) → hit w r ≡ o → meaning_at w r o ≡ Some m → (k : ℕ) × (hit w r ≡ Some k)
        by None h x = absurd (none-some m (sym (cond-false r.is_absolute (visible_as w r.file (may_resolve_to r.wants) r.words) None relative) ∙ x))
        by (Some k) h x = (k, h)

    fitting : (x : List (List ℕ)) → shows v file (first_fits (fit_of r.wants rest)) x ≡ shows v file (fits_at_first r.wants r.words) x
    fitting x = ap (λ (good : Kind → Bool). shows v file good x) (fits_first r.wants p rest) ∙ ap (λ z. shows v file (fits_at_first r.wants z) x) (sym words)

    -- what is seen in a front, by texts and by names
    seen_in : (j : ℕ) → 0 < j → j ≤ length r.scope → test (joined (take j r.scope)) ≡ hits_at v r j
    seen_in j some inside =
        ap (sees_text l marks packages (fit_of r.wants rest)) (below_is (take j r.scope) p (taken r.scope j some inside))
        ∙ seen_is (fit_of r.wants rest) (take j r.scope ++ p ∷ []) (plain_join (take j r.scope) p (plain_take r.scope j scope_plain) word_plain)
        ∙ fitting (take j r.scope ++ p ∷ [])
        ∙ ap (λ z. shows v file (fits_at_first r.wants r.words) (take j r.scope ++ take 1 z)) (sym words)
        ∙ ap (λ z. shows v z (fits_at_first r.wants r.words) (take j r.scope ++ take 1 r.words)) (sym own)

    module _ (k : ℕ) (at : hit w r ≡ Some k) where
      within : k ≤ length r.scope
      within = (hit_relative w r k at).1.within

      abbrev len : ℕ
      len = length (joined (take k r.scope ++ p ∷ []))

      len_is : bytes_before (length (joined m)) rest ≡ len
      len_is =
          ap (λ z. bytes_before (length (joined z)) rest) (meaning_parts w r m means ∙ ap (λ o. front_at r o ++ r.words) at ∙ ap (λ z. take k r.scope ++ z) words)
          ∙ before_first (take k r.scope) p rest

      answer_is : overtakes_words l marks packages r.wants r.scope p rest (joined m) ≡ shown_from test (len - length p) [] r.scope
      answer_is = ap (λ z. shown_from test (z - length p) [] r.scope) len_is

      forth_at : overtakes_words l marks packages r.wants r.scope p rest (joined m) ≡ true → IsOvertaken w v r
      forth_at h =
          let s = scan_to test (len - length p) [] r.scope scope_plain (sym answer_is ∙ h) in
          let some = s.1 in
          let inside = s.2 in
          (k, s.0, at, not_deeper r.scope p k s.0 some within inside s.3, inside, sym (seen_in s.0 some inside) ∙ s.4)

      back_at : (c : IsOvertaken w v r) → c.0 ≡ k → overtakes_words l marks packages r.wants r.scope p rest (joined m) ≡ true
      back_at c same =
          let j = c.1 in
          let b = c.3 in
          let below : k < j = omega (arith, b, same) in
          let some : 0 < j = omega (arith, below) in
          answer_is ∙ scan_from test (len - length p) [] r.scope scope_plain j some c.4 (deeper r.scope p k j below c.4) (seen_in j some c.4 ∙ c.5)

    pub forth : r.is_absolute ≡ false → overtakes_words l marks packages r.wants r.scope p rest (joined m) ≡ true → IsOvertaken w v r
    forth relative h = let x = has_hit relative in forth_at x.0 x.1 h

    pub back : IsOvertaken w v r → (r.is_absolute ≡ false) × (overtakes_words l marks packages r.wants r.scope p rest (joined m) ≡ true)
    back c = ((hit_relative w r c.0 c.2).0, back_at c.0 c.2 c refl)
