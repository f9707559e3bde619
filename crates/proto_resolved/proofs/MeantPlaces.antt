-- Where the name stands that a reference means (for the crates above).
use Rattle.std.proofs.Common.{◌≡◌, ◌≢◌, ℕ, suc, ◌<◌, Bool, true, false, cond, List, [], ◌∷◌, length, get_or, map, Option, Some, None, option_map, refl, sym, ap, subst, ◌∙◌, inl, inr, arith, All, Contains, find, ◌==◌}
use Rattle.proto_base.proofs.Common.{false_from_ne_true, none-some, same_Some, contains_cases, contains_head, contains_later, contains_map, from_map}
use Rattle.proto_files.proofs.Common.{FileOf, ReadOf}
use Rattle.proto_case.specs.Camel.{entry_name}
use Rattle.proto_names_rules.proofs.Common.{place_of, ArePlain, At, at, joined, is_package, package_from, Symbol, may_resolve_to, same_name, Declared, Used, name_of, symbol_of, name_from_same, same_from_name, meant, wanted_no_package}
use Rattle.proto_names.specs.Links.{uses_of, link_skeleton, names_of_files, text_of, used_named}
use Rattle.proto_names.proofs.Common.{IsLinkRead, TextMeant, meant_by_link, meant_by_use, LinkOf, NameOf, name_at, name_declared_as as stands_at}
use Rattle.proto_names_rules.specs.declared.kind.Kind.TheVariants.{Package}
use Rattle.proto_names.specs.Linking.{Meant}
use Rattle.proto_resolved.specs.SceneOf.{declared_as, meaning_of}

-- ---- finding one that is there

pub record Found {A : Type 0} (p : A → Bool) (xs : List A) : Type 0 where
  pub it : A
  pub is : find p xs ≡ Some it
  pub there : Contains xs it
  pub passes : p it ≡ true

found : {A : Type 0} (p : A → Bool) (xs : List A) (x : A) → Contains xs x → p x ≡ true → Found p xs
found p [] x c e = absurd (omega (arith, c.1))
found {A} p (y ∷ xs) x c e = go (λ d. found p xs x d e) (p y) refl
  where
    go : (Contains xs x → Found p xs) → (b : Bool) → p y ≡ b → Found p (y ∷ xs)
    go on true f = record { it = y; is = ap (λ (b : Bool). cond b (Some y) (find p xs)) f; there = contains_head y xs; passes = f }
    go on false f = elim (contains_cases y x xs c) [
      | inl same ↦ (let t : p y ≡ true = ap p same ∙ e in absurd (cc))
      | inr later ↦ (let r = on later in record { it = r.it; is = ap (λ (b : Bool). cond b (Some y) (find p xs)) f ∙ r.is; there = contains_later y r.it xs r.there; passes = r.passes })
    ]

module _ (files : List FileOf) (reads : List ReadOf) (l : LinkOf) (link : IsLinkRead files reads l) where
  -- the name of a symbol has its kind
  same_kind : (row : ℕ) (n : NameOf) → name_at l row ≡ Some n → (s : Symbol) → Contains (names_of_files files reads).symbols s → n.text ≡ joined s.name → n.kind ≡ s.kind
  same_kind row n h s c e =
      let x = link.by.names.there s c in
      let here : row ≡ x.0 = link.by.names.once row x.0 n x.1 h x.2 (e ∙ sym x.3) in
      let same : n ≡ x.1 = same_Some n x.1 (sym h ∙ ap (name_at l) here ∙ x.2) in
      ap (λ (y : NameOf). y.kind) same ∙ x.4

  -- the first declaration of a name stands where the link has it, and the name is no package's
  pub record Placed (name : List (List ℕ)) (n : NameOf) : Type 0 where
    pub declared : Declared At
    pub is : declared_as files reads name ≡ Some declared
    pub place : at (get_or n.files 0 0) n.token ≡ place_of declared
    pub other : is_package n.kind ≡ false
    pub plain : ArePlain name

  pub place_meant : (file : ℕ) (u : Used ℕ) (name : List (List ℕ)) → meaning_of files reads file u ≡ Some name → (row : ℕ) (n : NameOf) → name_at l row ≡ Some n → n.text ≡ joined name → Placed name n
  place_meant file u name means row n h text =
      let declared = (link_skeleton files reads).declared in
      let spelled : Declared At → List (List ℕ) = λ d. name_of (text_of files reads) entry_name d.path in
      let t = meant (names_of_files files reads) (used_named (text_of files reads) file u) name means in
      let kind : n.kind ≡ t.0.kind = same_kind row n h t.0 t.1 (text ∙ ap joined (sym t.2)) in
      let wanted : may_resolve_to u.wants n.kind ≡ true = ap (may_resolve_to u.wants) kind ∙ t.3 in
      let d0 = from_map (symbol_of (text_of files reads) entry_name) declared t.0 t.1 in
      let named : spelled d0.0 ≡ name = ap (λ (s : Symbol). s.name) d0.2 ∙ t.2 in
      let f = found (λ d. same_name (spelled d) name) declared d0.0 d0.1 (same_from_name (spelled d0.0) name named) in
      let d = f.it in
      let same : spelled d ≡ name = name_from_same (spelled d) name f.passes in
      let kind_there : n.kind ≡ d.kind = same_kind row n h (symbol_of (text_of files reads) entry_name d) (contains_map (symbol_of (text_of files reads) entry_name) declared d f.there) (text ∙ ap joined (sym same)) in
      let other : d.kind ≢ Package = wanted_no_package u.wants d.kind (ap (may_resolve_to u.wants) (sym kind_there) ∙ wanted) in
      record {
        declared = d;
        is = f.is;
        place = (stands_at (text_of files reads) (link_skeleton files reads) l link.by d f.there other row n h (text ∙ ap joined (sym same))).1;
        other = false_from_ne_true (is_package n.kind) (λ q. wanted_no_package u.wants n.kind wanted (package_from n.kind q));
        plain = subst ArePlain t.2 (link.by.names.plain t.0 t.1);
      }

  -- ---- what the link has for a reference

  -- what a reference of a file means by the rules of names, and the row that the link has for it
  pub record MeansRow (file : ℕ) (u : Used ℕ) (m : Meant) : Type 0 where
    pub name : List (List ℕ)
    pub means : meaning_of files reads file u ≡ Some name
    pub has : NameOf
    pub there : name_at l m.row ≡ Some has
    pub text : has.text ≡ joined name

  pub row_means : (file : ℕ) (m : Meant) (u : Used ℕ) → meant_by_link l m ≡ meant_by_use files reads file u → (n : NameOf) × (name_at l m.row ≡ Some n) → MeansRow file u m
  row_means file m u e within =
      let n = within.0 in
      let there : name_at l m.row ≡ Some n = within.1 in
      let text : Some n.text ≡ option_map joined (meaning_of files reads file u) = sym (ap (option_map (λ (y : NameOf). y.text)) there) ∙ ap (λ (z : TextMeant). z.text) e in
      go n there text (meaning_of files reads file u) refl
    where
      go : (n : NameOf) → name_at l m.row ≡ Some n → Some n.text ≡ option_map joined (meaning_of files reads file u) → (o : Option (List (List ℕ))) → meaning_of files reads file u ≡ o → MeansRow file u m
      go n there text None none = absurd (none-some n.text (sym (text ∙ ap (option_map joined) none)))
      go n there text (Some name) means = record { name = name; means = means; has = n; there = there; text = same_Some n.text (joined name) (text ∙ ap (option_map joined) means) }

  -- ---- the reference that begins at a token

  -- what the link has for the reference that begins at a token, and what this means by the rules of names
  pub record Named (file token : ℕ) (m : Meant) : Type 0 where
    pub reference : Used ℕ
    pub is : find (λ u. u.first == token) (uses_of reads file) ≡ Some reference
    pub name : List (List ℕ)
    pub means : meaning_of files reads file reference ≡ Some name
    pub has : NameOf
    pub there : name_at l m.row ≡ Some has
    pub text : has.text ≡ joined name

  module _ (file token : ℕ) where
    abbrev of_link : Meant → Bool
    of_link m = m.token == token

    abbrev of_file : Used ℕ → Bool
    of_file u = u.first == token

    same_test : (m : Meant) (u : Used ℕ) → meant_by_link l m ≡ meant_by_use files reads file u → of_link m ≡ of_file u
    same_test m u e = ap (λ (z : TextMeant). z.token == token) e

    none_among : (ms : List Meant) (us : List (Used ℕ)) → map (meant_by_link l) ms ≡ map (meant_by_use files reads file) us → find of_link ms ≡ None → find of_file us ≡ None
    none_among [] [] e h = refl
    none_among [] (u ∷ us) e h = absurd (cc)
    none_among (m ∷ ms) [] e h = absurd (cc)
    none_among (m ∷ ms) (u ∷ us) e h =
        let here : meant_by_link l m ≡ meant_by_use files reads file u = cc in
        let on : map (meant_by_link l) ms ≡ map (meant_by_use files reads file) us = cc in
        go here (none_among ms us on) (of_link m) refl
      where
        go : meant_by_link l m ≡ meant_by_use files reads file u → (find of_link ms ≡ None → find of_file us ≡ None) → (b : Bool) → of_link m ≡ b → find of_file (u ∷ us) ≡ None
        go here on true f = absurd (none-some m (sym (sym (ap (λ (b : Bool). cond b (Some m) (find of_link ms)) f) ∙ h)))
        go here on false f =
            ap (λ (b : Bool). cond b (Some u) (find of_file us)) (sym (same_test m u here) ∙ f)
            ∙ on (sym (ap (λ (b : Bool). cond b (Some m) (find of_link ms)) f) ∙ h)

    named_by : (m : Meant) (u : Used ℕ) → meant_by_link l m ≡ meant_by_use files reads file u → (n : NameOf) × (name_at l m.row ≡ Some n) → find of_file (uses_of reads file) ≡ Some u → Named file token m
    named_by m u e within is =
        let n = row_means file m u e within in
        record { reference = u; is = is; name = n.name; means = n.means; has = n.has; there = n.there; text = n.text }

    one_among : (ms : List Meant) (us : List (Used ℕ)) → map (meant_by_link l) ms ≡ map (meant_by_use files reads file) us → All (λ (m : Meant). (n : NameOf) × (name_at l m.row ≡ Some n)) ms → (m : Meant) → find of_link ms ≡ Some m → find of_file us ≡ find of_file (uses_of reads file) → Named file token m
    one_among [] us e rows m h whole = absurd (none-some m h)
    one_among (x ∷ ms) [] e rows m h whole = absurd (cc)
    one_among (x ∷ ms) (u ∷ us) e rows m h whole =
        let here : meant_by_link l x ≡ meant_by_use files reads file u = cc in
        let on : map (meant_by_link l) ms ≡ map (meant_by_use files reads file) us = cc in
        go here (one_among ms us on (λ k d n. rows (suc k) d (omega (arith, n))) m) (of_link x) refl
      where
        go : meant_by_link l x ≡ meant_by_use files reads file u → (find of_link ms ≡ Some m → find of_file us ≡ find of_file (uses_of reads file) → Named file token m) → (b : Bool) → of_link x ≡ b → Named file token m
        go here on true f =
            let same : x ≡ m = same_Some x m (sym (ap (λ (b : Bool). cond b (Some x) (find of_link ms)) f) ∙ h) in
            let first : find of_file (u ∷ us) ≡ Some u = ap (λ (b : Bool). cond b (Some u) (find of_file us)) (sym (same_test x u here) ∙ f) in
            subst (Named file token) same (named_by x u here (rows 0 x (omega arith)) (sym whole ∙ first))
        go here on false f =
            on (sym (ap (λ (b : Bool). cond b (Some x) (find of_link ms)) f) ∙ h)
            (sym (ap (λ (b : Bool). cond b (Some u) (find of_file us)) (sym (same_test x u here) ∙ f)) ∙ whole)

    -- where the link has nothing for a token, no reference begins there
    pub none_named : file < length files → find of_link (get_or l.meant file []) ≡ None → find of_file (uses_of reads file) ≡ None
    none_named within h = none_among (get_or l.meant file []) (uses_of reads file) (link.means file within).texts h

    -- where it has something, that is the name that is meant
    pub one_named : file < length files → (m : Meant) → find of_link (get_or l.meant file []) ≡ Some m → Named file token m
    one_named within m h = one_among (get_or l.meant file []) (uses_of reads file) (link.means file within).texts (link.means file within).within m h refl
