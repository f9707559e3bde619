-- Names that are taken, as declarations are gone through.
use Rattle.std.proofs.Common.{◌≡◌, ◌≢◌, ◌↔◌, ◌⊎◌, ◌||◌, ℕ, ◌+◌, ◌<◌, Bool, true, not, List, [], ◌∷◌, ◌++◌, length, get_or, take, map, refl, sym, ap, subst, ◌∙◌, inl, inr, arith, Contains, bytes_eq}
use Rattle.std.specs.List.{list_any}
use Rattle.proto_base.proofs.Common.{and_from, and_parts, any_from, any_to, cases_Bool, contains_cases, contains_head, contains_later, contains_map, from_map, or_left, or_cases, or_right, same_from_word, word_from_same}
use Rattle.proto_base.specs.declared.fault.FaultKind.TheVariants.{DuplicateName}
use Rattle.proto_names_rules.specs.declared.kind.Kind.TheVariants.{Package}
use Rattle.proto_names_rules.proofs.Common.{ArePlain, At, Fault, Follows, after_follows, at, fault, follows_after, follows_first, follows_map, follows_second, is_package, joined_apart, map_follows, package_from, joined}
use Rattle.proto_names_imports.proofs.Common.{take_more}
use Rattle.proto_names_table.specs.Common.{ClashFault, Named, earlier, of_package}
use Rattle.proto_names_faults.specs.Common.{AreAdded, AreFlawsOf, AreOfOneName, Flaw, IsClash, NameAt, is_other_named, is_package_named, kind_if, name_at}
use Rattle.proto_names_faults.proofs.Added.{IsNew, added_as, flaws_as, flaws_more, new_if, one_more}
use Rattle.proto_names_faults.proofs.FullNames.{contains_taken}

-- ---- one element behind others

follows_snoc : {X : Type 0} (xs : List X) (x a b : X) → Follows (xs ++ x ∷ []) a b → Follows xs a b ⊎ (Contains xs a × (x ≡ b))
follows_snoc [] x a b (inl h) = let c = h.1 in absurd (omega (arith, c.1))
follows_snoc [] x a b (inr h) = absurd h
follows_snoc (z ∷ xs) x a b (inl h) = elim ((one_more xs x b).0 h.1) [
  | inl c ↦ inl (inl (h.0, c))
  | inr e ↦ inr (subst (Contains (z ∷ xs)) h.0 (contains_head z xs), e)
]
follows_snoc (z ∷ xs) x a b (inr h) = elim (follows_snoc xs x a b h) [
  | inl f ↦ inl (inr f)
  | inr c ↦ inr (contains_later z a xs c.0, c.1)
]

snoc_left : {X : Type 0} (xs : List X) (x a b : X) → Follows xs a b → Follows (xs ++ x ∷ []) a b
snoc_left [] x a b h = absurd h
snoc_left (z ∷ xs) x a b (inl h) = inl (h.0, (one_more xs x b).1 (inl h.1))
snoc_left (z ∷ xs) x a b (inr h) = inr (snoc_left xs x a b h)

snoc_new : {X : Type 0} (xs : List X) (x a : X) → Contains xs a → Follows (xs ++ x ∷ []) a x
snoc_new [] x a c = absurd (omega (arith, c.1))
snoc_new (z ∷ xs) x a c = elim (contains_cases z a xs c) [
  | inl e ↦ inl (e, (one_more xs x x).1 (inr refl))
  | inr d ↦ inr (snoc_new xs x a d)
]

-- ---- one declaration more

module _ (all these : List NameAt) (x : NameAt) where
  -- the name is that of a package, or of one of those before it
  abbrev pub IsTaken : Type 0
  IsTaken = ((e : NameAt) × Contains all e × (e.kind ≡ Package) × (e.text ≡ x.text)) ⊎ ((e : NameAt) × Contains these e × (e.text ≡ x.text))

  abbrev pub IsNewClash : Fault → Type 0
  IsNewClash f = (x.kind ≢ Package) × (f ≡ fault x.place 13) × IsTaken

  clash_forth : (f : Fault) → IsClash all these f ⊎ IsNewClash f → IsClash all (these ++ x ∷ []) f
  clash_forth f (inl h) = record {
    one = h.one;
    other = h.other;
    is = h.is;
    taken = elim h.taken [
      | inl a ↦ (let r = follows_after AreOfOneName these h.one a in inl (after_follows AreOfOneName (these ++ x ∷ []) r.0 h.one (snoc_left these x r.0 h.one r.1) r.2))
      | inr p ↦ inr ((one_more these x h.one).1 (inl p.0), p.1)
    ];
  }
  clash_forth f (inr n) = record {
    one = x;
    other = n.0;
    is = n.1;
    taken = elim n.2 [
      | inl e ↦ inr ((one_more these x x).1 (inr refl), e)
      | inr e ↦ inl (after_follows AreOfOneName (these ++ x ∷ []) e.0 x (snoc_new these x e.0 e.1) e.2)
    ];
  }

  new_clash : (f : Fault) (one : NameAt) → x ≡ one → one.kind ≢ Package → f ≡ fault one.place 13 → IsTaken → IsNewClash f
  new_clash f one e other is taken = (λ k. other (ap (λ (z : NameAt). z.kind) (sym e) ∙ k), is ∙ ap (λ (z : NameAt). fault z.place 13) (sym e), taken)

  clash_back : (f : Fault) → IsClash all (these ++ x ∷ []) f → IsClash all these f ⊎ IsNewClash f
  clash_back f h = elim h.taken [
    | inl a ↦
        let r = follows_after AreOfOneName (these ++ x ∷ []) h.one a in
        elim (follows_snoc these x r.0 h.one r.1) [
          | inl g ↦ inl (record { one = h.one; other = h.other; is = h.is; taken = inl (after_follows AreOfOneName these r.0 h.one g r.2) })
          | inr g ↦ inr (new_clash f h.one g.1 h.other h.is (inr (r.0, g.0, r.2 ∙ ap (λ (z : NameAt). z.text) (sym g.1))))
        ]
    | inr p ↦ elim ((one_more these x h.one).0 p.0) [
      | inl c ↦ inl (record { one = h.one; other = h.other; is = h.is; taken = inr (c, p.1) })
      | inr e ↦ inr (new_clash f h.one e h.other h.is (inl (p.1.0, p.1.1, p.1.2, p.1.3 ∙ ap (λ (z : NameAt). z.text) (sym e))))
    ]
  ]

  clash_more : (f : Fault) → (IsClash all these f ⊎ IsNewClash f) ↔ IsClash all (these ++ x ∷ []) f
  clash_more f = (clash_forth f, clash_back f)

  -- what the set of names says
  abbrev pub says_taken : Bool
  says_taken = list_any (is_package_named x.text) all || list_any (is_other_named x.text) these

  taken_from : says_taken ≡ true → IsTaken
  taken_from h = elim (or_cases (list_any (is_package_named x.text) all) (list_any (is_other_named x.text) these) h) [
    | inl p ↦
        let e = any_to (is_package_named x.text) all p in
        let t = and_parts (is_package e.0.kind) (bytes_eq e.0.text x.text) e.2 in
        inl (e.0, e.1, package_from e.0.kind t.0, word_from_same e.0.text x.text t.1)
    | inr o ↦
        let e = any_to (is_other_named x.text) these o in
        let t = and_parts (not (is_package e.0.kind)) (bytes_eq e.0.text x.text) e.2 in
        inr (e.0, e.1, word_from_same e.0.text x.text t.1)
  ]

  of_packages : (e : NameAt) → Contains all e → e.kind ≡ Package → e.text ≡ x.text → says_taken ≡ true
  of_packages e c k t =
      or_left (list_any (is_package_named x.text) all) (list_any (is_other_named x.text) these)
      (any_from (is_package_named x.text) all e c (and_from (is_package e.kind) (bytes_eq e.text x.text) (ap is_package k) (same_from_word e.text x.text t)))

  to_taken : ((e : NameAt) → Contains these e → Contains all e) → IsTaken → says_taken ≡ true
  to_taken within (inl h) = of_packages h.0 h.1 h.2 h.3
  to_taken within (inr h) = elim (cases_Bool (is_package h.0.kind)) [
    | inl p ↦ of_packages h.0 (within h.0 h.1) (package_from h.0.kind p) h.2
    | inr p ↦
        or_right (list_any (is_package_named x.text) all) (list_any (is_other_named x.text) these)
        (any_from (is_other_named x.text) these h.0 h.1 (and_from (not (is_package h.0.kind)) (bytes_eq h.0.text x.text) (ap not p) (same_from_word h.0.text x.text h.2)))
  ]

-- the flaw that is added is that of the new clash
new_flaw : (all these : List NameAt) (x : NameAt) (file token : ℕ) (b : Bool) → at file token ≡ x.place → x.kind ≢ Package → b ≡ says_taken all these x → ((e : NameAt) → Contains these e → Contains all e)
    → (f : Fault) → IsNew file token (kind_if b DuplicateName) f ↔ IsNewClash all these x f
new_flaw all these x file token b place other is within f =
    let new = new_if file token b DuplicateName f in (
      λ n. (let h = new.0 n in (other, h.1 ∙ ap (λ (z : At). fault z 13) place, taken_from all these x (sym is ∙ h.0))),
      λ h. new.1 (is ∙ to_taken all these x within h.2, h.1 ∙ ap (λ (z : At). fault z 13) (sym place)),
    )

-- ---- the turns of the loop

module _ (all : List NameAt) (i : ℕ) (x : NameAt) (within : i < length all) (here : x ≡ get_or all i x) where
  taken_is : take (i + 1) all ≡ take i all ++ x ∷ []
  taken_is = take_more all i x within ∙ ap (λ z. take i all ++ z ∷ []) (sym here)

  -- a package has no flaw
  pub package_turn : x.kind ≡ Package → (found : List Flaw) → AreFlawsOf (IsClash all (take i all)) found → AreFlawsOf (IsClash all (take (i + 1) all)) found
  package_turn k found h =
      subst (λ (ys : List NameAt). AreFlawsOf (IsClash all ys) found) (sym taken_is)
      (flaws_as (IsClash all (take i all)) (IsClash all (take i all ++ x ∷ [])) found
      (λ f. (λ c. (clash_more all (take i all) x f).0 (inl c), λ c. elim ((clash_more all (take i all) x f).1 c) [ inl a ↦ a | inr n ↦ absurd (n.0 k) ])) h)

  -- another declaration has one where its name is taken
  pub other_turn : x.kind ≢ Package → (file token : ℕ) (b : Bool) → at file token ≡ x.place → b ≡ says_taken all (take i all) x → (found next : List Flaw) → AreFlawsOf (IsClash all (take i all)) found → AreAdded (IsNew file token (kind_if b DuplicateName)) found next → AreFlawsOf (IsClash all (take (i + 1) all)) next
  other_turn other file token b place is found next h new =
      subst (λ (ys : List NameAt). AreFlawsOf (IsClash all ys) next) (sym taken_is)
      (flaws_more (IsClash all (take i all)) (IsNewClash all (take i all) x) (IsClash all (take i all ++ x ∷ [])) found next (clash_more all (take i all) x) h
      (added_as (IsNew file token (kind_if b DuplicateName)) (IsNewClash all (take i all) x) found next (new_flaw all (take i all) x file token b place other is (contains_taken all i)) new))

pub no_clash : (all : List NameAt) (f : Fault) → IsClash all (take 0 all) f → ⊥
no_clash all f h = elim h.taken [ inl a ↦ (let l = a.4 in omega (arith, l)) | inr p ↦ (let c = p.0 in omega (arith, c.1)) ]

-- ---- names as text

module _ (ds : List Named) (plain : (d : Named) → Contains ds d → ArePlain d.name) where
  to_text : (f : Fault) → ClashFault ds f → IsClash (map name_at ds) (map name_at ds) f
  to_text f (earlier d a other) =
      let r = follows_after (λ (x y : Named). x.name ≡ y.name) ds d a in
      record { one = name_at d; other = other; is = refl; taken = inl (after_follows AreOfOneName (map name_at ds) (name_at r.0) (name_at d) (follows_map name_at ds r.0 d r.1) (ap joined r.2)) }
  to_text f (of_package d e cd ce other own same) =
      record { one = name_at d; other = other; is = refl; taken = inr (contains_map name_at ds d cd, (name_at e, contains_map name_at ds e ce, own, ap joined (sym same))) }

  from_text : (f : Fault) → IsClash (map name_at ds) (map name_at ds) f → ClashFault ds f
  from_text f h = elim h.taken [
    | inl a ↦
        let r = follows_after AreOfOneName (map name_at ds) h.one a in
        let s = map_follows name_at ds r.0 h.one r.1 in
        let name : s.0.name ≡ s.1.name = joined_apart s.0.name s.1.name (plain s.0 (follows_first ds s.0 s.1 s.2)) (plain s.1 (follows_second ds s.0 s.1 s.2)) (ap (λ (z : NameAt). z.text) s.3 ∙ r.2 ∙ ap (λ (z : NameAt). z.text) (sym s.4)) in
        subst (ClashFault ds) (ap (λ (z : NameAt). fault z.place 13) s.4 ∙ sym h.is)
        (earlier s.1 (after_follows (λ (x y : Named). x.name ≡ y.name) ds s.0 s.1 s.2 name) (λ k. h.other (ap (λ (z : NameAt). z.kind) (sym s.4) ∙ k)))
    | inr p ↦
        let x = from_map name_at ds h.one p.0 in
        let y = from_map name_at ds p.1.0 p.1.1 in
        let name : x.0.name ≡ y.0.name = joined_apart x.0.name y.0.name (plain x.0 x.1) (plain y.0 y.1) (ap (λ (z : NameAt). z.text) x.2 ∙ sym p.1.3 ∙ ap (λ (z : NameAt). z.text) (sym y.2)) in
        subst (ClashFault ds) (ap (λ (z : NameAt). fault z.place 13) x.2 ∙ sym h.is)
        (of_package x.0 y.0 x.1 y.1 (λ k. h.other (ap (λ (z : NameAt). z.kind) (sym x.2) ∙ k)) (ap (λ (z : NameAt). z.kind) y.2 ∙ p.1.2) name)
  ]

  pub clashes_as_text : (xs : List NameAt) → xs ≡ map name_at ds → (ws : List Flaw) → AreFlawsOf (IsClash xs xs) ws → AreFlawsOf (ClashFault ds) ws
  clashes_as_text xs e ws h =
      flaws_as (IsClash (map name_at ds) (map name_at ds)) (ClashFault ds) ws (λ f. (from_text f, to_text f))
      (subst (λ (ys : List NameAt). AreFlawsOf (IsClash ys ys) ws) e h)
