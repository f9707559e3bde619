-- A rename leaves no flaw of reserved names or JSON names (for the crates above).
use Rattle.std.proofs.Common.{◌≡◌, ◌≢◌, ℕ, zero, suc, ◌<◌, Bool, true, false, ◌⊎◌, if◌then◌else◌, List, [], ◌∷◌, ◌++◌, length, get_or, map, Option, Some, None, refl, sym, ◌∙◌, ap, ap₂, subst, inl, inr, arith, AllPairs, Contains, bytes_eq}
use Rattle.proto_base.proofs.Common.{list_any, both_ways, false_from_ne_true, Contains-append_left, Contains-append_right, Contains-append_cases, any_from, any_to, contains_head, contains_later, contains_cases, contains_map, from_map, word_from_same}
use Rattle.proto_base.specs.declared.fault.FaultKind.{FaultKind}
use Rattle.proto_base.specs.declared.fault.FaultKind.TheVariants as kind
use Rattle.proto_text.proofs.OneEdit.{length_map}
use Rattle.proto_ast.proofs.Common.{is_one_of, FieldOf, Scene, text, value, json_name_of, json_word, written_or}
use Rattle.proto_desc_numbers.specs.declared.flaw.Flaw.{Flaw}
use Rattle.proto_desc_numbers.specs.Flaws.{after_earlier, earlier, flaw_if, marked}
use Rattle.proto_desc_checks.specs.FileFlaws.{json_clashes, reserved_again, with_reserved_name}
use Rattle.proto_edit_rename_described.specs.NamesKept.{AreKept, JsonNamesStay, ReservedNamesStay, written}

-- ---- lists of flaws that are empty

pub empty_parts : {A : Type 0} (xs ys : List A) → xs ++ ys ≡ [] → (xs ≡ []) × (ys ≡ [])
empty_parts [] ys e = (refl, e)
empty_parts (x ∷ xs) ys e = absurd cc

pub none_flawed : (b : Bool) (k : FaultKind) (t : ℕ) → flaw_if b k t ≡ [] → b ≡ false
none_flawed false k t e = refl
none_flawed true k t e = absurd cc

pub not_flawed : (b : Bool) (k : FaultKind) (t : ℕ) → b ≡ false → flaw_if b k t ≡ []
not_flawed false k t e = refl
not_flawed true k t e = absurd cc

-- ---- reserved names

map_same : {A B : Type 0} (f g : A → B) → ((x : A) → f x ≡ g x) → (xs : List A) → map f xs ≡ map g xs
map_same f g h [] = refl
map_same f g h (x ∷ xs) = ap₂ (λ y ys. y ∷ ys) (h x) (map_same f g h xs)

reserved_with : (a b : Scene) (token : ℕ) (to : List ℕ) (reserved : List ℕ) → ((t : ℕ) → value a t ≡ value b t) → (names all : List ℕ) → ((t : ℕ) → Contains names t → Contains all t) → AreKept a b token to all
    → (Contains all token → Contains (map (value a) reserved) to → ⊥) → with_reserved_name a reserved names ≡ [] → with_reserved_name b reserved names ≡ []
reserved_with a b token to reserved strings [] all inside kept free e = refl
reserved_with a b token to reserved strings (t ∷ names) all inside kept free e =
    let p = empty_parts (flaw_if (is_one_of (map (value a) reserved) (text a t)) kind.ReservedName t) (with_reserved_name a reserved names) e in
    let values : map (value a) reserved ≡ map (value b) reserved = map_same (value a) (value b) strings reserved in
    let old : is_one_of (map (value a) reserved) (text a t) ≡ false = none_flawed (is_one_of (map (value a) reserved) (text a t)) kind.ReservedName t p.0 in
    let new : is_one_of (map (value b) reserved) (text b t) ≡ false = ap (λ vs. is_one_of vs (text b t)) (sym values) ∙ elim (kept t (inside t (contains_head t names))) [
      | inl is ↦ ap (is_one_of (map (value a) reserved)) is.1 ∙ false_from_ne_true (is_one_of (map (value a) reserved) to) (λ h.
          let r = any_to (bytes_eq to) (map (value a) reserved) h in
          free (subst (Contains all) is.0 (inside t (contains_head t names))) (subst (Contains (map (value a) reserved)) (sym (word_from_same to r.0 r.2)) r.1))
      | inr other ↦ ap (is_one_of (map (value a) reserved)) other.1 ∙ old
    ] in
    ap₂ (λ (x y : List Flaw). x ++ y) (not_flawed (is_one_of (map (value b) reserved) (text b t)) kind.ReservedName t new)
    (reserved_with a b token to reserved strings names all (λ x c. inside x (contains_later t x names c)) kept free p.1)

pub reserved_names_stay : ReservedNamesStay
reserved_names_stay a b token to reserved names strings kept free e =
    let p = empty_parts (with_reserved_name a reserved names) (reserved_again a reserved) e in
    ap₂ (λ (x y : List Flaw). x ++ y) (reserved_with a b token to reserved strings names names (λ t c. c) kept free p.0)
    (ap (λ vs. marked kind.ReservedName reserved (after_earlier bytes_eq vs)) (sym (map_same (value a) (value b) strings reserved)) ∙ p.1)

-- ---- keys that are apart

module _ {K : Type 0} (so : K → K → Bool) where
  abbrev Free : List K → List K → Type 0
  Free before [] = Unit {0}
  Free before (k ∷ ks) = (list_any (λ p. so p k) before ≡ false) × Free (before ++ k ∷ []) ks

  free_from : (k : FaultKind) (ts : List ℕ) (before ks : List K) → length ts ≡ length ks → marked k ts (earlier so before ks) ≡ [] → Free before ks
  free_from k ts before [] l e = tt
  free_from k [] before (x ∷ ks) l e = absurd (omega (arith, l))
  free_from k (t ∷ ts) before (x ∷ ks) l e =
      let p = empty_parts (flaw_if (list_any (λ p. so p x) before) k t) (marked k ts (earlier so (before ++ x ∷ []) ks)) e in
      (none_flawed (list_any (λ p. so p x) before) k t p.0, free_from k ts (before ++ x ∷ []) ks (omega (arith, l)) p.1)

  free_to : (k : FaultKind) (ts : List ℕ) (before ks : List K) → Free before ks → marked k ts (earlier so before ks) ≡ []
  free_to k [] before ks f = refl
  free_to k (t ∷ ts) before [] f = refl
  free_to k (t ∷ ts) before (x ∷ ks) f = ap₂ (λ (y z : List Flaw). y ++ z) (not_flawed (list_any (λ p. so p x) before) k t f.0) (free_to k ts (before ++ x ∷ []) ks f.1)

  abbrev Pairs : List K → Type 0
  Pairs [] = Unit {0}
  Pairs (k ∷ ks) = ((x : K) → Contains ks x → so k x ≡ false) × Pairs ks

  none_any : (k : K) (before : List K) → list_any (λ p. so p k) before ≡ false → (p : K) → Contains before p → so p k ≡ false
  none_any k before e p c = false_from_ne_true (so p k) (λ h. both_ways (list_any (λ p. so p k) before) e (any_from (λ p. so p k) before p c h))

  free_pairs : (before ks : List K) → Free before ks → ((p : K) → Contains before p → (k : K) → Contains ks k → so p k ≡ false) × Pairs ks
  free_pairs before [] f = (λ p c k d. absurd (omega (arith, d.1)), tt)
  free_pairs before (x ∷ ks) f =
      let r = free_pairs (before ++ x ∷ []) ks f.1 in (
        λ p c k d. elim (contains_cases x k ks d) [
          | inl e ↦ subst (λ z. so p z ≡ false) e (none_any x before f.0 p c)
          | inr later ↦ r.0 p (Contains-append_left before (x ∷ []) p c) k later
        ],
        (λ k d. r.0 x (Contains-append_right before (x ∷ []) x (contains_head x [])) k d, r.1),
      )

  pairs_free : (before ks : List K) → ((p : K) → Contains before p → (k : K) → Contains ks k → so p k ≡ false) → Pairs ks → Free before ks
  pairs_free before [] h f = tt
  pairs_free before (x ∷ ks) h f = (
    false_from_ne_true (list_any (λ p. so p x) before) (λ e. let r = any_to (λ p. so p x) before e in both_ways (so r.0 x) (h r.0 r.1 x (contains_head x ks)) r.2),
    pairs_free (before ++ x ∷ []) ks (λ p c k d. elim (Contains-append_cases before (x ∷ []) p c) [
      | inl old ↦ h p old k (contains_later x k ks d)
      | inr new ↦ elim (contains_cases x p [] new) [
        | inl e ↦ subst (λ z. so z k ≡ false) e (f.0 k d)
        | inr none ↦ absurd (omega (arith, none.1))
      ]
    ]) f.1,
  )

-- pairs of keys by what has them
pairs_by : {A : Type 0} (so : List ℕ → List ℕ → Bool) (f g : A → List ℕ) (xs : List A) → AllPairs (λ x y. so (f x) (f y) ≡ false → so (g x) (g y) ≡ false) xs → Pairs so (map f xs) → Pairs so (map g xs)
pairs_by so f g [] h p = tt
pairs_by so f g (x ∷ xs) h p = (
  λ w c. let r = from_map g xs w c in
      subst (λ z. so (g x) z ≡ false) r.2 (one r.0 r.1 (p.0 (f r.0) (contains_map f xs r.0 r.1))),
  pairs_by so f g xs (λ i j d below lj. h (suc i) (suc j) d (omega (arith, below)) (omega (arith, lj))) p.1,
)
  where
    one : (y : _) → Contains xs y → so (f x) (f y) ≡ false → so (g x) (g y) ≡ false
    one y c e =
        let k = h 0 (suc c.0) y (omega arith) (let l = c.1 in omega (arith, l)) in
        subst (λ z. so (g x) (g z) ≡ false) c.2 (k (subst (λ z. so (f x) (f z) ≡ false) (sym c.2) e))

differ : (v w : List ℕ) → v ≢ w → bytes_eq v w ≡ false
differ v w h = false_from_ne_true (bytes_eq v w) (λ e. h (word_from_same v w e))

pub json_names_stay : JsonNamesStay
json_names_stay a b token to fs version same kept apart clash e = by a.is_proto3 refl
  where
    tokens : List ℕ
    tokens = map (λ (f : FieldOf). f.name) fs

    by : (v : Bool) → a.is_proto3 ≡ v → json_clashes b fs ≡ []
    by false p = ap (λ v. if v then marked kind.JsonClash (map (λ (f : FieldOf). f.name) fs) (after_earlier bytes_eq (map (json_name_of b) fs)) else []) (sym version ∙ p)
    by true p =
        let old : marked kind.JsonClash (map (λ (f : FieldOf). f.name) fs) (after_earlier bytes_eq (map (json_name_of a) fs)) ≡ [] =
        sym (ap (λ v. if v then marked kind.JsonClash (map (λ (f : FieldOf). f.name) fs) (after_earlier bytes_eq (map (json_name_of a) fs)) else []) p) ∙ e in
        let lengths : length (map (λ (f : FieldOf). f.name) fs) ≡ length (map (json_name_of a) fs) = length_map (λ (f : FieldOf). f.name) fs ∙ sym (length_map (json_name_of a) fs) in
        let free = free_from bytes_eq kind.JsonClash (map (λ (f : FieldOf). f.name) fs) [] (map (json_name_of a) fs) lengths old in
        let pairs = (free_pairs bytes_eq [] (map (json_name_of a) fs) free).1 in
        let new = pairs_by bytes_eq (json_name_of a) (json_name_of b) fs (step p) pairs in
        ap (λ v. if v then marked kind.JsonClash (map (λ (f : FieldOf). f.name) fs) (after_earlier bytes_eq (map (json_name_of b) fs)) else []) (sym version ∙ p)
        ∙ free_to bytes_eq kind.JsonClash (map (λ (f : FieldOf). f.name) fs) [] (map (json_name_of b) fs) (pairs_free bytes_eq [] (map (json_name_of b) fs) (λ x c k d. absurd (omega (arith, c.1))) new)
      where
        -- the JSON name afterwards: the old one, or that of the new word
        json : (f : FieldOf) → Contains fs f → (json_name_of b f ≡ json_name_of a f) ⊎ ((f.name ≡ token) × (written a f ≡ None) × (json_name_of b f ≡ json_word to))
        json f c = elim (kept f.name (contains_map (λ (x : FieldOf). x.name) fs f c)) [
          | inr other ↦ inl (ap₂ (λ o w. written_or o w) (sym (same f c)) other.1)
          | inl is ↦ go (written a f) refl is
        ]
          where
            go : (o : Option (List ℕ)) → written a f ≡ o → (f.name ≡ token) × (text b f.name ≡ to) → (json_name_of b f ≡ json_name_of a f) ⊎ ((f.name ≡ token) × (written a f ≡ None) × (json_name_of b f ≡ json_word to))
            go (Some j) q is = inl (ap (λ o. written_or o (text b f.name)) (sym (same f c) ∙ q) ∙ sym (ap (λ o. written_or o (text a f.name)) q))
            go None q is = inr (is.0, q, ap₂ (λ o w. written_or o w) (sym (same f c) ∙ q) is.1)

        pair : a.is_proto3 ≡ true → (f g : FieldOf) → Contains fs f → Contains fs g → f.name ≢ g.name → bytes_eq (json_name_of a f) (json_name_of a g) ≡ false → bytes_eq (json_name_of b f) (json_name_of b g) ≡ false
        pair p f g cf cg ne old = elim (json f cf) [
          | inl ef ↦ elim (json g cg) [
            | inl eg ↦ ap₂ bytes_eq ef eg ∙ old
            | inr ng ↦ differ (json_name_of b f) (json_name_of b g) (λ z. clash g f cg ng.0 cf ne p ng.1 (sym ng.2 ∙ sym z ∙ ef))
          ]
          | inr nf ↦ elim (json g cg) [
            | inl eg ↦ differ (json_name_of b f) (json_name_of b g) (λ z. clash f g cf nf.0 cg (λ q. ne (sym q)) p nf.1 (sym nf.2 ∙ z ∙ eg))
            | inr ng ↦ absurd (ne (nf.0 ∙ sym ng.0))
          ]
        ]

        step : a.is_proto3 ≡ true → AllPairs (λ x y. bytes_eq (json_name_of a x) (json_name_of a y) ≡ false → bytes_eq (json_name_of b x) (json_name_of b y) ≡ false) fs
        step p i j d below lj old = pair p (get_or fs i d) (get_or fs j d) (i, let l : i < length fs = omega (arith, below, lj) in l, get_same fs i d (omega (arith, below, lj))) (j, lj, get_same fs j d lj) (apart i j d below lj) old
          where
            get_same : {A : Type 0} (xs : List A) (i : ℕ) (d : A) → i < length xs → get_or xs i (get_or xs i d) ≡ get_or xs i d
            get_same [] i d l = absurd (omega (arith, l))
            get_same (x ∷ xs) zero d l = refl
            get_same (x ∷ xs) (suc i) d l = get_same xs i d (omega (arith, l))
