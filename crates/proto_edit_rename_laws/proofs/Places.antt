-- The texts after a rename spell the skeleton as the name map wants it (for the crates above).
use Rattle.std.proofs.Common.{◌≡◌, ◌≢◌, ℕ, ◌==◌, Bool, true, false, ◌&&◌, ◌⊎◌, List, [], ◌∷◌, ◌++◌, map, Some, None, refl, sym, ap, ap₂, subst, ◌∙◌, inl, inr, arith, if◌then◌else◌, append_assoc, flat_map, Contains, eqb-true, eq-eqb, append-nil}
use Rattle.proto_base.proofs.Common.{list_any, cases_Bool, cond-true, cond-false, both_ways, false_from_ne_true, Contains-append_left, Contains-append_right, Contains-append_cases, any_from, any_to, contains_head, contains_later, contains_cases}
pub use Rattle.proto_base.proofs.Common.{from_flat_map, to_flat_map}
use Rattle.proto_case.specs.Camel.{entry_name}
use Rattle.proto_text.specs.Texts.{or_word}
use Rattle.proto_names_rules.proofs.Common.{same_name, Renaming, target, rewritten, At, Source, Declared, Used, Skeleton, IsAim, renaming_of, IsRespelled, map_append}
use Rattle.proto_edit_rename_laws.specs.Common.{same_at, stands, front_of, standing, renamed_places, change_at, Names, Uses, RolesAreApart}
use Rattle.proto_edit_rename_laws.specs.Respelling.{PlacesRespell}

-- ---- tokens that are one

both_true : (a b : Bool) → (a && b) ≡ true → (a ≡ true) × (b ≡ true)
both_true true true e = (refl, refl)
both_true true false e = absurd cc
both_true false b e = absurd cc

pub at_same : (a b : At) → same_at a b ≡ true → a ≡ b
at_same a b e =
    let r = both_true (a.file == b.file) (a.token == b.token) e in
    ap₂ (λ (f t : ℕ). let x : At = record { file = f; token = t } in x) (eqb-true a.file b.file r.0) (eqb-true a.token b.token r.1)

pub same_at_itself : (a : At) → same_at a a ≡ true
same_at_itself a = ap₂ (λ (x y : Bool). x && y) (eq-eqb a.file a.file refl) (eq-eqb a.token a.token refl)

pub listed : (i : At) (xs : List At) → Contains xs i → list_any (same_at i) xs ≡ true
listed i xs c = any_from (same_at i) xs i c (same_at_itself i)

pub listed_is_there : (i : At) (xs : List At) → list_any (same_at i) xs ≡ true → Contains xs i
listed_is_there i xs e = let r = any_to (same_at i) xs e in subst (Contains xs) (sym (at_same i r.0 r.2)) r.1

-- ---- words that stand for the target

pub record Stands (e : Renaming) (text : At → List ℕ) (front : List (List ℕ)) (is : List At) (i : At) : Type 0 where
  pub before : List At
  pub behind : List At
  pub parts : is ≡ before ++ i ∷ behind
  pub same : same_name ((front ++ map text before) ++ text i ∷ []) (target e) ≡ true

single : {X : Type 0} (b : Bool) (x y : X) → Contains (if b then x ∷ [] else []) y → (b ≡ true) × (x ≡ y)
single true x y c = elim (contains_cases x y [] c) [
  | inl e ↦ (refl, e)
  | inr d ↦ absurd (omega (arith, d.1))
]
single false x y c = absurd (omega (arith, c.1))

pub stands_at : (e : Renaming) (text : At → List ℕ) (front : List (List ℕ)) (is : List At) (i : At) → Contains (stands e text front is) i → Stands e text front is i
stands_at e text front [] i c = absurd (omega (arith, c.1))
stands_at e text front (j ∷ is) i c =
    elim (Contains-append_cases (if same_name (front ++ text j ∷ []) (target e) then j ∷ [] else []) (stands e text (front ++ text j ∷ []) is) i c) [
      | inl h ↦
          let s = single (same_name (front ++ text j ∷ []) (target e)) j i h in
          record {
            before = [];
            behind = is;
            parts = ap (λ z. z ∷ is) s.1;
            same = subst (λ z. same_name ((front ++ []) ++ text z ∷ []) (target e) ≡ true) s.1 (ap (λ z. same_name (z ++ text j ∷ []) (target e)) (append-nil front) ∙ s.0);
          }
      | inr h ↦
          let s = stands_at e text (front ++ text j ∷ []) is i h in
          record {
            before = j ∷ s.before;
            behind = s.behind;
            parts = ap (λ z. j ∷ z) s.parts;
            same = ap (λ z. same_name (z ++ text i ∷ []) (target e)) (sym (append_assoc front (text j ∷ []) (map text s.before))) ∙ s.same;
          }
    ]

stands_here : (e : Renaming) (text : At → List ℕ) (xs : List At) (front : List (List ℕ)) (i : At) (ys : List At) → same_name ((front ++ map text xs) ++ text i ∷ []) (target e) ≡ true → Contains (stands e text front (xs ++ i ∷ ys)) i
stands_here e text [] front i ys h =
    let same : same_name (front ++ text i ∷ []) (target e) ≡ true = ap (λ z. same_name (z ++ text i ∷ []) (target e)) (sym (append-nil front)) ∙ h in
    Contains-append_left (if same_name (front ++ text i ∷ []) (target e) then i ∷ [] else []) (stands e text (front ++ text i ∷ []) ys) i
    (subst (λ (b : Bool). Contains (if b then i ∷ [] else []) i) (sym same) (contains_head i []))
stands_here e text (j ∷ xs) front i ys h =
    Contains-append_right (if same_name (front ++ text j ∷ []) (target e) then j ∷ [] else []) (stands e text (front ++ text j ∷ []) (xs ++ i ∷ ys)) i
    (stands_here e text xs (front ++ text j ∷ []) i ys (ap (λ z. same_name (z ++ text i ∷ []) (target e)) (append_assoc front (text j ∷ []) (map text xs)) ∙ h))

-- ---- the texts after the change

module _ (text now : At → List ℕ) (k : Skeleton At) (token : At) (above : List (Source At)) (aim : Declared At) (is_map : Bool) (to : List ℕ) (defaults : List At)
    (is : IsAim k token above aim) (apart : RolesAreApart k defaults)
    (texts : (i : At) → (Names k i ⊎ Uses k i) → now i ≡ or_word (change_at (renamed_places text k (renaming_of text entry_name token above is_map to) token defaults) to i) (text i)) where
  abbrev e : Renaming
  e = renaming_of text entry_name token above is_map to

  abbrev places : List At
  places = renamed_places text k (renaming_of text entry_name token above is_map to) token defaults

  abbrev used_places : List At
  used_places = flat_map (standing text k (renaming_of text entry_name token above is_map to)) k.used

  aim_names : Names k token
  aim_names = (aim, is.within, (above, inl is.path))

  new_at : (i : At) → (Names k i ⊎ Uses k i) → Contains places i → now i ≡ to
  new_at i role c = texts i role ∙ ap (λ o. or_word o (text i)) (cond-true (list_any (same_at i) places) (Some to) None (listed i places c))

  kept_at : (i : At) → (Names k i ⊎ Uses k i) → (Contains places i → ⊥) → now i ≡ text i
  kept_at i role absent = texts i role ∙ ap (λ o. or_word o (text i)) (cond-false (list_any (same_at i) places) (Some to) None (false_from_ne_true (list_any (same_at i) places) (λ h. absent (listed_is_there i places h))))

  -- a place is the declaring token, stands in a reference, or is a default
  place_cases : (i : At) → Contains places i → (token ≡ i) ⊎ (Uses k i ⊎ Contains defaults i)
  place_cases i c = elim (contains_cases token i (used_places ++ defaults) c) [
    | inl same ↦ inl same
    | inr d ↦ elim (Contains-append_cases used_places defaults i d) [
      | inl h ↦
          let r = from_flat_map (standing text k e) k.used i h in
          let s = stands_at e text (front_of text k r.0) r.0.tokens i r.2 in
          inr (inl (r.0, r.1, subst (λ z. Contains z i) (sym s.parts) (Contains-append_right s.before (i ∷ s.behind) i (contains_head i s.behind))))
      | inr h ↦ inr (inr h)
    ]
  ]

  other_name : (i : At) → Names k i → (i ≡ token) ⊎ ((i ≢ token) × (now i ≡ text i))
  other_name i names = elim (cases_Bool (same_at i token)) [
    | inl t ↦ inl (at_same i token t)
    | inr f ↦
        let differ : i ≢ token = λ h. both_ways (same_at i token) f (subst (λ z. same_at i z ≡ true) h (same_at_itself i)) in
        inr (
          differ,
          kept_at i (inl names) (λ c. elim (place_cases i c) [
            | inl same ↦ differ (sym same)
            | inr (inl used) ↦ apart.names_uses i names used
            | inr (inr d) ↦ apart.names_defaults i names d
          ]),
        )
  ]

  module _ (u : Used At) (cu : Contains k.used u) where
    word_at_place : (xs : List At) (i : At) (ys : List At) → u.tokens ≡ xs ++ i ∷ ys → now i ≡ (if same_name ((front_of text k u ++ map text xs) ++ text i ∷ []) (target e) then to else text i)
    word_at_place xs i ys parts =
        let used : Uses k i = (u, cu, subst (λ z. Contains z i) (sym parts) (Contains-append_right xs (i ∷ ys) i (contains_head i ys))) in
        elim (cases_Bool (same_name ((front_of text k u ++ map text xs) ++ text i ∷ []) (target e))) [
          | inl t ↦
              let there = subst (λ z. Contains (stands e text (front_of text k u) z) i) (sym parts) (stands_here e text xs (front_of text k u) i ys t) in
              let c = contains_later token i (used_places ++ defaults) (Contains-append_left used_places defaults i (to_flat_map (standing text k e) k.used u i cu there)) in
              new_at i (inr used) c ∙ sym (cond-true (same_name ((front_of text k u ++ map text xs) ++ text i ∷ []) (target e)) to (text i) t)
          | inr f ↦
              kept_at i (inr used) (λ c. elim (contains_cases token i (used_places ++ defaults) c) [
                | inl same ↦ apart.names_uses i (subst (Names k) same aim_names) used
                | inr d ↦ elim (Contains-append_cases used_places defaults i d) [
                  | inl h ↦
                      let r = from_flat_map (standing text k e) k.used i h in
                      let s = stands_at e text (front_of text k r.0) r.0.tokens i r.2 in
                      let one = apart.once r.0 u r.1 cu s.before s.behind xs ys i s.parts parts in
                      both_ways (same_name ((front_of text k u ++ map text xs) ++ text i ∷ []) (target e)) f
                      (subst (λ z. same_name ((front_of text k u ++ map text z) ++ text i ∷ []) (target e) ≡ true) one.1
                      (subst (λ z. same_name ((front_of text k z ++ map text s.before) ++ text i ∷ []) (target e) ≡ true) one.0 s.same))
                  | inr h ↦ apart.uses_defaults i used h
                ]
              ]) ∙ sym (cond-false (same_name ((front_of text k u ++ map text xs) ++ text i ∷ []) (target e)) to (text i) f)
        ]

    walk : (xs is : List At) → u.tokens ≡ xs ++ is → map now is ≡ rewritten e (front_of text k u ++ map text xs) (map text is)
    walk xs [] q = refl
    walk xs (i ∷ is) q =
        let front = front_of text k u ++ map text xs in
        let longer : front_of text k u ++ map text (xs ++ i ∷ []) ≡ front ++ text i ∷ [] =
        ap (λ z. front_of text k u ++ z) (map_append text xs (i ∷ [])) ∙ sym (append_assoc (front_of text k u) (map text xs) (text i ∷ [])) in
        ap₂ (λ (w : List ℕ) (ws : List (List ℕ)). w ∷ ws) (word_at_place xs i is q)
        (walk (xs ++ i ∷ []) is (q ∙ sym (append_assoc xs (i ∷ []) is)) ∙ ap (λ z. rewritten e z (map text is)) longer)

  places_respell : IsRespelled text now entry_name k token (renaming_of text entry_name token above is_map to)
  places_respell = record {
    aim = new_at token (inl aim_names) (contains_head token (used_places ++ defaults));
    others = λ s cs a i path. other_name i (s, cs, (a, inl path));
    other_entries = λ s cs a i path. other_name i (s, cs, (a, inr path));
    words = λ u cu. walk u cu [] u.tokens refl ∙ ap (λ z. rewritten e z (map text u.tokens)) (append-nil (front_of text k u));
  }

pub places_respelled : PlacesRespell
places_respelled = places_respell
