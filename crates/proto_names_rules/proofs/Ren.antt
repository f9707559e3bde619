-- The name map goes with fronts and with the rewritten words (for the crates above).
use Rattle.std.proofs.Common.{◌≡◌, ℕ, zero, suc, Bool, true, false, ◌&&◌, cond, List, [], ◌∷◌, ◌++◌, length, take, Option, Some, None, refl, sym, ◌∙◌, ap, inl, inr, if◌then◌else◌, append_assoc, append-nil, bytes_eq, true≢false}
use Rattle.proto_base.proofs.Common.{cases_Bool, cond-true, cond-false, false_from_ne_true, both_ways, and_parts, word_from_same, same_from_word}
use Rattle.proto_names_rules.specs.Common.{same_name, Renaming, target, turned_by, turned, turn_below, ren, is_below, rewritten, is_entry, is_entry_by, IsClear}
use Rattle.proto_names_rules.proofs.Basics.{name_from_same, same_from_name}

pub turn_below-take : (ps : List (List ℕ)) (f : List ℕ → List ℕ) (k : ℕ) (x : List (List ℕ)) → turn_below ps f (take k x) ≡ take k (turn_below ps f x)
turn_below-take [] f zero [] = refl
turn_below-take [] f zero (x ∷ xs) = refl
turn_below-take [] f (suc k) [] = refl
turn_below-take [] f (suc k) (x ∷ xs) = refl
turn_below-take (p ∷ ps) f zero [] = refl
turn_below-take (p ∷ ps) f zero (x ∷ xs) = refl
turn_below-take (p ∷ ps) f (suc k) [] = refl
turn_below-take (p ∷ ps) f (suc k) (x ∷ xs) = elim (bytes_eq x p) as (λ b. ◌≡◌ {A = List (List ℕ)} (x ∷ cond b (turn_below ps f (take k xs)) (take k xs)) (take (suc k) (x ∷ cond b (turn_below ps f xs) xs))) [
  | true ↦ ap (λ l. x ∷ l) (turn_below-take ps f k xs)
  | false ↦ refl
]

pub turn_below-length : (ps : List (List ℕ)) (f : List ℕ → List ℕ) (x : List (List ℕ)) → length (turn_below ps f x) ≡ length x
turn_below-length [] f [] = refl
turn_below-length [] f (x ∷ xs) = refl
turn_below-length (p ∷ ps) f [] = refl
turn_below-length (p ∷ ps) f (x ∷ xs) = elim (bytes_eq x p) as (λ b. length (x ∷ cond b (turn_below ps f xs) xs) ≡ suc (length xs)) [
  | true ↦ ap suc (turn_below-length ps f xs)
  | false ↦ refl
]

pub turn_below-nil : (ps : List (List ℕ)) (f : List ℕ → List ℕ) → turn_below ps f [] ≡ []
turn_below-nil [] f = refl
turn_below-nil (p ∷ ps) f = refl

-- one more word: it is turned right below the parent
pub turn_below-more : (ps : List (List ℕ)) (f : List ℕ → List ℕ) (x : List (List ℕ)) (w : List ℕ) → turn_below ps f (x ++ w ∷ []) ≡ turn_below ps f x ++ (if same_name x ps then f w else w) ∷ []
turn_below-more [] f [] w = refl
turn_below-more [] f (x ∷ xs) w = refl
turn_below-more (p ∷ ps) f [] w = elim (bytes_eq w p) as (λ b. ◌≡◌ {A = List (List ℕ)} (w ∷ cond b (turn_below ps f []) []) (w ∷ [])) [ true ↦ ap (λ l. w ∷ l) (turn_below-nil ps f) | false ↦ refl ]
turn_below-more (p ∷ ps) f (x ∷ xs) w = elim (bytes_eq x p) as (λ b. ◌≡◌ {A = List (List ℕ)} (x ∷ cond b (turn_below ps f (xs ++ w ∷ [])) (xs ++ w ∷ [])) ((x ∷ cond b (turn_below ps f xs) xs) ++ (cond (b && same_name xs ps) (f w) w) ∷ [])) [
  | true ↦ ap (λ l. x ∷ l) (turn_below-more ps f xs w)
  | false ↦ refl
]

-- two names with a last word
pub last_parts : (x y : List (List ℕ)) (v w : List ℕ) → x ++ v ∷ [] ≡ y ++ w ∷ [] → (x ≡ y) × (v ≡ w)
last_parts [] [] v w h = (refl, cc)
last_parts [] (b ∷ []) v w h = absurd (none_here h)
  where
    none_here : ◌≡◌ {A = List (List ℕ)} (v ∷ []) (b ∷ w ∷ []) → ⊥
    none_here h = cc
last_parts [] (b ∷ c ∷ ys) v w h = absurd (none_here h)
  where
    none_here : ◌≡◌ {A = List (List ℕ)} (v ∷ []) (b ∷ c ∷ (ys ++ w ∷ [])) → ⊥
    none_here h = cc
last_parts (a ∷ []) [] v w h = absurd (none_here h)
  where
    none_here : ◌≡◌ {A = List (List ℕ)} (a ∷ v ∷ []) (w ∷ []) → ⊥
    none_here h = cc
last_parts (a ∷ c ∷ xs) [] v w h = absurd (none_here h)
  where
    none_here : ◌≡◌ {A = List (List ℕ)} (a ∷ c ∷ (xs ++ v ∷ [])) (w ∷ []) → ⊥
    none_here h = cc
last_parts (a ∷ xs) (b ∷ ys) v w h =
    let t : xs ++ v ∷ [] ≡ ys ++ w ∷ [] = cc in
    let e : a ≡ b = cc in
    let r = last_parts xs ys v w t in
    (ap (λ l. a ∷ l) r.0 ∙ ap (λ z. z ∷ ys) e, r.1)

-- away from the entry, a word below the parent is turned as the words of a reference are
turned_word : (e : Renaming) (x : List (List ℕ)) (w : List ℕ) → is_entry e (x ++ w ∷ []) ≡ false → (if same_name x e.parent then turned e w else w) ≡ (if same_name (x ++ w ∷ []) (target e) then e.new else w)
turned_word e x w ne = elim (cases_Bool (same_name x e.parent)) [
  | inl at ↦
      let xe = name_from_same x e.parent at in
      cond-true (same_name x e.parent) (turned e w) w at ∙ elim (cases_Bool (bytes_eq w e.old)) [
        | inl old ↦
            let we = word_from_same w e.old old in
            let all : x ++ w ∷ [] ≡ target e = ap (λ y. y ++ w ∷ []) xe ∙ ap (λ v. e.parent ++ v ∷ []) we in
            cond-true (bytes_eq w e.old) e.new (turned_by e.entry w) old ∙ sym (cond-true (same_name (x ++ w ∷ []) (target e)) e.new w (same_from_name (x ++ w ∷ []) (target e) all))
        | inr other ↦
            cond-false (bytes_eq w e.old) e.new (turned_by e.entry w) other
            ∙ stays e.entry xe ne
            ∙ sym (cond-false (same_name (x ++ w ∷ []) (target e)) e.new w (false_from_ne_true (same_name (x ++ w ∷ []) (target e)) (λ h. both_ways (bytes_eq w e.old) other (same_from_word w e.old (last_parts x e.parent w e.old (name_from_same (x ++ w ∷ []) (target e) h)).1))))
      ]
  | inr off ↦
      cond-false (same_name x e.parent) (turned e w) w off
      ∙ sym (cond-false (same_name (x ++ w ∷ []) (target e)) e.new w (false_from_ne_true (same_name (x ++ w ∷ []) (target e)) (λ h. both_ways (same_name x e.parent) off (same_from_name x e.parent (last_parts x e.parent w e.old (name_from_same (x ++ w ∷ []) (target e) h)).0))))
]
  where
    stays : (o : Option (List ℕ × List ℕ)) → x ≡ e.parent → is_entry_by e.parent o (x ++ w ∷ []) ≡ false → turned_by o w ≡ w
    stays None xe n = refl
    stays (Some p) xe n = cond-false (bytes_eq w p.0) p.1 w (false_from_ne_true (bytes_eq w p.0) (λ h. both_ways (same_name (x ++ w ∷ []) (e.parent ++ p.0 ∷ [])) n (same_from_name (x ++ w ∷ []) (e.parent ++ p.0 ∷ []) (ap (λ y. y ++ w ∷ []) xe ∙ ap (λ v. e.parent ++ v ∷ []) (word_from_same w p.0 h)))))

pub ren-more : (e : Renaming) (x : List (List ℕ)) (w : List ℕ) → is_entry e (x ++ w ∷ []) ≡ false → ren e (x ++ w ∷ []) ≡ ren e x ++ (if same_name (x ++ w ∷ []) (target e) then e.new else w) ∷ []
ren-more e x w ne = turn_below-more e.parent (turned e) x w ∙ ap (λ v. ren e x ++ v ∷ []) (turned_word e x w ne)

-- the name map of a front and the words after it
pub ren-rewritten : (e : Renaming) (front words : List (List ℕ)) → IsClear e (front ++ words) → ren e (front ++ words) ≡ ren e front ++ rewritten e front words
ren-rewritten e front [] clear = ap (ren e) (append-nil front) ∙ sym (append-nil (ren e front))
ren-rewritten e front (w ∷ rest) clear =
    let v : List ℕ = if same_name (front ++ w ∷ []) (target e) then e.new else w in
    let regroup = append_assoc front (w ∷ []) rest in
    let here : is_entry e (front ++ w ∷ []) ≡ false = clear (front ++ w ∷ []) rest regroup in
    ap (ren e) (sym regroup)
    ∙ ren-rewritten e (front ++ w ∷ []) rest (λ a b h. clear a b (h ∙ regroup))
    ∙ ap (λ l. l ++ rewritten e (front ++ w ∷ []) rest) (ren-more e front w here)
    ∙ append_assoc (ren e front) (v ∷ []) (rewritten e (front ++ w ∷ []) rest)

-- outside the domain nothing changes
pub turn_below_outside : (ps : List (List ℕ)) (f : List ℕ → List ℕ) (t : List ℕ → Bool) → ((w : List ℕ) → t w ≡ false → f w ≡ w) → (x : List (List ℕ)) → is_below ps t x ≡ false → turn_below ps f x ≡ x
turn_below_outside [] f t s [] h = refl
turn_below_outside [] f t s (x ∷ xs) h = ap (λ v. v ∷ xs) (s x h)
turn_below_outside (p ∷ ps) f t s [] h = refl
turn_below_outside (p ∷ ps) f t s (x ∷ xs) h = go (bytes_eq x p) (turn_below_outside ps f t s xs) h
  where
    go : (b : Bool) → (is_below ps t xs ≡ false → turn_below ps f xs ≡ xs) → (b && is_below ps t xs) ≡ false → ◌≡◌ {A = List (List ℕ)} (x ∷ cond b (turn_below ps f xs) xs) (x ∷ xs)
    go true ih h = ap (λ l. x ∷ l) (ih h)
    go false ih h = refl

-- inside it no two names become one
pub turn_below_apart : (ps : List (List ℕ)) (f : List ℕ → List ℕ) (t : List ℕ → Bool) → ((v w : List ℕ) → t v ≡ true → t w ≡ true → f v ≡ f w → v ≡ w) → (x y : List (List ℕ)) → is_below ps t x ≡ true → is_below ps t y ≡ true → turn_below ps f x ≡ turn_below ps f y → x ≡ y
turn_below_apart [] f t s [] y hx hy h = absurd (true≢false (sym hx))
turn_below_apart [] f t s (x ∷ xs) [] hx hy h = absurd (true≢false (sym hy))
turn_below_apart [] f t s (x ∷ xs) (y ∷ ys) hx hy h =
    let a : f x ≡ f y = cc in
    let b : xs ≡ ys = cc in
    ap (λ v. v ∷ xs) (s x y hx hy a) ∙ ap (λ l. y ∷ l) b
turn_below_apart (p ∷ ps) f t s [] y hx hy h = absurd (true≢false (sym hx))
turn_below_apart (p ∷ ps) f t s (x ∷ xs) [] hx hy h = absurd (true≢false (sym hy))
turn_below_apart (p ∷ ps) f t s (x ∷ xs) (y ∷ ys) hx hy h =
    let px = and_parts (bytes_eq x p) (is_below ps t xs) hx in
    let py = and_parts (bytes_eq y p) (is_below ps t ys) hy in
    let tails : turn_below ps f xs ≡ turn_below ps f ys = sym (cond-true (bytes_eq x p) (turn_below ps f xs) xs px.0) ∙ tail_same h ∙ cond-true (bytes_eq y p) (turn_below ps f ys) ys py.0 in
    let heads : x ≡ y = word_from_same x p px.0 ∙ sym (word_from_same y p py.0) in
    ap (λ v. v ∷ xs) heads ∙ ap (λ l. y ∷ l) (turn_below_apart ps f t s xs ys px.1 py.1 tails)
  where
    tail_same : {a b : List ℕ} {us vs : List (List ℕ)} → ◌≡◌ {A = List (List ℕ)} (a ∷ us) (b ∷ vs) → us ≡ vs
    tail_same h = cc
