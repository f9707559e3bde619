-- Readers that read exactly what is flattened (for the crates above).
use Rattle.std.proofs.Common.{◌≡◌, ℕ, zero, suc, ◌≤◌, length, length-append, Bool, true, false, cond, List, [], ◌∷◌, ◌++◌, Option, Some, None, refl, sym, ap, subst, ◌∙◌, append_assoc, arith, ◌⊎◌, inl, inr, option_and_then, ◌&&◌, ◌||◌, not}
use Rattle.proto_tree.specs.Common.{Class, Expected, Lexeme, fits, open_after, Mark, mark, Fit, flat_option, flat_all, flat_behind, flat_from, flat_separated, Read, Reader, token, ◌then◌, made, starts, either, maybe, up_to, many, behind_at, from_at, separated_at}
use Rattle.proto_tree.specs.declared.class.Expected.TheVariants as want
use Rattle.proto_tree.proofs.Each.{each, each_is, and_left, and_right}

-- ---- steps

pub bind_ok : {A B : Type 0} (o : Option A) (f : A → Option B) (y : B) → option_and_then f o ≡ Some y → (x : A) × (o ≡ Some x) × (f x ≡ Some y)
bind_ok (Some x) f y e = (x, refl, e)
bind_ok None f y e = absurd cc

pub cond_ok : {A : Type 0} (b : Bool) (x y : A) → cond b (Some x) None ≡ Some y → (b ≡ true) × (x ≡ y)
cond_ok true x y e = (refl, cc)
cond_ok false x y e = absurd cc

abbrev pub some : {A : Type 0} → A → Option A
some x = Some x

pub some_is : {A : Type 0} (x y : A) → some x ≡ some y → x ≡ y
some_is x y e = cc

-- ---- texts

pub Fit-split : (a b : List Mark) (s : List Lexeme) → Fit (a ++ b) s → (t : List Lexeme) × (u : List Lexeme) × (s ≡ t ++ u) × Fit a t × Fit b u
Fit-split [] b s h = ([], s, refl, tt, h)
Fit-split (m ∷ a) b [] h = absurd h
Fit-split (m ∷ a) b (l ∷ s) h =
    let r = Fit-split a b s h.2 in
    (l ∷ r.0, r.1, ap (λ (w : List Lexeme). l ∷ w) r.2, (h.0, h.1, r.3), r.4)

pub Fit-join : (a b : List Mark) (t u : List Lexeme) → Fit a t → Fit b u → Fit (a ++ b) (t ++ u)
Fit-join [] b [] u h k = k
Fit-join [] b (l ∷ t) u h k = absurd h
Fit-join (m ∷ a) b [] u h k = absurd h
Fit-join (m ∷ a) b (l ∷ t) u h k = (h.0, h.1, Fit-join a b t u h.2 k)

-- ---- first tokens, and tokens that go on

abbrev pub Begins : Bool → (Class → Bool) → List Lexeme → Type 0
Begins true first [] = ⊥
Begins false first [] = Unit {0}
Begins solid first (l ∷ s) = first l.class ≡ true

abbrev pub Stops : (Class → Bool) → List Lexeme → Type 0
Stops stop [] = Unit {0}
Stops stop (l ∷ s) = stop l.class ≡ false

-- braces open after a token, where those of loud classes count
abbrev pub counted : (Class → Bool) → ℕ → Class → ℕ
counted loud d c = cond (loud c) (open_after d c) d

abbrev pub counted_from : (Class → Bool) → ℕ → List Lexeme → ℕ
counted_from loud d [] = d
counted_from loud d (l ∷ s) = counted_from loud (counted loud d l.class) s

-- the tokens leave as many braces open as were, where those of loud classes count
abbrev pub Calm : (Class → Bool) → List Lexeme → Type 0
Calm loud t = (d : ℕ) (r : List Lexeme) → counted_from loud d (t ++ r) ≡ counted_from loud d r

calm_none : (loud : Class → Bool) → Calm loud []
calm_none loud d r = refl

pub counted_quiet : (loud : Class → Bool) (c : Class) (d : ℕ) → loud c ≡ false → counted loud d c ≡ d
counted_quiet loud c d e = rw e refl

calm_one : (loud : Class → Bool) (l : Lexeme) → loud l.class ≡ false → Calm loud (l ∷ [])
calm_one loud l e d r = ap (λ (n : ℕ). counted_from loud n r) (counted_quiet loud l.class d e)

pub Calm-append : (loud : Class → Bool) (t u : List Lexeme) → Calm loud t → Calm loud u → Calm loud (t ++ u)
Calm-append loud t u h k d r = ap (counted_from loud d) (append_assoc t u r) ∙ h d (u ++ r) ∙ k d r

abbrev pub never : Class → Bool
never c = false

-- solid: no text is empty. first: the classes that may begin a text. stop: those that would go on with it.
pub record IsExact {A : Type 0} (loud : Class → Bool) (solid : Bool) (first stop : Class → Bool) (flat : A → List Mark) (read : Reader A) : Type 0 where
  pub begins : (x : A) (text : List Lexeme) → Fit (flat x) text → Begins solid first text
  pub calm : (x : A) (text : List Lexeme) → Fit (flat x) text → Calm loud text
  pub sound : (s : List Lexeme) (x : A) (r : List Lexeme) → read s ≡ Some (x, r) → (text : List Lexeme) × (s ≡ text ++ r) × Fit (flat x) text
  pub complete : (x : A) (text r : List Lexeme) → Fit (flat x) text → Stops stop r → read (text ++ r) ≡ Some (x, r)

token_begins : (w : Expected) (x : ℕ) (text : List Lexeme) → Fit (mark w x ∷ []) text → Begins true (fits w) text
token_begins w x [] h = h
token_begins w x (l ∷ t) h = h.0

pub token_sound : (w : Expected) (s : List Lexeme) (x : ℕ) (r : List Lexeme) → token w s ≡ Some (x, r) → (text : List Lexeme) × (s ≡ text ++ r) × Fit (mark w x ∷ []) text
unfolding token
token_sound w [] x r e = absurd cc
token_sound w (l ∷ s) x r e =
    let g = cond_ok (fits w l.class) (l.at, s) (x, r) e in
    (l ∷ [], ap (λ (p : ℕ × List Lexeme). l ∷ p.1) g.1, (g.0, ap (λ (p : ℕ × List Lexeme). p.0) g.1, tt))

pub token_complete : (w : Expected) (x : ℕ) (text r : List Lexeme) → Fit (mark w x ∷ []) text → token w (text ++ r) ≡ Some (x, r)
unfolding token
token_complete w x [] r h = absurd h
token_complete w x (l ∷ []) r h = rw (h.0, h.1) refl
token_complete w x (l ∷ k ∷ t) r h = absurd h.2

token_calm : (loud : Class → Bool) (w : Expected) (x : ℕ) (text : List Lexeme) → ((c : Class) → fits w c ≡ true → loud c ≡ false) → Fit (mark w x ∷ []) text → Calm loud text
token_calm loud w x [] b h = absurd h
token_calm loud w x (l ∷ []) b h = calm_one loud l (b l.class h.0)
token_calm loud w x (l ∷ k ∷ t) b h = absurd h.2

pub token-exact : (loud : Class → Bool) (w : Expected) → ((c : Class) → fits w c ≡ true → loud c ≡ false) → IsExact loud true (fits w) never (λ i. mark w i ∷ []) (token w)
token-exact loud w b = record {
  begins = token_begins w;
  calm = λ x text h. token_calm loud w x text b h;
  sound = token_sound w;
  complete = λ x text r h k. token_complete w x text r h;
}

-- ---- one after another

-- what follows p: no class that begins q goes on with p, and where q may be empty, neither does what follows q
pub record Follows (solid : Bool) (stop_p first_q stop_q : Class → Bool) : Type 0 where
  pub apart : (c : Class) → first_q c ≡ true → stop_p c ≡ false
  pub past : solid ≡ false → (c : Class) → stop_q c ≡ false → stop_p c ≡ false

pub after_token : (solid : Bool) (first_q stop_q : Class → Bool) → Follows solid never first_q stop_q
after_token solid first_q stop_q = record { apart = λ c e. refl; past = λ s c e. refl }

stops_before : (solid : Bool) (stop_p first_q stop_q : Class → Bool) (text r : List Lexeme) → Follows solid stop_p first_q stop_q → Begins solid first_q text → Stops stop_q r → Stops stop_p (text ++ r)
stops_before true stop_p first_q stop_q [] r f b k = absurd b
stops_before false stop_p first_q stop_q [] [] f b k = tt
stops_before false stop_p first_q stop_q [] (l ∷ r) f b k = f.past refl l.class k
stops_before true stop_p first_q stop_q (l ∷ t) r f b k = f.apart l.class b
stops_before false stop_p first_q stop_q (l ∷ t) r f b k = f.apart l.class b

begins_more : (first : Class → Bool) (t u : List Lexeme) → Begins true first t → Begins true first (t ++ u)
begins_more first [] u h = absurd h
begins_more first (l ∷ t) u h = h

joined : {A : Type 0} (read : Reader A) (text t u r : List Lexeme) (y : Read A) → text ≡ t ++ u → read (t ++ (u ++ r)) ≡ y → read (text ++ r) ≡ y
joined read text t u r y e h = rw (e, append_assoc t u r) h

abbrev Sound : {A : Type 0} → (A → List Mark) → Reader A → Type 0
Sound {A = A} flat read = (s : List Lexeme) (x : A) (r : List Lexeme) → read s ≡ Some (x, r) → (text : List Lexeme) × (s ≡ text ++ r) × Fit (flat x) text

then_sound : {A B : Type 0} (flat_p : A → List Mark) (p : Reader A) (flat_q : B → List Mark) (q : Reader B)
    → Sound flat_p p → Sound flat_q q → Sound (λ (x : A × B). flat_p x.0 ++ flat_q x.1) (p then q)
then_sound {A = A} {B = B} flat_p p flat_q q hp hq s x r e =
    let a = bind_ok (p s) (λ x. option_and_then (λ y. Some ((x.0, y.0), y.1)) (q x.1)) (x, r) e in
    let b = bind_ok (q a.0.1) (λ y. Some ((a.0.0, y.0), y.1)) (x, r) a.2 in
    let t = hp s a.0.0 a.0.1 a.1 in
    let u = hq a.0.1 b.0.0 b.0.1 b.1 in
    let P : (A × B) × List Lexeme → Type 0 = λ y. (text : List Lexeme) × (s ≡ text ++ y.1) × Fit (flat_p y.0.0 ++ flat_q y.0.1) text in
    let whole : P ((a.0.0, b.0.0), b.0.1) = (t.0 ++ u.0, t.1 ∙ ap (λ (w : List Lexeme). t.0 ++ w) u.1 ∙ sym (append_assoc t.0 u.0 b.0.1), Fit-join (flat_p a.0.0) (flat_q b.0.0) t.0 u.0 t.2 u.2) in
    subst P (some_is ((a.0.0, b.0.0), b.0.1) (x, r) b.2) whole

pub then-exact : {A B : Type 0} (loud : Class → Bool) (solid : Bool) (first_p stop_p first_q stop_q : Class → Bool) (flat_p : A → List Mark) (p : Reader A) (flat_q : B → List Mark) (q : Reader B)
    → IsExact loud true first_p stop_p flat_p p → IsExact loud solid first_q stop_q flat_q q → Follows solid stop_p first_q stop_q
    → IsExact loud true first_p stop_q (λ x. flat_p x.0 ++ flat_q x.1) (p then q)
then-exact {A = A} {B = B} loud solid first_p stop_p first_q stop_q flat_p p flat_q q hp hq f = record {
  begins = λ x text h.
      let s = Fit-split (flat_p x.0) (flat_q x.1) text h in
      rw s.2 (begins_more first_p s.0 s.1 (hp.begins x.0 s.0 s.3));
  calm = λ x text h.
      let s = Fit-split (flat_p x.0) (flat_q x.1) text h in
      rw s.2 (Calm-append loud s.0 s.1 (hp.calm x.0 s.0 s.3) (hq.calm x.1 s.1 s.4));
  sound = then_sound flat_p p flat_q q hp.sound hq.sound;
  complete = λ x text r h k.
      let s = Fit-split (flat_p x.0) (flat_q x.1) text h in
      let e : p (text ++ r) ≡ Some (x.0, s.1 ++ r) = joined p text s.0 s.1 r (Some (x.0, s.1 ++ r)) s.2 (hp.complete x.0 s.0 (s.1 ++ r) s.3 (stops_before solid stop_p first_q stop_q s.1 r f (hq.begins x.1 s.1 s.4) k)) in
      rw (e, hq.complete x.1 s.1 r s.4 k) refl;
}

pub made-exact : {A B : Type 0} (loud : Class → Bool) (solid : Bool) (first stop : Class → Bool) (flat : B → List Mark) (f : A → B) (p : Reader A) (back : B → A) → ((b : B) → f (back b) ≡ b)
    → IsExact loud solid first stop (λ x. flat (f x)) p → IsExact loud solid first stop flat (made f p)
made-exact {B = B} loud solid first stop flat f p back law h = record {
  begins = λ b text fit. h.begins (back b) text (rw law fit);
  calm = λ b text fit. h.calm (back b) text (rw law fit);
  sound = λ s x r e.
      let a = bind_ok (p s) (λ x. Some (f x.0, x.1)) (x, r) e in
      let t = h.sound s a.0.0 a.0.1 a.1 in
      let P : B × List Lexeme → Type 0 = λ y. (text : List Lexeme) × (s ≡ text ++ y.1) × Fit (flat y.0) text in
      subst P (some_is (f a.0.0, a.0.1) (x, r) a.2) t;
  complete = λ x text r fit k.
      let e : p (text ++ r) ≡ Some (back x, r) = h.complete (back x) text r (rw law fit) k in
      rw (e, law) refl;
}

-- ---- one way or another

abbrev pub any_of : (Class → Bool) → (Class → Bool) → Class → Bool
any_of f g c = f c || g c

or_left : (a b : Bool) → a ≡ true → (a || b) ≡ true
or_left true b e = refl
or_left false b e = absurd cc

or_right : (a b : Bool) → b ≡ true → (a || b) ≡ true
or_right true b e = refl
or_right false b e = e

or_false : (a b : Bool) → (a || b) ≡ false → (a ≡ false) × (b ≡ false)
or_false true b e = absurd cc
or_false false b e = (refl, e)

stops_left : (f g : Class → Bool) (r : List Lexeme) → Stops (any_of f g) r → Stops f r
stops_left f g [] k = tt
stops_left f g (l ∷ r) k = (or_false (f l.class) (g l.class) k).0

stops_right : (f g : Class → Bool) (r : List Lexeme) → Stops (any_of f g) r → Stops g r
stops_right f g [] k = tt
stops_right f g (l ∷ r) k = (or_false (f l.class) (g l.class) k).1

pub begins_left : (f g : Class → Bool) (t : List Lexeme) → Begins true f t → Begins true (any_of f g) t
begins_left f g [] h = h
begins_left f g (l ∷ t) h = or_left (f l.class) (g l.class) h

pub begins_right : (f g : Class → Bool) (t : List Lexeme) → Begins true g t → Begins true (any_of f g) t
begins_right f g [] h = h
begins_right f g (l ∷ t) h = or_right (f l.class) (g l.class) h

pub starts_yes : (w : Expected) (f : Class → Bool) (t r : List Lexeme) → ((c : Class) → f c ≡ true → fits w c ≡ true) → Begins true f t → starts w (t ++ r) ≡ true
starts_yes w f [] r h b = absurd b
starts_yes w f (l ∷ t) r h b = h l.class b

pub starts_no : (w : Expected) (f : Class → Bool) (t r : List Lexeme) → ((c : Class) → f c ≡ true → fits w c ≡ false) → Begins true f t → starts w (t ++ r) ≡ false
starts_no w f [] r h b = absurd b
starts_no w f (l ∷ t) r h b = h l.class b

-- which of two ways a value is made
pub data IsMade {A B C : Type 0} (left : A → C) (right : B → C) : C → Type 0 where
  Left : (a : A) → IsMade left right (left a)
  Right : (b : B) → IsMade left right (right b)

pub either_cases : {A : Type 0} (b : Bool) (x y z : A) → cond b x y ≡ z → ((b ≡ true) × (x ≡ z)) ⊎ ((b ≡ false) × (y ≡ z))
either_cases true x y z e = inl (refl, e)
either_cases false x y z e = inr (refl, e)

pub either-exact : {A B C : Type 0} (loud : Class → Bool) (w : Expected) (first_p first_q stop_p stop_q : Class → Bool) (flat : C → List Mark)
    (left : A → C) (p : Reader A) (right : B → C) (q : Reader B)
    → ((c : C) → IsMade left right c)
    → IsExact loud true first_p stop_p (λ x. flat (left x)) p → IsExact loud true first_q stop_q (λ x. flat (right x)) q
    → ((c : Class) → first_p c ≡ true → fits w c ≡ true) → ((c : Class) → first_q c ≡ true → fits w c ≡ false)
    → IsExact loud true (any_of first_p first_q) (any_of stop_p stop_q) flat (either w (made left p) (made right q))
either-exact {A = A} {B = B} {C = C} loud w first_p first_q stop_p stop_q flat left p right q is_made hp hq only_p only_q = record {
  begins = λ c text h. either_begins c (is_made c) text h;
  calm = λ c text h. either_calm c (is_made c) text h;
  sound = λ s c r e. either_sound s c r e;
  complete = λ c text r h k. either_complete c (is_made c) text r h k;
} where
  either_begins : (c : C) → IsMade left right c → (text : List Lexeme) → Fit (flat c) text → Begins true (any_of first_p first_q) text
  either_begins c (Left a) text h = begins_left first_p first_q text (hp.begins a text h)
  either_begins c (Right b) text h = begins_right first_p first_q text (hq.begins b text h)

  either_calm : (c : C) → IsMade left right c → (text : List Lexeme) → Fit (flat c) text → Calm loud text
  either_calm c (Left a) text h = hp.calm a text h
  either_calm c (Right b) text h = hq.calm b text h

  made_sound : {X : Type 0} (make : X → C) (o : Reader X) (s : List Lexeme) (c : C) (r : List Lexeme)
      → ((x : X) (r : List Lexeme) → o s ≡ Some (x, r) → (text : List Lexeme) × (s ≡ text ++ r) × Fit (flat (make x)) text)
      → made make o s ≡ Some (c, r) → (text : List Lexeme) × (s ≡ text ++ r) × Fit (flat c) text
  made_sound make o s c r h e =
      let a = bind_ok (o s) (λ x. Some (make x.0, x.1)) (c, r) e in
      let P : C × List Lexeme → Type 0 = λ y. (text : List Lexeme) × (s ≡ text ++ y.1) × Fit (flat y.0) text in
      subst P (some_is (make a.0.0, a.0.1) (c, r) a.2) (h a.0.0 a.0.1 a.1)

  either_sound : (s : List Lexeme) (c : C) (r : List Lexeme) → either w (made left p) (made right q) s ≡ Some (c, r) → (text : List Lexeme) × (s ≡ text ++ r) × Fit (flat c) text
  either_sound s c r e =
      elim (either_cases (starts w s) (made left p s) (made right q s) (Some (c, r)) e) [
        | inl h ↦ made_sound left p s c r (λ x r. hp.sound s x r) h.1
        | inr h ↦ made_sound right q s c r (λ x r. hq.sound s x r) h.1
      ]

  either_complete : (c : C) → IsMade left right c → (text r : List Lexeme) → Fit (flat c) text → Stops (any_of stop_p stop_q) r → either w (made left p) (made right q) (text ++ r) ≡ Some (c, r)
  either_complete c (Left a) text r h k = rw (starts_yes w first_p text r only_p (hp.begins a text h), hp.complete a text r h (stops_left stop_p stop_q r k)) refl
  either_complete c (Right b) text r h k = rw (starts_no w first_q text r only_q (hq.begins b text h), hq.complete b text r h (stops_right stop_p stop_q r k)) refl

-- ---- a part that may be empty, and then one that isn't

stops_weak : (stop_p first_q : Class → Bool) (text r : List Lexeme) → ((c : Class) → first_q c ≡ true → stop_p c ≡ false) → Begins true first_q text → Stops stop_p (text ++ r)
stops_weak stop_p first_q [] r f b = absurd b
stops_weak stop_p first_q (l ∷ t) r f b = f l.class b

begins_weak : (first_p first_q : Class → Bool) (t u : List Lexeme) → Begins false first_p t → Begins true first_q u → Begins true (any_of first_p first_q) (t ++ u)
begins_weak first_p first_q [] u h k = begins_right first_p first_q u k
begins_weak first_p first_q (l ∷ t) u h k = or_left (first_p l.class) (first_q l.class) h

pub weak-then-exact : {A B : Type 0} (loud : Class → Bool) (first_p stop_p first_q stop_q : Class → Bool) (flat_p : A → List Mark) (p : Reader A) (flat_q : B → List Mark) (q : Reader B)
    → IsExact loud false first_p stop_p flat_p p → IsExact loud true first_q stop_q flat_q q → ((c : Class) → first_q c ≡ true → stop_p c ≡ false)
    → IsExact loud true (any_of first_p first_q) stop_q (λ x. flat_p x.0 ++ flat_q x.1) (p then q)
weak-then-exact {A = A} {B = B} loud first_p stop_p first_q stop_q flat_p p flat_q q hp hq f = record {
  begins = λ x text h.
      let s = Fit-split (flat_p x.0) (flat_q x.1) text h in
      rw s.2 (begins_weak first_p first_q s.0 s.1 (hp.begins x.0 s.0 s.3) (hq.begins x.1 s.1 s.4));
  calm = λ x text h.
      let s = Fit-split (flat_p x.0) (flat_q x.1) text h in
      rw s.2 (Calm-append loud s.0 s.1 (hp.calm x.0 s.0 s.3) (hq.calm x.1 s.1 s.4));
  sound = then_sound flat_p p flat_q q hp.sound hq.sound;
  complete = λ x text r h k.
      let s = Fit-split (flat_p x.0) (flat_q x.1) text h in
      let e : p (text ++ r) ≡ Some (x.0, s.1 ++ r) = joined p text s.0 s.1 r (Some (x.0, s.1 ++ r)) s.2 (hp.complete x.0 s.0 (s.1 ++ r) s.3 (stops_weak stop_p first_q s.1 r f (hq.begins x.1 s.1 s.4))) in
      rw (e, hq.complete x.1 s.1 r s.4 k) refl;
}

-- ---- a part that may be left out

begins_if : (first : Class → Bool) (t : List Lexeme) → Begins true first t → Begins false first t
begins_if first [] h = tt
begins_if first (l ∷ t) h = h

starts_stopped : (w : Expected) (r : List Lexeme) → Stops (fits w) r → starts w r ≡ false
starts_stopped w [] k = refl
starts_stopped w (l ∷ r) k = k

pub no_text : (text : List Lexeme) → Fit [] text → [] ≡ text
no_text [] h = refl
no_text (l ∷ t) h = absurd h

pub maybe-exact : {A : Type 0} (loud : Class → Bool) (w : Expected) (first stop : Class → Bool) (flat : A → List Mark) (p : Reader A)
    → IsExact loud true first stop flat p → ((c : Class) → first c ≡ true → fits w c ≡ true)
    → IsExact loud false first (any_of (fits w) stop) (flat_option flat) (maybe w p)
maybe-exact {A = A} loud w first stop flat p h only = record { begins = maybe_begins; calm = maybe_calm; sound = maybe_sound; complete = maybe_complete } where
  maybe_begins : (o : Option A) (text : List Lexeme) → Fit (flat_option flat o) text → Begins false first text
  maybe_begins None text fit = subst (λ t. Begins false first t) (no_text text fit) tt
  maybe_begins (Some x) text fit = begins_if first text (h.begins x text fit)

  maybe_calm : (o : Option A) (text : List Lexeme) → Fit (flat_option flat o) text → Calm loud text
  maybe_calm None text fit = subst (λ t. Calm loud t) (no_text text fit) (calm_none loud)
  maybe_calm (Some x) text fit = h.calm x text fit

  maybe_sound : (s : List Lexeme) (o : Option A) (r : List Lexeme) → maybe w p s ≡ Some (o, r) → (text : List Lexeme) × (s ≡ text ++ r) × Fit (flat_option flat o) text
  maybe_sound s o r e =
      let P : Option A × List Lexeme → Type 0 = λ y. (text : List Lexeme) × (s ≡ text ++ y.1) × Fit (flat_option flat y.0) text in
      elim (either_cases (starts w s) (made Some p s) (Some (None, s)) (Some (o, r)) e) [
        | inl g ↦
            let a = bind_ok (p s) (λ x. Some (Some x.0, x.1)) (o, r) g.1 in
            subst P (some_is (Some a.0.0, a.0.1) (o, r) a.2) (h.sound s a.0.0 a.0.1 a.1)
        | inr g ↦ subst P (some_is (None, s) (o, r) g.1) ([], refl, tt)
      ]

  maybe_complete : (o : Option A) (text r : List Lexeme) → Fit (flat_option flat o) text → Stops (any_of (fits w) stop) r → maybe w p (text ++ r) ≡ Some (o, r)
  maybe_complete None text r fit k = subst (λ t. maybe w p (t ++ r) ≡ Some (None, r)) (no_text text fit) (rw (starts_stopped w r (stops_left (fits w) stop r k)) refl)
  maybe_complete (Some x) text r fit k = rw (starts_yes w first text r only (h.begins x text fit), h.complete x text r fit (stops_right (fits w) stop r k)) refl

-- ---- any number of times

pub solid_long : (first : Class → Bool) (t : List Lexeme) → Begins true first t → 1 ≤ length t
solid_long first [] h = absurd h
solid_long first (l ∷ t) h = omega arith

module _ {A : Type 0} (loud : Class → Bool) (w : Expected) (first stop : Class → Bool) (flat : A → List Mark) (p : Reader A) (h : IsExact loud true first stop flat p) (only : (c : Class) → first c ≡ true → fits w c ≡ true) (apart : (c : Class) → first c ≡ true → stop c ≡ false) where
  all_begins : (xs : List A) (text : List Lexeme) → Fit (flat_all flat xs) text → Begins false first text
  all_begins [] text fit = subst (λ t. Begins false first t) (no_text text fit) tt
  all_begins (x ∷ xs) text fit =
      let s = Fit-split (flat x) (flat_all flat xs) text fit in
      rw s.2 (begins_if first (s.0 ++ s.1) (begins_more first s.0 s.1 (h.begins x s.0 s.3)))

  all_calm : (xs : List A) (text : List Lexeme) → Fit (flat_all flat xs) text → Calm loud text
  all_calm [] text fit = subst (λ t. Calm loud t) (no_text text fit) (calm_none loud)
  all_calm (x ∷ xs) text fit =
      let s = Fit-split (flat x) (flat_all flat xs) text fit in
      rw s.2 (Calm-append loud s.0 s.1 (h.calm x s.0 s.3) (all_calm xs s.1 s.4))

  up_to_sound : (n : ℕ) (s : List Lexeme) (xs : List A) (r : List Lexeme) → up_to n w p s ≡ Some (xs, r) → (text : List Lexeme) × (s ≡ text ++ r) × Fit (flat_all flat xs) text
  up_to_sound zero s xs r e =
      let P : List A × List Lexeme → Type 0 = λ y. (text : List Lexeme) × (s ≡ text ++ y.1) × Fit (flat_all flat y.0) text in
      subst P (some_is ([], s) (xs, r) e) ([], refl, tt)
  up_to_sound (suc n) s xs r e =
      let P : List A × List Lexeme → Type 0 = λ y. (text : List Lexeme) × (s ≡ text ++ y.1) × Fit (flat_all flat y.0) text in
      elim (either_cases (starts w s) (option_and_then (λ x. option_and_then (λ y. Some (x.0 ∷ y.0, y.1)) (up_to n w p x.1)) (p s)) (Some ([], s)) (Some (xs, r)) e) [
        | inl g ↦
            let a = bind_ok (p s) (λ x. option_and_then (λ y. Some (x.0 ∷ y.0, y.1)) (up_to n w p x.1)) (xs, r) g.1 in
            let b = bind_ok (up_to n w p a.0.1) (λ y. Some (a.0.0 ∷ y.0, y.1)) (xs, r) a.2 in
            let t = h.sound s a.0.0 a.0.1 a.1 in
            let u = up_to_sound n a.0.1 b.0.0 b.0.1 b.1 in
            subst P (some_is (a.0.0 ∷ b.0.0, b.0.1) (xs, r) b.2) (t.0 ++ u.0, t.1 ∙ ap (λ (v : List Lexeme). t.0 ++ v) u.1 ∙ sym (append_assoc t.0 u.0 b.0.1), Fit-join (flat a.0.0) (flat_all flat b.0.0) t.0 u.0 t.2 u.2)
        | inr g ↦ subst P (some_is ([], s) (xs, r) g.1) ([], refl, tt)
      ]

  stops_all : (xs : List A) (text r : List Lexeme) → Fit (flat_all flat xs) text → Stops (any_of (fits w) stop) r → Stops stop (text ++ r)
  stops_all [] text r fit k = subst (λ t. Stops stop (t ++ r)) (no_text text fit) (stops_right (fits w) stop r k)
  stops_all (x ∷ xs) text r fit k =
      let s = Fit-split (flat x) (flat_all flat xs) text fit in
      stops_weak stop first text r apart (rw s.2 (begins_more first s.0 s.1 (h.begins x s.0 s.3)))

  up_to_complete : (n : ℕ) (xs : List A) (text r : List Lexeme) → length text ≤ n → Fit (flat_all flat xs) text → Stops (any_of (fits w) stop) r → up_to n w p (text ++ r) ≡ Some (xs, r)
  up_to_complete zero [] text r le fit k = subst (λ t. up_to zero w p (t ++ r) ≡ Some ([], r)) (no_text text fit) refl
  up_to_complete (suc n) [] text r le fit k = subst (λ t. up_to (suc n) w p (t ++ r) ≡ Some ([], r)) (no_text text fit) (rw (starts_stopped w r (stops_left (fits w) stop r k)) refl)
  up_to_complete zero (x ∷ xs) text r le fit k =
      let s = Fit-split (flat x) (flat_all flat xs) text fit in
      absurd (omega (arith, le, solid_long first s.0 (h.begins x s.0 s.3), length-append s.0 s.1, ap length s.2))
  up_to_complete (suc n) (x ∷ xs) text r le fit k =
      let s = Fit-split (flat x) (flat_all flat xs) text fit in
      let shorter : length s.1 ≤ n = omega (arith, le, solid_long first s.0 (h.begins x s.0 s.3), length-append s.0 s.1, ap length s.2) in
      let e : p (text ++ r) ≡ Some (x, s.1 ++ r) = joined p text s.0 s.1 r (Some (x, s.1 ++ r)) s.2 (h.complete x s.0 (s.1 ++ r) s.3 (stops_all xs s.1 r s.4 k)) in
      rw (starts_yes w first text r only (rw s.2 (begins_more first s.0 s.1 (h.begins x s.0 s.3))), e, up_to_complete n xs s.1 r shorter s.4 k) refl

  pub many-exact : IsExact loud false first (any_of (fits w) stop) (flat_all flat) (many w p)
  unfolding many
  many-exact = record {
    begins = all_begins;
    calm = all_calm;
    sound = λ s xs r e. up_to_sound (length s) s xs r e;
    complete = λ xs text r fit k. up_to_complete (length (text ++ r)) xs text r (omega (arith, length-append text r)) fit k;
  }

-- ---- the same, with what a test of every class shows

not_both : (a b : Bool) → not (a && b) ≡ true → a ≡ true → b ≡ false
not_both true true e h = absurd cc
not_both true false e h = refl
not_both false b e h = absurd cc

not_only : (a b : Bool) → not (a && not b) ≡ true → b ≡ false → a ≡ false
not_only true true e h = absurd cc
not_only true false e h = absurd cc
not_only false b e h = refl

or_else : (a b : Bool) → (a || b) ≡ true → a ≡ false → b ≡ true
or_else true b e h = absurd cc
or_else false b e h = e

-- no class of the one is of the other
abbrev pub apart : (Class → Bool) → (Class → Bool) → Bool
apart f g = each (λ c. not (f c && g c))

-- each class of the one is of the other
abbrev pub within : (Class → Bool) → (Class → Bool) → Bool
within f g = each (λ c. not (f c && not (g c)))

pub apart_is : (f g : Class → Bool) → apart f g ≡ true → (c : Class) → f c ≡ true → g c ≡ false
apart_is f g e c h = not_both (f c) (g c) (each_is (λ c. not (f c && g c)) e c) h

double : (a b : Bool) → not (a && not b) ≡ true → a ≡ true → b ≡ true
double true true e h = refl
double true false e h = absurd cc
double false b e h = absurd cc

pub within_is : (f g : Class → Bool) → within f g ≡ true → (c : Class) → f c ≡ true → g c ≡ true
within_is f g e c h = double (f c) (g c) (each_is (λ c. not (f c && not (g c))) e c) h

within_not : (f g : Class → Bool) → within f g ≡ true → (c : Class) → g c ≡ false → f c ≡ false
within_not f g e c h = not_only (f c) (g c) (each_is (λ c. not (f c && not (g c))) e c) h

abbrev pub clear : Bool → (Class → Bool) → (Class → Bool) → (Class → Bool) → Bool
clear solid stop_p first_q stop_q = apart first_q stop_p && (solid || within stop_p stop_q)

pub next : {A B : Type 0} {loud : Class → Bool} {solid : Bool} {first_p stop_p first_q stop_q : Class → Bool} {flat_p : A → List Mark} {p : Reader A} {flat_q : B → List Mark} {q : Reader B}
    → IsExact loud true first_p stop_p flat_p p → IsExact loud solid first_q stop_q flat_q q → clear solid stop_p first_q stop_q ≡ true
    → IsExact loud true first_p stop_q (λ x. flat_p x.0 ++ flat_q x.1) (p then q)
next {loud = loud} {solid = solid} {first_p = first_p} {stop_p = stop_p} {first_q = first_q} {stop_q = stop_q} {flat_p = flat_p} {p = p} {flat_q = flat_q} {q = q} hp hq e =
    then-exact loud solid first_p stop_p first_q stop_q flat_p p flat_q q hp hq (record {
      apart = apart_is first_q stop_p (and_left (apart first_q stop_p) (solid || within stop_p stop_q) e);
      past = λ s. within_not stop_p stop_q (or_else solid (within stop_p stop_q) (and_right (apart first_q stop_p) (solid || within stop_p stop_q) e) s);
    })

-- p may be empty, and q isn't
pub or_next : {A B : Type 0} {loud : Class → Bool} {first_p stop_p first_q stop_q : Class → Bool} {flat_p : A → List Mark} {p : Reader A} {flat_q : B → List Mark} {q : Reader B}
    → IsExact loud false first_p stop_p flat_p p → IsExact loud true first_q stop_q flat_q q → apart first_q stop_p ≡ true
    → IsExact loud true (any_of first_p first_q) stop_q (λ x. flat_p x.0 ++ flat_q x.1) (p then q)
or_next {loud = loud} {first_p = first_p} {stop_p = stop_p} {first_q = first_q} {stop_q = stop_q} {flat_p = flat_p} {p = p} {flat_q = flat_q} {q = q} hp hq e =
    weak-then-exact loud first_p stop_p first_q stop_q flat_p p flat_q q hp hq (apart_is first_q stop_p e)

pub renamed : {A B : Type 0} {loud : Class → Bool} {solid : Bool} {first stop : Class → Bool} {p : Reader A} (flat : B → List Mark) (f : A → B) (back : B → A) → ((b : B) → f (back b) ≡ b)
    → IsExact loud solid first stop (λ x. flat (f x)) p → IsExact loud solid first stop flat (made f p)
renamed {loud = loud} {solid = solid} {first = first} {stop = stop} {p = p} flat f back law h = made-exact loud solid first stop flat f p back law h

pub one_of : {A B C : Type 0} {loud : Class → Bool} (w : Expected) {first_p first_q stop_p stop_q : Class → Bool} (flat : C → List Mark)
    (left : A → C) {p : Reader A} (right : B → C) {q : Reader B}
    → ((c : C) → IsMade left right c)
    → IsExact loud true first_p stop_p (λ x. flat (left x)) p → IsExact loud true first_q stop_q (λ x. flat (right x)) q
    → within first_p (fits w) ≡ true → apart first_q (fits w) ≡ true
    → IsExact loud true (any_of first_p first_q) (any_of stop_p stop_q) flat (either w (made left p) (made right q))
one_of {loud = loud} w {first_p = first_p} {first_q = first_q} {stop_p = stop_p} {stop_q = stop_q} flat left {p = p} right {q = q} is_made hp hq a b =
    either-exact loud w first_p first_q stop_p stop_q flat left p right q is_made hp hq (within_is first_p (fits w) a) (apart_is first_q (fits w) b)

pub if_any : {A : Type 0} {loud : Class → Bool} (w : Expected) {first stop : Class → Bool} {flat : A → List Mark} {p : Reader A}
    → IsExact loud true first stop flat p → within first (fits w) ≡ true → IsExact loud false first (any_of (fits w) stop) (flat_option flat) (maybe w p)
if_any {loud = loud} w {first = first} {stop = stop} {flat = flat} {p = p} h a = maybe-exact loud w first stop flat p h (within_is first (fits w) a)

pub all : {A : Type 0} {loud : Class → Bool} (w : Expected) {first stop : Class → Bool} {flat : A → List Mark} {p : Reader A}
    → IsExact loud true first stop flat p → within first (fits w) ≡ true → apart first stop ≡ true → IsExact loud false first (any_of (fits w) stop) (flat_all flat) (many w p)
all {loud = loud} w {first = first} {stop = stop} {flat = flat} {p = p} h a b = many-exact loud w first stop flat p h (within_is first (fits w) a) (apart_is first stop b)

pub tok : {loud : Class → Bool} (w : Expected) → apart (fits w) loud ≡ true → IsExact loud true (fits w) never (λ i. mark w i ∷ []) (token w)
tok {loud = loud} w e = token-exact loud w (apart_is (fits w) loud e)

-- a token and what follows it
pub token_then : {A B : Type 0} {loud : Class → Bool} {solid : Bool} {first_p first_q stop_q : Class → Bool} {flat_p : A → List Mark} {p : Reader A} {flat_q : B → List Mark} {q : Reader B}
    → IsExact loud true first_p never flat_p p → IsExact loud solid first_q stop_q flat_q q → IsExact loud true first_p stop_q (λ x. flat_p x.0 ++ flat_q x.1) (p then q)
token_then {loud = loud} {solid = solid} {first_p = first_p} {first_q = first_q} {stop_q = stop_q} {flat_p = flat_p} {p = p} {flat_q = flat_q} {q = q} hp hq =
    then-exact loud solid first_p never first_q stop_q flat_p p flat_q q hp hq (after_token solid first_q stop_q)

-- no class is loud
calm_never : (t : List Lexeme) → Calm never t
calm_never [] d r = refl
calm_never (l ∷ t) d r = calm_never t d r

pub hushed : {A : Type 0} {loud : Class → Bool} {solid : Bool} {first stop : Class → Bool} {flat : A → List Mark} {p : Reader A} → IsExact loud solid first stop flat p → IsExact never solid first stop flat p
hushed h = record { begins = h.begins; calm = λ x text fit. calm_never text; sound = h.sound; complete = h.complete }

-- ---- items with separators between them

module _ {A : Type 0} {loud : Class → Bool} (c : Class) {first stop first_q stop_q : Class → Bool} {flat_p flat_q : A → List Mark} {p q : Reader A}
    (e : apart (fits (want.One c)) loud ≡ true) (hp : IsExact loud true first stop flat_p p) (hq : IsExact loud true first_q stop_q flat_q q) (a : apart (fits (want.One c)) stop_q ≡ true) where
  behind-exact : IsExact loud true (fits (want.One c)) stop_q (flat_behind c flat_q) (behind_at c q)
  unfolding behind_at
  behind-exact = renamed (flat_behind c flat_q) (λ x. record { separator = x.0; item = x.1 }) (λ b. (b.separator, b.item)) (λ b. refl) (token_then (tok (want.One c) e) hq)

  pub from-exact : Follows false stop (fits (want.One c)) (any_of (fits (want.One c)) stop_q) → IsExact loud true first (any_of (fits (want.One c)) stop_q) (flat_from c flat_p flat_q) (from_at c p q)
  unfolding from_at
  from-exact f = renamed (flat_from c flat_p flat_q) (λ x. record { first = x.0; rest = x.1 }) (λ s. (s.first, s.rest)) (λ s. refl)
      (then-exact loud false first stop (fits (want.One c)) (any_of (fits (want.One c)) stop_q) flat_p p (flat_all (flat_behind c flat_q)) (many (want.One c) (behind_at c q)) hp
      (many-exact loud (want.One c) (fits (want.One c)) stop_q (flat_behind c flat_q) (behind_at c q) behind-exact (λ x h. h) (apart_is (fits (want.One c)) stop_q a)) f)

pub separated-exact : {A : Type 0} {loud : Class → Bool} (c : Class) {first stop : Class → Bool} {flat : A → List Mark} {p : Reader A} → apart (fits (want.One c)) loud ≡ true → apart (fits (want.One c)) stop ≡ true
    → IsExact loud true first stop flat p → IsExact loud true first (any_of (fits (want.One c)) stop) (flat_separated c flat) (separated_at c p)
separated-exact c {stop = stop} e a h = from-exact c e h h a (record { apart = apart_is (fits (want.One c)) stop a; past = λ s x k. (or_false (fits (want.One c) x) (stop x) k).1 })

-- ---- one of three ways

abbrev give : {A B : Type 0} → (A → B) → Read A → Read B
give {B = B} f o = let one : B × List Lexeme → Read B = λ y. Some y in option_and_then (λ x. one (f x.0, x.1)) o

either_made : {X A B C : Type 0} (f : X → C) (left : A → X) (right : B → X) (b : Bool) (o : Read A) (o' : Read B)
    → give f (cond b (give left o) (give right o')) ≡ cond b (give (λ x. f (left x)) o) (give (λ x. f (right x)) o')
either_made f left right true (Some x) o' = refl
either_made f left right true None o' = refl
either_made f left right false o (Some x) = refl
either_made f left right false o None = refl

pub made_either : {X A B C : Type 0} (f : X → C) (left : A → X) (right : B → X) (w : Expected) (p : Reader A) (q : Reader B) → made f (either w (made left p) (made right q)) ≡ either w (made (λ x. f (left x)) p) (made (λ x. f (right x)) q)
made_either f left right w p q = λ i s. either_made f left right (starts w s) (p s) (q s) i
