-- What the deletion of a field leaves of the flaws of its message: no flaw where there was none (for the crates above).
use Rattle.std.proofs.Common.{◌≡◌, ℕ, ℤ, int_le, Bool, true, false, not, ◌&&◌, List, [], ◌∷◌, ◌++◌, length, map, flat_map, refl, sym, ◌∙◌, ap, subst, inl, inr, if◌then◌else◌, arith, pos, int_eq, bytes_eq}
use Rattle.proto_base.proofs.Common.{list_any, cases_Bool, and_parts, Decides-int_eq, int_eq_equiv, nat_list_eq_equiv, map-append, list_any-append, list_any_none, any_agree, any_map}
use Rattle.proto_base.specs.declared.fault.FaultKind.{FaultKind}
use Rattle.proto_base.specs.declared.fault.FaultKind.TheVariants as kind
use Rattle.proto_ast.proofs.Common.{is_one_of, FieldOf, text, value, json_name_of}
use Rattle.proto_desc_numbers.specs.declared.flaw.Flaw.{Flaw}
use Rattle.proto_desc_numbers.specs.declared.numbers.NumberAt.{NumberAt}
use Rattle.proto_ast.specs.declared.ranges.RangeAt.{RangeAt}
use Rattle.proto_desc_checks_laws.specs.Deleted.{range_of_one, DeletionsKeepJsonNames, DeletionsKeepNames, DeletionsKeepNumbers}
use Rattle.proto_desc_numbers.proofs.Common.{field_number_flaws, broken_ranges, is_field_number, is_inside, is_sound_range, is_within, most_field, outside, overlaps, repeated_numbers, reserved_numbers, share, after_earlier, earlier, flaw_if, marked, le_both, le_itself, false_or, length_of_map, or_false, repeats_length}
use Rattle.proto_desc_checks.specs.FileFlaws.{reserved_again, with_reserved_name}
use Rattle.proto_desc_numbers.proofs.IndexLemmas.{alone_inside}

-- ---- no element passes a test

none_by : {A : Type 0} (p q : A → Bool) (xs : List A) → ((x : A) → p x ≡ false → q x ≡ false) → list_any p xs ≡ false → list_any q xs ≡ false
none_by p q [] h a = refl
none_by p q (x ∷ xs) h a =
    let s = or_false (p x) (list_any p xs) a in
    false_or (q x) (list_any q xs) (h x s.0) (none_by p q xs h s.1)

none_by_both : {A : Type 0} (p q r : A → Bool) (xs : List A) → ((x : A) → p x ≡ false → q x ≡ false → r x ≡ false)
    → list_any p xs ≡ false → list_any q xs ≡ false → list_any r xs ≡ false
none_by_both p q r [] h a b = refl
none_by_both p q r (x ∷ xs) h a b =
    let s = or_false (p x) (list_any p xs) a in
    let t = or_false (q x) (list_any q xs) b in
    false_or (r x) (list_any r xs) (h x s.0 t.0) (none_by_both p q r xs h s.1 t.1)

none_apart : {A : Type 0} (p : A → Bool) (xs ys : List A) → list_any p (xs ++ ys) ≡ false → (list_any p xs ≡ false) × (list_any p ys ≡ false)
none_apart p xs ys h = or_false (list_any p xs) (list_any p ys) (sym (list_any-append p xs ys) ∙ h)

none_joined : {A : Type 0} (p : A → Bool) (xs ys : List A) → list_any p xs ≡ false → list_any p ys ≡ false → list_any p (xs ++ ys) ≡ false
none_joined p xs ys h k = list_any-append p xs ys ∙ false_or (list_any p xs) (list_any p ys) h k

-- an element taken out, and one put in
none_without : {A : Type 0} (p : A → Bool) (xs : List A) (y : A) (ys : List A) → list_any p (xs ++ y ∷ ys) ≡ false → (list_any p (xs ++ ys) ≡ false) × (p y ≡ false)
none_without p xs y ys h =
    let s = none_apart p xs (y ∷ ys) h in
    let t = or_false (p y) (list_any p ys) s.1 in
    (none_joined p xs ys s.0 t.1, t.0)

none_with : {A : Type 0} (p : A → Bool) (xs : List A) (y : A) (ys : List A) → list_any p (xs ++ ys) ≡ false → p y ≡ false → list_any p (xs ++ y ∷ ys) ≡ false
none_with p xs y ys h e =
    let s = none_apart p xs ys h in
    none_joined p xs (y ∷ ys) s.0 (false_or (p y) (list_any p ys) e s.1)

-- ---- no element is so with a later one

abbrev Apart : {K : Type 0} → (K → K → Bool) → List K → Type 0
Apart so [] = Unit {0}
Apart so (k ∷ ks) = (list_any (so k) ks ≡ false) × Apart so ks

-- whether the element is so with one of these
abbrev meets : {K : Type 0} → (K → K → Bool) → List K → K → Bool
meets so before k = list_any (λ p. so p k) before

apart_without : {K : Type 0} (so : K → K → Bool) (xs : List K) (y : K) (ys : List K) → Apart so (xs ++ y ∷ ys) → Apart so (xs ++ ys) × (list_any (so y) ys ≡ false) × (meets so xs y ≡ false)
apart_without so [] y ys h = (h.1, h.0, refl)
apart_without so (x ∷ xs) y ys h =
    let s = none_without (so x) xs y ys h.0 in
    let rest = apart_without so xs y ys h.1 in
    ((s.0, rest.0), rest.1, false_or (so x y) (meets so xs y) s.1 rest.2)

apart_with : {K : Type 0} (so : K → K → Bool) (xs : List K) (y : K) (ys : List K) → Apart so (xs ++ ys) → list_any (so y) ys ≡ false → meets so xs y ≡ false → Apart so (xs ++ y ∷ ys)
apart_with so [] y ys h later before = (later, h)
apart_with so (x ∷ xs) y ys h later before =
    let b = or_false (so x y) (meets so xs y) before in
    (none_with (so x) xs y ys h.0 b.0, apart_with so xs y ys h.1 later b.1)

-- one more is among those before: the elements behind it are so with none of these, and not with it
meets_more : {K : Type 0} (so : K → K → Bool) (before : List K) (k : K) (ks : List K) → list_any (meets so before) ks ≡ false → list_any (so k) ks ≡ false → list_any (meets so (before ++ k ∷ [])) ks ≡ false
meets_more so before k ks h e =
    none_by_both (meets so before) (so k) (meets so (before ++ k ∷ [])) ks
    (λ x f g. none_joined (λ p. so p x) before (k ∷ []) f (false_or (so k x) false g refl)) h e

meets_less : {K : Type 0} (so : K → K → Bool) (before : List K) (k : K) (ks : List K) → list_any (meets so (before ++ k ∷ [])) ks ≡ false → (list_any (meets so before) ks ≡ false) × (list_any (so k) ks ≡ false)
meets_less so before k ks h = (
  none_by (meets so (before ++ k ∷ [])) (meets so before) ks (λ x e. (none_apart (λ p. so p x) before (k ∷ []) e).0) h,
  none_by (meets so (before ++ k ∷ [])) (so k) ks (λ x e. (or_false (so k x) false (none_apart (λ p. so p x) before (k ∷ []) e).1).0) h,
)

-- the flags of what is so with an earlier one say the same
apart_from_flags : {K : Type 0} (so : K → K → Bool) (before ks : List K) → list_any (λ b. b) (earlier so before ks) ≡ false → (list_any (meets so before) ks ≡ false) × Apart so ks
apart_from_flags so before [] h = (refl, tt)
apart_from_flags so before (k ∷ ks) h =
    let s = or_false (meets so before k) (list_any (λ b. b) (earlier so (before ++ k ∷ []) ks)) h in
    let rest = apart_from_flags so (before ++ k ∷ []) ks s.1 in
    let less = meets_less so before k ks rest.0 in
    (false_or (meets so before k) (list_any (meets so before) ks) s.0 less.0, (less.1, rest.1))

flags_from_apart : {K : Type 0} (so : K → K → Bool) (before ks : List K) → list_any (meets so before) ks ≡ false → Apart so ks → list_any (λ b. b) (earlier so before ks) ≡ false
flags_from_apart so before [] m h = refl
flags_from_apart so before (k ∷ ks) m h =
    let s = or_false (meets so before k) (list_any (meets so before) ks) m in
    false_or (meets so before k) (list_any (λ b. b) (earlier so (before ++ k ∷ []) ks)) s.0
    (flags_from_apart so (before ++ k ∷ []) ks (meets_more so before k ks s.1 h.0) h.1)

meets_nothing : {K : Type 0} (so : K → K → Bool) (ks : List K) → list_any (meets so []) ks ≡ false
meets_nothing so [] = refl
meets_nothing so (k ∷ ks) = meets_nothing so ks

-- ---- no flaws

pub nil_parts : {A : Type 0} (xs ys : List A) → xs ++ ys ≡ [] → (xs ≡ []) × (ys ≡ [])
nil_parts [] ys h = (refl, h)
nil_parts (x ∷ xs) ys h = absurd (cc)

pub nil_joined : {A : Type 0} (xs ys : List A) → xs ≡ [] → ys ≡ [] → xs ++ ys ≡ []
nil_joined [] ys h k = k
nil_joined (x ∷ xs) ys h k = absurd (cc)

none_from_flaws : {A : Type 0} (p : A → Bool) (k : FaultKind) (token : A → ℕ) (xs : List A) → flat_map (λ x. flaw_if (p x) k (token x)) xs ≡ [] → list_any p xs ≡ false
none_from_flaws p k token [] h = refl
none_from_flaws p k token (x ∷ xs) h =
    let s = nil_parts (flaw_if (p x) k (token x)) (flat_map (λ y. flaw_if (p y) k (token y)) xs) h in
    false_or (p x) (list_any p xs) (one (p x) (token x) s.0) (none_from_flaws p k token xs s.1)
  where
    one : (b : Bool) (t : ℕ) → flaw_if b k t ≡ [] → b ≡ false
    one true t e = absurd (cc)
    one false t e = refl

flaws_from_none : {A : Type 0} (p : A → Bool) (k : FaultKind) (token : A → ℕ) (xs : List A) → list_any p xs ≡ false → flat_map (λ x. flaw_if (p x) k (token x)) xs ≡ []
flaws_from_none p k token [] h = refl
flaws_from_none p k token (x ∷ xs) h =
    let s = or_false (p x) (list_any p xs) h in
    nil_joined (flaw_if (p x) k (token x)) (flat_map (λ y. flaw_if (p y) k (token y)) xs) (ap (λ b. flaw_if b k (token x)) s.0) (flaws_from_none p k token xs s.1)

flags_from_marks : (k : FaultKind) (ts : List ℕ) (bs : List Bool) → length ts ≡ length bs → marked k ts bs ≡ [] → list_any (λ b. b) bs ≡ false
flags_from_marks k [] [] e h = refl
flags_from_marks k [] (b ∷ bs) e h = absurd (omega (arith, e))
flags_from_marks k (t ∷ ts) [] e h = refl
flags_from_marks k (t ∷ ts) (true ∷ bs) e h = absurd (cc)
flags_from_marks k (t ∷ ts) (false ∷ bs) e h = flags_from_marks k ts bs (omega (arith, e)) h

marks_from_flags : (k : FaultKind) (ts : List ℕ) (bs : List Bool) → list_any (λ b. b) bs ≡ false → marked k ts bs ≡ []
marks_from_flags k [] bs h = refl
marks_from_flags k (t ∷ ts) [] h = refl
marks_from_flags k (t ∷ ts) (true ∷ bs) h = absurd (cc)
marks_from_flags k (t ∷ ts) (false ∷ bs) h = marks_from_flags k ts bs h

apart_from_marks : {K : Type 0} (so : K → K → Bool) (k : FaultKind) (ts : List ℕ) (keys : List K) → length ts ≡ length keys → marked k ts (after_earlier so keys) ≡ [] → Apart so keys
apart_from_marks so k ts keys e h = (apart_from_flags so [] keys (flags_from_marks k ts (earlier so [] keys) (e ∙ sym (repeats_length so [] keys)) h)).1

marks_from_apart : {K : Type 0} (so : K → K → Bool) (k : FaultKind) (ts : List ℕ) (keys : List K) → Apart so keys → marked k ts (after_earlier so keys) ≡ []
marks_from_apart so k ts keys h = marks_from_flags k ts (earlier so [] keys) (flags_from_apart so [] keys (meets_nothing so keys) h)

-- the same of the keys of elements
apart_keys_without : {A K : Type 0} (so : K → K → Bool) (key : A → K) (xs : List A) (y : A) (ys : List A) → Apart so (map key (xs ++ y ∷ ys))
    → Apart so (map key (xs ++ ys)) × (list_any (λ x. so (key y) (key x)) ys ≡ false) × (list_any (λ x. so (key x) (key y)) xs ≡ false)
apart_keys_without so key xs y ys h =
    let s = apart_without so (map key xs) (key y) (map key ys) (subst (Apart so) (map-append key xs (y ∷ ys)) h) in (
      subst (Apart so) (sym (map-append key xs ys)) s.0,
      sym (any_map (so (key y)) key ys) ∙ s.1,
      sym (any_map (λ p. so p (key y)) key xs) ∙ s.2,
    )

as_many : {A B C : Type 0} (f : A → B) (g : A → C) (xs : List A) → length (map f xs) ≡ length (map g xs)
as_many f g xs = length_of_map f xs ∙ sym (length_of_map g xs)

-- ---- numbers and ranges

abbrev number : NumberAt → ℤ
number n = n.number

abbrev is_outside : NumberAt → Bool
is_outside n = not (is_field_number n.number)

abbrev is_broken : RangeAt → Bool
is_broken r = not (is_sound_range (pos 1) most_field r)

abbrev is_reserved : List RangeAt → NumberAt → Bool
is_reserved rs n = list_any (is_inside n.number) rs

-- the five sentences, each as a test that nothing passes or as elements apart
record HasNoFlaws (rs : List RangeAt) (ns : List NumberAt) : Type 0 where
  in_limits : list_any is_outside ns ≡ false
  once : Apart int_eq (map number ns)
  free : list_any (is_reserved rs) ns ≡ false
  sound : list_any is_broken rs ≡ false
  apart : Apart share rs

none_of_numbers : (rs : List RangeAt) (ns : List NumberAt) → field_number_flaws rs ns ≡ [] → HasNoFlaws rs ns
none_of_numbers rs ns h =
    let repeated : List Flaw = marked kind.DuplicateNumber (map (λ (n : NumberAt). n.token) ns) (repeated_numbers ns) in
    let a = nil_parts (outside is_field_number ns) (repeated ++ (reserved_numbers rs ns ++ (broken_ranges (pos 1) most_field rs ++ overlaps rs))) h in
    let b = nil_parts repeated (reserved_numbers rs ns ++ (broken_ranges (pos 1) most_field rs ++ overlaps rs)) a.1 in
    let c = nil_parts (reserved_numbers rs ns) (broken_ranges (pos 1) most_field rs ++ overlaps rs) b.1 in
    let d = nil_parts (broken_ranges (pos 1) most_field rs) (overlaps rs) c.1 in
    record {
      in_limits = none_from_flaws is_outside kind.NumberRange (λ n. n.token) ns a.0;
      once = apart_from_marks int_eq kind.DuplicateNumber (map (λ (n : NumberAt). n.token) ns) (map number ns) (as_many (λ (n : NumberAt). n.token) number ns) b.0;
      free = none_from_flaws (is_reserved rs) kind.ReservedNumber (λ n. n.token) ns c.0;
      sound = none_from_flaws is_broken kind.NumberRange (λ r. r.token) rs d.0;
      apart = apart_from_marks share kind.RangeOverlap (map (λ (r : RangeAt). r.token) rs) rs (length_of_map (λ (r : RangeAt). r.token) rs) d.1;
    }

numbers_of_none : (rs : List RangeAt) (ns : List NumberAt) → HasNoFlaws rs ns → field_number_flaws rs ns ≡ []
numbers_of_none rs ns h =
    let repeated : List Flaw = marked kind.DuplicateNumber (map (λ (n : NumberAt). n.token) ns) (repeated_numbers ns) in
    nil_joined (outside is_field_number ns) (repeated ++ (reserved_numbers rs ns ++ (broken_ranges (pos 1) most_field rs ++ overlaps rs))) (flaws_from_none is_outside kind.NumberRange (λ n. n.token) ns h.in_limits)
    (nil_joined repeated (reserved_numbers rs ns ++ (broken_ranges (pos 1) most_field rs ++ overlaps rs)) (marks_from_apart int_eq kind.DuplicateNumber (map (λ (n : NumberAt). n.token) ns) (map number ns) h.once)
    (nil_joined (reserved_numbers rs ns) (broken_ranges (pos 1) most_field rs ++ overlaps rs) (flaws_from_none (is_reserved rs) kind.ReservedNumber (λ n. n.token) ns h.free)
    (nil_joined (broken_ranges (pos 1) most_field rs) (overlaps rs) (flaws_from_none is_broken kind.NumberRange (λ r. r.token) rs h.sound)
    (marks_from_apart share kind.RangeOverlap (map (λ (r : RangeAt). r.token) rs) rs h.apart))))

-- ---- the range of one number

clash : (b : Bool) → b ≡ true → b ≡ false → ⊥
clash b h k = cc

-- another number is not in it, whichever of the two stands first
not_inside : (a n : ℤ) → int_eq a n ≡ false → (int_le a n && int_le n a) ≡ false
not_inside a n e = elim (cases_Bool (int_le a n && int_le n a)) [
  | inl h ↦ let s = and_parts (int_le a n) (int_le n a) h in absurd (clash (int_eq a n) ((Decides-int_eq a n).1 (le_both a n s.0 s.1)) e)
  | inr h ↦ h
]

not_inside_back : (a n : ℤ) → int_eq n a ≡ false → (int_le a n && int_le n a) ≡ false
not_inside_back a n e = not_inside a n (int_eq_equiv.symm a n ∙ e)

-- it is sound where the number is within the limits
sound_one : (token : ℕ) (n : ℤ) → not (is_field_number n) ≡ false → is_broken (range_of_one token n) ≡ false
sound_one token n h = go (is_within (pos 1) most_field n) (not (is_within (pos 19000) (pos 19999) n)) (int_le n n) (le_itself n) h
  where
    go : (w v l : Bool) → l ≡ true → not (w && v) ≡ false → not (w && (w && l)) ≡ false
    go true v l e k = ap not e
    go false v l e k = k

-- two ranges share a number in either order
share_back : (a b : RangeAt) → share a b ≡ share b a
share_back a b = go (int_le a.first a.last) (int_le b.first b.last) (int_le a.first b.last) (int_le b.first a.last)
  where
    go : (x y v w : Bool) → (x && (y && (v && w))) ≡ (y && (x && (w && v)))
    go true true true true = refl
    go true true true false = refl
    go true true false true = refl
    go true true false false = refl
    go true false v w = refl
    go false true v w = refl
    go false false v w = refl

-- The others stay apart, none of them is the number, and the number was inside no range, so that its own range shares it with none.
pub deletions_keep_numbers : DeletionsKeepNumbers
deletions_keep_numbers rs qs ms ns deleted token h =
    let was : HasNoFlaws (rs ++ qs) (ms ++ deleted ∷ ns) = none_of_numbers (rs ++ qs) (ms ++ deleted ∷ ns) h in
    let one : RangeAt = range_of_one token deleted.number in
    let limits = none_without is_outside ms deleted ns was.in_limits in
    let others = apart_keys_without int_eq number ms deleted ns was.once in
    let free = none_without (is_reserved (rs ++ qs)) ms deleted ns was.free in
    let around = none_apart (is_inside deleted.number) rs qs free.1 in
    let is_in_one : NumberAt → Bool = λ n. is_inside n.number one in
    let before : list_any is_in_one ms ≡ false = none_by (λ n. int_eq n.number deleted.number) is_in_one ms (λ n e. not_inside_back deleted.number n.number e) others.2 in
    let later : list_any is_in_one ns ≡ false = none_by (λ n. int_eq deleted.number n.number) is_in_one ns (λ n e. not_inside deleted.number n.number e) others.1 in
    numbers_of_none (rs ++ one ∷ qs) (ms ++ ns) (record {
      in_limits = limits.0;
      once = others.0;
      free =
          none_by_both (is_reserved (rs ++ qs)) is_in_one (is_reserved (rs ++ one ∷ qs)) (ms ++ ns)
          (λ n e f. none_with (is_inside n.number) rs one qs e f) free.0 (none_joined is_in_one ms ns before later);
      sound = none_with is_broken rs one qs was.sound (sound_one token deleted.number limits.1);
      apart =
          apart_with share rs one qs was.apart
          (any_agree (share one) (λ r. share r one) qs (λ r. share_back one r) ∙ alone_inside qs deleted.number one refl refl ∙ around.1)
          (alone_inside rs deleted.number one refl refl ∙ around.0);
    })

-- ---- names

bytes_back : (x y : List ℕ) → bytes_eq x y ≡ bytes_eq y x
bytes_back x y = nat_list_eq_equiv.symm x y

-- The name was not reserved, so it is no repeat, and none of the others has it.
pub deletions_keep_names : DeletionsKeepNames
deletions_keep_names scene rs qs names name h fresh unused =
    let s = nil_parts (with_reserved_name scene (rs ++ qs) names) (reserved_again scene (rs ++ qs)) h in
    let free = none_from_flaws (λ t. is_one_of (words (rs ++ qs)) (text scene t)) kind.ReservedName (λ t. t) names s.0 in
    let apart = apart_from_marks bytes_eq kind.ReservedName (rs ++ qs) (words (rs ++ qs)) (sym (length_of_map (value scene) (rs ++ qs))) s.1 in
    let around = none_apart (bytes_eq word) (words rs) (words qs) (ap (list_any (bytes_eq word)) (sym (map-append (value scene) rs qs)) ∙ fresh) in
    nil_joined (with_reserved_name scene (rs ++ name ∷ qs) names) (reserved_again scene (rs ++ name ∷ qs))
    (flaws_from_none (λ t. is_one_of (words (rs ++ name ∷ qs)) (text scene t)) kind.ReservedName (λ t. t) names
    (none_by_both (λ t. is_one_of (words (rs ++ qs)) (text scene t)) (λ t. bytes_eq word (text scene t)) (λ t. is_one_of (words (rs ++ name ∷ qs)) (text scene t)) names
    (λ t e f. still (text scene t) e (bytes_back (text scene t) word ∙ f))
    free (list_any_none (λ t. bytes_eq word (text scene t)) names unused)))
    (marks_from_apart bytes_eq kind.ReservedName (rs ++ name ∷ qs) (words (rs ++ name ∷ qs))
    (subst (Apart bytes_eq) (sym (map-append (value scene) rs (name ∷ qs)))
    (apart_with bytes_eq (words rs) word (words qs) (subst (Apart bytes_eq) (map-append (value scene) rs qs) apart)
    around.1
    (any_agree (λ p. bytes_eq p word) (bytes_eq word) (words rs) (λ p. bytes_back p word) ∙ around.0))))
  where
    word : List ℕ
    word = value scene name

    words : List ℕ → List (List ℕ)
    words reserved = map (value scene) reserved

    -- a name that is not reserved, and is not the new one
    still : (w : List ℕ) → is_one_of (words (rs ++ qs)) w ≡ false → bytes_eq w word ≡ false → is_one_of (words (rs ++ name ∷ qs)) w ≡ false
    still w e f =
        ap (list_any (bytes_eq w)) (map-append (value scene) rs (name ∷ qs))
        ∙ none_with (bytes_eq w) (words rs) word (words qs) (ap (list_any (bytes_eq w)) (sym (map-append (value scene) rs qs)) ∙ e) f

-- ---- JSON names

-- what remains apart once one is taken out
pub deletions_keep_json_names : DeletionsKeepJsonNames
deletions_keep_json_names scene fs gs deleted h = go scene.is_proto3 h
  where
    clashes : List FieldOf → List Flaw
    clashes hs = marked kind.JsonClash (map (λ (f : FieldOf). f.name) hs) (after_earlier bytes_eq (map (json_name_of scene) hs))

    go : (b : Bool) → (if b then clashes (fs ++ deleted ∷ gs) else []) ≡ [] → (if b then clashes (fs ++ gs) else []) ≡ []
    go true e =
        marks_from_apart bytes_eq kind.JsonClash (map (λ (f : FieldOf). f.name) (fs ++ gs)) (map (json_name_of scene) (fs ++ gs))
        (apart_keys_without bytes_eq (json_name_of scene) fs deleted gs
        (apart_from_marks bytes_eq kind.JsonClash (map (λ (f : FieldOf). f.name) (fs ++ deleted ∷ gs)) (map (json_name_of scene) (fs ++ deleted ∷ gs)) (as_many (λ (f : FieldOf). f.name) (json_name_of scene) (fs ++ deleted ∷ gs)) e)).0
    go false e = refl
