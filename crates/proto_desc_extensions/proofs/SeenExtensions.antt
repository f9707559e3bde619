-- Which extensions were seen before, as a set of keys tells.
use Rattle.std.proofs.Common.{◌≡◌, ℕ, ◌+◌, ◌<◌, Bool, true, false, not, ◌||◌, ◌&&◌, if◌then◌else◌, List, [], ◌∷◌, ◌++◌, length, get_or, take, map, flat_map, refl, sym, ap, ◌∙◌, append_assoc, bytes_eq, int_eq}
use Rattle.proto_base.proofs.Common.{list_any, list_any-append, map-append, take_more}
use Rattle.indexmap.specs.IndexSet.{IndexSet, contains}
use Rattle.proto_base.specs.declared.fault.FaultKind.{FaultKind}
use Rattle.proto_base.specs.declared.fault.FaultKind.TheVariants as kind
use Rattle.proto_desc_numbers.specs.declared.flaw.Flaw.{Flaw}
use Rattle.proto_desc_numbers.proofs.Common.{earlier, flaw_if, marked}
use Rattle.proto_desc_numbers.proofs.FlawLists.{repeats_snoc, new_is}
use Rattle.proto_desc_extensions.specs.Common.{ExtensionAt, HasSeen, Key, Told, again, are_one, is_key_of, is_same_key, outside_ranges, told_by}

abbrev SameLength : {A B : Type 0} → List A → List B → Type 0
SameLength [] [] = Unit {0}
SameLength [] (y ∷ ys) = ⊥
SameLength (x ∷ xs) [] = ⊥
SameLength (x ∷ xs) (y ∷ ys) = SameLength xs ys

earlier_length : {K : Type 0} (so : K → K → Bool) (before xs : List K) → SameLength (earlier so before xs) xs
earlier_length so before [] = tt
earlier_length so before (x ∷ xs) = earlier_length so (before ++ x ∷ []) xs

nil_right : {A : Type 0} (xs : List A) → xs ++ [] ≡ [] ++ xs
nil_right [] = refl
nil_right (x ∷ xs) = ap (λ (ys : List _). x ∷ ys) (nil_right xs)

marked_snoc : {K : Type 0} (k : FaultKind) (token : K → ℕ) (xs : List K) (x : K) (flags : List Bool) (flag : Bool) → SameLength flags xs → marked k (map token (xs ++ x ∷ [])) (flags ++ flag ∷ []) ≡ marked k (map token xs) flags ++ flaw_if flag k (token x)
marked_snoc k token [] x [] flag h = nil_right (flaw_if flag k (token x))
marked_snoc k token [] x (b ∷ bs) flag h = absurd h
marked_snoc k token (y ∷ ys) x [] flag h = absurd h
marked_snoc k token (y ∷ ys) x (b ∷ bs) flag h =
    ap (λ (fs : List Flaw). flaw_if b k (token y) ++ fs) (marked_snoc k token ys x bs flag h)
    ∙ sym (append_assoc (flaw_if b k (token y)) (marked k (map token ys) bs) (flaw_if flag k (token x)))

-- the flaws of one extension more
again_more : (before xs : List Told) (x : Told) → again before (xs ++ x ∷ []) ≡ again before xs ++ flaw_if (list_any (λ p. are_one p x) (before ++ xs)) kind.DuplicateExtension x.number.token
again_more before xs x =
    ap (marked kind.DuplicateExtension (map (λ (e : Told). e.number.token) (xs ++ x ∷ []))) (repeats_snoc are_one before xs x)
    ∙ marked_snoc kind.DuplicateExtension (λ (e : Told). e.number.token) xs x (earlier are_one before xs) (list_any (λ p. are_one p x) (before ++ xs)) (earlier_length are_one before xs)

-- ---- one extension more of a file, with its key

module _ (all : List ExtensionAt) (i : ℕ) (d : ExtensionAt) (l : i < length all) (key : Key) (text : key.extendee.now ≡ (get_or all i d).extendee.now) (number : key.number ≡ (get_or all i d).number.number) where
  abbrev x : Told
  x = told_by (get_or all i d)

  abbrev xs : List Told
  xs = map told_by (take i all)

  more_told : map told_by (take (i + 1) all) ≡ xs ++ x ∷ []
  more_told = ap (map told_by) (take_more all i d l) ∙ map-append told_by (take i all) (get_or all i d ∷ [])

  -- the key is that of the extension
  key_same : (ts : List Told) → list_any (is_key_of key) ts ≡ list_any (λ p. are_one p x) ts
  key_same ts =
      ap (λ t. list_any (λ (p : Told). bytes_eq p.extendee t && int_eq p.number.number key.number) ts) text
      ∙ ap (λ n. list_any (λ (p : Told). bytes_eq p.extendee x.extendee && int_eq p.number.number n) ts) number

  same_key : (k : Key) → is_same_key key k ≡ is_key_of k x
  same_key k = ap (λ t. bytes_eq t k.extendee.now && int_eq key.number k.number) text ∙ ap (λ n. bytes_eq x.extendee k.extendee.now && int_eq n k.number) number

  pub again_listed : {S : Type 0} (old : IndexSet Key S) (before : List Told) → HasSeen old (before ++ map told_by (take i all)) → (is_new : Bool) (start found next : List Flaw)
      → is_new ≡ not (contains is_same_key old key) → found ≡ start ++ again before (map told_by (take i all))
      → next ≡ found ++ flaw_if (not is_new) kind.DuplicateExtension (get_or all i d).number.token → next ≡ start ++ again before (map told_by (take (i + 1) all))
  again_listed old before seen is_new start found next added was e =
      let dup : Bool = list_any (λ p. are_one p x) (before ++ xs) in
      e
      ∙ ap (λ (z : List Flaw). z ++ flaw_if (not is_new) kind.DuplicateExtension x.number.token) was
      ∙ ap (λ (b : Bool). (start ++ again before xs) ++ flaw_if b kind.DuplicateExtension x.number.token) (new_is is_new (contains is_same_key old key) dup added (seen key ∙ key_same (before ++ xs)))
      ∙ append_assoc start (again before xs) (flaw_if dup kind.DuplicateExtension x.number.token)
      ∙ ap (λ (z : List Flaw). start ++ z) (sym (again_more before xs x))
      ∙ ap (λ (ts : List Told). start ++ again before ts) (sym more_told)

  pub seen_listed : {S T : Type 0} (old : IndexSet Key S) (new : IndexSet Key T) (before : List Told) → HasSeen old (before ++ map told_by (take i all))
      → ((k : Key) → contains is_same_key new k ≡ (if is_same_key key k then true else contains is_same_key old k)) → HasSeen new (before ++ map told_by (take (i + 1) all))
  seen_listed old new before seen put k =
      put k
      ∙ by (is_same_key key k) (is_key_of k x) (contains is_same_key old k) (list_any (is_key_of k) (before ++ xs)) (same_key k) (seen k)
      ∙ sym (list_any-append (is_key_of k) (before ++ xs) (x ∷ []))
      ∙ ap (list_any (is_key_of k)) (append_assoc before xs (x ∷ []))
      ∙ ap (λ (ts : List Told). list_any (is_key_of k) (before ++ ts)) (sym more_told)
    where
      by : (b e c d : Bool) → b ≡ e → c ≡ d → (if b then true else c) ≡ (d || (e || false))
      by true true c true s h = refl
      by true true c false s h = refl
      by true false c d s h = absurd (cc)
      by false true c d s h = absurd (cc)
      by false false c true s h = h
      by false false c false s h = h

-- ---- numbers that are not left to extensions

abbrev pub outside_at : ExtensionAt → List Flaw
outside_at x = flaw_if (not x.is_extendable) kind.NotExtendable x.number.token

pub outside_listed : (xs : List ExtensionAt) → outside_ranges (map told_by xs) ≡ flat_map outside_at xs
outside_listed [] = refl
outside_listed (x ∷ xs) = ap (λ (fs : List Flaw). outside_at x ++ fs) (outside_listed xs)
