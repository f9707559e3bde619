-- Marks of tokens, and the edits of those that are marked.
use Rattle.std.proofs.Common.{◌≡◌, ℕ, suc, ◌+◌, ◌<◌, Bool, true, false, List, [], ◌∷◌, ◌++◌, length, get_or, map, All, Option, Some, None, refl, sym, ap, subst, ◌∙◌, inl, inr, arith, slice_set, if◌then◌else◌, Contains, get_or-set_same, get_or-set_other, length-set}
use Rattle.proto_base.proofs.Common.{AllByRecursion, cases_eq, All-from_recursion, recursion_from_All, contains_cases, contains_head, contains_later}
use Rattle.proto_text.specs.declared.lexer.Token.{Token}
use Rattle.proto_text.proofs.Common.{Edit, text_at, edit_if, token_edits}
use Rattle.proto_edit_rename.specs.MadeChanges.{marked_from, marked_tokens, word_put}

-- ---- marks

pub marked_length : (ms : List Bool) (ps : List ℕ) → length (marked_from ms ps) ≡ length ms
marked_length ms [] = refl
marked_length ms (p ∷ ps) = marked_length (slice_set ms p true) ps ∙ length-set ms p true

pub stays_marked : (ms : List Bool) (ps : List ℕ) (i : ℕ) → i < length ms → get_or ms i false ≡ true → get_or (marked_from ms ps) i false ≡ true
stays_marked ms [] i l h = h
stays_marked ms (p ∷ ps) i l h = stays_marked (slice_set ms p true) ps i (let m = length-set ms p true in omega (arith, l, m)) here
  where
    here : get_or (slice_set ms p true) i false ≡ true
    here = elim (cases_eq i p) [
      | inl e ↦ subst (λ n. get_or (slice_set ms n true) i false ≡ true) e (get_or-set_same ms i true false l)
      | inr ne ↦ get_or-set_other ms p i true false ne ∙ h
    ]

pub marked_there : (ms : List Bool) (ps : List ℕ) (i : ℕ) → i < length ms → Contains ps i → get_or (marked_from ms ps) i false ≡ true
marked_there ms [] i l c = absurd (omega (arith, c.1))
marked_there ms (p ∷ ps) i l c =
    let m = length-set ms p true in
    let less : i < length (slice_set ms p true) = omega (arith, l, m) in
    elim (contains_cases p i ps c) [
      | inl e ↦ stays_marked (slice_set ms p true) ps i less (subst (λ n. get_or (slice_set ms n true) i false ≡ true) (sym e) (get_or-set_same ms i true false l))
      | inr d ↦ marked_there (slice_set ms p true) ps i less d
    ]

pub there_marked : (ms : List Bool) (ps : List ℕ) (i : ℕ) → get_or ms i false ≡ false → (Contains ps i → ⊥) → get_or (marked_from ms ps) i false ≡ false
there_marked ms [] i h none = h
there_marked ms (p ∷ ps) i h none =
    there_marked (slice_set ms p true) ps i (get_or-set_other ms p i true false (λ e. none (subst (λ n. Contains (n ∷ ps) i) e (contains_head i ps))) ∙ h)
    (λ c. none (contains_later p i ps c))

-- ---- what is marked

marked_all_steps : (P : Token → Type 0) (ts : List Token) (ms : List Bool) → AllByRecursion P ts → AllByRecursion P (marked_tokens ts ms)
marked_all_steps P [] ms h = h
marked_all_steps P (t ∷ ts) [] h = tt
marked_all_steps P (t ∷ ts) (true ∷ ms) h = (h.0, marked_all_steps P ts ms h.1)
marked_all_steps P (t ∷ ts) (false ∷ ms) h = marked_all_steps P ts ms h.1

pub marked_all : (P : Token → Type 0) (ts : List Token) (ms : List Bool) → All P ts → All P (marked_tokens ts ms)
marked_all P ts ms h = All-from_recursion P (marked_tokens ts ms) (marked_all_steps P ts ms (recursion_from_All P ts h))

-- the edits of a change that puts the word where a mark is
pub edits_are : (text to : List ℕ) (c : ℕ → Option (List ℕ)) (n : ℕ) (ts : List Token) (ms : List Bool) → length ms ≡ length ts
    → ((i : ℕ) → i < length ts → get_or ms i false ≡ true → c (n + i) ≡ Some to) → ((i : ℕ) → i < length ts → get_or ms i false ≡ false → c (n + i) ≡ None)
    → token_edits text c n ts ≡ map (word_put text to) (marked_tokens ts ms)
edits_are text to c n [] ms l on off = refl
edits_are text to c n (t ∷ ts) [] l on off = absurd (omega (arith, l))
edits_are text to c n (t ∷ ts) (m ∷ ms) l on off =
    let more = edits_are text to c (suc n) ts ms (omega (arith, l)) (λ i lt h. ap c {x = suc n + i} {y = n + suc i} (omega arith) ∙ on (suc i) (omega (arith, lt)) h) (λ i lt h. ap c {x = suc n + i} {y = n + suc i} (omega arith) ∙ off (suc i) (omega (arith, lt)) h) in
    by m (λ h. ap c {x = n} {y = n + 0} (omega arith) ∙ on 0 (omega arith) h) (λ h. ap c {x = n} {y = n + 0} (omega arith) ∙ off 0 (omega arith) h) more
  where
    by : (b : Bool) → (b ≡ true → c n ≡ Some to) → (b ≡ false → c n ≡ None) → token_edits text c (suc n) ts ≡ map (word_put text to) (marked_tokens ts ms)
        → edit_if (c n) t.span.start (text_at text t.span) ++ token_edits text c (suc n) ts ≡ map (word_put text to) ((if b then t ∷ [] else []) ++ marked_tokens ts ms)
    by true x y more =
        ap (λ (o : Option (List ℕ)). edit_if o t.span.start (text_at text t.span) ++ token_edits text c (suc n) ts) (x refl)
        ∙ ap (λ (es : List Edit). word_put text to t ∷ es) more
    by false x y more = ap (λ (o : Option (List ℕ)). edit_if o t.span.start (text_at text t.span) ++ token_edits text c (suc n) ts) (y refl) ∙ more
