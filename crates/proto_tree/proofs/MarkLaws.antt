-- The marks of a tree, by their index (for the crates above).
use Rattle.std.proofs.Common.{◌≡◌, ℕ, zero, suc, ◌+◌, ◌<◌, true, List, [], ◌∷◌, ◌++◌, length, get_or, refl, sym, ap, subst, ◌∙◌, arith, inl, inr, Contains}
use Rattle.proto_base.proofs.Common.{get_or_default, Contains-append_left, Contains-append_right}
use Rattle.proto_text.specs.Tokens.{Lexeme}
use Rattle.proto_base.specs.declared.profile.Profile.TheVariants as profile
use Rattle.proto_tree.specs.declared.class.Class.TheVariants as class
use Rattle.proto_tree.specs.declared.class.Expected.TheVariants as want
use Rattle.proto_tree.specs.Common.{Statement, Header, fits, Mark, mark, one, Fit, flat_statement, flat_header, End, Leaf, Block, flat, class_by, classes_in, class_as, Profile, Numbered, TreesAreNumberedIn, OneMarkIn, MarksFitIn, EachTokenIsMarkedIn, StatementsHaveMarks, HeadersHaveMarks, classes, TreesAreNumbered, OneMark, MarksFit, EachTokenIsMarked}

pub numbered_fit_in : (p : Profile) (n : ℕ) (ms : List Mark) (ls : List Lexeme) → Fit ms (classes_in p n ls) → Numbered n ms
numbered_fit_in p n [] [] h = tt
numbered_fit_in p n [] (l ∷ ls) h = absurd h
numbered_fit_in p n (m ∷ ms) [] h = absurd h
numbered_fit_in p n (m ∷ ms) (l ∷ ls) h = (sym h.1, numbered_fit_in p (suc n) ms ls h.2)

pub numbered_append : (n : ℕ) (a b : List Mark) → Numbered n (a ++ b) → Numbered n a × Numbered (n + length a) b
numbered_append n [] b h = (tt, subst (λ (k : ℕ). Numbered k b) (omega arith) h)
numbered_append n (m ∷ a) b h =
    let r = numbered_append (suc n) a b h.1 in
    ((h.0, r.0), subst (λ (k : ℕ). Numbered k b) (omega arith) r.1)

pub numbered_at : (n : ℕ) (ms : List Mark) (m : Mark) → Numbered n ms → (c : Contains ms m) → m.at ≡ n + c.0
numbered_at n [] m h c = absurd (omega (arith, c.1))
numbered_at n (x ∷ ms) m h c = go c.0 c.1 c.2 (λ k lt e. numbered_at (suc n) ms m h.1 (k, lt, e))
  where
    go : (k : ℕ) → k < length (x ∷ ms) → get_or (x ∷ ms) k m ≡ m → ((k : ℕ) → k < length ms → get_or ms k m ≡ m → m.at ≡ suc n + k) → m.at ≡ n + k
    go zero lt e more = let a : m.at ≡ x.at = ap (λ (z : Mark). z.at) (sym e) in omega (arith, a, h.0)
    go (suc k) lt e more = let r = more k (omega (arith, lt)) e in omega (arith, r)

-- one index, one mark
pub mark_at_index : (n : ℕ) (ms : List Mark) (a b : Mark) → Numbered n ms → Contains ms a → Contains ms b → a.at ≡ b.at → a ≡ b
mark_at_index n ms a b h ca cb e =
    let i = numbered_at n ms a h ca in
    let j = numbered_at n ms b h cb in
    let same : ca.0 ≡ cb.0 = omega (arith, i, j, e) in
    sym ca.2 ∙ ap (λ (k : ℕ). get_or ms k a) same ∙ get_or_default ms cb.0 a b cb.1 ∙ cb.2

pub trees_are_numbered_in : (p : Profile) → TreesAreNumberedIn p
trees_are_numbered_in p t ls h = numbered_fit_in p 0 (flat t) ls h.fits

pub one_mark_in : (p : Profile) → OneMarkIn p
one_mark_in p t ls a b h ca cb e = mark_at_index 0 (flat t) a b (trees_are_numbered_in p t ls h) ca cb e

-- ---- the token at a mark

fit_at_in : (p : Profile) (n : ℕ) (ms : List Mark) (ls : List Lexeme) (k : ℕ) (d : Mark) (l : Lexeme) → Fit ms (classes_in p n ls) → k < length ms → (k < length ls) × (fits (get_or ms k d).want (class_as p (class_by (get_or ls k l).kind (get_or ls k l).text)) ≡ true)
fit_at_in p n [] ls k d l h lt = absurd (omega (arith, lt))
fit_at_in p n (m ∷ ms) [] k d l h lt = absurd h
fit_at_in p n (m ∷ ms) (x ∷ ls) zero d l h lt = (omega arith, h.0)
fit_at_in p n (m ∷ ms) (x ∷ ls) (suc k) d l h lt = let r = fit_at_in p (suc n) ms ls k d l h.2 (omega (arith, lt)) in (omega (arith, r.0), r.1)

pub marks_fit_in : (p : Profile) → MarksFitIn p
marks_fit_in p t ls m l h c =
    let r = fit_at_in p 0 (flat t) ls c.0 m l h.fits c.1 in
    let at : c.0 ≡ m.at = omega (arith, numbered_at 0 (flat t) m (trees_are_numbered_in p t ls h) c) in
    let fit = subst (λ (x : Mark). fits x.want (class_as p (class_by (get_or ls c.0 l).kind (get_or ls c.0 l).text)) ≡ true) c.2 r.1 in
    (omega (arith, r.0, at), subst (λ (i : ℕ). fits m.want (class_as p (class_by (get_or ls i l).kind (get_or ls i l).text)) ≡ true) at fit)

pub fit_length_in : (p : Profile) (n : ℕ) (ms : List Mark) (ls : List Lexeme) → Fit ms (classes_in p n ls) → length ms ≡ length ls
fit_length_in p n [] [] h = refl
fit_length_in p n [] (l ∷ ls) h = absurd h
fit_length_in p n (m ∷ ms) [] h = absurd h
fit_length_in p n (m ∷ ms) (l ∷ ls) h = ap suc (fit_length_in p (suc n) ms ls h.2)

pub each_token_is_marked_in : (p : Profile) → EachTokenIsMarkedIn p
each_token_is_marked_in p t ls i h lt =
    let d : Mark = mark want.Word 0 in
    let m : Mark = get_or (flat t) i d in
    let few : i < length (flat t) = omega (arith, lt, fit_length_in p 0 (flat t) ls h.fits) in
    let c : Contains (flat t) m = (i, few, get_or_default (flat t) i m d few) in
    (m, c, omega (arith, numbered_at 0 (flat t) m (trees_are_numbered_in p t ls h) c))

-- ---- parts

pub statements_have_marks : StatementsHaveMarks
statements_have_marks s End m h c = absurd h
statements_have_marks s (Leaf x rest) m (inl e) c = Contains-append_left (flat_statement x) (flat rest) m (subst (λ (y : Statement). Contains (flat_statement y) m) (sym e) c)
statements_have_marks s (Leaf x rest) m (inr h) c = Contains-append_right (flat_statement x) (flat rest) m (statements_have_marks s rest m h c)
statements_have_marks s (Block k i within j rest) m (inl h) c =
    Contains-append_right (flat_header k ++ one class.Open i) (flat within ++ (one class.Close j ++ flat rest)) m (Contains-append_left (flat within) (one class.Close j ++ flat rest) m (statements_have_marks s within m h c))
statements_have_marks s (Block k i within j rest) m (inr h) c =
    Contains-append_right (flat_header k ++ one class.Open i) (flat within ++ (one class.Close j ++ flat rest)) m (Contains-append_right (flat within) (one class.Close j ++ flat rest) m (Contains-append_right (one class.Close j) (flat rest) m (statements_have_marks s rest m h c)))

pub headers_have_marks : HeadersHaveMarks
headers_have_marks h End m e c = absurd e
headers_have_marks h (Leaf x rest) m e c = Contains-append_right (flat_statement x) (flat rest) m (headers_have_marks h rest m e c)
headers_have_marks h (Block k i within j rest) m (inl e) c =
    Contains-append_left (flat_header k ++ one class.Open i) (flat within ++ (one class.Close j ++ flat rest)) m (Contains-append_left (flat_header k) (one class.Open i) m (subst (λ (y : Header). Contains (flat_header y) m) (sym e) c))
headers_have_marks h (Block k i within j rest) m (inr (inl e)) c =
    Contains-append_right (flat_header k ++ one class.Open i) (flat within ++ (one class.Close j ++ flat rest)) m (Contains-append_left (flat within) (one class.Close j ++ flat rest) m (headers_have_marks h within m e c))
headers_have_marks h (Block k i within j rest) m (inr (inr e)) c =
    Contains-append_right (flat_header k ++ one class.Open i) (flat within ++ (one class.Close j ++ flat rest)) m (Contains-append_right (flat within) (one class.Close j ++ flat rest) m (Contains-append_right (one class.Close j) (flat rest) m (headers_have_marks h rest m e c)))

-- ---- the same in the core language

pub trees_are_numbered : TreesAreNumbered
trees_are_numbered = trees_are_numbered_in profile.Core

pub one_mark : OneMark
one_mark = one_mark_in profile.Core

pub marks_fit : MarksFit
marks_fit = marks_fit_in profile.Core

pub each_token_is_marked : EachTokenIsMarked
each_token_is_marked = each_token_is_marked_in profile.Core

pub fit_length : (n : ℕ) (ms : List Mark) (ls : List Lexeme) → Fit ms (classes n ls) → length ms ≡ length ls
fit_length = fit_length_in profile.Core
