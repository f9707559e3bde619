-- Lines: where the first one ends, and where the last one begins.
use Rattle.std.proofs.Common.{◌≡◌, ◌≢◌, ℕ, ◌+◌, ◌<◌, List, [], ◌∷◌, ◌++◌, length, take, drop, get_or, refl, sym, ap, ap₂, ◌∙◌, subst, arith, append_assoc, append-nil, length-append, take-append-drop, true, ◌≤◌, length-take-le}
use Rattle.std.proofs.lemmas.List.{get_or-take}
use Rattle.std.proofs.lemmas.List.Elements.{All-from_get_or}
use Rattle.memchr.specs.Find.{Nowhere, Passes, is_byte}
use Rattle.proto_base.proofs.Common.{take_more, nat_tests, All-nil, All-head, All-tail}
use Rattle.proto_journal_records.specs.Journals.{HasNoFeed, IsFirstLine}

abbrev pub is_other : ℕ → Type 0
is_other b = b ≢ 10

no_ten : (front more : List ℕ) → HasNoFeed (front ++ 10 ∷ more) → ⊥
no_ten [] more h = All-head is_other 10 more h refl
no_ten (x ∷ front) more h = no_ten front more (All-tail is_other x (front ++ 10 ∷ more) h)

-- two texts that begin with a line begin with the same one
pub same_line : (x y j k : List ℕ) → HasNoFeed x → HasNoFeed y → x ++ 10 ∷ j ≡ y ++ 10 ∷ k → (x ≡ y) × (j ≡ k)
same_line [] [] j k hx hy e = let tail : j ≡ k = cc in (refl, tail)
same_line [] (d ∷ y) j k hx hy e = let head : d ≡ 10 = cc in absurd (All-head is_other d y hy head)
same_line (c ∷ x) [] j k hx hy e = let head : c ≡ 10 = cc in absurd (All-head is_other c x hx head)
same_line (c ∷ x) (d ∷ y) j k hx hy e =
    let head : c ≡ d = cc in
    let tail : x ++ 10 ∷ j ≡ y ++ 10 ∷ k = cc in
    let r = same_line x y j k (All-tail is_other c x hx) (All-tail is_other d y hy) tail in
    (ap₂ (λ (a : ℕ) (b : List ℕ). a ∷ b) head r.0, r.1)

snoc_not_nil : (xs : List ℕ) (x : ℕ) → xs ++ x ∷ [] ≡ [] → ⊥
snoc_not_nil [] x e = cc
snoc_not_nil (y ∷ xs) x e = cc

-- through a line feed with none before it
pub line_to_feed : (bytes front rest : List ℕ) → bytes ≡ front ++ 10 ∷ rest → HasNoFeed front → IsFirstLine bytes (front ++ 10 ∷ []) rest
line_to_feed bytes front rest e none = record {
  all = e ∙ sym (append_assoc front (10 ∷ []) rest);
  some = λ _. snoc_not_nil front 10;
  first = λ f more h is. let r = same_line front f rest more none h (sym e ∙ is) in (ap (λ l. l ++ 10 ∷ []) r.0, r.1);
}

-- before a place up to which a search has found none there is none
pub none_found : (bytes : List ℕ) (k : ℕ) → k ≤ length bytes → Nowhere (Passes (is_byte 10) bytes) 0 k → HasNoFeed (take k bytes)
none_found bytes k within none = All-from_get_or is_other (take k bytes) 0 (λ i lt e.
    let below : i < k = omega (arith, lt, length-take-le k bytes within) in
    none i (omega arith) below (ap (λ x. is_byte 10 x) (sym (get_or-take k bytes i 0 below) ∙ e)))

-- a byte that passes the search is one
pub is_feed : (b : ℕ) → is_byte 10 b ≡ true → b ≡ 10
is_feed b h = grind (arith, nat_tests)

-- the same where a search has found it
pub line_at : (bytes : List ℕ) (i len : ℕ) (front back : List ℕ) → i < length bytes → get_or bytes i 0 ≡ 10 → HasNoFeed (take i bytes) → len ≡ i + 1 → front ≡ take len bytes → back ≡ drop len bytes → IsFirstLine bytes front back
line_at bytes i len front back lt feed none l f b =
    let more : take len bytes ≡ take i bytes ++ 10 ∷ [] =
    ap (λ n. take n bytes) l ∙ take_more bytes i 0 lt ∙ ap (λ x. take i bytes ++ x ∷ []) feed in
    let whole : bytes ≡ take i bytes ++ 10 ∷ drop len bytes =
    sym (take-append-drop len bytes) ∙ ap (λ x. x ++ drop len bytes) more ∙ append_assoc (take i bytes) (10 ∷ []) (drop len bytes) in
    subst (λ x. IsFirstLine bytes x back) (sym (f ∙ more)) (subst (λ x. IsFirstLine bytes (take i bytes ++ 10 ∷ []) x) (sym b) (line_to_feed bytes (take i bytes) (drop len bytes) whole none))

-- all, where no line feed is
pub line_to_end : (bytes : List ℕ) → HasNoFeed bytes → IsFirstLine bytes bytes []
line_to_end bytes none = record {
  all = sym (append-nil bytes);
  some = λ h. h;
  first = λ f more h is. absurd (no_ten f more (subst HasNoFeed is none));
}

behind_some : (left line rest : List ℕ) → left ≡ line ++ rest → line ≢ [] → length rest < length left
behind_some left [] rest e some = absurd (some refl)
behind_some left (x ∷ line) rest e some = omega (arith, ap length e, length-append line rest)

pub less_is_left : (left line rest : List ℕ) → IsFirstLine left line rest → left ≢ [] → length rest < length left
less_is_left left line rest h some = behind_some left line rest h.all (h.some some)

-- ---- the last line

-- the text is empty or ends with a line feed
abbrev pub EndsLine : List ℕ → Type 0
EndsLine [] = Unit {0}
EndsLine (x ∷ []) = x ≡ 10
EndsLine (x ∷ y ∷ xs) = EndsLine (y ∷ xs)

pub ends_append : (xs ys : List ℕ) → EndsLine xs → EndsLine ys → EndsLine (xs ++ ys)
ends_append [] ys a b = b
ends_append (x ∷ []) [] a b = a
ends_append (x ∷ []) (y ∷ ys) a b = b
ends_append (x ∷ z ∷ xs) ys a b = ends_append (z ∷ xs) ys a b

pub ends_with_feed : (xs : List ℕ) → EndsLine (xs ++ 10 ∷ [])
ends_with_feed [] = refl
ends_with_feed (x ∷ []) = refl
ends_with_feed (x ∷ z ∷ xs) = ends_with_feed (z ∷ xs)

ends_tail : (x : ℕ) (xs : List ℕ) → EndsLine (x ∷ xs) → EndsLine xs
ends_tail x [] h = tt
ends_tail x (y ∷ xs) h = h

has_feed : (xs ys : List ℕ) → xs ≢ [] → EndsLine xs → HasNoFeed (xs ++ ys) → ⊥
has_feed [] ys some ends none = some refl
has_feed (x ∷ []) ys some ends none = All-head is_other x ys none ends
has_feed (x ∷ z ∷ xs) ys some ends none = has_feed (z ∷ xs) ys (λ e. cc) ends (All-tail is_other x (z ∷ xs ++ ys) none)

-- what stands before the last line is one
pub same_front : (a b x y : List ℕ) → EndsLine a → EndsLine b → HasNoFeed x → HasNoFeed y → a ++ x ≡ b ++ y → a ≡ b
same_front [] [] x y ha hb hx hy e = refl
same_front [] (d ∷ b) x y ha hb hx hy e = absurd (has_feed (d ∷ b) y (λ z. cc) hb (subst HasNoFeed e hx))
same_front (c ∷ a) [] x y ha hb hx hy e = absurd (has_feed (c ∷ a) x (λ z. cc) ha (subst HasNoFeed (sym e) hy))
same_front (c ∷ a) (d ∷ b) x y ha hb hx hy e =
    let head : c ≡ d = cc in
    let tail : a ++ x ≡ b ++ y = cc in
    ap₂ (λ (p : ℕ) (q : List ℕ). p ∷ q) head (same_front a b x y (ends_tail c a ha) (ends_tail d b hb) hx hy tail)

pub same_before_last : (xs ys : List ℕ) (a b : ℕ) → xs ++ a ∷ [] ≡ ys ++ b ∷ [] → xs ≡ ys
same_before_last [] [] a b e = refl
same_before_last [] (y ∷ ys) a b e = absurd (omega (arith, ap length e, length-append ys (b ∷ [])))
same_before_last (x ∷ xs) [] a b e = absurd (omega (arith, ap length e, length-append xs (a ∷ [])))
same_before_last (x ∷ xs) (y ∷ ys) a b e =
    let head : x ≡ y = cc in
    let tail : xs ++ a ∷ [] ≡ ys ++ b ∷ [] = cc in
    ap (λ z. z ∷ xs) head ∙ ap (λ zs. y ∷ zs) (same_before_last xs ys a b tail)

-- what was read of a text from its end: a last byte, and no line feed before it
pub record IsReadBack (text left : List ℕ) : Type 0 where
  pub tail : List ℕ
  pub last : ℕ
  pub all : text ≡ (left ++ tail) ++ last ∷ []
  pub none : HasNoFeed tail

pub back_start : (text left : List ℕ) (last : ℕ) → text ≡ left ++ last ∷ [] → IsReadBack text left
back_start text left last e = record { tail = []; last = last; all = e ∙ ap (λ l. l ++ last ∷ []) (sym (append-nil left)); none = All-nil is_other }

pub ends_at_feed : (left front : List ℕ) (byte : ℕ) → left ≡ front ++ byte ∷ [] → byte ≡ 10 → EndsLine left
ends_at_feed left front byte e feed = subst EndsLine (sym (e ∙ ap (λ b. front ++ b ∷ []) feed)) (ends_with_feed front)

pub ends_at_start : (left : List ℕ) → length left ≡ 0 → EndsLine left
ends_at_start [] e = tt
ends_at_start (x ∷ xs) e = absurd (omega (arith, e))

pub back_end : (text left front line : List ℕ) → IsReadBack text left → EndsLine left → EndsLine front → HasNoFeed line → text ≡ front ++ (line ++ 10 ∷ []) → left ≡ front
back_end text left front line h ends fends none e =
    let same : left ++ h.tail ≡ front ++ line = same_before_last (left ++ h.tail) (front ++ line) h.last 10 (sym h.all ∙ e ∙ sym (append_assoc front line (10 ∷ []))) in
    same_front left front h.tail line ends fends h.none none same
