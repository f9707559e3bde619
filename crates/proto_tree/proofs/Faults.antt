-- The first token that no tree has, and the one tree (for the crates above).
use Rattle.std.proofs.Common.{◌≡◌, ℕ, zero, suc, ◌+◌, ◌-◌, ◌<◌, ◌≤◌, Bool, true, false, List, [], ◌∷◌, ◌++◌, length, take, drop, Some, None, refl, sym, ap, subst, ◌∙◌, ◌⊎◌, inl, inr, append_assoc, arith, length-append, take-append-drop, length-take, append-nil, take_all}
use Rattle.proto_tree.specs.Common.{Class, Lexeme, Piece, Context, fits, one, Fit, flat_piece, Tree, Spells, kind_of, allows, last_of, moved_contexts, Walk, piece_in, IsStuck, open_in, closers, IsGoodFront, IsLongestFront}
use Rattle.proto_tree.specs.declared.class.Class.TheVariants as class
use Rattle.proto_tree.specs.declared.class.Expected.TheVariants as want
use Rattle.proto_tree.specs.declared.piece.Piece.TheVariants as piece
use Rattle.proto_tree.specs.declared.context.Context.TheVariants as context
use Rattle.proto_tree.specs.declared.context.Kind.TheVariants as kind
use Rattle.proto_base.proofs.Common.{take-append-le, cases_lt}
use Rattle.proto_tree.proofs.Exact.{some_is, Fit-split, Fit-join, no_text}
use Rattle.proto_tree.proofs.PieceRules.{HasEnd}
use Rattle.proto_tree.proofs.Walks.{pieces, flats, flats-append, flats-pieces, last_outer, walk_tree, walk_levels, pieces_known}
use Rattle.proto_tree.proofs.Places.{laws, walk_open, nested_walk, closings, closings_fit, closings_walk, walk_append}

-- ---- no piece spills over into braces that are added

abbrev closing : Class → Bool
closing c = fits (want.One class.Close) c

-- the last token of the text is no closing brace
pub record EndsOpen (text : List Lexeme) : Type 0 where
  pub front : List Lexeme
  pub last : Lexeme
  pub parts : text ≡ front ++ last ∷ []
  pub ends : closing last.class ≡ false

semicolon_is_none : (c : Class) → fits (want.One class.Semicolon) c ≡ true → closing c ≡ false
semicolon_is_none class.Close e = absurd cc
semicolon_is_none _ e = refl

open_is_none : (c : Class) → fits (want.One class.Open) c ≡ true → closing c ≡ false
open_is_none class.Close e = absurd cc
open_is_none _ e = refl

end_calm : (u : Piece) (t : List Lexeme) → HasEnd u t → EndsOpen t ⊎ (length t ≡ 1)
end_calm (piece.Statement s) t h = inl (record { front = h.semicolon.front; last = h.semicolon.last; parts = h.semicolon.parts; ends = semicolon_is_none h.semicolon.last.class h.semicolon.ends })
end_calm (piece.Open h i) t e = inl (record { front = e.front; last = e.last; parts = e.parts; ends = open_is_none e.last.class e.opens })
end_calm (piece.Close i) t e = inr (ap length e.parts)

abbrev last_or : Lexeme → List Lexeme → Lexeme
last_or d [] = d
last_or d (l ∷ s) = last_or l s

last_is : (d l : Lexeme) (f : List Lexeme) → last_or d (f ++ l ∷ []) ≡ l
last_is d l [] = refl
last_is d l (k ∷ f) = last_is k l f

no_closing : (t v : List Lexeme) (l : Lexeme) → closing l.class ≡ true → t ≡ v ++ l ∷ [] → EndsOpen t → ⊥
no_closing t v l e parts h =
    let same : h.last ≡ l = sym (last_is l h.last h.front) ∙ ap (last_or l) (sym h.parts ∙ parts) ∙ last_is l l v in
    let a : closing l.class ≡ false = subst (λ (x : Lexeme). closing x.class ≡ false) same h.ends in
    cc

-- a part of a text that is longer than its front takes some of what follows, and ends in it
spills : (f t r : List Lexeme) (n : ℕ) → f ++ closers n ≡ t ++ r → length f < length t → (v : List Lexeme) × (l : Lexeme) × (closing l.class ≡ true) × (t ≡ v ++ l ∷ [])
spills [] [] r n e lt = absurd (omega arith)
spills [] (l ∷ t) r zero e lt = absurd cc
spills [] (l ∷ []) r (suc n) e lt = ([], l, ap (λ (s : List Lexeme). closing (head_class s)) (sym e), refl) where
  head_class : List Lexeme → Class
  head_class [] = class.Close
  head_class (l ∷ s) = l.class
spills [] (l ∷ k ∷ t) r (suc n) e lt =
    let others : closers n ≡ (k ∷ t) ++ r = cc in
    let p = spills [] (k ∷ t) r n others (omega arith) in
    (l ∷ p.0, p.1, p.2, ap (λ (s : List Lexeme). l ∷ s) p.3)
spills (k ∷ f) [] r n e lt = absurd (omega arith)
spills (k ∷ f) (l ∷ t) r n e lt =
    let others : f ++ closers n ≡ t ++ r = cc in
    let p = spills f t r n others (omega arith) in
    (l ∷ p.0, p.1, p.2, ap (λ (s : List Lexeme). l ∷ s) p.3)

-- a part of a text that is no longer than its front is a front of that
stays : (f t r c : List Lexeme) → f ++ c ≡ t ++ r → length t ≤ length f → (v : List Lexeme) × (f ≡ t ++ v)
stays f [] r c e le = (f, refl)
stays [] (l ∷ t) r c e le = absurd (omega arith)
stays (k ∷ f) (l ∷ t) r c e le =
    let others : f ++ c ≡ t ++ r = cc in
    let p = stays f t r c others (omega arith) in
    (p.0, cc (p.1))

base : (c : Context) (u : Piece) (s : List Lexeme) (k n : ℕ) (t r : List Lexeme) → 0 < k → k ≤ length s → allows c (kind_of u) ≡ true → Fit (flat_piece u) t → take k s ++ closers n ≡ t ++ r → piece_in c s ≡ None → ⊥
base c u s k n t r pos le ok fit e none =
    let len : length (take k s) ≡ k = omega (arith, length-take k s) in
    elim (cases_le (length t) (length (take k s))) [
      | inl short ↦
          let v = stays (take k s) t r (closers n) e short in
          let whole : s ≡ t ++ (v.0 ++ drop k s) = sym (take-append-drop k s) ∙ ap (λ (w : List Lexeme). w ++ drop k s) v.1 ∙ append_assoc t v.0 (drop k s) in
          let found : piece_in c s ≡ Some (u, v.0 ++ drop k s) = ap (piece_in c) whole ∙ (laws c).complete u ok t (v.0 ++ drop k s) fit in
          cc
      | inr long ↦
          let v = spills (take k s) t r n e long in
          elim (end_calm u t ((laws c).end u ok t fit)) [
            | inl calm ↦ no_closing t v.0 v.1 v.2 v.3 calm
            | inr one ↦ absurd (omega arith)
          ]
    ] where
      cases_le : (a b : ℕ) → (a ≤ b) ⊎ (b < a)
      cases_le a b = elim (cases_lt b a) [ inl h ↦ inr h | inr h ↦ inl h ]

read_once : (c : Context) (u v : Piece) (t t' r r' : List Lexeme) → allows c (kind_of u) ≡ true → allows c (kind_of v) ≡ true → Fit (flat_piece u) t → Fit (flat_piece v) t' → t ++ r ≡ t' ++ r' → (u ≡ v) × (r ≡ r')
read_once c u v t t' r r' a b fit fit' e =
    let one : piece_in c (t ++ r) ≡ Some (u, r) = (laws c).complete u a t r fit in
    let two : piece_in c (t ++ r) ≡ Some (v, r') = ap (piece_in c) e ∙ (laws c).complete v b t' r' fit' in
    let same = some_is (u, r) (v, r') (sym one ∙ two) in
    (ap (λ (x : Piece × List Lexeme). x.0) same, ap (λ (x : Piece × List Lexeme). x.1) same)

take_over : (t s : List Lexeme) (k : ℕ) → length t ≤ k → take k (t ++ s) ≡ t ++ take (k - length t) s
take_over [] s k le = let e : k - 0 ≡ k = omega arith in rw e refl
take_over (l ∷ t) s zero le = absurd (omega arith)
take_over (l ∷ t) s (suc k) le =
    let e : suc k - length (l ∷ t) ≡ k - length t = omega arith in
    rw e (ap (λ (w : List Lexeme). l ∷ w) (take_over t s k (omega arith)))

-- beyond the place where no piece can be read no front is good
pub no_longer : (us : List Piece) (from : List Context) (c : Context) (outer : List Context) (front rest : List Lexeme) (vs : List Piece) (to : List Context) (k n : ℕ)
    → Walk from us (c ∷ outer) → Fit (flats us) front → piece_in c rest ≡ None
    → Walk from vs to → Fit (flats vs) (take k (front ++ rest) ++ closers n) → length front < k → k ≤ length (front ++ rest) → ⊥
no_longer us from c outer front rest [] to k n w fit none w' fit' lt le =
    let e : length (take k (front ++ rest) ++ closers n) ≡ 0 = ap length (sym (no_text (take k (front ++ rest) ++ closers n) fit')) in
    omega (arith, e, length-append (take k (front ++ rest)) (closers n), length-take k (front ++ rest))
no_longer us [] c outer front rest (v ∷ vs) to k n w fit none w' fit' lt le = absurd w'
no_longer [] (d ∷ from) c outer front rest (v ∷ vs) to k n w fit none w' fit' lt le =
    let p = Fit-split (flat_piece v) (flats vs) (take k (front ++ rest) ++ closers n) fit' in
    let nil = no_text front fit in
    let same : d ≡ c = cc (w) in
    let whole : take k rest ++ closers n ≡ p.0 ++ p.1 = ap (λ (f : List Lexeme). take k (f ++ rest) ++ closers n) nil ∙ p.2 in
    let long : k ≤ length rest = omega (arith, le, ap length nil, length-append front rest) in
    base d v rest k n p.0 p.1 (omega arith) long w'.0 p.3 whole (ap (λ x. piece_in x rest) same ∙ none)
no_longer (u ∷ us) (d ∷ from) c outer front rest (v ∷ vs) to k n w fit none w' fit' lt le =
    let q = Fit-split (flat_piece u) (flats us) front fit in
    let p = Fit-split (flat_piece v) (flats vs) (take k (front ++ rest) ++ closers n) fit' in
    let len : length front ≡ length q.0 + length q.1 = ap length q.2 ∙ length-append q.0 q.1 in
    let split : front ++ rest ≡ q.0 ++ (q.1 ++ rest) = ap (λ (f : List Lexeme). f ++ rest) q.2 ∙ append_assoc q.0 q.1 rest in
    let over : take k (front ++ rest) ++ closers n ≡ q.0 ++ (take (k - length q.0) (q.1 ++ rest) ++ closers n) =
    ap (λ (s : List Lexeme). take k s ++ closers n) split ∙ ap (λ (s : List Lexeme). s ++ closers n) (take_over q.0 (q.1 ++ rest) k (omega arith)) ∙ append_assoc q.0 (take (k - length q.0) (q.1 ++ rest)) (closers n) in
    let same = read_once d u v q.0 p.0 (take (k - length q.0) (q.1 ++ rest) ++ closers n) p.1 w.0 w'.0 q.3 p.3 (sym over ∙ p.2) in
    let on : Walk (moved_contexts d u from) vs to = subst (λ x. Walk (moved_contexts d x from) vs to) (sym same.0) w'.1 in
    let fits_on = subst (λ s. Fit (flats vs) s) (sym same.1) p.4 in
    no_longer us (moved_contexts d u from) c outer q.1 rest vs to (k - length q.0) n w.1 q.4 none on fits_on (omega arith) (omega (arith, le, ap length split, length-append q.0 (q.1 ++ rest)))

-- one list of pieces has the tokens
pub same_pieces : (us vs : List Piece) (from to to' : List Context) (s : List Lexeme) → Walk from us to → Fit (flats us) s → Walk from vs to' → Fit (flats vs) s → (us ≡ vs) × (to ≡ to')
same_pieces [] [] from to to' s w fit w' fit' = (refl, sym w ∙ w')
same_pieces (u ∷ us) vs [] to to' s w fit w' fit' = absurd w
same_pieces us (v ∷ vs) [] to to' s w fit w' fit' = absurd w'
same_pieces [] (v ∷ vs) (c ∷ from) to to' s w fit w' fit' =
    let p = Fit-split (flat_piece v) (flats vs) s fit' in
    absurd (omega (arith, (laws c).solid v w'.0 p.0 p.3, length-append p.0 p.1, ap length p.2, ap length (no_text s fit)))
same_pieces (u ∷ us) [] (c ∷ from) to to' s w fit w' fit' =
    let p = Fit-split (flat_piece u) (flats us) s fit in
    absurd (omega (arith, (laws c).solid u w.0 p.0 p.3, length-append p.0 p.1, ap length p.2, ap length (no_text s fit')))
same_pieces (u ∷ us) (v ∷ vs) (c ∷ from) to to' s w fit w' fit' =
    let q = Fit-split (flat_piece u) (flats us) s fit in
    let p = Fit-split (flat_piece v) (flats vs) s fit' in
    let same = read_once c u v q.0 p.0 q.1 p.1 w.0 w'.0 q.3 p.3 (sym q.2 ∙ p.2) in
    let on : Walk (moved_contexts c u from) vs to' = subst (λ x. Walk (moved_contexts c x from) vs to') (sym same.0) w'.1 in
    let r = same_pieces us vs (moved_contexts c u from) to to' q.1 w.1 q.4 on (subst (λ t. Fit (flats vs) t) (sym same.1) p.4) in
    let head : u ≡ v = same.0 in
    let tail : us ≡ vs = r.0 in
    (cc, r.1)

-- ---- trees

abbrev start : List Context
start = context.Start ∷ []

pub walk_of : (t : Tree) (s : List Lexeme) → Spells t s → Walk start (pieces t) (last_of context.Start t ∷ []) × Fit (flats (pieces t)) s
walk_of t s h =
    let w = walk_tree t context.Start [] [] (last_of context.Start t ∷ []) h.well_formed refl in
    (subst (λ us. Walk start us (last_of context.Start t ∷ [])) (append-nil (pieces t)) w, subst (λ ms. Fit ms s) (sym (flats-pieces t)) h.fits)

pub one_tree : (t t' : Tree) (s : List Lexeme) → Spells t s → Spells t' s → t ≡ t'
one_tree t t' s h h' =
    let a = walk_of t s h in
    let b = walk_of t' s h' in
    let same = same_pieces (pieces t) (pieces t') start (last_of context.Start t ∷ []) (last_of context.Start t' ∷ []) s a.0 a.1 b.0 b.1 in
    (pieces_known t t' [] [] tt tt (append-nil (pieces t) ∙ same.0 ∙ sym (append-nil (pieces t')))).0

pub tree_of_walk : (us : List Piece) (e : Context) (s : List Lexeme) → Walk start us (e ∷ []) → Fit (flats us) s → (t : Tree) × Spells t s
tree_of_walk us e s w fit =
    let r = walk_levels us context.Start [] e w in
    (r.0, record { well_formed = r.1; fits = subst (λ ms. Fit ms s) (ap flats r.2 ∙ flats-pieces r.0) fit })

pub stuck_place : (s : List Lexeme) (k : ℕ) → IsStuck start s k → IsLongestFront s (length s - k)
stuck_place s k h =
    let len : length s ≡ length h.front + k = ap length h.parts ∙ length-append h.front h.rest ∙ ap (λ n. length h.front + n) h.count in
    let at : length s - k ≡ length h.front = omega arith in
    let cut : take (length h.front) s ≡ h.front = ap (take (length h.front)) h.parts ∙ take-append-le (length h.front) h.front h.rest (omega arith) ∙ take_all (length h.front) h.front (omega arith) in
    let nested = nested_walk h.pieces start (h.context ∷ h.outer) tt h.walk in
    let closes = closings_walk h.outer h.context nested in
    let opens : open_in h.front ≡ length h.outer = walk_open h.pieces start (h.context ∷ h.outer) h.front h.walk h.fits in
    let walk = walk_append h.pieces (closings (length h.outer)) start (h.context ∷ h.outer) (closes.0 ∷ []) h.walk closes.1 in
    let fit : Fit (flats (h.pieces ++ closings (length h.outer))) (h.front ++ closers (length h.outer)) =
    subst (λ ms. Fit ms (h.front ++ closers (length h.outer))) (sym (flats-append h.pieces (closings (length h.outer)))) (Fit-join (flats h.pieces) (flats (closings (length h.outer))) h.front (closers (length h.outer)) h.fits (closings_fit (length h.outer))) in
    let tree = tree_of_walk (h.pieces ++ closings (length h.outer)) closes.0 (h.front ++ closers (length h.outer)) walk fit in
    let P : List Lexeme → Type 0 = λ f. (t : Tree) × Spells t (f ++ closers (open_in f)) in
    let Q : ℕ → Type 0 = λ n. (t : Tree) × Spells t (h.front ++ closers n) in
    let good : IsGoodFront s (length h.front) = subst P (sym cut) (subst Q (sym opens) tree) in
    subst (λ n. IsLongestFront s n) (sym at) (record {
      within = omega arith;
      good = good;
      longest = λ m lt le g.
          let w = walk_of g.0 (take m s ++ closers (open_in (take m s))) g.1 in
          let fit' = subst (λ x. Fit (flats (pieces g.0)) (take m x ++ closers (open_in (take m s)))) h.parts w.1 in
          no_longer h.pieces start h.context h.outer h.front h.rest (pieces g.0) (last_of context.Start g.0 ∷ []) m (open_in (take m s)) h.walk h.fits h.none w.0 fit' lt (subst (λ (x : List Lexeme). m ≤ length x) h.parts le);
    })

pub stuck_no_tree : (s : List Lexeme) (k : ℕ) → IsStuck start s k → (t : Tree) → Spells t s → ⊥
stuck_no_tree s k h t g = stuck_cases h.rest refl where
  w : Walk start (pieces t) (last_of context.Start t ∷ []) × Fit (flats (pieces t)) s
  w = walk_of t s g

  outer : allows (last_of context.Start t) kind.Close ≡ false
  outer = last_outer t context.Start refl

  stuck_cases : (rest : List Lexeme) → rest ≡ h.rest → ⊥
  stuck_cases [] e =
      let whole : s ≡ h.front = h.parts ∙ ap (λ (r : List Lexeme). h.front ++ r) (sym e) ∙ append-nil h.front in
      let same = same_pieces h.pieces (pieces t) start (h.context ∷ h.outer) (last_of context.Start t ∷ []) h.front h.walk h.fits w.0 (subst (λ x. Fit (flats (pieces t)) x) whole w.1) in
      let c : h.context ≡ last_of context.Start t = cc (same.1) in
      let closes : allows h.context kind.Close ≡ true = h.inner (sym e) in
      let not : allows h.context kind.Close ≡ false = ap (λ x. allows x kind.Close) c ∙ outer in
      cc
  stuck_cases (l ∷ rest) e =
      let n : ℕ = length s in
      let len : length s ≡ length h.front + length (l ∷ rest) = ap length h.parts ∙ length-append h.front h.rest ∙ ap (λ (r : List Lexeme). length h.front + length r) (sym e) in
      let all : take n (h.front ++ h.rest) ++ closers 0 ≡ s = append-nil (take n (h.front ++ h.rest)) ∙ take_all n (h.front ++ h.rest) (omega (arith, ap length h.parts)) ∙ sym h.parts in
      let fit' : Fit (flats (pieces t)) (take n (h.front ++ h.rest) ++ closers 0) = subst (λ x. Fit (flats (pieces t)) x) (sym all) w.1 in
      no_longer h.pieces start h.context h.outer h.front h.rest (pieces t) (last_of context.Start t ∷ []) n 0 h.walk h.fits h.none w.0 fit' (omega arith) (omega (arith, ap length h.parts))
