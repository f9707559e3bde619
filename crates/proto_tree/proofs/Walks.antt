-- Trees and lists of pieces (for the crates above).
use Rattle.std.proofs.Common.{◌≡◌, ℕ, true, false, List, [], ◌∷◌, ◌++◌, refl, sym, ap, subst, ◌∙◌, append_assoc}
use Rattle.proto_tree.specs.declared.class.Class.TheVariants as class
use Rattle.proto_tree.specs.Common.{Header, Piece, Context, Kind, Mark, one, flat_all, flat_statement, flat_header, flat_piece, Tree, End, Leaf, Block, flat, IsWellFormed, statement_kind, header_kind, allows, after, inside, last_of, Walk}
use Rattle.proto_tree.specs.declared.piece.Header.TheVariants as header
use Rattle.proto_tree.specs.declared.piece.Piece.TheVariants as piece
use Rattle.proto_tree.specs.declared.context.Context.TheVariants as context
use Rattle.proto_tree.specs.declared.context.Kind.TheVariants as kind

-- the pieces of a tree, in order
abbrev pub pieces : Tree → List Piece
pieces End = []
pieces (Leaf s rest) = piece.Statement s ∷ pieces rest
pieces (Block h i within j rest) = piece.Open h i ∷ (pieces within ++ (piece.Close j ∷ pieces rest))

abbrev pub flats : List Piece → List Mark
flats us = flat_all flat_piece us

pub flats-append : (us vs : List Piece) → flats (us ++ vs) ≡ flats us ++ flats vs
flats-append [] vs = refl
flats-append (u ∷ us) vs = ap (λ ms. flat_piece u ++ ms) (flats-append us vs) ∙ sym (append_assoc (flat_piece u) (flats us) (flats vs))

pub flats-pieces : (t : Tree) → flats (pieces t) ≡ flat t
flats-pieces End = refl
flats-pieces (Leaf s rest) = ap (λ ms. flat_statement s ++ ms) (flats-pieces rest)
flats-pieces (Block h i within j rest) =
    let inner : flats (pieces within ++ (piece.Close j ∷ pieces rest)) ≡ flat within ++ (one class.Close j ++ flat rest) = flats-append (pieces within) (piece.Close j ∷ pieces rest) ∙ ap (λ ms. ms ++ (one class.Close j ++ flats (pieces rest))) (flats-pieces within) ∙ ap (λ ms. flat within ++ (one class.Close j ++ ms)) (flats-pieces rest) in
    ap (λ ms. (flat_header h ++ one class.Open i) ++ ms) inner

-- ---- from a tree to a walk

-- in a block the context stays
pub after_inner : (c : Context) (k : Kind) → allows c kind.Close ≡ true → after c k ≡ c
after_inner context.Start k e = absurd cc
after_inner context.File k e = absurd cc
after_inner context.Packaged k e = absurd cc
after_inner context.Message k e = refl
after_inner context.Oneof k e = refl
after_inner context.Enum k e = refl
after_inner context.Service k e = refl
after_inner context.Method k e = refl
after_inner context.Extend k e = refl

pub last_inner : (t : Tree) (c : Context) → allows c kind.Close ≡ true → last_of c t ≡ c
last_inner End c e = refl
last_inner (Leaf s rest) c e = ap (λ d. last_of d rest) (after_inner c (statement_kind s) e) ∙ last_inner rest c e
last_inner (Block h i within j rest) c e = ap (λ d. last_of d rest) (after_inner c (header_kind h) e) ∙ last_inner rest c e

pub inside_inner : (h : Header) → allows (inside h) kind.Close ≡ true
inside_inner (header.Message h) = refl
inside_inner whole = refl

after_outer : (c : Context) (k : Kind) → allows c kind.Close ≡ false → allows (after c k) kind.Close ≡ false
after_outer context.Start kind.Package e = refl
after_outer context.Start _ e = refl
after_outer context.File kind.Package e = refl
after_outer context.File _ e = refl
after_outer context.Packaged k e = refl
after_outer context.Message k e = absurd cc
after_outer context.Oneof k e = absurd cc
after_outer context.Enum k e = absurd cc
after_outer context.Service k e = absurd cc
after_outer context.Method k e = absurd cc
after_outer context.Extend k e = absurd cc

pub last_outer : (t : Tree) (c : Context) → allows c kind.Close ≡ false → allows (last_of c t) kind.Close ≡ false
last_outer End c e = e
last_outer (Leaf s rest) c e = last_outer rest (after c (statement_kind s)) (after_outer c (statement_kind s) e)
last_outer (Block h i within j rest) c e = last_outer rest (after c (header_kind h)) (after_outer c (header_kind h) e)

pub walk_tree : (t : Tree) (c : Context) (from : List Context) (us : List Piece) (to : List Context) → IsWellFormed c t → Walk (last_of c t ∷ from) us to → Walk (c ∷ from) (pieces t ++ us) to
walk_tree End c from us to h w = w
walk_tree (Leaf s rest) c from us to h w = (h.0, walk_tree rest (after c (statement_kind s)) from us to h.1 w)
walk_tree (Block h i within j rest) c from us to wf w =
    let d : Context = after c (header_kind h) in
    let closes : allows (last_of (inside h) within) kind.Close ≡ true = ap (λ e. allows e kind.Close) (last_inner within (inside h) (inside_inner h)) ∙ inside_inner h in
    let tail : Walk (last_of (inside h) within ∷ d ∷ from) (piece.Close j ∷ (pieces rest ++ us)) to = (closes, walk_tree rest d from us to wf.2 w) in
    let inner = walk_tree within (inside h) (d ∷ from) (piece.Close j ∷ (pieces rest ++ us)) to wf.1 tail in
    let P : List Piece → Type 0 = λ vs. Walk (inside h ∷ d ∷ from) vs to in
    (wf.0, subst P (sym (append_assoc (pieces within) (piece.Close j ∷ pieces rest) us)) inner)

-- ---- from a walk to a tree

-- a tree at each level, and a close between two
abbrev pub Levels : Context → List Context → List Piece → Type 0
Levels c [] us = (t : Tree) × IsWellFormed c t × (us ≡ pieces t)
Levels c (d ∷ from) us = (t : Tree) × (j : ℕ) × (vs : List Piece) × IsWellFormed c t × (us ≡ pieces t ++ (piece.Close j ∷ vs)) × Levels d from vs

pub walk_levels : (us : List Piece) (c : Context) (from : List Context) (e : Context) → Walk (c ∷ from) us (e ∷ []) → Levels c from us
walk_levels [] c [] e w = (End, tt, refl)
walk_levels [] c (d ∷ from) e w = absurd cc
walk_levels (piece.Statement s ∷ us) c [] e w =
    let r = walk_levels us (after c (statement_kind s)) [] e w.1 in
    (Leaf s r.0, (w.0, r.1), ap (λ (vs : List Piece). piece.Statement s ∷ vs) r.2)
walk_levels (piece.Statement s ∷ us) c (d ∷ from) e w =
    let r = walk_levels us (after c (statement_kind s)) (d ∷ from) e w.1 in
    (Leaf s r.0, r.1, r.2, (w.0, r.3), ap (λ (vs : List Piece). piece.Statement s ∷ vs) r.4, r.5)
walk_levels (piece.Open h i ∷ us) c [] e w =
    let r = walk_levels us (inside h) (after c (header_kind h) ∷ []) e w.1 in
    let q = r.5 in
    (Block h i r.0 r.1 q.0, (w.0, r.3, q.1), ap (λ (vs : List Piece). piece.Open h i ∷ vs) (r.4 ∙ ap (λ (vs : List Piece). pieces r.0 ++ (piece.Close r.1 ∷ vs)) q.2))
walk_levels (piece.Open h i ∷ us) c (d ∷ from) e w =
    let r = walk_levels us (inside h) (after c (header_kind h) ∷ d ∷ from) e w.1 in
    let q = r.5 in
    let same : us ≡ (pieces r.0 ++ (piece.Close r.1 ∷ pieces q.0)) ++ (piece.Close q.1 ∷ q.2) = r.4 ∙ ap (λ (vs : List Piece). pieces r.0 ++ (piece.Close r.1 ∷ vs)) q.4 ∙ sym (append_assoc (pieces r.0) (piece.Close r.1 ∷ pieces q.0) (piece.Close q.1 ∷ q.2)) in
    (Block h i r.0 r.1 q.0, q.1, q.2, (w.0, r.3, q.3), ap (λ (vs : List Piece). piece.Open h i ∷ vs) same, q.5)
walk_levels (piece.Close j ∷ []) c [] e w = absurd cc
walk_levels (piece.Close j ∷ u ∷ us) c [] e w = absurd w.1
walk_levels (piece.Close j ∷ us) c (d ∷ from) e w = (End, j, us, tt, refl, walk_levels us d from e w.1)

-- ---- a tree is known by its pieces

abbrev pub IsRest : List Piece → Type 0
IsRest [] = Unit {0}
IsRest (piece.Close j ∷ us) = Unit {0}
IsRest (_ ∷ us) = ⊥

head_is : (u v : Piece) (us vs : List Piece) → u ∷ us ≡ v ∷ vs → (u ≡ v) × (us ≡ vs)
head_is u v us vs e = (cc, cc)

pub pieces_known : (t t' : Tree) (us us' : List Piece) → IsRest us → IsRest us' → pieces t ++ us ≡ pieces t' ++ us' → (t ≡ t') × (us ≡ us')
pieces_known End End us us' r r' e = (refl, e)
pieces_known End (Leaf s t') us us' r r' e = absurd (subst (λ vs. IsRest vs) e r)
pieces_known End (Block h i w j t') us us' r r' e = absurd (subst (λ vs. IsRest vs) e r)
pieces_known (Leaf s t) End us us' r r' e = absurd (subst (λ vs. IsRest vs) (sym e) r')
pieces_known (Block h i w j t) End us us' r r' e = absurd (subst (λ vs. IsRest vs) (sym e) r')
pieces_known (Leaf s t) (Leaf s' t') us us' r r' e =
    let h = head_is (piece.Statement s) (piece.Statement s') (pieces t ++ us) (pieces t' ++ us') e in
    let q = pieces_known t t' us us' r r' h.1 in
    let same : s ≡ s' = cc (h.0) in
    let p = q.0 in
    (cc, q.1)
pieces_known (Leaf s t) (Block h i w j t') us us' r r' e = absurd cc
pieces_known (Block h i w j t) (Leaf s t') us us' r r' e = absurd cc
pieces_known (Block h i w j t) (Block h' i' w' j' t') us us' r r' e =
    let f : piece.Open h i ∷ (pieces w ++ (piece.Close j ∷ (pieces t ++ us))) ≡ piece.Open h' i' ∷ (pieces w' ++ (piece.Close j' ∷ (pieces t' ++ us'))) =
    ap (λ (vs : List Piece). piece.Open h i ∷ vs) (sym (append_assoc (pieces w) (piece.Close j ∷ pieces t) us)) ∙ e ∙ ap (λ (vs : List Piece). piece.Open h' i' ∷ vs) (append_assoc (pieces w') (piece.Close j' ∷ pieces t') us') in
    let g = head_is (piece.Open h i) (piece.Open h' i') (pieces w ++ (piece.Close j ∷ (pieces t ++ us))) (pieces w' ++ (piece.Close j' ∷ (pieces t' ++ us'))) f in
    let p = pieces_known w w' (piece.Close j ∷ (pieces t ++ us)) (piece.Close j' ∷ (pieces t' ++ us')) tt tt g.1 in
    let k = head_is (piece.Close j) (piece.Close j') (pieces t ++ us) (pieces t' ++ us') p.1 in
    let q = pieces_known t t' us us' r r' k.1 in
    let same_h : h ≡ h' = cc (g.0) in
    let same_i : i ≡ i' = cc (g.0) in
    let same_j : j ≡ j' = cc (k.0) in
    let same_w : w ≡ w' = p.0 in
    let same_t : t ≡ t' = q.0 in
    (cc, q.1)
