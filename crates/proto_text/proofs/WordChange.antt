-- A word in a word's place leaves the other pieces as they are (for the crates above).
use Rattle.std.proofs.Common.{◌≡◌, ℕ, Bool, true, false, not, eqb, List, [], ◌∷◌, ◌++◌, ◌⊎◌, inl, inr, refl, sym, ap, subst, ◌∙◌, append-nil, append_assoc, eqb-true}
use Rattle.proto_text.specs.Common.{Space, Letter, PieceKind, Blank, LineComment, BlockComment, Solid, Word, Number, Text, Punctuation, class_of, is_identifier, extends_word, Piece, IsRun, is_in_line, IsLexeme, EndsBefore, pieces_text, ArePieces, IsMadeOf, IsWord, SameButWords}

-- what may follow a piece is determined by its first byte
ends_at : (kind : PieceKind) (b : ℕ) (x y : List ℕ) → EndsBefore kind (b ∷ x) → EndsBefore kind (b ∷ y)
ends_at Blank b x y h = tt
ends_at LineComment b x y h = h
ends_at BlockComment b x y h = tt
ends_at (Solid Word) b x y h = h
ends_at (Solid Number) b x y h = h
ends_at (Solid Text) b x y h = tt
ends_at (Solid Punctuation) b x y h = tt

space≢letter : Space ≡ Letter → ⊥
space≢letter e = cc

pub feed_is_space : (b : ℕ) → eqb b 10 ≡ true → class_of b ≡ Space
unfolding class_of
feed_is_space b e = rw (eqb-true b 10 e) refl

letter_in_line : (b : ℕ) → class_of b ≡ Letter → is_in_line b ≡ false → ⊥
letter_in_line b class stops = by (eqb b 10) refl stops
  where
    by : (t : Bool) → eqb b 10 ≡ t → not t ≡ false → ⊥
    by true e h = space≢letter (sym (feed_is_space b e) ∙ class)
    by false e h = cc

letter_extends : (b : ℕ) → class_of b ≡ Letter → is_identifier b ≡ false → ⊥
letter_extends b class stops = let e : true ≡ false = sym (ap extends_word class) ∙ stops in cc

-- before a letter only such a piece stands as goes before all
ends_anyhow : (kind : PieceKind) (b : ℕ) (x y : List ℕ) → class_of b ≡ Letter → EndsBefore kind (b ∷ x) → EndsBefore kind y
ends_anyhow Blank b x y class h = tt
ends_anyhow LineComment b x y class h = absurd (letter_in_line b class h)
ends_anyhow BlockComment b x y class h = tt
ends_anyhow (Solid Word) b x y class h = absurd (letter_extends b class h)
ends_anyhow (Solid Number) b x y class h = absurd (letter_extends b class h)
ends_anyhow (Solid Text) b x y class h = tt
ends_anyhow (Solid Punctuation) b x y class h = tt

pub not_empty : (kind : PieceKind) → IsLexeme kind [] → ⊥
not_empty Blank is = let e = is.1 in cc
not_empty LineComment is = let e = is.1 in cc
not_empty BlockComment is = let e = is.1 in cc
not_empty (Solid Word) is = is
not_empty (Solid Number) is = is.0
not_empty (Solid Text) is = let e = is.2.1 in cc
not_empty (Solid Punctuation) is = let e = is.1 in cc

pub ends_same : (kind : PieceKind) (p : Piece) (x y : List ℕ) → IsLexeme p.kind p.bytes → EndsBefore kind (p.bytes ++ x) → EndsBefore kind (p.bytes ++ y)
ends_same kind p x y is h = by p.bytes is h
  where
    by : (bytes : List ℕ) → IsLexeme p.kind bytes → EndsBefore kind (bytes ++ x) → EndsBefore kind (bytes ++ y)
    by [] is h = absurd (not_empty p.kind is)
    by (b ∷ bytes) is h = ends_at kind b (bytes ++ x) (bytes ++ y) h

ends_word : (kind : PieceKind) (bytes x y : List ℕ) → IsRun Letter bytes → EndsBefore kind (bytes ++ x) → EndsBefore kind y
ends_word kind [] x y run h = absurd run
ends_word kind (b ∷ bytes) x y run h = ends_anyhow kind b (bytes ++ x) y run.0 h

ends_again : (kind : PieceKind) (ps qs : List Piece) (rest : List ℕ) → ArePieces ps rest → SameButWords ps qs → EndsBefore kind (pieces_text ps ++ rest) → EndsBefore kind (pieces_text qs ++ rest)
ends_again kind [] [] rest h s ends = ends
ends_again kind [] (q ∷ qs) rest h s ends = absurd s
ends_again kind (p ∷ ps) [] rest h s ends = absurd s
ends_again kind (p ∷ ps) (q ∷ qs) rest h s ends =
    subst (EndsBefore kind) (sym (append_assoc q.bytes (pieces_text qs) rest)) (by s.0 (subst (EndsBefore kind) (append_assoc p.bytes (pieces_text ps) rest) ends))
  where
    by : (p ≡ q) ⊎ (IsWord p × IsWord q) → EndsBefore kind (p.bytes ++ (pieces_text ps ++ rest)) → EndsBefore kind (q.bytes ++ (pieces_text qs ++ rest))
    by (inl same) e = subst (λ (x : Piece). EndsBefore kind (x.bytes ++ (pieces_text qs ++ rest))) same (ends_same kind p (pieces_text ps ++ rest) (pieces_text qs ++ rest) h.0 e)
    by (inr words) e = ends_word kind p.bytes (pieces_text ps ++ rest) (q.bytes ++ (pieces_text qs ++ rest)) words.0.1 e

one_again : (p q : Piece) (x y : List ℕ) → ((kind : PieceKind) → EndsBefore kind x → EndsBefore kind y) → (p ≡ q) ⊎ (IsWord p × IsWord q) → IsLexeme p.kind p.bytes → EndsBefore p.kind x → IsLexeme q.kind q.bytes × EndsBefore q.kind y
one_again p q x y again (inl same) is ends = subst (λ (r : Piece). IsLexeme r.kind r.bytes × EndsBefore r.kind y) same (is, again p.kind ends)
one_again p q x y again (inr words) is ends =
    let here : EndsBefore (Solid Word) y = again (Solid Word) (subst (λ (k : PieceKind). EndsBefore k x) words.0.0 ends) in
    subst (λ (k : PieceKind). IsLexeme k q.bytes × EndsBefore k y) (sym words.1.0) (words.1.1, here)

pub pieces_again : (ps qs : List Piece) (rest : List ℕ) → ArePieces ps rest → SameButWords ps qs → ArePieces qs rest
pieces_again [] [] rest h s = tt
pieces_again [] (q ∷ qs) rest h s = absurd s
pieces_again (p ∷ ps) [] rest h s = absurd s
pieces_again (p ∷ ps) (q ∷ qs) rest h s =
    let one = one_again p q (pieces_text ps ++ rest) (pieces_text qs ++ rest) (λ kind ends. ends_again kind ps qs rest h.2 s.1 ends) s.0 h.0 h.1 in
    (one.0, one.1, pieces_again ps qs rest h.2 s.1)

pub made_again : (text : List ℕ) (ps qs : List Piece) → IsMadeOf text ps → SameButWords ps qs → IsMadeOf (pieces_text qs) qs
made_again text ps qs is same = (pieces_again ps qs [] is.0 same, sym (append-nil (pieces_text qs)))
