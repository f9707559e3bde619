-- Groups are pieces, and pieces are groups.
use Rattle.std.proofs.Common.{◌≡◌, ℕ, Bool, true, false, List, [], ◌∷◌, ◌++◌, refl, sym, ap, subst, ◌∙◌, append_assoc, append-nil}
use Rattle.proto_text.specs.Common.{PieceKind, Blank, LineComment, BlockComment, Solid, TokenKind, Word, Number, Text, Punctuation, Stops, class_of, extends_word, is_identifier, Piece, IsLexeme, EndsBefore, ArePieces, IsMadeOf, AreAllowed, Profile, pieces_text}
use Rattle.proto_text.specs.Grouping.{IsTrivium, AreTrivia, Group, groups_text, TakesIdentifiers, BeginsIdentifier, IsApart, AreGroups, IsMadeOfGroups, pieces_of, GroupsArePiecesIn, PiecesAreGroupsIn, OneGroupingIn}
use Rattle.proto_text.proofs.Segments.{text_append, pieces_join}
use Rattle.proto_text.proofs.Sequence.{same_front, end_is_stuck, all_allowed}
use Rattle.proto_base.specs.declared.profile.Profile.TheVariants as profile
use Rattle.proto_text.proofs.WordChange.{not_empty}

groups_text_is : (gs : List Group) → pieces_text (pieces_of gs) ≡ groups_text gs
groups_text_is [] = refl
groups_text_is (g ∷ gs) = ap (λ (t : List ℕ). g.bytes ++ t) (text_append g.behind (pieces_of gs) ∙ ap (λ (t : List ℕ). pieces_text g.behind ++ t) (groups_text_is gs))

-- ---- groups are pieces

trivium_ends : (kind : PieceKind) (bytes rest : List ℕ) → IsTrivium kind bytes rest → IsLexeme kind bytes × EndsBefore kind rest
trivium_ends Blank bytes rest t = (t, tt)
trivium_ends LineComment bytes rest t = t
trivium_ends BlockComment bytes rest t = (t, tt)
trivium_ends (Solid k) bytes rest t = absurd t

trivia_are : (ts : List Piece) (rest : List ℕ) → AreTrivia ts rest → ArePieces ts rest
trivia_are [] rest h = tt
trivia_are (t ∷ ts) rest h = let one = trivium_ends t.kind t.bytes (pieces_text ts ++ rest) h.0 in (one.0, one.1, trivia_are ts rest h.1)

slash_is_none : is_identifier 47 ≡ false
unfolding class_of
slash_is_none = refl

-- trivia begins with no identifier character
trivium_stops : (kind : PieceKind) (bytes rest more : List ℕ) → IsTrivium kind bytes rest → Stops is_identifier (bytes ++ more)
trivium_stops Blank bytes rest more t = subst (λ (b : List ℕ). Stops is_identifier (b ++ more)) (sym t.1) (ap extends_word t.2)
trivium_stops LineComment bytes rest more t = subst (λ (b : List ℕ). Stops is_identifier (b ++ more)) (sym t.0.1) slash_is_none
trivium_stops BlockComment bytes rest more t = subst (λ (b : List ℕ). Stops is_identifier (b ++ more)) (sym t.1) slash_is_none
trivium_stops (Solid k) bytes rest more t = absurd t

group_stops : (g h : Group) (hs : List Group) (bytes more : List ℕ) → h.bytes ≡ bytes → IsLexeme (Solid h.kind) bytes → TakesIdentifiers g.kind → IsApart g (h ∷ hs) → g.behind ≡ [] → Stops is_identifier (bytes ++ more)
group_stops g h hs [] more e is takes apart none = absurd (not_empty (Solid h.kind) is)
group_stops g h hs (b ∷ bytes) more e is takes apart none = by (is_identifier b) refl
  where
    by : (t : Bool) → is_identifier b ≡ t → is_identifier b ≡ false
    by true w = absurd (apart takes (subst BeginsIdentifier (sym e) w) none)
    by false w = w

-- no identifier character stands behind a word or a number
stops_behind : (g : Group) (gs : List Group) (behind : List Piece) → g.behind ≡ behind → TakesIdentifiers g.kind → AreTrivia behind (groups_text gs) → IsApart g gs → AreGroups gs → Stops is_identifier (pieces_text behind ++ groups_text gs)
stops_behind g gs (t ∷ ts) e takes trivia apart are =
    subst (Stops is_identifier) (sym (append_assoc t.bytes (pieces_text ts) (groups_text gs))) (trivium_stops t.kind t.bytes (pieces_text ts ++ groups_text gs) (pieces_text ts ++ groups_text gs) trivia.0)
stops_behind g [] [] e takes trivia apart are = tt
stops_behind g (h ∷ hs) [] e takes trivia apart are = group_stops g h hs h.bytes (pieces_text h.behind ++ groups_text hs) refl are.0 takes apart e

token_ends : (g : Group) (gs : List Group) (kind : TokenKind) → g.kind ≡ kind → AreTrivia g.behind (groups_text gs) → IsApart g gs → AreGroups gs → EndsBefore (Solid kind) (pieces_text g.behind ++ groups_text gs)
token_ends g gs Word e trivia apart are = stops_behind g gs g.behind refl (subst TakesIdentifiers (sym e) tt) trivia apart are
token_ends g gs Number e trivia apart are = stops_behind g gs g.behind refl (subst TakesIdentifiers (sym e) tt) trivia apart are
token_ends g gs Text e trivia apart are = tt
token_ends g gs Punctuation e trivia apart are = tt

groups_are : (gs : List Group) → AreGroups gs → ArePieces (pieces_of gs) []
groups_are [] h = tt
groups_are (g ∷ gs) h =
    let rest : pieces_text (pieces_of gs) ++ [] ≡ groups_text gs = append-nil (pieces_text (pieces_of gs)) ∙ groups_text_is gs in
    let behind : pieces_text (g.behind ++ pieces_of gs) ++ [] ≡ pieces_text g.behind ++ groups_text gs =
    append-nil (pieces_text (g.behind ++ pieces_of gs)) ∙ text_append g.behind (pieces_of gs) ∙ ap (λ (t : List ℕ). pieces_text g.behind ++ t) (groups_text_is gs) in (
      h.0,
      subst (EndsBefore (Solid g.kind)) (sym behind) (token_ends g gs g.kind refl h.1 h.2 h.3),
      pieces_join g.behind (pieces_of gs) [] (trivia_are g.behind (pieces_text (pieces_of gs) ++ []) (subst (AreTrivia g.behind) (sym rest) h.1)) (groups_are gs h.3),
    )

groups_make : (text : List ℕ) (first : List Piece) (gs : List Group) → IsMadeOfGroups text first gs → IsMadeOf text (first ++ pieces_of gs)
groups_make text first gs h =
    let rest : pieces_text (pieces_of gs) ++ [] ≡ groups_text gs = append-nil (pieces_text (pieces_of gs)) ∙ groups_text_is gs in (
      pieces_join first (pieces_of gs) [] (trivia_are first (pieces_text (pieces_of gs) ++ []) (subst (AreTrivia first) (sym rest) h.trivia)) (groups_are gs h.tokens),
      h.whole ∙ ap (λ (t : List ℕ). pieces_text first ++ t) (sym (groups_text_is gs)) ∙ sym (text_append first (pieces_of gs)) ∙ sym (append-nil (pieces_text (first ++ pieces_of gs))),
    )

pub groups_are_pieces : (p : Profile) → GroupsArePiecesIn p
groups_are_pieces p text first gs h = (groups_make text first gs h.0, h.1)

-- ---- pieces are groups

record Grouped (ps : List Piece) : Type 0 where
  first : List Piece
  groups : List Group
  trivia : AreTrivia first (groups_text groups)
  tokens : AreGroups groups
  parts : ps ≡ first ++ pieces_of groups

apart_by : (kind : TokenKind) (more : List ℕ) → TakesIdentifiers kind → EndsBefore (Solid kind) more → Stops is_identifier more
apart_by Word more takes ends = ends
apart_by Number more takes ends = ends
apart_by Text more takes ends = absurd takes
apart_by Punctuation more takes ends = absurd takes

no_identifier : (bytes more : List ℕ) → BeginsIdentifier bytes → Stops is_identifier (bytes ++ more) → ⊥
no_identifier [] more begins stops = begins
no_identifier (b ∷ bytes) more begins stops = let e : true ≡ false = sym begins ∙ stops in absurd (cc)

is_apart : (kind : TokenKind) (bytes : List ℕ) (behind : List Piece) (gs : List Group) → EndsBefore (Solid kind) (pieces_text behind ++ groups_text gs) → IsApart (record { kind = kind; bytes = bytes; behind = behind }) gs
is_apart kind bytes behind [] ends = tt
is_apart kind bytes behind (h ∷ hs) ends = λ takes begins none.
    no_identifier h.bytes (pieces_text h.behind ++ groups_text hs) begins (subst (λ (b : List Piece). Stops is_identifier (pieces_text b ++ groups_text (h ∷ hs))) none (apart_by kind (pieces_text behind ++ groups_text (h ∷ hs)) takes ends))

grouped_step : (kind : PieceKind) (bytes : List ℕ) (ps : List Piece) → IsLexeme kind bytes → EndsBefore kind (pieces_text ps ++ []) → Grouped ps → Grouped (record { kind = kind; bytes = bytes } ∷ ps)
grouped_step kind bytes ps is ends g = by kind is (subst (EndsBefore kind) rest ends)
  where
    rest : pieces_text ps ++ [] ≡ pieces_text g.first ++ groups_text g.groups
    rest = append-nil (pieces_text ps) ∙ ap pieces_text g.parts ∙ text_append g.first (pieces_of g.groups) ∙ ap (λ (t : List ℕ). pieces_text g.first ++ t) (groups_text_is g.groups)

    more : (k : PieceKind) → IsTrivium k bytes (pieces_text g.first ++ groups_text g.groups) → Grouped (record { kind = k; bytes = bytes } ∷ ps)
    more k t = record {
      first = record { kind = k; bytes = bytes } ∷ g.first;
      groups = g.groups;
      trivia = (t, g.trivia);
      tokens = g.tokens;
      parts = ap (λ (z : List Piece). let p : Piece = record { kind = k; bytes = bytes } in p ∷ z) g.parts;
    }

    by : (k : PieceKind) → IsLexeme k bytes → EndsBefore k (pieces_text g.first ++ groups_text g.groups) → Grouped (record { kind = k; bytes = bytes } ∷ ps)
    by Blank is ends = more Blank is
    by LineComment is ends = more LineComment (is, ends)
    by BlockComment is ends = more BlockComment is
    by (Solid k) is ends = record {
      first = [];
      groups = record { kind = k; bytes = bytes; behind = g.first } ∷ g.groups;
      trivia = tt;
      tokens = (is, g.trivia, is_apart k bytes g.first g.groups ends, g.tokens);
      parts = ap (λ (z : List Piece). let p : Piece = record { kind = Solid k; bytes = bytes } in p ∷ z) g.parts;
    }

grouped : (ps : List Piece) → ArePieces ps [] → Grouped ps
grouped [] h = record { first = []; groups = []; trivia = tt; tokens = tt; parts = refl }
grouped (p ∷ ps) h = grouped_step p.kind p.bytes ps h.0 h.1 (grouped ps h.2)

pub pieces_are_groups : (p : Profile) → PiecesAreGroupsIn p
pieces_are_groups p text ps is =
    let g = grouped ps is.0.0 in
    let whole = is.0.1 ∙ append-nil (pieces_text ps) ∙ ap pieces_text g.parts ∙ text_append g.first (pieces_of g.groups) ∙ ap (λ (t : List ℕ). pieces_text g.first ++ t) (groups_text_is g.groups) in
    (g.first, g.groups, (record { trivia = g.trivia; tokens = g.tokens; whole = whole }, subst (AreAllowed p) g.parts is.1), g.parts)

-- ---- one grouping

abbrev token_piece : Group → Piece
token_piece g = record { kind = Solid g.kind; bytes = g.bytes }

no_trivium : (t : Piece) (g : Group) (rest : List ℕ) → t ≡ token_piece g → IsTrivium t.kind t.bytes rest → ⊥
no_trivium t g rest e h = subst (λ (p : Piece). IsTrivium p.kind p.bytes rest) e h

no_nil : (p : Piece) (ps : List Piece) → [] ≡ p ∷ ps → ⊥
no_nil p ps e = cc

heads : (p q : Piece) (ps qs : List Piece) → p ∷ ps ≡ q ∷ qs → p ≡ q
heads p q ps qs e = cc

tails : (p q : Piece) (ps qs : List Piece) → p ∷ ps ≡ q ∷ qs → ps ≡ qs
tails p q ps qs e = cc

solid_is : (a b : TokenKind) → Solid a ≡ Solid b → a ≡ b
solid_is a b e = cc

same_token : (g h : Group) → token_piece g ≡ token_piece h → (g.kind ≡ h.kind) × (g.bytes ≡ h.bytes)
same_token g h e = (solid_is g.kind h.kind (ap (λ (p : Piece). p.kind) e), ap (λ (p : Piece). p.bytes) e)

make : TokenKind → List ℕ → List Piece → Group
make kind bytes behind = record { kind = kind; bytes = bytes; behind = behind }

same_group : (g h : Group) → g.kind ≡ h.kind → g.bytes ≡ h.bytes → g.behind ≡ h.behind → g ≡ h
unfolding make
same_group g h k b t = ap (λ (x : TokenKind). make x g.bytes g.behind) k ∙ ap (λ (x : List ℕ). make h.kind x g.behind) b ∙ ap (λ (x : List Piece). make h.kind h.bytes x) t

same_groups : (ps a b : List Piece) (gs hs : List Group) → AreTrivia a (groups_text gs) → AreGroups gs → AreTrivia b (groups_text hs) → AreGroups hs → ps ≡ a ++ pieces_of gs → ps ≡ b ++ pieces_of hs → (a ≡ b) × (gs ≡ hs)
same_groups [] [] [] [] [] t g u h x y = (refl, refl)
same_groups [] (p ∷ a) b gs hs t g u h x y = absurd (no_nil p (a ++ pieces_of gs) x)
same_groups [] [] b (k ∷ gs) hs t g u h x y = absurd (no_nil (token_piece k) (k.behind ++ pieces_of gs) x)
same_groups [] [] (q ∷ b) [] hs t g u h x y = absurd (no_nil q (b ++ pieces_of hs) y)
same_groups [] [] [] [] (k ∷ hs) t g u h x y = absurd (no_nil (token_piece k) (k.behind ++ pieces_of hs) y)
same_groups (r ∷ ps) (p ∷ a) (q ∷ b) gs hs t g u h x y =
    let more = same_groups ps a b gs hs t.1 g u.1 h (tails r p ps (a ++ pieces_of gs) x) (tails r q ps (b ++ pieces_of hs) y) in
    let head : p ≡ q = sym (heads r p ps (a ++ pieces_of gs) x) ∙ heads r q ps (b ++ pieces_of hs) y in
    (ap (λ (z : Piece). z ∷ a) head ∙ ap (λ (z : List Piece). q ∷ z) more.0, more.1)
same_groups (r ∷ ps) (p ∷ a) [] gs (k ∷ hs) t g u h x y =
    absurd (no_trivium p k (pieces_text a ++ groups_text gs) (sym (heads r p ps (a ++ pieces_of gs) x) ∙ heads r (token_piece k) ps (k.behind ++ pieces_of hs) y) t.0)
same_groups (r ∷ ps) (p ∷ a) [] gs [] t g u h x y = absurd (no_nil r ps (sym y))
same_groups (r ∷ ps) [] (q ∷ b) (k ∷ gs) hs t g u h x y =
    absurd (no_trivium q k (pieces_text b ++ groups_text hs) (sym (heads r q ps (b ++ pieces_of hs) y) ∙ heads r (token_piece k) ps (k.behind ++ pieces_of gs) x) u.0)
same_groups (r ∷ ps) [] (q ∷ b) [] hs t g u h x y = absurd (no_nil r ps (sym x))
same_groups (r ∷ ps) [] [] [] hs t g u h x y = absurd (no_nil r ps (sym x))
same_groups (r ∷ ps) [] [] (k ∷ gs) [] t g u h x y = absurd (no_nil r ps (sym y))
same_groups (r ∷ ps) [] [] (k ∷ gs) (l ∷ hs) t g u h x y =
    let head = same_token k l (sym (heads r (token_piece k) ps (k.behind ++ pieces_of gs) x) ∙ heads r (token_piece l) ps (l.behind ++ pieces_of hs) y) in
    let more = same_groups ps k.behind l.behind gs hs g.1 g.3 h.1 h.3 (tails r (token_piece k) ps (k.behind ++ pieces_of gs) x) (tails r (token_piece l) ps (l.behind ++ pieces_of hs) y) in
    (refl, ap (λ (z : Group). z ∷ gs) (same_group k l head.0 head.1 more.0) ∙ ap (λ (z : List Group). l ∷ z) more.1)

pub one_grouping : (p : Profile) → OneGroupingIn p
one_grouping language text a b gs hs x y =
    let p = groups_make text a gs x.0 in
    let q = groups_make text b hs y.0 in
    let same = (same_front profile.AsWritten (a ++ pieces_of gs) (b ++ pieces_of hs) [] [] p.0 q.0 (all_allowed (a ++ pieces_of gs)) (all_allowed (b ++ pieces_of hs)) (sym p.1 ∙ q.1) (end_is_stuck profile.AsWritten) (end_is_stuck profile.AsWritten)).0 in
    same_groups (a ++ pieces_of gs) a b gs hs x.0.trivia x.0.tokens y.0.trivia y.0.tokens refl same
