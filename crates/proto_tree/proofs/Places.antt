-- Where a file goes wrong (for the crates above).
use Rattle.std.proofs.Common.{◌≡◌, ℕ, zero, suc, ◌+◌, ◌-◌, ◌≤◌, Bool, true, false, cond, List, [], ◌∷◌, ◌++◌, length, Option, Some, None, refl, sym, ap, subst, ◌∙◌, append_assoc, arith}
use Rattle.proto_tree.specs.Common.{Class, Lexeme, Piece, Context, Kind, fits, is_brace, Fit, flat_piece, kind_of, field_kind, statement_kind, header_kind, allows, after, moved_contexts, Walk, any_piece_in, piece_in, open_after, open_from, closers}
use Rattle.proto_tree.specs.declared.class.Class.TheVariants as class
use Rattle.proto_tree.specs.declared.class.Expected.TheVariants as want
use Rattle.proto_tree.specs.declared.piece.Statement.TheVariants as statement
use Rattle.proto_tree.specs.declared.piece.Header.TheVariants as header
use Rattle.proto_tree.specs.declared.piece.Piece.TheVariants as piece
use Rattle.proto_tree.specs.declared.context.Context.TheVariants as context
use Rattle.proto_tree.specs.declared.context.Kind.TheVariants as kind
use Rattle.proto_tree.proofs.Exact.{Calm, counted, counted_from, bind_ok, cond_ok, Fit-split, no_text, solid_long}
use Rattle.proto_tree.proofs.PieceRules.{HasEnd, IsOn, enum_pieces, elsewhere, begins_enum_piece, begins_elsewhere, piece_on, enum_piece_on}
use Rattle.proto_tree.proofs.Walks.{flats, after_inner, inside_inner}

-- ---- the pieces of a context

enum_allows : (u : Piece) → allows context.Enum (kind_of u) ≡ true → enum_pieces u ≡ true
enum_allows (piece.Statement (statement.Syntax s)) e = absurd cc
enum_allows (piece.Statement (statement.Import s)) e = absurd cc
enum_allows (piece.Statement (statement.Package s)) e = absurd cc
enum_allows (piece.Statement (statement.Option s)) e = refl
enum_allows (piece.Statement (statement.MapField s)) e = absurd cc
enum_allows (piece.Statement (statement.Reserved s)) e = absurd cc
enum_allows (piece.Statement (statement.Extensions s)) e = absurd cc
enum_allows (piece.Statement (statement.Value s)) e = refl
enum_allows (piece.Statement (statement.EnumReserved s)) e = refl
enum_allows (piece.Statement (statement.Empty s)) e = refl
enum_allows (piece.Statement (statement.Method s i)) e = absurd cc
enum_allows (piece.Statement (statement.Field f)) e = absurd (no_field f.label e)
  where
    no_field : (o : Option ℕ) → allows context.Enum (field_kind o) ≡ true → ⊥
    no_field None e = cc
    no_field (Some i) e = cc
enum_allows (piece.Open (header.Message h) i) e = absurd cc
enum_allows (piece.Open (header.Oneof h) i) e = absurd cc
enum_allows (piece.Open (header.Enum h) i) e = absurd cc
enum_allows (piece.Open (header.Service h) i) e = absurd cc
enum_allows (piece.Open (header.Method h) i) e = absurd cc
enum_allows (piece.Open (header.Extend x) i) e = absurd cc
enum_allows (piece.Close i) e = refl

-- what stands in an enum alone
abbrev is_enum_kind : Kind → Bool
is_enum_kind kind.Value = true
is_enum_kind kind.EnumReserved = true
is_enum_kind _ = false

abbrev is_enum : Context → Bool
is_enum context.Enum = true
is_enum _ = false

else_allows : (u : Piece) → is_enum_kind (kind_of u) ≡ false → elsewhere u ≡ true
else_allows (piece.Statement (statement.Syntax s)) e = refl
else_allows (piece.Statement (statement.Import s)) e = refl
else_allows (piece.Statement (statement.Package s)) e = refl
else_allows (piece.Statement (statement.Option s)) e = refl
else_allows (piece.Statement (statement.MapField s)) e = refl
else_allows (piece.Statement (statement.Reserved s)) e = refl
else_allows (piece.Statement (statement.Extensions s)) e = refl
else_allows (piece.Statement (statement.Value s)) e = absurd cc
else_allows (piece.Statement (statement.EnumReserved s)) e = absurd cc
else_allows (piece.Statement (statement.Empty s)) e = refl
else_allows (piece.Statement (statement.Method s i)) e = refl
else_allows (piece.Statement (statement.Field f)) e = refl
else_allows (piece.Open (header.Message h) i) e = refl
else_allows (piece.Open (header.Oneof h) i) e = refl
else_allows (piece.Open (header.Enum h) i) e = refl
else_allows (piece.Open (header.Service h) i) e = refl
else_allows (piece.Open (header.Method h) i) e = refl
else_allows (piece.Open (header.Extend x) i) e = refl
else_allows (piece.Close i) e = refl

-- what a context allows is read there
pub record Laws (c : Context) : Type 0 where
  pub solid : (u : Piece) → allows c (kind_of u) ≡ true → (text : List Lexeme) → Fit (flat_piece u) text → 1 ≤ length text
  pub end : (u : Piece) → allows c (kind_of u) ≡ true → (text : List Lexeme) → Fit (flat_piece u) text → HasEnd u text
  pub sound : (s : List Lexeme) (u : Piece) (r : List Lexeme) → piece_in c s ≡ Some (u, r) → (allows c (kind_of u) ≡ true) × (text : List Lexeme) × (s ≡ text ++ r) × Fit (flat_piece u) text
  pub complete : (u : Piece) → allows c (kind_of u) ≡ true → (text r : List Lexeme) → Fit (flat_piece u) text → piece_in c (text ++ r) ≡ Some (u, r)

laws_by : (c : Context) (P : Piece → Bool) (first : Class → Bool) → IsOn P first (any_piece_in c) → ((u : Piece) → allows c (kind_of u) ≡ true → P u ≡ true) → Laws c
unfolding piece_in
laws_by c P first h all_P = record {
  solid = λ u e text fit. solid_long first text (h.begins u (all_P u e) text fit);
  end = λ u e text fit. h.end u (all_P u e) text fit;
  sound = λ s u r e.
      let a = bind_ok (any_piece_in c s) (λ x. cond (allows c (kind_of x.0)) (Some x) None) (u, r) e in
      let g = cond_ok (allows c (kind_of a.0.0)) a.0 (u, r) a.2 in
      let t = h.sound s a.0.0 a.0.1 a.1 in
      let Q : Piece × List Lexeme → Type 0 = λ y. (allows c (kind_of y.0) ≡ true) × (text : List Lexeme) × (s ≡ text ++ y.1) × Fit (flat_piece y.0) text in
      subst Q g.1 (g.0, t.1, t.2, t.3);
  complete = λ u e text r fit. let f = h.complete u (all_P u e) text r fit in rw (f, e) refl;
}

-- it stands nowhere else
not_in_enum : (c : Context) → is_enum c ≡ false → (k : Kind) → allows c k ≡ true → is_enum_kind k ≡ false
not_in_enum context.Enum other k e = absurd cc
not_in_enum c other kind.Value e = absurd cc
not_in_enum c other kind.EnumReserved e = absurd cc
not_in_enum c other _ e = refl

pub laws : (c : Context) → Laws c
laws context.Enum = laws_by context.Enum enum_pieces begins_enum_piece enum_piece_on enum_allows
laws c = laws_by c elsewhere begins_elsewhere piece_on (λ u e. else_allows u (not_in_enum c refl (kind_of u) e))

-- ---- braces that are open

-- of no class but those of braces is one open
pub counted_all : (d : ℕ) (s : List Lexeme) → counted_from is_brace d s ≡ open_from d s
counted_all d [] = refl
counted_all d (l ∷ s) = ap (λ e. counted_from is_brace e s) (step d l.class) ∙ counted_all (open_after d l.class) s where
  step : (d : ℕ) (c : Class) → counted is_brace d c ≡ open_after d c
  step d class.Open = refl
  step d class.Close = refl
  step d _ = refl

calm_open : (t r : List Lexeme) (d : ℕ) → Calm is_brace t → open_from d (t ++ r) ≡ open_from d r
calm_open t r d h = sym (counted_all d (t ++ r)) ∙ h d r ∙ counted_all d r

opens_one : (c : Class) (d : ℕ) → fits (want.One class.Open) c ≡ true → open_after d c ≡ d + 1
opens_one class.Open d e = refl
opens_one _ d e = absurd cc

closes_one : (c : Class) (d : ℕ) → fits (want.One class.Close) c ≡ true → open_after d c ≡ d - 1
closes_one class.Close d e = refl
closes_one _ d e = absurd cc

abbrev pub depth : List Context → ℕ
depth [] = 0
depth (c ∷ from) = length from

piece_open : (u : Piece) (c : Context) (from : List Context) (t r : List Lexeme) → HasEnd u t → open_from (length from) (t ++ r) ≡ open_from (depth (moved_contexts c u from)) r
piece_open (piece.Statement s) c from t r h = calm_open t r (length from) h.calm
piece_open (piece.Open h i) c from t r e =
    let step : open_from (length from) (e.front ++ (e.last ∷ r)) ≡ open_from (open_after (length from) e.last.class) r = calm_open e.front (e.last ∷ r) (length from) e.calm in
    let more : open_after (length from) e.last.class ≡ length (c ∷ from) = opens_one e.last.class (length from) e.opens ∙ (omega arith) in
    let split : t ++ r ≡ e.front ++ (e.last ∷ r) = ap (λ (s : List Lexeme). s ++ r) e.parts ∙ append_assoc e.front (e.last ∷ []) r in
    ap (λ s. open_from (length from) s) split ∙ step ∙ ap (λ d. open_from d r) more
piece_open (piece.Close i) c from t r e =
    let less : open_after (length from) e.only.class ≡ depth from = closes_one e.only.class (length from) e.closes ∙ one_less from in
    ap (λ (s : List Lexeme). open_from (length from) (s ++ r)) e.parts ∙ ap (λ d. open_from d r) less where
      one_less : (from : List Context) → length from - 1 ≡ depth from
      one_less [] = refl
      one_less (c ∷ from) = omega arith

pub walk_open : (us : List Piece) (from to : List Context) (s : List Lexeme) → Walk from us to → Fit (flats us) s → open_from (depth from) s ≡ depth to
walk_open [] from to s w fit = subst (λ t. open_from (depth from) t ≡ depth to) (no_text s fit) (ap depth w)
walk_open (u ∷ us) [] to s w fit = absurd w
walk_open (u ∷ us) (c ∷ from) to s w fit =
    let p = Fit-split (flat_piece u) (flats us) s fit in
    let one = piece_open u c from p.0 p.1 ((laws c).end u w.0 p.0 p.3) in
    ap (λ t. open_from (length from) t) p.2 ∙ one ∙ walk_open us (moved_contexts c u from) to p.1 w.1 p.4

-- ---- every open block can be closed

abbrev pub IsNested : List Context → Type 0
IsNested [] = Unit {0}
IsNested (c ∷ []) = Unit {0}
IsNested (c ∷ d ∷ from) = (allows c kind.Close ≡ true) × IsNested (d ∷ from)

nested_after : (c : Context) (k : Kind) (from : List Context) → IsNested (c ∷ from) → IsNested (after c k ∷ from)
nested_after c k [] h = tt
nested_after c k (d ∷ from) h = (ap (λ e. allows e kind.Close) (after_inner c k h.0) ∙ h.0, h.1)

nested_moved : (u : Piece) (c : Context) (from : List Context) → IsNested (c ∷ from) → IsNested (moved_contexts c u from)
nested_moved (piece.Statement s) c from h = nested_after c (statement_kind s) from h
nested_moved (piece.Open h i) c from n = (inside_inner h, nested_after c (header_kind h) from n)
nested_moved (piece.Close i) c [] h = tt
nested_moved (piece.Close i) c (d ∷ from) h = h.1

pub nested_walk : (us : List Piece) (from to : List Context) → IsNested from → Walk from us to → IsNested to
nested_walk [] from to h w = subst (λ x. IsNested x) w h
nested_walk (u ∷ us) [] to h w = absurd w
nested_walk (u ∷ us) (c ∷ from) to h w = nested_walk us (moved_contexts c u from) to (nested_moved u c from h) w.1

abbrev pub closings : ℕ → List Piece
closings zero = []
closings (suc n) = piece.Close 0 ∷ closings n

pub closings_fit : (n : ℕ) → Fit (flats (closings n)) (closers n)
closings_fit zero = tt
closings_fit (suc n) = (refl, refl, closings_fit n)

pub closings_walk : (from : List Context) (c : Context) → IsNested (c ∷ from) → (e : Context) × Walk (c ∷ from) (closings (length from)) (e ∷ [])
closings_walk [] c h = (c, refl)
closings_walk (d ∷ from) c h = let r = closings_walk from d h.1 in (r.0, (h.0, r.1))

pub walk_append : (us vs : List Piece) (from mid to : List Context) → Walk from us mid → Walk mid vs to → Walk from (us ++ vs) to
walk_append [] vs from mid to w v = subst (λ x. Walk x vs to) (sym w) v
walk_append (u ∷ us) vs [] mid to w v = absurd w
walk_append (u ∷ us) vs (c ∷ from) mid to w v = (w.0, walk_append us vs (moved_contexts c u from) mid to w.1 v)
