-- Statements put in place of others, in a tree that is moved (for the crates above).
use Rattle.std.proofs.Common.{◌≡◌, ℕ, ◌+◌, List, [], ◌∷◌, ◌++◌, length, map, inl, inr, refl, sym, ap, subst, ◌∙◌, arith, append_assoc, length-append}
use Rattle.proto_text.specs.Tokens.{Lexeme}
use Rattle.proto_tree.specs.declared.class.Class.TheVariants as class
use Rattle.proto_tree.specs.declared.class.Lexeme.{Lexeme as Classed}
use Rattle.proto_tree.specs.declared.context.Context.{Context}
use Rattle.proto_tree.specs.declared.context.Context.TheVariants as context
use Rattle.proto_tree.specs.declared.class.Expected.TheVariants as want
use Rattle.proto_tree.specs.declared.piece.Header.{Header}
use Rattle.proto_tree.proofs.Common.{Mark, mark, one, Fit, flat_statement, flat_header, Tree, End, Leaf, Block, flat, statement_kind, header_kind, allows, after, inside, IsWellFormed, last_of, classes_in, Move, shift, move_header, move_statement, move_tree, Fit-join, flat-joined, joined-fine, behind_fine, classes-append_in, classes-length_in, fit_moved_in, fit_parts, regroup, shift_append, flat_moved, well_formed_moved, kind_moved, header_kind_moved, inside_moved}
use Rattle.proto_edit_statement_laws.proofs.Endings.{IsApart, apart_then, nothing_behind, the, then, tree_apart}
use Rattle.proto_edit_statement_laws.specs.Exchanges.{IsExchanged, Here, Later, Inside, Behind, before, StatementsAreExchanged}
use Rattle.proto_base.specs.declared.profile.Profile.{Profile}

-- ---- marks before and behind the place

-- As IsAround of ReplaceLaws of proto_tree, where the marks before the place are moved as well.
pub record IsAround (g : Move) (a b t u : Tree) (n : ℕ) : Type 0 where
  pub front : List Mark
  pub back : List Mark
  pub long : length front ≡ n
  pub apart : IsApart front
  pub old : flat t ≡ front ++ (flat a ++ back)
  pub new : flat u ≡ map (shift g) front ++ (flat b ++ map (shift g) back)

-- marks before the place of which a whole item follows
behind : (g : Move) (a b x y t u head : Tree) (n : ℕ) → flat t ≡ flat head ++ flat x → flat u ≡ map (shift g) (flat head) ++ flat y → IsAround g a b x y n → IsAround g a b t u (length (flat head) + n)
behind g a b x y t u head n e f h = record {
  front = flat head ++ h.front;
  back = h.back;
  long = length-append (flat head) h.front ∙ ap (λ (k : ℕ). length (flat head) + k) h.long;
  apart = apart_then (flat head) h.front (tree_apart head) h.apart;
  old = e ∙ ap (λ (ms : List Mark). flat head ++ ms) h.old ∙ regroup (flat head) h.front (flat a) h.back;
  new = f ∙ ap (λ (ms : List Mark). map (shift g) (flat head) ++ ms) h.new ∙ regroup (map (shift g) (flat head)) (map (shift g) h.front) (flat b) (map (shift g) h.back) ∙ ap (λ (ms : List Mark). ms ++ (flat b ++ map (shift g) h.back)) (sym (shift_append g (flat head) h.front));
}

-- the last mark of a list is taken off
unpush : (a b : List Mark) (x y : Mark) → a ++ x ∷ [] ≡ b ++ y ∷ [] → a ≡ b
unpush [] [] x y e = refl
unpush [] (n ∷ []) x y e = absurd (cc)
unpush [] (n ∷ k ∷ b) x y e = absurd (cc)
unpush (m ∷ []) [] x y e = absurd (cc)
unpush (m ∷ k ∷ a) [] x y e = absurd (cc)
unpush (m ∷ a) (n ∷ b) x y e = let h : m ≡ n = cc in let t : a ++ x ∷ [] ≡ b ++ y ∷ [] = cc in ap (λ (z : Mark). z ∷ a) h ∙ ap (λ (z : List Mark). n ∷ z) (unpush a b x y t)

pub header_moved : (g : Move) (k : Header) (i : ℕ) → flat_header (move_header g k) ++ one class.Open (g i) ≡ map (shift g) (flat_header k ++ one class.Open i)
header_moved g k i = unpush (flat_header (move_header g k) ++ one class.Open (g i)) (map (shift g) (flat_header k ++ one class.Open i)) (mark (want.One class.Close) (g 0)) (shift g (mark (want.One class.Close) 0)) (flat_moved g (Block k i End 0 End) ∙ shift_append g (flat_header k ++ one class.Open i) (one class.Close 0))

pub around : (g : Move) (a b : Tree) (c : Context) (t u : Tree) (r : IsExchanged g a b c t u) → IsAround g a b t u (before r)
around g a b _ t u (Here c rest fine last) = record {
  front = [];
  back = flat rest;
  long = refl;
  apart = inl refl;
  old = flat-joined a rest;
  new = flat-joined b (move_tree g rest) ∙ ap (λ (ms : List Mark). flat b ++ ms) (flat_moved g rest);
}
around g a b _ t u (Later c s x y r) =
    let h = around g a b (after c (statement_kind s)) x y r in
    let moved : flat_statement (move_statement g s) ≡ map (shift g) (flat_statement s) = sym (nothing_behind (flat_statement (move_statement g s))) ∙ flat_moved g (Leaf s End) ∙ ap (map (shift g)) (nothing_behind (flat_statement s)) in
    let all = behind g a b x y t u (Leaf s End) (before r) (ap (λ (ms : List Mark). ms ++ flat x) (sym (nothing_behind (flat_statement s)))) (ap (λ (ms : List Mark). ms ++ flat y) (moved ∙ ap (map (shift g)) (sym (nothing_behind (flat_statement s))))) h in
    subst (λ (n : ℕ). IsAround g a b t u (n + before r)) (ap (λ (ms : List Mark). length ms) (nothing_behind (flat_statement s))) all
around g a b _ t u (Inside c k i x y j rest r) =
    let h = around g a b (inside k) x y r in
    let head : List Mark = flat_header k ++ one class.Open i in
    let tail : List Mark = one class.Close j ++ flat rest in
    let moved_head : flat_header (move_header g k) ++ one class.Open (g i) ≡ map (shift g) head = header_moved g k i in
    let moved : one class.Close (g j) ++ flat (move_tree g rest) ≡ map (shift g) tail = ap (λ (ms : List Mark). one class.Close (g j) ++ ms) (flat_moved g rest) in
    record {
      front = head ++ h.front;
      back = h.back ++ tail;
      long = length-append head h.front ∙ ap (λ (n : ℕ). length head + n) h.long;
      apart = apart_then head h.front (inr (then (flat_header k) (the class.Open i refl))) h.apart;
      old = ap (λ (ms : List Mark). head ++ (ms ++ tail)) h.old ∙ ap (λ (ms : List Mark). head ++ ms) (append_assoc h.front (flat a ++ h.back) tail ∙ ap (λ (ms : List Mark). h.front ++ ms) (append_assoc (flat a) h.back tail)) ∙ regroup head h.front (flat a) (h.back ++ tail);
      new = ap (λ (ms : List Mark). ms ++ (flat y ++ (one class.Close (g j) ++ flat (move_tree g rest)))) moved_head
          ∙ ap (λ (ms : List Mark). map (shift g) head ++ (ms ++ (one class.Close (g j) ++ flat (move_tree g rest)))) h.new
          ∙ ap (λ (ms : List Mark). map (shift g) head ++ ((map (shift g) h.front ++ (flat b ++ map (shift g) h.back)) ++ ms)) moved
          ∙ ap (λ (ms : List Mark). map (shift g) head ++ ms) (append_assoc (map (shift g) h.front) (flat b ++ map (shift g) h.back) (map (shift g) tail) ∙ ap (λ (ms : List Mark). map (shift g) h.front ++ ms) (append_assoc (flat b) (map (shift g) h.back) (map (shift g) tail) ∙ ap (λ (ms : List Mark). flat b ++ ms) (sym (shift_append g h.back tail))))
          ∙ regroup (map (shift g) head) (map (shift g) h.front) (flat b) (map (shift g) (h.back ++ tail))
          ∙ ap (λ (ms : List Mark). ms ++ (flat b ++ map (shift g) (h.back ++ tail))) (sym (shift_append g head h.front));
    }
around g a b _ t u (Behind c k i within j x y r) =
    let h = around g a b (after c (header_kind k)) x y r in
    behind g a b x y t u (Block k i within j End) (before r) (flat-joined (Block k i within j End) x) (flat-joined (move_tree g (Block k i within j End)) y ∙ ap (λ (ms : List Mark). ms ++ flat y) (flat_moved g (Block k i within j End))) h

-- ---- what stands where

put_fine : (g : Move) (a b : Tree) (c : Context) (t u : Tree) → IsExchanged g a b c t u → IsWellFormed c t → IsWellFormed c u
put_fine g a b _ t u (Here c rest fine on) h = joined-fine b (move_tree g rest) c fine (well_formed_moved g (last_of c b) rest (on (behind_fine a rest c h)))
put_fine g a b _ t u (Later c s x y r) h =
    let e = kind_moved g s in
    (ap (allows c) e ∙ h.0, subst (λ k. IsWellFormed (after c k) y) (sym e) (put_fine g a b (after c (statement_kind s)) x y r h.1))
put_fine g a b _ t u (Inside c k i x y j rest r) h =
    let e = header_kind_moved g k in
    (ap (allows c) e ∙ h.0, subst (λ d. IsWellFormed d y) (sym (inside_moved g k)) (put_fine g a b (inside k) x y r h.1), subst (λ d. IsWellFormed (after c d) (move_tree g rest)) (sym e) (well_formed_moved g (after c (header_kind k)) rest h.2))
put_fine g a b _ t u (Behind c k i within j x y r) h =
    let e = header_kind_moved g k in
    (ap (allows c) e ∙ h.0, subst (λ d. IsWellFormed d (move_tree g within)) (sym (inside_moved g k)) (well_formed_moved g (inside k) within h.1), subst (λ d. IsWellFormed (after c d) y) (sym e) (put_fine g a b (after c (header_kind k)) x y r h.2))

-- ---- tokens

-- the marks of a tree, cut at the place
pub record AreCut (profile : Profile) (s : Tree) (front_marks a back_marks : List Mark) (front old back : List Lexeme) : Type 0 where
  pub front_fits : Fit front_marks (classes_in profile 0 front)
  pub old_fits : Fit a (classes_in profile (length front) old)
  pub back_fits : Fit back_marks (classes_in profile (length front + length old) back)

zero_first : (n : ℕ) → 0 + n ≡ n
zero_first n = omega arith

split : (profile : Profile) (front x back : List Lexeme) → classes_in profile 0 (front ++ (x ++ back)) ≡ classes_in profile 0 front ++ (classes_in profile (length front) x ++ classes_in profile (length front + length x) back)
split profile front x back = classes-append_in profile 0 front (x ++ back) ∙ ap (λ (ls : List Classed). classes_in profile 0 front ++ ls) (ap (λ (k : ℕ). classes_in profile k (x ++ back)) (zero_first (length front)) ∙ classes-append_in profile (length front) x back)

pub cut_around : (profile : Profile) (t : Tree) (fm a bm : List Mark) (front old back : List Lexeme) → length fm ≡ length front → length a ≡ length old → flat t ≡ fm ++ (a ++ bm) → Fit (flat t) (classes_in profile 0 (front ++ (old ++ back))) → AreCut profile t fm a bm front old back
cut_around profile t fm a bm front old back at len parts h =
    let whole = subst (λ (ls : List Classed). Fit (fm ++ (a ++ bm)) ls) (split profile front old back) (subst (λ (ms : List Mark). Fit ms (classes_in profile 0 (front ++ (old ++ back)))) parts h) in
    let p = fit_parts fm (a ++ bm) (classes_in profile 0 front) (classes_in profile (length front) old ++ classes_in profile (length front + length old) back) (at ∙ sym (classes-length_in profile 0 front)) whole in
    let q = fit_parts a bm (classes_in profile (length front) old) (classes_in profile (length front + length old) back) (len ∙ sym (classes-length_in profile (length front) old)) p.1 in
    record { front_fits = p.0; old_fits = q.0; back_fits = q.1 }

pub statements_are_exchanged : StatementsAreExchanged
statements_are_exchanged profile g a b t u r front old new back at len fits_b by h =
    let s = around g a b context.Start t u r in
    let n : ℕ = length front in
    let c = cut_around profile t s.front (flat a) s.back front old back (s.long ∙ at) len s.old h.fits in
    let moved = fit_moved_in profile g (n + length old) (n + length new) s.back back (λ k lt. by.goes k) c.back_fits in
    let kept = fit_moved_in profile g 0 0 s.front front (λ k lt. ap g (zero_first k) ∙ by.stays k lt ∙ sym (zero_first k)) c.front_fits in
    let fit = Fit-join (map (shift g) s.front) (flat b ++ map (shift g) s.back) (classes_in profile 0 front) (classes_in profile n new ++ classes_in profile (n + length new) back) kept (Fit-join (flat b) (map (shift g) s.back) (classes_in profile n new) (classes_in profile (n + length new) back) fits_b moved) in
    record {
      well_formed = put_fine g a b context.Start t u r h.well_formed;
      fits = subst (λ (ms : List Mark). Fit ms (classes_in profile 0 (front ++ (new ++ back)))) (sym s.new) (subst (λ (ls : List Classed). Fit (map (shift g) s.front ++ (flat b ++ map (shift g) s.back)) ls) (sym (split profile front new back)) fit);
    }
