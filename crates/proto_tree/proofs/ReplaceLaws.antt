-- Statements that are replaced (for the crates above).
use Rattle.std.proofs.Common.{◌≡◌, ℕ, suc, ◌+◌, ◌<◌, List, [], ◌∷◌, ◌++◌, length, map, refl, sym, ap, subst, ◌∙◌, arith, append_assoc, length-append}
use Rattle.proto_text.specs.Tokens.{Lexeme}
use Rattle.proto_base.specs.declared.profile.Profile.TheVariants as profile
use Rattle.proto_tree.specs.declared.class.Class.TheVariants as class
use Rattle.proto_tree.specs.Common.{Profile, class_as, Lexeme as Classed, Context, Mark, one, Fit, flat_statement, flat_header, Tree, End, Leaf, Block, flat, statement_kind, header_kind, after, inside, IsWellFormed, last_of, joined_trees, class_by, classes_in, Move, shift, move_tree, classes}
use Rattle.proto_tree.specs.declared.context.Context.TheVariants as context
use Rattle.proto_tree.specs.Replaced.{ItemsAreReplaced, Here, Later, Inside, Behind, tokens_before, StatementsAreReplacedIn, StatementsAreReplaced}
use Rattle.proto_tree.proofs.Exact.{Fit-join}
use Rattle.proto_tree.proofs.Nodes.{flat-joined, joined-fine}
use Rattle.proto_tree.proofs.MoveLaws.{shift_append, flat_moved, well_formed_moved}

-- ---- marks before and behind the place

record IsAround (g : Move) (a b t u : Tree) (n : ℕ) : Type 0 where
  front : List Mark
  back : List Mark
  long : length front ≡ n
  old : flat t ≡ front ++ (flat a ++ back)
  new : flat u ≡ front ++ (flat b ++ map (shift g) back)

pub regroup : (x y z w : List Mark) → x ++ (y ++ (z ++ w)) ≡ (x ++ y) ++ (z ++ w)
regroup x y z w = sym (append_assoc x y (z ++ w))

around : (g : Move) (a b : Tree) (c : Context) (t u : Tree) (r : ItemsAreReplaced g a b c t u) → IsAround g a b t u (tokens_before r)
around g a b _ t u (Here c rest fine last) = record {
  front = [];
  back = flat rest;
  long = refl;
  old = flat-joined a rest;
  new = flat-joined b (move_tree g rest) ∙ ap (λ (ms : List Mark). flat b ++ ms) (flat_moved g rest);
}
around g a b _ t u (Later c s x y r) =
    let h = around g a b (after c (statement_kind s)) x y r in
    record {
      front = flat_statement s ++ h.front;
      back = h.back;
      long = length-append (flat_statement s) h.front ∙ ap (λ (n : ℕ). length (flat_statement s) + n) h.long;
      old = ap (λ (ms : List Mark). flat_statement s ++ ms) h.old ∙ regroup (flat_statement s) h.front (flat a) h.back;
      new = ap (λ (ms : List Mark). flat_statement s ++ ms) h.new ∙ regroup (flat_statement s) h.front (flat b) (map (shift g) h.back);
    }
around g a b _ t u (Inside c k i x y j rest r) =
    let h = around g a b (inside k) x y r in
    let head : List Mark = flat_header k ++ one class.Open i in
    let tail : List Mark = one class.Close j ++ flat rest in
    let moved : one class.Close (g j) ++ flat (move_tree g rest) ≡ map (shift g) tail = ap (λ (ms : List Mark). one class.Close (g j) ++ ms) (flat_moved g rest) in
    record {
      front = head ++ h.front;
      back = h.back ++ tail;
      long = length-append head h.front ∙ ap (λ (n : ℕ). length head + n) h.long;
      old = ap (λ (ms : List Mark). head ++ (ms ++ tail)) h.old ∙ ap (λ (ms : List Mark). head ++ ms) (append_assoc h.front (flat a ++ h.back) tail ∙ ap (λ (ms : List Mark). h.front ++ ms) (append_assoc (flat a) h.back tail)) ∙ regroup head h.front (flat a) (h.back ++ tail);
      new = ap (λ (ms : List Mark). head ++ (ms ++ (one class.Close (g j) ++ flat (move_tree g rest)))) h.new
          ∙ ap (λ (ms : List Mark). head ++ ((h.front ++ (flat b ++ map (shift g) h.back)) ++ ms)) moved
          ∙ ap (λ (ms : List Mark). head ++ ms) (append_assoc h.front (flat b ++ map (shift g) h.back) (map (shift g) tail) ∙ ap (λ (ms : List Mark). h.front ++ ms) (append_assoc (flat b) (map (shift g) h.back) (map (shift g) tail) ∙ ap (λ (ms : List Mark). flat b ++ ms) (sym (shift_append g h.back tail))))
          ∙ regroup head h.front (flat b) (map (shift g) (h.back ++ tail));
    }
around g a b _ t u (Behind c k i within j x y r) =
    let h = around g a b (after c (header_kind k)) x y r in
    let head : List Mark = flat (Block k i within j End) in
    let whole : (z : Tree) → flat (Block k i within j z) ≡ head ++ flat z = λ z. flat-joined (Block k i within j End) z in
    record {
      front = head ++ h.front;
      back = h.back;
      long = length-append head h.front ∙ ap (λ (n : ℕ). length head + n) h.long;
      old = whole x ∙ ap (λ (ms : List Mark). head ++ ms) h.old ∙ regroup head h.front (flat a) h.back;
      new = whole y ∙ ap (λ (ms : List Mark). head ++ ms) h.new ∙ regroup head h.front (flat b) (map (shift g) h.back);
    }

-- ---- what stands where

pub behind_fine : (a rest : Tree) (c : Context) → IsWellFormed c (joined_trees a rest) → IsWellFormed (last_of c a) rest
behind_fine End rest c h = h
behind_fine (Leaf s a) rest c h = behind_fine a rest (after c (statement_kind s)) h.1
behind_fine (Block k i within j a) rest c h = behind_fine a rest (after c (header_kind k)) h.2

replaced_fine : (g : Move) (a b : Tree) (c : Context) (t u : Tree) → ItemsAreReplaced g a b c t u → IsWellFormed c t → IsWellFormed c u
replaced_fine g a b _ t u (Here c rest fine last) h =
    joined-fine b (move_tree g rest) c fine (subst (λ d. IsWellFormed d (move_tree g rest)) (sym last) (well_formed_moved g (last_of c a) rest (behind_fine a rest c h)))
replaced_fine g a b _ t u (Later c s x y r) h = (h.0, replaced_fine g a b (after c (statement_kind s)) x y r h.1)
replaced_fine g a b _ t u (Inside c k i x y j rest r) h = (h.0, replaced_fine g a b (inside k) x y r h.1, well_formed_moved g (after c (header_kind k)) rest h.2)
replaced_fine g a b _ t u (Behind c k i within j x y r) h = (h.0, h.1, replaced_fine g a b (after c (header_kind k)) x y r h.2)

-- ---- tokens

pub classes-append_in : (p : Profile) (n : ℕ) (x y : List Lexeme) → classes_in p n (x ++ y) ≡ classes_in p n x ++ classes_in p (n + length x) y
classes-append_in p n [] y = ap (λ (k : ℕ). classes_in p k y) (omega arith)
classes-append_in p n (l ∷ x) y =
    let e : suc n + length x ≡ n + length (l ∷ x) = omega arith in
    ap (λ (ls : List Classed). record { class = class_as p (class_by l.kind l.text); at = n } ∷ ls) (classes-append_in p (suc n) x y ∙ ap (λ (k : ℕ). classes_in p (suc n) x ++ classes_in p k y) e)

pub classes-length_in : (p : Profile) (n : ℕ) (x : List Lexeme) → length (classes_in p n x) ≡ length x
classes-length_in p n [] = refl
classes-length_in p n (l ∷ x) = ap suc (classes-length_in p (suc n) x)

pub fit_parts : (a b : List Mark) (s t : List Classed) → length a ≡ length s → Fit (a ++ b) (s ++ t) → Fit a s × Fit b t
fit_parts [] b [] t e h = (tt, h)
fit_parts [] b (l ∷ s) t e h = absurd (omega (arith, e))
fit_parts (m ∷ a) b [] t e h = absurd (omega (arith, e))
fit_parts (m ∷ a) b (l ∷ s) t e h = let r = fit_parts a b s t (omega (arith, e)) h.2 in ((h.0, h.1, r.0), r.1)

pub fit_moved_in : (p : Profile) (g : Move) (n n' : ℕ) (ms : List Mark) (x : List Lexeme) → ((k : ℕ) → k < length x → g (n + k) ≡ n' + k) → Fit ms (classes_in p n x) → Fit (map (shift g) ms) (classes_in p n' x)
fit_moved_in p g n n' [] [] to h = tt
fit_moved_in p g n n' [] (l ∷ x) to h = absurd h
fit_moved_in p g n n' (m ∷ ms) [] to h = absurd h
fit_moved_in p g n n' (m ∷ ms) (l ∷ x) to h =
    let here : g n ≡ n' = ap g (zero_more n) ∙ to 0 (omega arith) ∙ sym (zero_more n') in
    (h.0, sym here ∙ ap g h.1, fit_moved_in p g (suc n) (suc n') ms x (λ k lt. ap g (one_more n k) ∙ to (suc k) (omega (arith, lt)) ∙ sym (one_more n' k)) h.2)
  where
    zero_more : (n : ℕ) → n ≡ n + 0
    zero_more n = omega arith

    one_more : (n k : ℕ) → suc n + k ≡ n + suc k
    one_more n k = omega arith

pub statements_are_replaced_in : (p : Profile) → StatementsAreReplacedIn p
statements_are_replaced_in language g a b t u r front old new back at len fits_b to h =
    let s = around g a b context.Start t u r in
    let n : ℕ = length front in
    let split : (x : List Lexeme) → classes_in language 0 (front ++ (x ++ back)) ≡ classes_in language 0 front ++ (classes_in language n x ++ classes_in language (n + length x) back) = λ x. (
    classes-append_in language 0 front (x ++ back) ∙ ap (λ (ls : List Classed). classes_in language 0 front ++ ls) (ap (λ (k : ℕ). classes_in language k (x ++ back)) (zero_first n) ∙ classes-append_in language n x back)) in
    let whole = subst (λ (ls : List Classed). Fit (s.front ++ (flat a ++ s.back)) ls) (split old) (subst (λ (ms : List Mark). Fit ms (classes_in language 0 (front ++ (old ++ back)))) s.old h.fits) in
    let p = fit_parts s.front (flat a ++ s.back) (classes_in language 0 front) (classes_in language n old ++ classes_in language (n + length old) back) (s.long ∙ at ∙ sym (classes-length_in language 0 front)) whole in
    let q = fit_parts (flat a) s.back (classes_in language n old) (classes_in language (n + length old) back) (len ∙ sym (classes-length_in language n old)) p.1 in
    let moved = fit_moved_in language g (n + length old) (n + length new) s.back back (λ k lt. to k) q.1 in
    let fit = Fit-join s.front (flat b ++ map (shift g) s.back) (classes_in language 0 front) (classes_in language n new ++ classes_in language (n + length new) back) p.0 (Fit-join (flat b) (map (shift g) s.back) (classes_in language n new) (classes_in language (n + length new) back) fits_b moved) in
    record {
      well_formed = replaced_fine g a b context.Start t u r h.well_formed;
      fits = subst (λ (ms : List Mark). Fit ms (classes_in language 0 (front ++ (new ++ back)))) (sym s.new) (subst (λ (ls : List Classed). Fit (s.front ++ (flat b ++ map (shift g) s.back)) ls) (sym (split new)) fit);
    }
  where
    zero_first : (n : ℕ) → 0 + n ≡ n
    zero_first n = omega arith

-- ---- the same in the core language

pub statements_are_replaced : StatementsAreReplaced
statements_are_replaced = statements_are_replaced_in profile.Core

pub classes-append : (n : ℕ) (x y : List Lexeme) → classes n (x ++ y) ≡ classes n x ++ classes (n + length x) y
classes-append = classes-append_in profile.Core

pub classes-length : (n : ℕ) (x : List Lexeme) → length (classes n x) ≡ length x
classes-length = classes-length_in profile.Core

pub fit_moved : (g : Move) (n n' : ℕ) (ms : List Mark) (x : List Lexeme) → ((k : ℕ) → k < length x → g (n + k) ≡ n' + k) → Fit ms (classes n x) → Fit (map (shift g) ms) (classes n' x)
fit_moved = fit_moved_in profile.Core
