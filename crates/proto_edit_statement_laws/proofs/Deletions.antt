-- A field that is deleted: both trees are one tree with something put in.
use Rattle.std.proofs.Common.{◌≡◌, inl, inr, ℕ, suc, ◌+◌, ◌-◌, ◌<◌, ◌≤◌, Option, Some, None, List, [], ◌∷◌, ◌++◌, length, take, drop, map, codes, refl, sym, ap, ap₂, subst, ◌∙◌, arith, append_assoc, length-append, length-take, length-drop, IsUtf8, take-append-drop, drop-drop}
use Rattle.std.proofs.Math.Seq.{take-append_seam, drop-append_seam}
use Rattle.proto_base.proofs.Common.{length-map, IsUtf8-append, IsUtf8-between}
use Rattle.proto_text.specs.declared.lexer.Token.{Token}
use Rattle.proto_text.proofs.Common.{Puts, IsPlace, IsSeam, IsSegment, bytes_between, end_before, moved, Lexeme, lexeme_at, tokens_are_in_order}
use Rattle.proto_tree.specs.declared.class.Class.TheVariants as class
use Rattle.proto_tree.specs.declared.context.Context.TheVariants as context
use Rattle.proto_tree.specs.declared.piece.Statement.{Statement}
use Rattle.proto_tree.proofs.Common.{Mark, Fit, one, flat_statement, Move, IsShallow, ReadsIn, Tree, End, Leaf, flat, IsWellFormed, last_of, Spells, classes_in, trees_are_numbered_in}
use Rattle.proto_edit_statement_laws.specs.Common.{DeletionsAreOfOneTree, StandsAt, begins, ends, first_token, next_token, own, reservation_place, splice, without, before, MovesBy, reservation, reservation_text, reservation_tokens}
use Rattle.proto_edit_statement_laws.specs.Insertions.{IsInsertion}
use Rattle.proto_edit_statement_laws.proofs.Depth.{depth_is_kept}
use Rattle.proto_edit_statement_laws.proofs.Exchanged.{around, cut_around, statements_are_exchanged}
use Rattle.proto_edit_statement_laws.proofs.Found.{found}
use Rattle.proto_edit_statement_laws.proofs.Marks.{moved_moves_by, moves_in, some_marks}
use Rattle.proto_edit_statement_laws.proofs.NewStatements.{reservation_fits, reservation_has_no_brace, reservation_segment, reservation_utf8, spaced, spaced_utf8, word_is_string}
use Rattle.proto_edit_statement_laws.proofs.Reading.{calm_tree, leaves_depth}
use Rattle.proto_edit_statement_laws.proofs.Reversed.{exchanges_are_reversed}
use Rattle.proto_edit_statement_laws.proofs.Seams.{fit_long, seam_behind}
use Rattle.proto_edit_statement_laws.proofs.TakenOut.{IsTakenOut, before_field, through, through_message, closed, close_at, leaf_long, take_out}
use Rattle.proto_edit_statement_laws.proofs.TextLaws.{Laws}
use Rattle.proto_base.specs.declared.profile.Profile.{Profile}

-- ---- lists that are cut

pub take_front : (n : ℕ) (x y : List Lexeme) → length x ≡ n → take n (x ++ y) ≡ x
take_front n x y e = ap (λ (k : ℕ). take k (x ++ y)) (sym e) ∙ take-append_seam x y

pub drop_front : (n : ℕ) (x y : List Lexeme) → length x ≡ n → drop n (x ++ y) ≡ y
drop_front n x y e = ap (λ (k : ℕ). drop k (x ++ y)) (sym e) ∙ drop-append_seam x y

-- all of a list, in two parts and what stands from n on
pub in_parts : (f q : ℕ) (all : List Lexeme) → f ≤ q → all ≡ take f all ++ (take (q - f) (drop f all) ++ drop q all)
in_parts f q all le =
    let e : (q - f) + f ≡ q = omega (arith, le) in
    sym (take-append-drop f all) ∙ ap (λ (z : List Lexeme). take f all ++ z) (sym (take-append-drop (q - f) (drop f all)) ∙ ap (λ (z : List Lexeme). take (q - f) (drop f all) ++ z) (drop-drop (q - f) f all ∙ ap (λ (k : ℕ). drop k all) (flip f (q - f) q e)))
  where
    flip : (f n q : ℕ) → n + f ≡ q → f + n ≡ q
    flip f n q e = omega (arith, e)

-- ---- the text that is cut

-- what comes out, where the text up to an offset is replaced
record IsCut (profile : Profile) (text : List ℕ) (tokens : List Token) (t : Tree) (s : Statement) (p to : ℕ) (new : List ℕ) (number : ℕ) (name : List ℕ) : Type 0 where
  result : List ℕ
  after : List Token
  tree : Tree
  put : Puts 0 text (splice text (begins tokens s) to new ∷ []) result
  utf8 : IsUtf8 text → IsUtf8 new → IsUtf8 result
  reads : ReadsIn profile result after tree
  middle : Tree
  old : IsInsertion profile (first_token s) (Leaf s End) (own s (map (lexeme_at text) tokens)) middle (without s (map (lexeme_at text) tokens)) t (map (lexeme_at text) tokens)
  newer : IsInsertion profile p (reservation p) (reservation_tokens number name) middle (without s (map (lexeme_at text) tokens)) tree (map (lexeme_at result) after)

module _ (laws : Laws) (profile : Profile) (text : List ℕ) (tokens : List Token) (t : Tree) (s : Statement) {o : Option ℕ} (number : ℕ) (name : List ℕ) (reads : ReadsIn profile text tokens t) (stands : StandsAt s o t) where
  all : List Lexeme
  all = map (lexeme_at text) tokens

  many : length (map (lexeme_at text) tokens) ≡ length tokens
  many = length-map tokens (lexeme_at text)

  out : (g k : Move) (b : Tree) → IsWellFormed context.Message b → last_of context.Message b ≡ context.Message → IsTakenOut g k s b context.Start context.Start t (before_field stands) (through stands)
  out g k b fine stays = take_out g k s b fine stays context.Start context.Start t refl reads.spells.well_formed stands

  -- the text through token j is replaced
  cut_out : (j to p : ℕ) (new : List ℕ) → through stands ≡ j → j ≤ length tokens → next_token s ≤ j → p ≡ first_token s + (j - next_token s) → IsPlace tokens j to → begins tokens s ≤ to
      → IsSegment new (take (j - next_token s) (drop (next_token s) (map (lexeme_at text) tokens)) ++ reservation_tokens number name) → IsCut profile text tokens t s p to new number name
  cut_out j to p new through_is inside past p_is place le seg =
      let fd = found profile text tokens t s reads stands in
      let f : ℕ = first_token s in
      let q : ℕ = next_token s in
      let n : ℕ = length (flat_statement s) in
      let some = some_marks s in
      let next = fd.next in
      let as_many = many in
      let whole : List Lexeme = map (lexeme_at text) tokens in
      let g : Move = moved f (f + n) 0 in
      let k : Move = moved p p 6 in
      let b : Tree = reservation p in
      let res : List Lexeme = reservation_tokens number name in
      let v = out g k b (refl, (refl, tt)) refl in
      let taken_at : before v.taken ≡ f = v.taken_at ∙ fd.at in
      let put_at : before v.put ≡ p = let e = v.put_at in omega (arith, e, through_is, p_is, next, past) in
      let at_f : IsPlace tokens f (begins tokens s) = record { seam = fd.seam; there = inr (omega (arith, some, next, past, inside), refl) } in
      let put = laws.replaced text tokens f j (begins tokens s) to new (take (j - q) (drop q whole) ++ res) reads.tokens_are at_f place le seg in
      -- the tokens
      let front : List Lexeme = take f whole in
      let mine : List Lexeme = take (q - f) (drop f whole) in
      let mid : List Lexeme = take (j - q) (drop q whole) in
      let back : List Lexeme = drop j whole in
      let front_long : length front ≡ f = omega (arith, length-take f whole, as_many, inside, past, next) in
      let mine_long : length mine ≡ n = omega (arith, length-take (q - f) (drop f whole), length-drop f whole, as_many, inside, past, next) in
      let mid_long : length mid ≡ j - q = omega (arith, length-take (j - q) (drop q whole), length-drop q whole, as_many, inside, past) in
      let both_long : length (front ++ mid) ≡ p = omega (arith, length-append front mid, front_long, mid_long, p_is) in
      let parts : whole ≡ front ++ (mine ++ drop q whole) = in_parts f q whole (omega (arith, next)) in
      let tail : drop q whole ≡ mid ++ back = tail_is q j whole past in
      let less : front ++ drop q whole ≡ (front ++ mid) ++ back = ap (λ (z : List Lexeme). front ++ z) tail ∙ sym (append_assoc front mid back) in
      let spells = subst (λ (x : List Lexeme). Spells t (classes_in profile 0 x)) parts reads.spells in
      let shallow = subst (λ (x : List Lexeme). IsShallow (classes_in profile 0 x)) parts reads.shallow in
      let ar = around g (Leaf s End) End context.Start t v.middle v.taken in
      let c = cut_around profile t ar.front (flat (Leaf s End)) ar.back front mine (drop q whole) (ar.long ∙ taken_at ∙ sym front_long) (leaf_long s ∙ sym mine_long) ar.old spells.fits in
      let by_g : MovesBy g (length front) (length mine) 0 = subst (λ (x : ℕ). MovesBy g x (length mine) 0) (sym front_long) (subst (λ (x : ℕ). MovesBy g f x 0) (sym mine_long) (moved_moves_by f n 0)) in
      let by_k : MovesBy k (length (front ++ mid)) 0 6 = subst (λ (x : ℕ). MovesBy k x 0 6) (sym both_long) (moves_in p 6) in
      let by_back : MovesBy (moved f f (length mine)) (length front) 0 (length mine) = subst (λ (x : ℕ). MovesBy (moved f f (length mine)) x 0 (length mine)) (sym front_long) (moves_in f (length mine)) in
      let one_less = statements_are_exchanged profile g (Leaf s End) End t v.middle v.taken front mine [] (drop q whole) (taken_at ∙ sym front_long) (leaf_long s ∙ sym mine_long) tt by_g spells in
      let again = exchanges_are_reversed profile g (moved f f (length mine)) (Leaf s End) End t v.middle v.taken front mine [] (drop q whole) (taken_at ∙ sym front_long) (leaf_long s ∙ sym mine_long) refl by_back spells one_less in
      let fits = reservation_fits profile p number name in
      let six_more = statements_are_exchanged profile k End b v.middle v.tree v.put (front ++ mid) [] res back (put_at ∙ sym both_long) refl (subst (λ (x : ℕ). Fit (flat b) (classes_in profile x res)) (sym both_long) fits) by_k (subst (λ (x : List Lexeme). Spells v.middle (classes_in profile 0 x)) less one_less) in
      let less_deep = depth_is_kept profile front mine [] (drop q whole) (leaves_depth profile (length front) mine (calm_tree (Leaf s End) tt (classes_in profile (length front) mine) c.old_fits)) tt shallow in
      let as_deep = depth_is_kept profile (front ++ mid) [] res back (λ d. refl) (reservation_has_no_brace number name) (subst (λ (x : List Lexeme). IsShallow (classes_in profile 0 x)) less less_deep) in
      let result_is : (front ++ mid) ++ (res ++ back) ≡ front ++ ((mid ++ res) ++ back) = append_assoc front mid (res ++ back) ∙ ap (λ (z : List Lexeme). front ++ z) (sym (append_assoc mid res back)) in
      let spelled : Spells v.tree (classes_in profile 0 (map (lexeme_at put.0) put.1)) = subst (λ (x : List Lexeme). Spells v.tree (classes_in profile 0 x)) (result_is ∙ sym put.2.lexemes) six_more in
      let without_long : length (without s whole) ≡ f + length (drop q whole) = length-append front (drop q whole) ∙ ap (λ (x : ℕ). x + length (drop q whole)) front_long in
      record {
        result = put.0;
        after = put.1;
        tree = v.tree;
        put = put.2.put;
        utf8 = put.2.utf8;
        reads = record { tokens_are = put.2.lexed; spells = spelled; shallow = subst (λ (x : List Lexeme). IsShallow (classes_in profile 0 x)) (result_is ∙ sym put.2.lexemes) as_deep };
        middle = v.middle;
        old = record {
          within = omega (arith, without_long);
          tokens = parts ∙ ap₂ (λ (x y : List Lexeme). x ++ (mine ++ y)) (sym (take_front f front (drop q whole) front_long)) (sym (drop_front f front (drop q whole) front_long));
          tree = again.0;
          at = again.1 ∙ taken_at;
          before_spells = one_less;
          after_spells = reads.spells;
        };
        newer = record {
          within = (let e = ap (λ (z : List Lexeme). length z) less in omega (arith, e, length-append (front ++ mid) back, both_long));
          tokens = put.2.lexemes ∙ sym result_is
              ∙ ap₂ (λ (x y : List Lexeme). x ++ (res ++ y)) (sym (ap (take p) less ∙ take_front p (front ++ mid) back both_long)) (sym (ap (drop p) less ∙ drop_front p (front ++ mid) back both_long));
          tree = v.put;
          at = put_at;
          before_spells = one_less;
          after_spells = spelled;
        };
      }
    where
      tail_is : (q j : ℕ) (x : List Lexeme) → q ≤ j → drop q x ≡ take (j - q) (drop q x) ++ drop j x
      tail_is q j x le =
          let e : q + (j - q) ≡ j = omega (arith, le) in
          sym (take-append-drop (j - q) (drop q x)) ∙ ap (λ (z : List Lexeme). take (j - q) (drop q x) ++ z) (drop-drop (j - q) q x ∙ ap (λ (i : ℕ). drop i x) e)

-- ---- the law

pub deletions_are_of_one_tree : Laws → DeletionsAreOfOneTree
deletions_are_of_one_tree laws profile text tokens t s None number name reads stands small run =
    let fd = found profile text tokens t s reads stands in
    let f : ℕ = first_token s in
    let q : ℕ = next_token s in
    let some = some_marks s in
    let next = fd.next in
    let within = fd.within in
    let order = tokens_are_in_order text tokens reads.tokens_are in
    let le : begins tokens s ≤ ends tokens s = omega (arith, order.some f (omega (arith, within, some, next)), order.rising (suc f) q (omega (arith, some, next)) within) in
    let place : IsPlace tokens q (ends tokens s) = record { seam = fd.seam_next; there = inl refl } in
    let seg : IsSegment (reservation_text number name) (take (q - q) (drop q (map (lexeme_at text) tokens)) ++ reservation_tokens number name) =
    subst (λ (i : ℕ). IsSegment (reservation_text number name) (take i (drop q (map (lexeme_at text) tokens)) ++ reservation_tokens number name)) (none q) (reservation_segment laws number name small (word_is_string laws name run).0) in
    let at = fd.at in
    let c = cut_out laws profile text tokens t s number name reads stands q (ends tokens s) f (reservation_text number name) (omega (arith, through_message t refl stands, at, next)) within (omega arith) (omega arith) place le seg in (
      c.result,
      c.after,
      c.tree,
      record { put = c.put; utf8 = λ u. c.utf8 u (reservation_utf8 number name small run); reads = c.reads; middle = c.middle; old = c.old; new = c.newer },
    )
  where
    none : (q : ℕ) → 0 ≡ q - q
    none q = omega arith
deletions_are_of_one_tree laws profile text tokens t s (Some close) number name reads stands small run =
    let fd = found profile text tokens t s reads stands in
    let f : ℕ = first_token s in
    let q : ℕ = next_token s in
    let all : List Lexeme = map (lexeme_at text) tokens in
    let cl = closed t stands in
    let closes : suc close ≡ through stands = close_at t close (through stands) (trees_are_numbered_in profile t all reads.spells) cl.0 in
    let some = some_marks s in
    let next = fd.next in
    let at = fd.at in
    let less = cl.1 in
    let early : q < suc close = omega (arith, closes, less, at, next) in
    let marks = cl.0 in
    let long = marks.long in
    let seam_close : IsSeam tokens (suc close) = subst (IsSeam tokens) (long ∙ sym closes) (seam_behind profile text tokens 0 marks.front class.Close close marks.back refl (subst (λ (z : List Mark). Fit z (classes_in profile 0 all)) marks.parts reads.spells.fits)) in
    let within : suc close ≤ length tokens = let e = fit_long profile 0 (flat t) all reads.spells.fits in omega (arith, e, length-map tokens (lexeme_at text), closes, long, ap (λ (z : List Mark). length z) marks.parts, length-append marks.front (one class.Close close ++ marks.back)) in
    let order = tokens_are_in_order text tokens reads.tokens_are in
    let to : ℕ = end_before tokens (suc close) in
    let le : begins tokens s ≤ to = omega (arith, order.some f (omega (arith, within, early, some, next)), order.rising (suc f) (suc close) (omega (arith, early, some, next)) within) in
    let mid_le : ends tokens s ≤ to = order.rising q (suc close) (omega (arith, early)) within in
    let at_mid : IsPlace tokens q (ends tokens s) = record { seam = fd.seam_next; there = inl refl } in
    let at_close : IsPlace tokens (suc close) to = record { seam = seam_close; there = inl refl } in
    let kept = laws.between text tokens q (suc close) (ends tokens s) to reads.tokens_are at_mid at_close mid_le in
    let moving : List ℕ = bytes_between text (ends tokens s) to in
    let more : List ℕ = codes " " ++ reservation_text number name in
    let seg = laws.join moving more (take (suc close - q) (drop q all)) (reservation_tokens number name) kept.0 (spaced laws (reservation_text number name) (reservation_tokens number name) (reservation_segment laws number name small (word_is_string laws name run).0)) in
    let c = cut_out laws profile text tokens t s number name reads stands (suc close) to (reservation_place s (Some close)) (moving ++ more) (sym closes) within (omega (arith, early)) (omega (arith, early, next)) at_close le seg in (
      c.result,
      c.after,
      c.tree,
      record {
        put = c.put;
        utf8 = λ u. c.utf8 u (IsUtf8-append moving more (IsUtf8-between text (ends tokens s) to u mid_le kept.1.starts kept.1.ends) (spaced_utf8 (reservation_text number name) (reservation_utf8 number name small run)));
        reads = c.reads;
        middle = c.middle;
        old = c.old;
        new = c.newer;
      },
    )
