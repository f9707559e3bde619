-- Imports that are put in and taken out.
use Rattle.std.proofs.Common.{◌≡◌, inl, inr, ℕ, zero, suc, ◌+◌, ◌-◌, ◌≤◌, List, [], ◌++◌, length, take, drop, map, codes, refl, sym, ap, ap₂, subst, ◌∙◌, arith, length-append, length-take, length-drop, IsUtf8, append-nil}
use Rattle.proto_base.proofs.Common.{length-map, IsUtf8-append, IsUtf8-nil}
use Rattle.proto_text.proofs.Common.{IsPlace, IsReplaced, IsSeam, IsSegment, end_before, moved, quoted, RunsAreReplaced, IsString, Lexeme, lexeme_at, tokens_are_in_order}
use Rattle.proto_tree.specs.declared.context.Context.{Context}
use Rattle.proto_tree.specs.declared.context.Context.TheVariants as context
use Rattle.proto_tree.specs.declared.context.Kind.TheVariants as kind
use Rattle.proto_tree.specs.declared.piece.Statement.{Statement}
use Rattle.proto_tree.specs.declared.piece.Statement.TheVariants as statement
use Rattle.proto_tree.specs.declared.tree.Import.{Import}
use Rattle.proto_tree.proofs.Common.{Mark, Fit, flat_statement, Numbered, Move, move_header, move_statement, move_tree, Tree, End, Leaf, Block, flat, statement_kind, header_kind, after, IsWellFormed, last_of, Spells, classes_in, trees_are_numbered_in}
use Rattle.proto_edit_statement_laws.specs.Common.{StandsIn, First, AfterLeaf, AfterBlock, begins, ends, first_token, next_token, own, IsExchanged, Here, Later, Behind, before, MovesBy, AdditionsAreRead, DropsAreRead, added_text, import_place, import_tree, import_text, import_tokens}
use Rattle.proto_edit_statement_laws.proofs.Deletions.{drop_front, in_parts, take_front}
use Rattle.proto_edit_statement_laws.proofs.Endings.{nothing_behind}
use Rattle.proto_edit_statement_laws.proofs.Exchanged.{around}
use Rattle.proto_edit_statement_laws.proofs.FileContexts.{IsOuter, IsSettled, import_may, import_stays, outer, settled, start_from_file}
use Rattle.proto_edit_statement_laws.proofs.ImportPlaces.{place_of_import}
use Rattle.proto_edit_statement_laws.proofs.Marks.{moved_moves_by, moves_in, numbered_among, numbered_first, numbered_last, some_marks}
use Rattle.proto_edit_statement_laws.proofs.NewStatements.{feed_utf8, import_fits, import_has_no_brace, import_segment, import_utf8}
use Rattle.proto_edit_statement_laws.proofs.Reading.{statements_are_read}
use Rattle.proto_edit_statement_laws.proofs.Reversed.{exchanges_are_reversed}
use Rattle.proto_edit_statement_laws.proofs.Seams.{places_are_seams}
use Rattle.proto_edit_statement_laws.proofs.TakenOut.{before_it}
use Rattle.proto_edit_statement_laws.proofs.TextLaws.{Laws}

-- ---- an added import

import_fine : (i : ℕ) (c : Context) → IsSettled c → IsWellFormed c (import_tree i) × (last_of c (import_tree i) ≡ c)
import_fine i c s = ((import_may c (outer c s), tt), import_stays c s)

added_segment : (laws : Laws) (i : ℕ) (path : List ℕ) → IsString (quoted path) → IsSegment (added_text i path) (import_tokens path)
added_segment laws zero path is =
    subst (IsSegment (import_text path ++ codes "\n")) (append-nil (import_tokens path)) (laws.join (import_text path) (codes "\n") (import_tokens path) [] (import_segment laws path is) (laws.space 10 refl))
added_segment laws (suc i) path is = laws.join (codes "\n") (import_text path) [] (import_tokens path) (laws.space 10 refl) (import_segment laws path is)

added_utf8 : (i : ℕ) (path : List ℕ) → IsUtf8 path → IsUtf8 (added_text i path)
added_utf8 zero path h = IsUtf8-append (import_text path) (codes "\n") (import_utf8 path h) feed_utf8
added_utf8 (suc i) path h = IsUtf8-append (codes "\n") (import_text path) feed_utf8 (import_utf8 path h)

pub additions_are_read : Laws → AdditionsAreRead
additions_are_read laws profile text tokens t path reads is =
    let i : ℕ = import_place t in
    let g : Move = moved i i 3 in
    let b : Tree = import_tree i in
    let end : ℕ = end_before tokens i in
    let w = place_of_import g b t reads.spells.well_formed (trees_are_numbered_in profile t (map (lexeme_at text) tokens) reads.spells) (import_fine i) (refl, tt) refl in
    let v = w.there in
    let place : before v.put ≡ i = let e = v.at in omega (arith, e) in
    let seams = places_are_seams profile text tokens g End b t v.tree v.put reads in
    let j_is : before v.put + 0 ≡ i = omega (arith, place) in
    let p : IsPlace tokens i end = record { seam = subst (IsSeam tokens) place seams.0; there = inl refl } in
    let read = statements_are_read laws.replaced profile text tokens g End b t v.tree v.put end end (added_text i path) (import_tokens path) reads tt (import_has_no_brace path)
    (subst (λ (x : ℕ). IsPlace tokens x end) (sym place) p) (subst (λ (x : ℕ). IsPlace tokens x end) (sym j_is) p) (omega arith)
    (added_segment laws i path is) (subst (λ (x : ℕ). Fit (flat b) (classes_in profile x (import_tokens path))) (sym place) (import_fits profile i path))
    (subst (λ (x : ℕ). MovesBy g x 0 3) (sym place) (moves_in i 3)) in
    let replaced : IsReplaced text tokens i i end end (added_text i path) (import_tokens path) read.0 read.1 =
    subst (λ (x : ℕ). IsReplaced text tokens x i end end (added_text i path) (import_tokens path) read.0 read.1) place
    (subst (λ (y : ℕ). IsReplaced text tokens (before v.put) y end end (added_text i path) (import_tokens path) read.0 read.1) j_is read.2) in (
      read.0,
      read.1,
      v.tree,
      record {
        put = replaced.put;
        utf8 = λ h u. replaced.utf8 u (added_utf8 i path h);
        reads = read.3;
        tree = record {
          within = (let q = seams.2 in omega (arith, q, place, length-map tokens (lexeme_at text)));
          tokens = replaced.lexemes;
          tree = v.put;
          at = place;
          before_spells = reads.spells;
          after_spells = read.3.spells;
        };
        last = w.last;
      },
    )

-- ---- a dropped import

record IsWithout (g : Move) (x : Import) (c : Context) (t : Tree) (p : ℕ) : Type 0 where
  tree : Tree
  put : IsExchanged g (Leaf (statement.Import x) End) End c t tree
  at : before put ≡ p

drop_within : (g : Move) (x : Import) (c : Context) (t : Tree) → IsOuter c → (h : StandsIn (statement.Import x) t) → IsWithout g x c t (before_it h)
drop_within g x c _ o (First rest) = record { tree = move_tree g rest; put = Here c rest tt (back c o); at = refl }
  where
    back : (c : Context) → IsOuter c → IsWellFormed (after c kind.Import) rest → IsWellFormed c rest
    back context.Start o h = start_from_file rest h
    back context.File o h = h
    back context.Packaged o h = h
    back context.Message o h = absurd o
    back context.Oneof o h = absurd o
    back context.Enum o h = absurd o
    back context.Service o h = absurd o
    back context.Method o h = absurd o
    back context.Extend o h = absurd o
drop_within g x c _ o (AfterLeaf s rest h) =
    let v = drop_within g x (after c (statement_kind s)) rest (outer (after c (statement_kind s)) (settled c (statement_kind s) o)) h in
    record { tree = Leaf (move_statement g s) v.tree; put = Later c s rest v.tree v.put; at = ap (λ (n : ℕ). length (flat_statement s) + n) v.at }
drop_within g x c _ o (AfterBlock k i within j rest h) =
    let v = drop_within g x (after c (header_kind k)) rest (outer (after c (header_kind k)) (settled c (header_kind k) o)) h in
    record { tree = Block (move_header g k) (g i) (move_tree g within) (g j) v.tree; put = Behind c k i within j rest v.tree v.put; at = ap (λ (n : ℕ). length (flat (Block k i within j End)) + n) v.at }

pub drops_are_read : RunsAreReplaced → DropsAreRead
drops_are_read runs profile text tokens t x reads stands =
    let s : Statement = statement.Import x in
    let a : Tree = Leaf s End in
    let n : ℕ = length (flat_statement s) in
    let f : ℕ = first_token s in
    let q : ℕ = next_token s in
    let g : Move = moved f (f + n) 0 in
    let whole : List Lexeme = map (lexeme_at text) tokens in
    let long : length (flat a) ≡ n = ap (λ (y : List Mark). length y) (nothing_behind (flat_statement s)) in
    let some = some_marks s in
    let v = drop_within g x context.Start t tt stands in
    let ar = around g a End context.Start t v.tree v.put in
    let marks : Numbered (before_it stands) (flat_statement s) = numbered_among (before_it stands) (flat a) ar.front ar.back (flat t) ar.old (trees_are_numbered_in profile t whole reads.spells) (ar.long ∙ v.at) (nothing_behind (flat_statement s)) in
    let first : f ≡ before_it stands = numbered_first (before_it stands) (flat_statement s) marks some in
    let next : q ≡ f + n = numbered_last (before_it stands) (flat_statement s) marks some ∙ ap (λ (y : ℕ). y + n) (sym first) in
    let place : before v.put ≡ f = v.at ∙ sym first in
    let seams = places_are_seams profile text tokens g a End t v.tree v.put reads in
    let j_is : before v.put + length (flat a) ≡ q = omega (arith, place, long, next) in
    let within : q ≤ length tokens = omega (arith, seams.2, j_is) in
    let many : length whole ≡ length tokens = length-map tokens (lexeme_at text) in
    let order = tokens_are_in_order text tokens reads.tokens_are in
    let le : begins tokens s ≤ ends tokens s = omega (arith, order.some f (omega (arith, within, some, next)), order.rising (suc f) q (omega (arith, some, next)) within) in
    let p : IsPlace tokens f (begins tokens s) = record { seam = subst (IsSeam tokens) place seams.0; there = inr (omega (arith, within, some, next), refl) } in
    let r : IsPlace tokens q (ends tokens s) = record { seam = subst (IsSeam tokens) j_is seams.1; there = inl refl } in
    let read = statements_are_read runs profile text tokens g a End t v.tree v.put (begins tokens s) (ends tokens s) [] [] reads tt tt
    (subst (λ (y : ℕ). IsPlace tokens y (begins tokens s)) (sym place) p) (subst (λ (y : ℕ). IsPlace tokens y (ends tokens s)) (sym j_is) r) le
    ([], (λ rest. tt), refl, refl) tt
    (subst (λ (y : ℕ). MovesBy g y (length (flat a)) 0) (sym place) (subst (λ (y : ℕ). MovesBy g f y 0) (sym long) (moved_moves_by f n 0))) in
    let replaced : IsReplaced text tokens f q (begins tokens s) (ends tokens s) [] [] read.0 read.1 =
    subst (λ (y : ℕ). IsReplaced text tokens y q (begins tokens s) (ends tokens s) [] [] read.0 read.1) place
    (subst (λ (y : ℕ). IsReplaced text tokens (before v.put) y (begins tokens s) (ends tokens s) [] [] read.0 read.1) j_is read.2) in
    let front : List Lexeme = take f whole in
    let mine : List Lexeme = own s whole in
    let front_long : length front ≡ f = omega (arith, length-take f whole, many, within, next) in
    let mine_long : length mine ≡ n = omega (arith, length-take (q - f) (drop f whole), length-drop f whole, many, within, next) in
    let parts : whole ≡ front ++ (mine ++ drop q whole) = in_parts f q whole (omega (arith, next)) in
    let is : map (lexeme_at read.0) read.1 ≡ front ++ drop q whole = replaced.lexemes in
    let by_back : MovesBy (moved f f (length mine)) (length front) 0 (length mine) = subst (λ (y : ℕ). MovesBy (moved f f (length mine)) y 0 (length mine)) (sym front_long) (moves_in f (length mine)) in
    let again = exchanges_are_reversed profile g (moved f f (length mine)) a End t v.tree v.put front mine [] (drop q whole) (place ∙ sym front_long) (long ∙ sym mine_long) refl by_back
    (subst (λ (y : List Lexeme). Spells t (classes_in profile 0 y)) parts reads.spells) (subst (λ (y : List Lexeme). Spells v.tree (classes_in profile 0 y)) is read.3.spells) in (
      read.0,
      read.1,
      v.tree,
      record {
        put = replaced.put;
        utf8 = λ u. replaced.utf8 u IsUtf8-nil;
        reads = read.3;
        tokens_are = is;
        tree = record {
          within = omega (arith, ap (λ (y : List Lexeme). length y) is, length-append front (drop q whole), front_long);
          tokens = parts ∙ ap₂ (λ (y z : List Lexeme). y ++ (mine ++ z)) (sym (ap (take f) is ∙ take_front f front (drop q whole) front_long)) (sym (ap (drop f) is ∙ drop_front f front (drop q whole) front_long));
          tree = again.0;
          at = again.1 ∙ place;
          before_spells = read.3.spells;
          after_spells = reads.spells;
        };
      },
    )
