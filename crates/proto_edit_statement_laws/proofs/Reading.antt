-- What is read of a text in which statements replace statements.
use Rattle.std.proofs.Common.{◌≡◌, ℕ, ◌+◌, ◌-◌, ◌≤◌, Option, Some, None, List, [], ◌++◌, length, take, drop, map, refl, sym, ap, subst, ◌∙◌, arith, true, append-nil, length-take, length-drop, take-append-drop, drop-drop}
use Rattle.std.proofs.lemmas.List.{length-map}
use Rattle.proto_text.proofs.Common.{Lexeme, lexeme_at, RunsAreReplaced}
use Rattle.proto_tree.specs.declared.class.Lexeme.{Lexeme as Classed}
use Rattle.proto_tree.specs.declared.context.Context.{Context}
use Rattle.proto_tree.specs.declared.context.Context.TheVariants as context
use Rattle.proto_tree.specs.declared.piece.Piece.TheVariants as piece
use Rattle.proto_tree.specs.declared.piece.Statement.{Statement}
use Rattle.proto_tree.specs.declared.piece.Statement.TheVariants as statement
use Rattle.proto_tree.proofs.Common.{is_brace, Fit, flat_statement, IsShallow, open_from, Tree, End, Leaf, Block, flat, field_kind, statement_kind, allows, Spells, classes_in, Fit-split, Calm, Calm-append, no_text, laws}
use Rattle.proto_edit_statement_laws.specs.Common.{before, AreStatements, LeaveDepth, StatementsAreRead}
use Rattle.proto_edit_statement_laws.proofs.Depth.{depth_is_kept, opens_is}
use Rattle.proto_edit_statement_laws.proofs.Exchanged.{around, cut_around, statements_are_exchanged}
use Rattle.proto_edit_statement_laws.proofs.Seams.{places_are_seams}
use Rattle.proto_tree.specs.declared.tree.Setting.{Setting}
use Rattle.proto_tree.specs.declared.tree.Setting.TheVariants as setting
use Rattle.proto_tree.specs.Tree.{option_kind}
use Rattle.proto_tree.proofs.Places.{counted_all}
use Rattle.proto_base.specs.declared.profile.Profile.{Profile}
use Rattle.proto_base.specs.declared.profile.Profile.TheVariants.{Core}

-- ---- a statement leaves the depth of braces

-- a context in which such a statement may stand
home : Statement → Context
home (statement.Syntax s) = context.Start
home (statement.Import i) = context.File
home (statement.Package p) = context.File
home (statement.Option o) = context.File
home (statement.Field f) = context.Message
home (statement.MapField f) = context.Message
home (statement.Reserved r) = context.Message
home (statement.Extensions e) = context.Message
home (statement.Value v) = context.Enum
home (statement.EnumReserved r) = context.Enum
home (statement.Method s i) = context.Service
home (statement.Empty i) = context.Message

label_at_home : (label : Option ℕ) → allows context.Message (field_kind label) ≡ true
label_at_home None = refl
label_at_home (Some i) = refl

option_at_home : (s : Setting) → allows context.File (option_kind s) ≡ true
option_at_home (setting.Plain p) = refl
option_at_home (setting.Custom c) = refl

at_home : (s : Statement) → allows (home s) (statement_kind s) ≡ true
unfolding home
at_home (statement.Syntax s) = refl
at_home (statement.Import i) = refl
at_home (statement.Package p) = refl
at_home (statement.Option o) = option_at_home o.setting
at_home (statement.Field f) = label_at_home f.label
at_home whole = refl

pub calm_tree : (t : Tree) → AreStatements t → (text : List Classed) → Fit (flat t) text → Calm is_brace text
calm_tree End are text h = subst (Calm is_brace) (no_text text h) (λ d r. refl)
calm_tree (Leaf s rest) are text h =
    let p = Fit-split (flat_statement s) (flat rest) text h in
    subst (Calm is_brace) (sym p.2) (Calm-append is_brace p.0 p.1 ((laws (home s)).end (piece.Statement s) (at_home s) p.0 p.3).calm (calm_tree rest are p.1 p.4))
calm_tree (Block k i within j rest) are text h = absurd are

pub leaves_depth : (profile : Profile) (n : ℕ) (ls : List Lexeme) → Calm is_brace (classes_in profile n ls) → LeaveDepth ls
leaves_depth profile n ls h d =
    let text : List Classed = classes_in profile n ls in
    opens_is Core d 0 ls ∙ sym (opens_is profile d n ls) ∙ ap (open_from d) (sym (append-nil text)) ∙ sym (counted_all d (text ++ [])) ∙ h d []

-- ---- the law

pub statements_are_read : RunsAreReplaced → StatementsAreRead
statements_are_read runs_are_replaced profile source tokens g a b t u r from to new ls reads sa sb p q le seg fit by =
    let s = around g a b context.Start t u r in
    let seams = places_are_seams profile source tokens g a b t u r reads in
    let i : ℕ = before r in
    let n : ℕ = length (flat a) in
    let all : List Lexeme = map (lexeme_at source) tokens in
    let many : length all ≡ length tokens = length-map tokens (lexeme_at source) in
    let within : i + n ≤ length all = omega (arith, many, seams.2) in
    let front : List Lexeme = take i all in
    let old : List Lexeme = take ((i + n) - i) (drop i all) in
    let back : List Lexeme = drop (i + n) all in
    let front_long : length front ≡ i = omega (arith, length-take i all, within) in
    let old_long : length old ≡ n = omega (arith, length-take ((i + n) - i) (drop i all), length-drop i all, within) in
    let parts : all ≡ front ++ (old ++ back) = in_three i n all in
    let spells = subst (λ (x : List Lexeme). Spells t (classes_in profile 0 x)) parts reads.spells in
    let shallow = subst (λ (x : List Lexeme). IsShallow (classes_in profile 0 x)) parts reads.shallow in
    let c = cut_around profile t s.front (flat a) s.back front old back (s.long ∙ sym front_long) (sym old_long) s.old spells.fits in
    let spelled = statements_are_exchanged profile g a b t u r front old ls back (sym front_long) (sym old_long) (subst (λ (k : ℕ). Fit (flat b) (classes_in profile k ls)) (sym front_long) fit)
    (record {
      stays = λ k lt. by.stays k (omega (arith, lt, front_long));
      goes = λ k. ap g (ap (λ (x : ℕ). x + length old + k) front_long ∙ ap (λ (x : ℕ). i + x + k) old_long) ∙ by.goes k ∙ ap (λ (x : ℕ). x + length ls + k) (sym front_long);
    }) spells in
    let kept = depth_is_kept profile front old ls back (leaves_depth profile (length front) old (calm_tree a sa (classes_in profile (length front) old) c.old_fits)) sb shallow in
    let put = runs_are_replaced source tokens i (i + n) from to new ls reads.tokens_are p q le seg in (
      put.0,
      put.1,
      put.2,
      record {
        tokens_are = put.2.lexed;
        spells = subst (λ (x : List Lexeme). Spells u (classes_in profile 0 x)) (sym put.2.lexemes) spelled;
        shallow = subst (λ (x : List Lexeme). IsShallow (classes_in profile 0 x)) (sym put.2.lexemes) kept;
      },
    )
  where
    in_three : (i n : ℕ) (all : List Lexeme) → all ≡ take i all ++ (take ((i + n) - i) (drop i all) ++ drop (i + n) all)
    in_three i n all =
        sym (take-append-drop i all)
        ∙ ap (λ (z : List Lexeme). take i all ++ z) (sym (take-append-drop ((i + n) - i) (drop i all)) ∙ ap (λ (z : List Lexeme). take ((i + n) - i) (drop i all) ++ z) (drop-drop ((i + n) - i) i all ∙ ap (λ (k : ℕ). drop k all) (omega arith)))
