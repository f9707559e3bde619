-- Where the tokens of a statement among items stand.
use Rattle.std.proofs.Common.{◌≡◌, ℕ, suc, ◌<◌, ◌≤◌, List, [], ◌++◌, length, map, Option, Some, None, refl, sym, ap, ◌∙◌, arith, append_assoc, length-append}
use Rattle.std.proofs.lemmas.List.{length-map}
use Rattle.proto_text.specs.declared.lexer.Token.{Token}
use Rattle.proto_text.specs.Tokens.{lexeme_at}
use Rattle.proto_tree.specs.declared.class.Class.TheVariants as class
use Rattle.proto_tree.specs.declared.piece.Statement.{Statement}
use Rattle.proto_tree.specs.declared.piece.Statement.TheVariants as statement
use Rattle.proto_tree.specs.declared.tree.Import.{Import}
use Rattle.proto_tree.specs.declared.tree.Modifier.{Modifier}
use Rattle.proto_tree.specs.declared.tree.Modifier.TheVariants as modifier
use Rattle.proto_tree.proofs.Common.{Mark, flat_header, flat_statement, one, Numbered, ReadsIn, Tree, flat, trees_are_numbered_in}
use Rattle.proto_edit_statement_laws.proofs.Common.{AfterBlock, AfterLeaf, First, StandsIn, first_token, next_token, numbered_among, numbered_first, numbered_last, some_marks, fit_long}
use Rattle.proto_base.specs.declared.profile.Profile.{Profile}

pub record IsPart (ms whole : List Mark) : Type 0 where
  pub front : List Mark
  pub back : List Mark
  pub is : whole ≡ front ++ (ms ++ back)

further : (ms whole before : List Mark) → IsPart ms whole → IsPart ms (before ++ whole)
further ms whole before p = record { front = before ++ p.front; back = p.back; is = ap (λ z. before ++ z) p.is ∙ sym (append_assoc before p.front (ms ++ p.back)) }

stands_part : (s : Statement) (t : Tree) → StandsIn s t → IsPart (flat_statement s) (flat t)
stands_part s _ (First rest) = record { front = []; back = flat rest; is = refl }
stands_part s _ (AfterLeaf x rest h) = further (flat_statement s) (flat rest) (flat_statement x) (stands_part s rest h)
stands_part s _ (AfterBlock k i within j rest h) =
    further (flat_statement s) (flat within ++ (one class.Close j ++ flat rest)) (flat_header k ++ one class.Open i)
    (further (flat_statement s) (one class.Close j ++ flat rest) (flat within) (further (flat_statement s) (flat rest) (one class.Close j) (stands_part s rest h)))

-- its first token, and the token behind it
pub stands_inside : (profile : Profile) (text : List ℕ) (tokens : List Token) (t : Tree) (s : Statement) → ReadsIn profile text tokens t → IsPart (flat_statement s) (flat t) → (first_token s < next_token s) × (next_token s ≤ length tokens)
stands_inside profile text tokens t s reads p =
    let whole = map (lexeme_at text) tokens in
    let marks : Numbered (length p.front) (flat_statement s) = numbered_among (length p.front) (flat_statement s) p.front p.back (flat t) p.is (trees_are_numbered_in profile t whole reads.spells) refl refl in
    let some = some_marks s in
    let first = numbered_first (length p.front) (flat_statement s) marks some in
    let last = numbered_last (length p.front) (flat_statement s) marks some in
    let long = fit_long profile 0 (flat t) whole reads.spells.fits ∙ length-map tokens (lexeme_at text) in
    let parts = ap (λ (z : List Mark). length z) p.is ∙ length-append p.front (flat_statement s ++ p.back) in
    let rest = length-append (flat_statement s) p.back in
    (omega (arith, first, last, some), omega (arith, last, long, parts, rest))

-- ---- an import

pub import_last : (i : Import) → next_token (statement.Import i) ≡ suc i.semicolon
import_last i = by i.modifier
  where
    by : (o : Option Modifier) → next_token (statement.Import (record { keyword = i.keyword; modifier = o; path = i.path; semicolon = i.semicolon })) ≡ suc i.semicolon
    by None = refl
    by (Some (modifier.Public p)) = refl
    by (Some (modifier.Weak p)) = refl

pub import_inside : (profile : Profile) (text : List ℕ) (tokens : List Token) (t : Tree) (i : Import) → ReadsIn profile text tokens t → StandsIn (statement.Import i) t → (i.keyword ≤ i.semicolon) × (i.semicolon < length tokens)
import_inside profile text tokens t i reads h =
    let x = stands_inside profile text tokens t (statement.Import i) reads (stands_part (statement.Import i) t h) in
    let last = import_last i in
    let a = x.0 in
    let b = x.1 in
    (omega (arith, a, last), omega (arith, b, last))
