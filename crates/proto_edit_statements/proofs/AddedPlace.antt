-- The place of an added import.
use Rattle.std.proofs.Common.{◌≡◌, ℕ, suc, ◌<◌, ◌≤◌, List, [], length, get_or, Option, refl, sym, ap, ap₂, subst, ◌∙◌, arith, IsCharBoundary}
use Rattle.proto_base.proofs.Common.{length-map, IsUtf8-nil}
use Rattle.proto_text.proofs.Common.{class_of, end_before, quoted, IsSpan, IsString, lexeme_at}
use Rattle.proto_text.specs.declared.lexer.Token.{Token}
use Rattle.proto_text.specs.declared.source.Span.{Span}
use Rattle.proto_tree.proofs.Common.{ReadsIn, Tree}
use Rattle.proto_files.proofs.Common.{ReadOf, read_at, FileOf, file_at}
use Rattle.proto_edit_statement_laws.proofs.Common.{splice, AdditionsAreRead, added_text, import_place}
use Rattle.proto_edit_rules.specs.AddImport.{splice_of_addition}
use Rattle.proto_edit_statements.specs.ImportPlaces.{behind_all, ends_of, place_behind}
use Rattle.proto_edit_statements.proofs.ImportEnds.{place_is}
use Rattle.proto_edit_statements.proofs.TokenSpans.{end_is}
use Rattle.proto_base.specs.declared.profile.Profile.{Profile}

empty_string : IsString (quoted [])
unfolding class_of
empty_string = (34, [], (refl, refl, refl), ([], refl, IsUtf8-nil))

pub place_inside : AdditionsAreRead → (profile : Profile) (text : List ℕ) (tokens : List Token) (t : Tree) → ReadsIn profile text tokens t → import_place t ≤ length tokens
place_inside law profile text tokens t reads =
    let r = law profile text tokens t [] reads empty_string in
    let within = r.3.tree.within in
    let long = length-map tokens (lexeme_at text) in
    omega (arith, within, long)

pub place_by : (t : Tree) (end : Option ℕ) → end ≡ behind_all (ends_of t) → import_place t ≡ place_behind end
place_by t end e = place_is t ∙ ap place_behind (sym e)

pub empty_span : (text : List ℕ) (span : Span) → span.end ≡ span.start → IsCharBoundary text span.start → IsSpan text span
empty_span text span same h = record { ordered = omega (arith, same); starts = h; ends = subst (IsCharBoundary text) (sym same) h }

-- ---- the splice

pub place_of_some : (tokens ts : List Token) → tokens ≡ ts → (token : ℕ) (d : Token) (at : ℕ) → token < length ts → at ≡ (get_or ts token d).span.end → at ≡ end_before tokens (suc token)
place_of_some tokens ts same token d at l e = e ∙ sym (end_is ts token d l) ∙ ap (λ (z : List Token). end_before z (suc token)) (sym same)

module _ (files : List FileOf) (reads : List ReadOf) (file : ℕ) (path : List ℕ) (t : Tree) (tree_is : (read_at reads file).tree ≡ t) (end : Option ℕ) (by : end ≡ behind_all (ends_of t)) where
  place : import_place (read_at reads file).tree ≡ place_behind end
  place = ap import_place tree_is ∙ place_by t end by

  pub addition_is : (at : ℕ) (text : List ℕ) → at ≡ end_before (read_at reads file).tokens (place_behind end) → text ≡ added_text (place_behind end) path → splice (file_at files file).bytes at at text ≡ splice_of_addition files reads file path
  addition_is at text at_is text_is =
      ap₂ (λ (x : ℕ) (y : List ℕ). splice (file_at files file).bytes x x y) (at_is ∙ ap (end_before (read_at reads file).tokens) (sym place)) (text_is ∙ ap (λ n. added_text n path) (sym place))
