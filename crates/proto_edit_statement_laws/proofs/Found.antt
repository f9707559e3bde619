-- Where the statement of a field stands among the tokens (for the crates above).
use Rattle.std.proofs.Common.{◌≡◌, ℕ, ◌+◌, ◌≤◌, Option, List, length, map, refl, sym, ap, ap₂, subst, ◌∙◌}
use Rattle.proto_text.specs.declared.lexer.Token.{Token}
use Rattle.proto_text.proofs.Common.{IsSeam, moved, lexeme_at}
use Rattle.proto_tree.specs.declared.context.Context.TheVariants as context
use Rattle.proto_tree.specs.declared.piece.Statement.{Statement}
use Rattle.proto_tree.proofs.Common.{flat_statement, Numbered, Move, ReadsIn, Tree, End, Leaf, flat, trees_are_numbered_in}
use Rattle.proto_edit_statement_laws.specs.Common.{StandsAt, first_token, next_token, before, reservation}
use Rattle.proto_edit_statement_laws.proofs.Endings.{nothing_behind}
use Rattle.proto_edit_statement_laws.proofs.Exchanged.{around}
use Rattle.proto_edit_statement_laws.proofs.Marks.{numbered_among, numbered_first, numbered_last, some_marks}
use Rattle.proto_edit_statement_laws.proofs.Seams.{places_are_seams}
use Rattle.proto_edit_statement_laws.proofs.TakenOut.{before_field, leaf_long, take_out}
use Rattle.proto_base.specs.declared.profile.Profile.{Profile}

-- its first token, the token behind it, and its marks
pub record IsFound (tokens : List Token) (s : Statement) {o : Option ℕ} {t : Tree} (h : StandsAt s o t) : Type 0 where
  pub at : before_field h ≡ first_token s
  pub next : next_token s ≡ first_token s + length (flat_statement s)
  pub within : next_token s ≤ length tokens
  pub seam : IsSeam tokens (first_token s)
  pub seam_next : IsSeam tokens (next_token s)
  pub marks : Numbered (first_token s) (flat_statement s)

pub found : (profile : Profile) (text : List ℕ) (tokens : List Token) (t : Tree) (s : Statement) {o : Option ℕ} → ReadsIn profile text tokens t → (stands : StandsAt s o t) → IsFound tokens s stands
found profile text tokens t s reads stands =
    let g : Move = moved 0 0 0 in
    let v = take_out g g s (reservation 0) (refl, (refl, tt)) refl context.Start context.Start t refl reads.spells.well_formed stands in
    let ar = around g (Leaf s End) End context.Start t v.middle v.taken in
    let num = trees_are_numbered_in profile t (map (lexeme_at text) tokens) reads.spells in
    let marks : Numbered (before_field stands) (flat_statement s) = numbered_among (before_field stands) (flat (Leaf s End)) ar.front ar.back (flat t) ar.old num (ar.long ∙ v.taken_at) (nothing_behind (flat_statement s)) in
    let some = some_marks s in
    let first = numbered_first (before_field stands) (flat_statement s) marks some in
    let last = numbered_last (before_field stands) (flat_statement s) marks some in
    let seams = places_are_seams profile text tokens g (Leaf s End) End t v.middle v.taken reads in
    let i_is : before v.taken ≡ first_token s = v.taken_at ∙ sym first in
    let j_is : before v.taken + length (flat (Leaf s End)) ≡ next_token s = ap₂ (λ (x y : ℕ). x + y) v.taken_at (leaf_long s) ∙ sym last in
    record {
      at = sym first;
      next = last ∙ ap (λ (n : ℕ). n + length (flat_statement s)) (sym first);
      within = subst (λ (n : ℕ). n ≤ length tokens) j_is seams.2;
      seam = subst (IsSeam tokens) i_is seams.0;
      seam_next = subst (IsSeam tokens) j_is seams.1;
      marks = subst (λ (n : ℕ). Numbered n (flat_statement s)) (sym first) marks;
    }
