use Rattle.std.proofs.Common.{◌≡◌, ◌≢◌, ℕ, List, [], All, length, map, refl, sym, ap, subst, ◌∙◌, arith, eq-eqb, eqb-true}
use Rattle.std.proofs.lemmas.Bool.{both_ways}
use Rattle.proto_base.proofs.Common.{nil_from_length}
use Rattle.proto_text.specs.declared.lexer.Token.{Token}
use Rattle.proto_text.specs.SourceFacts.{IsSpan}
use Rattle.proto_files.specs.GivenFiles.{file_at}
use Rattle.proto_edit_rename.specs.MadeChanges.{marked_from, StandInOrder, word_put}
use Rattle.proto_edit_rename.proofs.FileChanges.{chosen, chosen_in_order, none_chosen, none_made, one_made, too_large_made}
use Rattle.proto_edit_rename.proofs.PlacedWords.{marked_all}
use Rattle.proto_edit_rename.proofs.TokensInOrder.{words_are_short}
use Rattle.proto_edit_rename.proofs.changing.change_of_file.Goals as goal

pub returns-then-is_empty-clause-change : goal.returns-then-is_empty-clause-change
returns-then-is_empty-clause-change c =
    let tokens = c.tokens-tokens.result.now in
    let short = c.as_bytes.ensures.short in
    let same = ap length (c.as_bytes.ensures.value ∙ c.source-source.ensures) in
    let none : c.args.places.now ≡ [] = nil_from_length c.args.places.now (eqb-true (length c.args.places.now) 0 (sym c.is_empty.ensures ∙ c.if-is_empty.true)) in
    none_made c.args.files.now c.args.file c.requires tokens c.tokens-tokens.ensures.tokens c.args.places.now c.args.to.now [] (sym (ap (chosen tokens) none ∙ none_chosen tokens)) refl (omega (arith, short, same))

pub returns-then-is_empty-2-clause-change : goal.returns-then-is_empty-2-clause-change
returns-then-is_empty-2-clause-change c =
    let tokens = c.tokens-tokens.result.now in
    let changed = c.as_slice-changed.result.now in
    let is : changed ≡ chosen tokens c.args.places.now = c.as_slice-changed.ensures.value ∙ c.in_ok-found.ensures in
    let short = c.as_bytes.ensures.short in
    let same = ap length (c.as_bytes.ensures.value ∙ c.source-source.ensures) in
    let none : length changed ≡ 0 = eqb-true (length changed) 0 (sym c.is_empty-2.ensures ∙ c.if-is_empty-2.true) in
    none_made c.args.files.now c.args.file c.requires tokens c.tokens-tokens.ensures.tokens c.args.places.now c.args.to.now changed is none (omega (arith, short, same))

pub len_after-requires-clause-some : goal.len_after-requires-clause-some
len_after-requires-clause-some c =
    let changed = c.as_slice-changed.result.now in
    let some : length changed ≢ 0 = λ e. both_ways c.is_empty-2.result c.if-is_empty-2.false (c.is_empty-2.ensures ∙ eq-eqb (length changed) 0 e) in
    omega (arith, some)

pub len_after-requires-clause-order : goal.len_after-requires-clause-order
len_after-requires-clause-order c =
    let tokens = c.tokens-tokens.result.now in
    let is : c.as_slice-changed.result.now ≡ chosen tokens c.args.places.now = c.as_slice-changed.ensures.value ∙ c.in_ok-found.ensures in
    subst (λ (z : List ℕ). StandInOrder 0 (length z) c.as_slice-changed.result.now) (sym c.source-source.ensures)
    (subst (StandInOrder 0 (length (file_at c.args.files.now c.args.file).bytes)) (sym is) (chosen_in_order (file_at c.args.files.now c.args.file).bytes tokens c.args.places.now c.tokens-tokens.ensures.tokens))

pub returns-in_default-clause-fault : goal.returns-in_default-clause-fault
returns-in_default-clause-fault c =
    let tokens = c.tokens-tokens.result.now in
    let is : c.as_slice-changed.result.now ≡ chosen tokens c.args.places.now = c.as_slice-changed.ensures.value ∙ c.in_ok-found.ensures in
    let same = ap length c.source-source.ensures in
    let long = c.in_default.ensures in
    too_large_made c.args.files.now c.args.file c.requires tokens c.tokens-tokens.ensures.tokens c.args.places.now c.args.to.now c.as_slice-changed.result.now is (omega (arith, same, long))

pub splices_at-splices-requires-clause-spans : goal.splices_at-splices-requires-clause-spans
splices_at-splices-requires-clause-spans c =
    let tokens = c.tokens-tokens.result.now in
    let is : c.as_slice-changed.result.now ≡ chosen tokens c.args.places.now = c.as_slice-changed.ensures.value ∙ c.in_ok-found.ensures in
    let spans = marked_all (λ (t : Token). IsSpan (file_at c.args.files.now c.args.file).bytes t.span) tokens (marked_from _ c.args.places.now) c.tokens-tokens.ensures.spans in
    subst (λ (z : List ℕ). All (λ (t : Token). IsSpan z t.span) c.as_slice-changed.result.now) (sym c.source-source.ensures)
    (subst (All (λ (t : Token). IsSpan (file_at c.args.files.now c.args.file).bytes t.span)) (sym is) spans)

pub splices_at-splices-requires-clause-short : goal.splices_at-splices-requires-clause-short
splices_at-splices-requires-clause-short c =
    let tokens = c.tokens-tokens.result.now in
    let is : c.as_slice-changed.result.now ≡ chosen tokens c.args.places.now = c.as_slice-changed.ensures.value ∙ c.in_ok-found.ensures in
    let order : StandInOrder 0 (length c.source-source.result.now) c.as_slice-changed.result.now =
    subst (λ (z : List ℕ). StandInOrder 0 (length z) c.as_slice-changed.result.now) (sym c.source-source.ensures)
    (subst (StandInOrder 0 (length (file_at c.args.files.now c.args.file).bytes)) (sym is) (chosen_in_order (file_at c.args.files.now c.args.file).bytes tokens c.args.places.now c.tokens-tokens.ensures.tokens)) in
    let short = c.as_bytes.ensures.short in
    let same = ap length c.as_bytes.ensures.value in
    words_are_short c.source-source.result.now c.args.to.now c.as_slice-changed.result.now order (omega (arith, short, same)) c.in-Some.ensures.1

pub returns-clause-change : goal.returns-clause-change
returns-clause-change c =
    let tokens = c.tokens-tokens.result.now in
    let changed = c.as_slice-changed.result.now in
    let text = c.source-source.ensures in
    let is : changed ≡ chosen tokens c.args.places.now = c.as_slice-changed.ensures.value ∙ c.in_ok-found.ensures in
    let long = ap length text in
    let same = ap length c.as_bytes.ensures.value in
    let some : length changed ≢ 0 = λ e. both_ways c.is_empty-2.result c.if-is_empty-2.false (c.is_empty-2.ensures ∙ eq-eqb (length changed) 0 e) in
    let after = c.in-Some.ensures.0 in
    let fits = c.in-Some.ensures.1 in
    one_made c.args.files.now c.args.file c.requires tokens c.tokens-tokens.ensures.tokens c.args.places.now c.args.to.now changed is (omega (arith, some)) (omega (arith, fits, long)) _ (c.in_ok-to_string.ensures.ok ∙ c.path.ensures)
    (omega (arith, long, same)) (omega (arith, after, long)) (c.in_ok-splices.ensures ∙ ap (λ (z : List ℕ). map (word_put z c.args.to.now) changed) text)
