use Rattle.std.proofs.Common.{◌/◌, get_or, length, bit_and, ap, ap₂, refl, sym, ◌∙◌, inl, inr, arith, true≢false}
use Rattle.std.proofs.lemmas.Bool.{cases_eq, cases_lt}
use Rattle.std.proofs.lemmas.Nat.{and_le_l}
use Rattle.proto_file_sets.proofs.FilesInWords.{file_in_both, no_file_in_both, no_file}
use Rattle.proto_file_sets.proofs.words.have_common.Goals as goal

pub returns-then-word_at-ne0 : goal.returns-then-word_at-ne0
returns-then-word_at-ne0 c =
    let words = c.args.words.now in
    let others = c.args.others.now in
    let j = c.loop-index.index in
    let both = ap₂ bit_and c.word_at.ensures c.word_at-in-loop-index.ensures in (
      λ _. file_in_both words others j (λ none. c.if-word_at-ne0.true (both ∙ none)) (omega (arith, c.type_inv.words j, and_le_l (get_or words j 0) (get_or others j 0))),
      λ _. refl,
    )

pub loop-index-preserved : goal.loop-index-preserved
loop-index-preserved c = λ file l is also.
    (let words = c.args.words.now in
    let others = c.args.others.now in
    let both = ap₂ bit_and c.word_at.ensures c.word_at-in-loop-index.ensures in
    elim (cases_eq (file / 64) c.loop-index.index) [
      | inl same ↦ no_file_in_both words others file (ap (λ n. bit_and (get_or words n 0) (get_or others n 0)) same ∙ sym both ∙ c.if-word_at-ne0.false) is also
      | inr apart ↦ c.loop-index.invariant file (omega (arith, l, apart)) is also
    ])

pub returns : goal.returns
returns c = (
  λ e. absurd (true≢false (sym e)),
  λ (file, is, also). elim (cases_lt (file / 64) (length c.args.words.now)) [
    | inl l ↦ absurd (c.loop-index.invariant file (omega (arith, l, c.loop-index-test.false)) is also)
    | inr past ↦ absurd (true≢false (sym is ∙ no_file c.args.words.now file past))
  ],
)
