use Rattle.std.proofs.Common.{◌≡◌, ℕ, nat_eq, List, [], get_or, refl, sym, ◌∙◌, ap, subst, inl, inr, arith, take_all, eqb-true}
use Rattle.std.specs.List.{Contains}
use Rattle.indexmap.proofs.CallerLemmas.{Contains-insert_key}
use Rattle.proto_base.specs.Words.{word_key}
use Rattle.proto_names_table.specs.Tables.{names_of}
use Rattle.proto_names_affected.specs.KindRows.{HasLastWords}
use Rattle.proto_names_affected.proofs.KindRows.{key_stays, there_cases}
use Rattle.proto_names_affected.proofs.kind_rows.last_word_keys.Goals as goal

pub loop-row-init : goal.loop-row-init
loop-row-init c = λ row front word there plain named. absurd (omega (arith, there.1))

pub loop-row-preserved : goal.loop-row-preserved
loop-row-preserved c = λ row front word there plain named. (
    let t = c.args.table.now in
    let rows = c.args.rows.now in
    let i = c.loop-row.row-index in
    let was = c.loop-row.keys.keys in
    let now = c.insert.new.self.keys in
    let key = c.word_key.result in
    elim (there_cases rows i 0 (get_or rows i 0) c.loop-row-test.true refl row there) [
      | inl before ↦ subst (λ (ks : List ℕ). Contains ks (word_key word)) (sym c.in_ok-insert.ensures.keys) (key_stays was key (word_key word) (c.loop-row.invariant row front word before plain named))
      | inr e ↦
          let is : c.last_word.result.now ≡ word = c.last_word.ensures front word plain (ap (λ r. get_or (names_of t) r []) e ∙ named) in
          subst (Contains now) (c.word_key.ensures ∙ ap word_key is)
          (subst (λ (ks : List ℕ). Contains ks key) (sym c.in_ok-insert.ensures.keys) (Contains-insert_key nat_eq (λ x y h. eqb-true x y h) was key))
    ])

pub returns : goal.returns
returns c = subst (λ (rs : List ℕ). HasLastWords c.args.table.now rs c.loop-row.keys.keys) (take_all c.loop-row.row-index c.args.rows.now c.loop-row-test.false) c.loop-row.invariant
