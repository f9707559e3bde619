use Rattle.std.proofs.Common.{◌≡◌, ℕ, get_or, sym, ◌∙◌, ap, subst, inl, inr, arith, ◌==◌, if◌then◌else◌}
use Rattle.proto_base.proofs.Common.{cases_lt, get_or-map, length-map, same_from_word}
use Rattle.proto_lint.proofs.HeadLists.{differs, same_lists}
use Rattle.proto_lint.specs.Packages.{slashed}
use Rattle.proto_lint.proofs.packages.is_slashed.Goals as goal

abbrev slash : ℕ → ℕ
slash b = if b == 46 then 47 else b

pub loop-place-preserved : goal.loop-place-preserved
loop-place-preserved c = λ k l.
    (let name = c.args.name.now in
    let at = c.loop-place.place in
    let here : get_or c.args.directory.now at 0 ≡ get_or (slashed name) at 0 = c.if-directory-place.false ∙ c.slash_for_dot.ensures ∙ sym (get_or-map slash name at 0 0 c.loop-place-test.true) in
    elim (cases_lt k at) [
      | inl below ↦ c.loop-place.invariant k below
      | inr above ↦ let e : at ≡ k = omega (arith, l, above) in subst (λ j. get_or c.args.directory.now j 0 ≡ get_or (slashed name) j 0) e here
    ])

pub returns-then-directory-place : goal.returns-then-directory-place
returns-then-directory-place c =
    let name = c.args.name.now in
    let at = c.loop-place.place in
    sym (differs c.args.directory.now (slashed name) (λ e. c.if-directory-place.true (ap (λ xs. get_or xs at 0) e ∙ get_or-map slash name at 0 0 c.loop-place-test.true ∙ sym c.slash_for_dot.ensures)))

pub returns : goal.returns
returns c =
    let name = c.args.name.now in
    let count = length-map name slash in
    sym (same_from_word c.args.directory.now (slashed name) (same_lists c.args.directory.now (slashed name) (omega (arith, c.if-directory-name.false, count)) (λ k l. c.loop-place.invariant k (omega (arith, l, c.if-directory-name.false, c.loop-place-test.false)))))
