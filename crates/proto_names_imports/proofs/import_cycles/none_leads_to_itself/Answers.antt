use Rattle.std.proofs.Common.{◌≡◌, ◌<◌, false, get_or, length, refl, sym, ◌∙◌, ap, subst, inl, inr, arith, map, true≢false}
use Rattle.proto_base.proofs.Common.{both_ways, cases_eq, get_or_default}
use Rattle.proto_names_imports.specs.Common.{all_imports, LeadsToItself}
use Rattle.proto_names_imports.proofs.LedTo.{tells_itself}
use Rattle.proto_names_imports.proofs.import_cycles.none_leads_to_itself.Goals as goal

pub returns-then-contains : goal.returns-then-contains
returns-then-contains c =
    let i = c.loop-place.place-index in
    let l : i < length c.args.places.now = c.loop-place-test.true in
    let own = c.deref.ensures.value ∙ ap (λ v. v.items) c.index-imports-place.is in
    let told = tells_itself (λ v. v.items) c.args.imports.now (get_or c.args.places.now i 0) c.index-imports-place.result c.deref.result.now c.in_ok-led_to.led_to (c.requires.places i 0 l) own c.in_ok-led_to.ensures in
    (λ h. absurd (true≢false (sym h)), λ none. absurd (none i 0 l (told.0 (sym c.contains.ensures ∙ c.if-contains.true))))

pub loop-place-preserved : goal.loop-place-preserved
loop-place-preserved c = λ k d less. (
    let i = c.loop-place.place-index in
    let l : i < length c.args.places.now = c.loop-place-test.true in
    let own = c.deref.ensures.value ∙ ap (λ v. v.items) c.index-imports-place.is in
    let place = get_or c.args.places.now i 0 in
    let told = tells_itself (λ v. v.items) c.args.imports.now place c.index-imports-place.result c.deref.result.now c.in_ok-led_to.led_to (c.requires.places i 0 l) own c.in_ok-led_to.ensures in
    elim (cases_eq k i) [
      | inl e ↦
          let same : get_or c.args.places.now k d ≡ place = ap (λ z. get_or c.args.places.now z d) e ∙ get_or_default c.args.places.now i d 0 l in
          λ itself. both_ways (get_or c.in_ok-led_to.led_to place false) (sym c.contains.ensures ∙ c.if-contains.false) (told.1 (subst (LeadsToItself (all_imports 0 (map (λ v. v.items) c.args.imports.now))) same itself))
      | inr ne ↦ c.loop-place.invariant k d (omega (arith, less, ne))
    ])

pub returns : goal.returns
returns c = (λ yes k d l. c.loop-place.invariant k d (omega (arith, l, c.loop-place-test.false)), λ none. refl)
