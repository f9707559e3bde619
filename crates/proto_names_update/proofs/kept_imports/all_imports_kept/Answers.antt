use Rattle.std.proofs.Common.{◌≡◌, [], get_or, map, sym, ◌∙◌, ap, subst, arith}
use Rattle.proto_base.proofs.Common.{get_or-map, length-map}
use Rattle.proto_names_imports.specs.Laws.{AreImportsOf}
use Rattle.proto_names_update.proofs.ImportsByFile.{imports_kept}
use Rattle.proto_names_update.proofs.Places.{before_more}
use Rattle.proto_names_update.proofs.kept_imports.all_imports_kept.Goals.{After-deref}
use Rattle.proto_names_update.proofs.kept_imports.all_imports_kept.Goals as goal

-- the imports that are given for the file at the place
given_at : (c : After-deref) → c.deref.result.now ≡ get_or (map (λ v. v.items) c.args.imports.now) (get_or c.args.places.now c.loop-place.place-index 0) []
given_at c =
    let p = get_or c.args.places.now c.loop-place.place-index 0 in
    let inside = c.requires.places c.loop-place.place-index 0 c.loop-place-test.true in
    c.deref.ensures.value ∙ ap (λ v. v.items) c.index-imports-place.is ∙ sym (get_or-map (λ v. v.items) c.args.imports.now p c.index-imports-place.result [] (omega (arith, inside, c.requires.paired)))

pub loop-place-preserved : goal.loop-place-preserved
loop-place-preserved c =
    let files = c.args.files.now in
    let places = c.args.places.now in
    let given = map (λ v. v.items) c.args.imports.now in
    let k = c.loop-place.place-index in
    let p = get_or places k 0 in
    record {
      each = λ reads are.
          before_more (λ j. AreImportsOf files reads (get_or places j 0) (get_or given (get_or places j 0) [])) k (c.loop-place.invariant.each reads are)
          (subst (AreImportsOf files reads p) (given_at (goal.at.loop-place-preserved c).After-deref) (c.in_ok-kept.ensures.kept c.if-not-kept.false reads are));
    }

pub returns-clause-kept : goal.returns-clause-kept
returns-clause-kept c = λ yes_it before was were reads are.
    imports_kept c.args.places.now c.args.files.now (map (λ v. v.items) c.args.imports.now) (length-map c.args.imports.now (λ v. v.items) ∙ c.requires.paired) reads are
    (λ k l. c.loop-place.invariant.each reads are k (omega (arith, l, c.loop-place-test.false))) before was were

pub returns-then-not-kept-clause-changed : goal.returns-then-not-kept-clause-changed
returns-then-not-kept-clause-changed c = λ no reads are.
    (let p = get_or c.args.places.now c.loop-place.place-index 0 in
    record {
      at = c.loop-place.place-index;
      within = c.loop-place-test.true;
      other = λ h. c.in_ok-kept.ensures.changed c.if-not-kept.true reads are (subst (AreImportsOf c.args.files.now reads p) (sym (given_at (goal.at.returns-then-not-kept-clause-changed c).After-deref)) h);
    })
