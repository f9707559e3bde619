use Rattle.std.proofs.Common.{get_or, map, refl, sym, ap, ◌∙◌, arith}
use Rattle.proto_tree.specs.References.{dotted}
use Rattle.proto_names_outline.specs.declared.listing.Use.{Use}
use Rattle.proto_names.specs.Linking.{Meant}
use Rattle.proto_names_at.specs.References.{behind_token}
use Rattle.proto_names_at.proofs.WordTurns.{next_use, no_use_left, use_here}
use Rattle.proto_names_at.proofs.references.word_meant.Goals as goal

abbrev none : Meant
none = record { token = 0; first = 0; row = 0 }

pub loop-place-preserved : goal.loop-place-preserved
loop-place-preserved c =
    let less = c.loop-place-test.true in
    let same = c.requires in
    c.loop-place.invariant
    ∙ next_use c.args.token c.args.uses.now c.args.meant.now c.loop-place.place c.index-uses-place.result c.index-uses-place.result (get_or c.args.meant.now c.loop-place.place none) none less (omega (arith, less, same)) c.index-uses-place.is refl
    (c.in_default.ensures ∙ ap (λ (u : Use). behind_token c.args.token (dotted u.reference.now.words)) (sym c.index-uses-place.is))

pub returns-in-Some : goal.returns-in-Some
returns-in-Some c =
    let less = c.loop-place-test.true in
    let same = c.requires in
    sym (c.loop-place.invariant
    ∙ use_here c.args.token c.args.uses.now c.args.meant.now c.loop-place.place c.index-uses-place.result c.index-uses-place.result (get_or c.args.meant.now c.loop-place.place none) none less (omega (arith, less, same)) c.index-uses-place.is refl
    (map (λ b. b.item) c.in-Some.behind.now) (c.in-Some.ensures ∙ ap (λ (u : Use). behind_token c.args.token (dotted u.reference.now.words)) (sym c.index-uses-place.is)))

pub returns : goal.returns
returns c = sym (c.loop-place.invariant ∙ no_use_left c.args.token c.args.uses.now c.args.meant.now c.loop-place.place c.loop-place-test.false)
