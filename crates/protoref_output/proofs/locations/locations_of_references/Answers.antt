use Rattle.std.proofs.Common.{◌≤◌, List, [], ◌∷◌, ◌++◌, ap, ◌∙◌, length, map, refl, rules, take_all}
use Rattle.proto_base.proofs.Common.{map-append}
use Rattle.proto_base.proofs.Turns.{pushed_more}
use Rattle.proto_names.specs.Linking.{RefId}
use Rattle.protoref_output.specs.Locations.{LocationOf, location_of, reference_location}
use Rattle.protoref_output.proofs.locations.locations_of_references.Goals as goal

pub loop-reference-preserved : goal.loop-reference-preserved
loop-reference-preserved c =
    let found = c.loop-reference.found.items in
    record {
      located = λ reads are.
          pushed_more (reference_location c.args.files.now reads) [] c.args.references.now c.loop-reference.reference-index _ _
          (map location_of found) _ c.loop-reference-test.true refl
          (ap (map location_of) c.in_ok-push.ensures.items
          ∙ map-append location_of found (c.spot_location.result ∷ [])
          ∙ ap (λ (l : LocationOf). map location_of found ++ l ∷ []) (c.spot_location.ensures ∙ c.at_reference-spot.ensures.located reads are))
          (c.loop-reference.invariant.located reads are);
      there = c.at_reference-spot.ensures.there;
    }

pub returns : goal.returns
returns c = λ reads are.
    (let past : length c.args.references.now ≤ c.loop-reference.reference-index = search rules in
    c.loop-reference.invariant.located reads are
    ∙ ap (λ (rs : List RefId). map (reference_location c.args.files.now reads) rs) (take_all c.loop-reference.reference-index c.args.references.now past))
