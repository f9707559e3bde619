use Rattle.std.proofs.Common.{◌≡◌, ◌<◌, [], ◌∷◌, ◌++◌, length, get_or, map, take, ap, subst, arith, take_all, length-set}
use Rattle.std.proofs.lemmas.List.{length-map}
use Rattle.proto_names_imports.proofs.Turned.{HasPut, put_step}
use Rattle.proto_option_values.proofs.leading.put_in_all.Goals as goal

pub loop-place-preserved : goal.loop-place-preserved
loop-place-preserved c =
    let r = c.requires c.loop-place.place-index 0 c.loop-place-test.true in
    let n = length-map c.loop-place.lists.items (λ v. v.items) in
    let l : get_or c.args.places.now c.loop-place.place-index 0 < length (map (λ v. v.items) c.loop-place.lists.items) = omega (arith, r, n, c.loop-place.invariant.len) in
    record {
      len = omega (arith, n, length-map c.put_in.new.lists.items (λ v. v.items), c.loop-place.invariant.len, ap length c.in_ok-put_in.ensures, length-set (map (λ v. v.items) c.loop-place.lists.items) (get_or c.args.places.now c.loop-place.place-index 0) (get_or (map (λ v. v.items) c.loop-place.lists.items) (get_or c.args.places.now c.loop-place.place-index 0) [] ++ c.args.file ∷ []));
      exact = put_step (map (λ v. v.items) c.args.lists.now.items) (map (λ v. v.items) c.loop-place.lists.items) (map (λ v. v.items) c.put_in.new.lists.items) c.args.places.now c.loop-place.place-index c.args.file c.loop-place-test.true l c.loop-place.invariant.exact c.in_ok-put_in.ensures;
    }

pub returns-clause-exact : goal.returns-clause-exact
returns-clause-exact c =
    let e : take c.loop-place.place-index c.args.places.now ≡ c.args.places.now = take_all c.loop-place.place-index c.args.places.now c.loop-place-test.false in
    subst (λ z. HasPut (map (λ v. v.items) c.args.lists.now.items) z c.args.file (map (λ v. v.items) c.loop-place.lists.items)) e c.loop-place.invariant.exact
