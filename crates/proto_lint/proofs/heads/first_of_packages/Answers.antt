use Rattle.std.proofs.Common.{List, ℕ, [], ◌∷◌, ◌++◌, length, map, ◌∙◌, ap, subst, arith, take_all, IfOk}
use Rattle.proto_base.proofs.Common.{length-map, map-append, pushed_more}
use Rattle.proto_names_imports.specs.ImportSteps.{IsFileIndex}
use Rattle.proto_lint.specs.Packages.{package_name}
use Rattle.proto_lint.proofs.heads.first_of_packages.Goals as goal

pub loop-head-preserved : goal.loop-head-preserved
loop-head-preserved c =
    pushed_more package_name [] c.args.heads.now c.loop-head.head-index c.head-item.result _ (map (λ t. t.now) c.loop-head.packages.items) (map (λ t. t.now) c.push.new.self.items) c.loop-head-test.true c.head-item.is
    (ap (map (λ t. t.now)) c.in_ok-push.ensures.items ∙ map-append (λ t. t.now) c.loop-head.packages.items (_ ∷ []) ∙ ap (λ (text : List ℕ). map (λ t. t.now) c.loop-head.packages.items ++ text ∷ []) c.package.ensures)
    c.loop-head.invariant

pub first_places-requires : goal.first_places-requires
first_places-requires c =
    let done = take_all c.loop-head.head-index c.args.heads.now (omega (arith, c.loop-head-test.false)) in
    let same = ap length (c.loop-head.invariant ∙ ap (map package_name) done) in
    omega (arith, same, ap length c.deref.ensures.value, length-map c.loop-head.packages.items (λ t. t.now), length-map c.args.heads.now package_name, c.requires)

pub returns : goal.returns
returns c =
    let done = take_all c.loop-head.head-index c.args.heads.now (omega (arith, c.loop-head-test.false)) in
    subst (λ (ts : List (List ℕ)). IfOk c.first_places.result (λ index. IsFileIndex index ts)) (ap (map (λ t. t.now)) c.deref.ensures.value ∙ c.loop-head.invariant ∙ ap (map package_name) done) c.first_places.ensures
