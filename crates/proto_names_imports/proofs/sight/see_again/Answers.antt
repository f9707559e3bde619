use Rattle.std.proofs.Common.{length, map, ◌∙◌, subst, arith, take_all}
use Rattle.proto_names_imports.proofs.SeenAgain.{SeeAgain, again_none, again_on, again_whole, item_within, logged_none, logged_on}
use Rattle.proto_names_imports.proofs.SeenFiles.{MarksSight}
use Rattle.proto_names_imports.proofs.sight.see_again.Goals as goal

pub loop-file-init : goal.loop-file-init
loop-file-init c = record {
  logged = logged_none (length c.args.imports.now) c.args.seen.now.items c.args.log.now.items c.requires.none c.requires.paired;
  again = again_none (MarksSight (length c.args.imports.now) (map (λ v. v.items) c.args.imports.now)) c.args.seen.now.items;
}

pub see_one_again-requires-clause-file : goal.see_one_again-requires-clause-file
see_one_again-requires-clause-file c =
    item_within c.args.stale.now c.deref-file-items.result.now (c.deref-file-items.ensures.value ∙ c.in_ok-files.ensures) (length c.args.imports.now) c.requires.sized c.loop-file.file-index c.loop-file-test.true

pub returns-in_err-see_one_again-clause-undone : goal.returns-in_err-see_one_again-clause-undone
returns-in_err-see_one_again-clause-undone c =
    let sees = MarksSight (length c.args.imports.now) (map (λ v. v.items) c.args.imports.now) in
    let listed = c.deref-file-items.ensures.value ∙ c.in_ok-files.ensures in
    let was = c.loop-file in
    let now = c.see_one_again in
    let logged = logged_on c.args.stale.now c.deref-file-items.result.now listed (length c.args.imports.now) c.requires.sized sees c.args.seen.now.items was.seen.items now.new.seen.items was.log.items now.new.log.items was.file-index c.loop-file-test.true
    was.invariant.logged was.invariant.again now.ensures.undone now.ensures.len now.ensures.others now.ensures.noted in
    logged.back

pub returns-in_err-see_one_again-clause-within : goal.returns-in_err-see_one_again-clause-within
returns-in_err-see_one_again-clause-within c =
    let sees = MarksSight (length c.args.imports.now) (map (λ v. v.items) c.args.imports.now) in
    let listed = c.deref-file-items.ensures.value ∙ c.in_ok-files.ensures in
    let was = c.loop-file in
    let now = c.see_one_again in
    let logged = logged_on c.args.stale.now c.deref-file-items.result.now listed (length c.args.imports.now) c.requires.sized sees c.args.seen.now.items was.seen.items now.new.seen.items was.log.items now.new.log.items was.file-index c.loop-file-test.true
    was.invariant.logged was.invariant.again now.ensures.undone now.ensures.len now.ensures.others now.ensures.noted in
    logged.within

pub returns-in_err-see_one_again-clause-was : goal.returns-in_err-see_one_again-clause-was
returns-in_err-see_one_again-clause-was c =
    let sees = MarksSight (length c.args.imports.now) (map (λ v. v.items) c.args.imports.now) in
    let listed = c.deref-file-items.ensures.value ∙ c.in_ok-files.ensures in
    let was = c.loop-file in
    let now = c.see_one_again in
    let logged = logged_on c.args.stale.now c.deref-file-items.result.now listed (length c.args.imports.now) c.requires.sized sees c.args.seen.now.items was.seen.items now.new.seen.items was.log.items now.new.log.items was.file-index c.loop-file-test.true
    was.invariant.logged was.invariant.again now.ensures.undone now.ensures.len now.ensures.others now.ensures.noted in
    logged.was

pub returns-in_err-see_one_again-clause-kept : goal.returns-in_err-see_one_again-clause-kept
returns-in_err-see_one_again-clause-kept c =
    let sees = MarksSight (length c.args.imports.now) (map (λ v. v.items) c.args.imports.now) in
    let listed = c.deref-file-items.ensures.value ∙ c.in_ok-files.ensures in
    let was = c.loop-file in
    let now = c.see_one_again in
    let logged = logged_on c.args.stale.now c.deref-file-items.result.now listed (length c.args.imports.now) c.requires.sized sees c.args.seen.now.items was.seen.items now.new.seen.items was.log.items now.new.log.items was.file-index c.loop-file-test.true
    was.invariant.logged was.invariant.again now.ensures.undone now.ensures.len now.ensures.others now.ensures.noted in
    logged.kept

pub loop-file-preserved : goal.loop-file-preserved
loop-file-preserved c =
    let sees = MarksSight (length c.args.imports.now) (map (λ v. v.items) c.args.imports.now) in
    let listed = c.deref-file-items.ensures.value ∙ c.in_ok-files.ensures in
    let was = c.loop-file in
    let now = c.see_one_again in
    let logged = logged_on c.args.stale.now c.deref-file-items.result.now listed (length c.args.imports.now) c.requires.sized sees c.args.seen.now.items was.seen.items now.new.seen.items was.log.items now.new.log.items was.file-index c.loop-file-test.true
    was.invariant.logged was.invariant.again now.ensures.undone now.ensures.len now.ensures.others now.ensures.noted in
    record {
      logged = logged;
      again = again_on c.args.stale.now c.deref-file-items.result.now listed (length c.args.imports.now) c.requires.sized sees c.args.seen.now.items was.seen.items now.new.seen.items was.file-index c.loop-file-test.true was.invariant.again now.ensures.others c.in_ok-see_one_again.ensures.exact;
    }

pub returns-clause-undone : goal.returns-clause-undone
returns-clause-undone c = c.loop-file.invariant.logged.back

pub returns-clause-within : goal.returns-clause-within
returns-clause-within c = c.loop-file.invariant.logged.within

pub returns-clause-was : goal.returns-clause-was
returns-clause-was c = c.loop-file.invariant.logged.was

pub returns-clause-kept : goal.returns-clause-kept
returns-clause-kept c = c.loop-file.invariant.logged.kept

pub returns-clause-exact : goal.returns-clause-exact
returns-clause-exact c = λ w n same file l.
    (let sees = MarksSight (length c.args.imports.now) (map (λ v. v.items) c.args.imports.now) in
    let items = c.deref-file-items.result.now in
    let all = take_all c.loop-file.file-index items (omega (arith, c.loop-file-test.false)) ∙ c.deref-file-items.ensures.value ∙ c.in_ok-files.ensures in
    again_whole sees c.args.stale.now c.args.seen.now.items c.loop-file.seen.items file (subst (SeeAgain sees c.args.seen.now.items c.loop-file.seen.items) all c.loop-file.invariant.again) (omega (arith, l, c.requires.sized))
    (λ other v m also. c.requires.known v m also file l other) w n same)
