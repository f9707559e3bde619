use Rattle.std.proofs.Common.{◌<◌, length, arith, rules}
use Rattle.proto_base.proofs.Common.{YieldsList-from_vec, YieldsList-turn}
use Rattle.proto_files.proofs.FirstErrors.{given_at}
use Rattle.proto_desc.specs.declared.renewing.Made.{Made}
use Rattle.proto_desc.proofs.MadePut.{none_put, one_more_put}
use Rattle.proto_desc.proofs.descriptors.Descriptors.put.Goals as goal

pub put_one-requires-clause-file : goal.put_one-requires-clause-file
put_one-requires-clause-file c =
    let all = YieldsList-from_vec c.args.all.items (search rules) (search rules) in
    let turn = YieldsList-turn all c.loop-made.yielded _ c.loop-made.yielded_by _ c.next.new.self c.in-Some.made c.in-Some.is c.next.ensures.steps in
    let was : c.in-Some.made.file < length c.args.self.now.file.items = given_at (λ (m : Made). m.file < length c.args.self.now.file.items) c.args.all.items (length c.loop-made.yielded) c.in-Some.made c.requires.file turn in
    omega (arith, was, c.loop-made.invariant.as_many.descriptors)

pub put_one-requires-clause-kept : goal.put_one-requires-clause-kept
put_one-requires-clause-kept c =
    let all = YieldsList-from_vec c.args.all.items (search rules) (search rules) in
    let turn = YieldsList-turn all c.loop-made.yielded _ c.loop-made.yielded_by _ c.next.new.self c.in-Some.made c.in-Some.is c.next.ensures.steps in
    let was : c.in-Some.made.file < length c.args.self.now.kept.items = given_at (λ (m : Made). m.file < length c.args.self.now.kept.items) c.args.all.items (length c.loop-made.yielded) c.in-Some.made c.requires.kept turn in
    omega (arith, was, c.loop-made.invariant.as_many.kept)

pub loop-made-init : goal.loop-made-init
loop-made-init c = none_put c.args.self.now

pub loop-made-preserved : goal.loop-made-preserved
loop-made-preserved c = one_more_put c.loop-made.yielded c.in-Some.made c.args.self.now c.loop-made.self c.put_one.new.self c.loop-made.invariant c.put_one.ensures
