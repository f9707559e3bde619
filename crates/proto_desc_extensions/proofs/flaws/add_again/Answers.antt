use Rattle.proto_desc_extensions.proofs.SeenExtensions.{again_listed, seen_listed}
use Rattle.proto_desc_extensions.proofs.flaws.add_again.Goals as goal

pub loop-extension-preserved : goal.loop-extension-preserved
loop-extension-preserved c =
    let all = c.args.extensions.now in
    let i = c.loop-extension.extension-index in
    let key = c.key_of.result in
    record {
      flaws = λ before h.
          again_listed all i _ c.loop-extension-test.true key c.key_of.ensures.extendee c.key_of.ensures.number c.loop-extension.seen before (c.loop-extension.invariant.seen before h) c.in_ok-is_new.is_new c.args.found.now.items c.loop-extension.found.items _
          c.in_ok-is_new.ensures.added (c.loop-extension.invariant.flaws before h) c.in_ok-add_if.ensures;
      seen = λ before h.
          seen_listed all i _ c.loop-extension-test.true key c.key_of.ensures.extendee c.key_of.ensures.number c.loop-extension.seen c.insert.new.self before (c.loop-extension.invariant.seen before h) (λ q. c.in_ok-is_new.ensures.updates.0 q);
    }
