use Rattle.std.proofs.Common.{rules, ◌++◌, ◌∷◌, [], List, Bool, sym, ap, ◌∙◌, not, map-id}
use Rattle.proto_base.proofs.Common.{list_any, YieldsList-from_vec, YieldsList-end}
use Rattle.indexmap.specs.IndexSet.{contains}
use Rattle.proto_desc_numbers.specs.Flaws.{after_earlier}
use Rattle.proto_desc_numbers.proofs.FlawLists.{repeats_snoc, new_is, seen_more}
use Rattle.proto_desc_numbers.proofs.flaw.repeats_of_many.Goals as goal

pub loop-key-preserved : goal.loop-key-preserved
loop-key-preserved g c = record {
  flags = c.in_ok-push.ensures.items
      ∙ ap (λ (z : List Bool). z ++ not c.in_ok-is_new.is_new ∷ []) c.loop-key.invariant.flags
      ∙ ap (λ (b : Bool). after_earlier g.K.PartialEq.eq c.loop-key.yielded ++ b ∷ []) (new_is c.in_ok-is_new.is_new (contains g.K.PartialEq.eq c.loop-key.seen c.in-Some.key) (list_any (λ p. g.K.PartialEq.eq p c.in-Some.key) c.loop-key.yielded) c.in_ok-is_new.ensures.added (c.loop-key.invariant.seen c.in-Some.key))
      ∙ sym (repeats_snoc g.K.PartialEq.eq [] c.loop-key.yielded c.in-Some.key);
  seen = λ q. seen_more g.K.PartialEq.eq c.loop-key.yielded c.in-Some.key q (contains g.K.PartialEq.eq c.insert.new.self q) (contains g.K.PartialEq.eq c.loop-key.seen q) (c.in_ok-is_new.ensures.updates.0 q) (c.loop-key.invariant.seen q);
}

pub returns : goal.returns
returns g c =
    let all = YieldsList-from_vec c.args.keys.items c.into_iter-key-iterator.ensures.into_iter_gives.0 (c.into_iter-key-iterator.ensures.into_iter_gives.1 ∙ c.args.keys.ok.0) in
    let end = YieldsList-end all c.loop-key.yielded _ c.loop-key.yielded_by _ c.next.new.self c.in-None.is c.next.ensures.steps in
    record { flags = c.loop-key.invariant.flags ∙ ap (after_earlier g.K.PartialEq.eq) (sym (map-id c.loop-key.yielded) ∙ end.0) }

pub loop-key-init : goal.loop-key-init
loop-key-init g c = record { flags = c.new-flags.ensures.items; seen = λ q. search rules }
