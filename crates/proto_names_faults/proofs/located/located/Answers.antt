use Rattle.std.proofs.Common.{[], ◌∷◌, length, get_or, ap, subst, arith, length-append}
use Rattle.proto_base.proofs.Common.{get_or_default}
use Rattle.proto_base.specs.declared.fault.FaultKind.TheVariants.{TooLarge}
use Rattle.proto_files.proofs.Common.{each_pushed, fault_at}
use Rattle.proto_names_faults.specs.Common.{Flaw, StandsAtFlaw}
use Rattle.proto_names_faults.proofs.located.located.Goals as goal

pub loop-flaw-preserved : goal.loop-flaw-preserved
loop-flaw-preserved c =
    let files = c.args.files.now in
    let flaws = c.args.flaws.now in
    let k = c.loop-flaw.flaw-index in
    let done = c.loop-flaw.faults.items in
    let added = c.in_ok-add_fault_there.ensures in
    let new = added.0 in
    let none : Flaw = record { file = 0; token = 0; kind = TooLarge } in
    let there : (w : Flaw) → StandsAtFlaw files (get_or flaws k w) (fault_at new) = λ (w : Flaw). subst (λ (z : Flaw). StandsAtFlaw files z (fault_at new)) (get_or_default flaws k none w c.loop-flaw-test.true) added.2 in
    record {
      len = omega (arith, c.loop-flaw.invariant.len, ap length added.1, length-append done (new ∷ []));
      each = each_pushed (λ i x. (w : Flaw) → StandsAtFlaw files (get_or flaws i w) (fault_at x)) done c.add_fault_there.new.faults.items new k added.1 c.loop-flaw.invariant.len c.loop-flaw.invariant.each there;
    }

pub returns : goal.returns
returns c = record {
  count = omega (arith, c.loop-flaw.invariant.len, c.loop-flaw-test.false, c.loop-flaw.auto.flaw-index-end);
  each = c.loop-flaw.invariant.each;
}
