use Rattle.std.proofs.Common.{map, refl, ap, ◌∙◌, ◌++◌, ◌∷◌, [], List, arith, take_all}
use Rattle.proto_base.proofs.Common.{map_push, pushed_more}
use Rattle.proto_files.specs.Faults.{FaultAt, fault_at}
use Rattle.proto_desc_numbers.specs.declared.flaw.Flaw.{Flaw}
use Rattle.proto_desc.specs.Checked.{fault_of_flaw}
use Rattle.proto_all_faults.proofs.checks.add_flaws.Goals as goal

pub loop-flaw-preserved : goal.loop-flaw-preserved
loop-flaw-preserved c = λ reads are.
    (let one = c.in_ok-fault_of.field-0 in
    pushed_more (fault_of_flaw c.args.files.now reads c.args.file) (map fault_at c.args.found.now.items) c.args.flaws.now c.loop-flaw.flaw-index _ _ (map fault_at c.loop-flaw.found.items) _ c.loop-flaw-test.true refl
    (ap (map fault_at) c.in_ok-push.ensures.items ∙ map_push fault_at c.loop-flaw.found.items one ∙ ap (λ (x : FaultAt). map fault_at c.loop-flaw.found.items ++ x ∷ []) (c.in_ok-fault_of.ensures reads are))
    (c.loop-flaw.invariant reads are))

pub returns : goal.returns
returns c = λ reads are.
    c.loop-flaw.invariant reads are
    ∙ ap (λ (fs : List Flaw). map fault_at c.args.found.now.items ++ map (fault_of_flaw c.args.files.now reads c.args.file) fs) (take_all c.loop-flaw.flaw-index c.args.flaws.now (omega (arith, c.loop-flaw-test.false)))
