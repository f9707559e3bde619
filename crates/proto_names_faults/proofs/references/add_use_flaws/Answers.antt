use Rattle.std.proofs.Common.{◌≤◌, ◌++◌, length, map, sym, ◌∙◌, ap, subst}
use Rattle.proto_text.specs.Texts.{word_at}
use Rattle.proto_names_outline.specs.Listing.{needs}
use Rattle.proto_names.specs.Referring.{reference_by}
use Rattle.proto_names_rules.specs.Joined.{ArePlain}
use Rattle.proto_tree.specs.References.{dotted}
use Rattle.proto_names_faults.specs.Common.{flaw_if}
use Rattle.proto_names_faults.proofs.Added.{flaw_added, none_added}
use Rattle.proto_names_faults.proofs.KindFaults.{all_uses, no_use, use_turn}
use Rattle.proto_names_faults.proofs.references.add_use_flaws.Goals as goal

pub resolved_kind-kind-requires-clause-scope : goal.resolved_kind-kind-requires-clause-scope
resolved_kind-kind-requires-clause-scope c = subst (λ u. needs u.scope ≤ length c.args.lookup.now.rows.now) (sym c.used-item.is) (c.requires.scopes c.loop-used.used-index c.used-item.result c.loop-used-test.true)

pub resolved_kind-kind-requires-clause-plain : goal.resolved_kind-kind-requires-clause-plain
resolved_kind-kind-requires-clause-plain c = subst (λ u. ArePlain (map (word_at c.args.words.now) (dotted u.reference.now.words))) (sym c.used-item.is) (c.requires.plain c.loop-used.used-index c.used-item.result c.loop-used-test.true)

pub loop-used-init : goal.loop-used-init
loop-used-init c = λ w names read. none_added _ c.args.found.now.items (λ f h. no_use w (reference_by c.args.lookup.now.file names (word_at c.args.words.now)) c.args.lookup.now.file f c.args.uses.now h)

pub loop-used-preserved : goal.loop-used-preserved
loop-used-preserved c = λ w names read. (
    let lookup = c.args.lookup.now in
    let reference = reference_by lookup.file names (word_at c.args.words.now) in
    let o = c.resolved_kind-kind.result in
    let new = c.in_ok-add_flaw.ensures ∙ ap (λ k. c.loop-used.found.items ++ flaw_if lookup.file c.token_of-token.result k) c.kind_fault-fault.ensures in
    use_turn w reference lookup.file c.args.uses.now c.loop-used.used-index c.used-item.result c.args.found.now.items c.loop-used.found.items c.add_flaw.new.found.items c.loop-used-test.true c.used-item.is o (c.resolved_kind-kind.ensures w names read)
    c.token_of-token.result c.token_of-token.ensures (flaw_added c.loop-used.found.items c.add_flaw.new.found.items lookup.file c.token_of-token.result _ new) (c.loop-used.invariant w names read))

pub returns : goal.returns
returns c = λ w names read. all_uses w (reference_by c.args.lookup.now.file names (word_at c.args.words.now)) c.args.lookup.now.file c.args.uses.now c.loop-used.used-index _ _ c.loop-used-test.false (c.loop-used.invariant w names read)
