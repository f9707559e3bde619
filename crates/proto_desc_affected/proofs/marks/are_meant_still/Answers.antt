use Rattle.std.proofs.Common.{◌<◌, length, get_or, map, sym, ap, subst₂, ◌∙◌, arith, below_more}
use Rattle.proto_base.proofs.Common.{get_or-map, get_or_default, length-map}
use Rattle.proto_desc_affected.specs.Checked.{IsMeantStill, TypeUseOf}
use Rattle.proto_names.specs.Linking.{Meant}
use Rattle.proto_desc_affected.specs.Common.{file_summary_of, type_use_of}
use Rattle.proto_desc_affected.proofs.MeantStill.{all_meant_still}
use Rattle.proto_desc_affected.proofs.marks.are_meant_still.Goals as goal

abbrev none : Meant
none = record { token = 0; first = 0; row = 0 }

pub loop-k-preserved : goal.loop-k-preserved
loop-k-preserved c = λ places marked files ks still.
    (let names = c.args.kept.now.means.items in
    let means = c.args.meant.now in
    let k = c.loop-k.k in
    let l : k < length names = omega (arith, c.loop-k-test.true, c.if-len-meant.false, c.len.ensures, c.args.kept.now.means.ok.0) in
    below_more (λ j. (x : TypeUseOf) (m : Meant) → IsMeantStill places files c.args.link.now ks (file_summary_of c.args.kept.now) (get_or (map type_use_of names) j x) (get_or means j m)) k (c.loop-k.invariant places marked files ks still)
    (λ x m. subst₂ (IsMeantStill places files c.args.link.now ks (file_summary_of c.args.kept.now))
    (ap type_use_of c.index.ensures ∙ sym (get_or-map type_use_of names k c.index.result.now x l))
    (get_or_default means k none m c.loop-k-test.true)
    (c.is_meant_still.ensures c.if-not-is_meant_still.false places marked files ks still)))

pub returns : goal.returns
returns c = λ same places marked files ks still.
    (let names = c.args.kept.now.means.items in
    all_meant_still places files c.args.link.now ks (file_summary_of c.args.kept.now) (map type_use_of names) c.args.meant.now
    (omega (arith, length-map names type_use_of, c.if-len-meant.false, c.len.ensures, c.args.kept.now.means.ok.0))
    (λ j l. c.loop-k.invariant places marked files ks still j (omega (arith, l, c.loop-k-test.false))))
