use Rattle.std.proofs.Common.{map, sym, ap, ◌∙◌, subst}
use Rattle.proto_desc.specs.Checked.{AreDescribed}
use Rattle.proto_desc_affected.specs.Checked.{AreKeptOf}
use Rattle.proto_desc_affected.specs.Kept.{file_summaries_of}
use Rattle.proto_descriptors.specs.Views.{file_desc}
use Rattle.proto_desc.proofs.descriptors.Descriptors.copy.Goals as goal

pub returns-clause-same : goal.returns-clause-same
returns-clause-same c = λ files are. record {
  described = subst (AreDescribed files) (sym (c.in_ok-file.ensures ∙ ap (λ fs. map file_desc fs) c.deref.ensures.value)) are.described;
  kept = subst (AreKeptOf files) (sym (c.in_ok-kept.ensures ∙ ap (λ ks. file_summaries_of ks) c.deref-2.ensures.value)) are.kept;
}
