use Rattle.std.proofs.Common.{Bool, true, false, refl, sym, ◌∙◌, ap, subst}
use Rattle.proto_base.proofs.Common.{both_ways}
use Rattle.proto_names.specs.declared.whole_link.Renewal.{Renewal}
use Rattle.proto_names.specs.declared.whole_link.Renewal.TheVariants.{Done, Rebuild, Refused}
use Rattle.proto_names.proofs.link.Link.replace_with.Goals as goal

-- how the link was changed, if it is done
abbrev is_done : Renewal → Bool
is_done Done = true
is_done (Refused fault) = false
is_done Rebuild = false

pub make_anew-requires-clause-made : goal.make_anew-requires-clause-made
make_anew-requires-clause-made g c =
    let were = c.requires.were in
    let kept = c.renew.ensures.kept (λ done. both_ways false refl (ap is_done (sym c.in-Rebuild.is ∙ done))) in
    record {
      before = were.before;
      clean = were.link.clean;
      reads = were.link.reads;
      read = were.link.read;
      made = subst (g.M.Derived.IsMade were.before) (sym kept.1) were.made;
      same = were.same;
      look = tt;
    }
