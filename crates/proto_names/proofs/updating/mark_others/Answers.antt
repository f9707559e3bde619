use Rattle.std.proofs.Common.{◌≡◌, ℕ, Bool, List, [], length, get_or, map, ◌∙◌, ap, subst, All, OnOk}
use Rattle.proto_base.proofs.Common.{Vec}
use Rattle.proto_base.specs.declared.changes.Change.{Change}
use Rattle.proto_names_affected.specs.Sight.{IsSightMarked}
use Rattle.proto_names.proofs.updating.mark_others.Goals as goal

pub mark_by_sight-requires-clause-rows : goal.mark_by_sight-requires-clause-rows
mark_by_sight-requires-clause-rows c = ap length c.deref.ensures.value ∙ c.requires.rows

pub returns-clause-marked : goal.returns-clause-marked
returns-clause-marked c =
    subst (λ (vs : List (Vec ℕ)). OnOk c.mark_by_sight.result ((before : List (List Bool)) → All (λ (x : Change (List Bool)). get_or before x.place [] ≡ x.was) c.args.edited.saw.now
    → All (λ (x : Change (List Bool)). IsSightMarked c.mark_by_sight.new.marks c.args.declarations.now.table (map (λ v. v.items) vs) (map (λ v. v.items) c.args.meant.now) before c.args.edited.seen.now x.place) c.args.edited.saw.now))
    c.deref.ensures.value c.mark_by_sight.ensures.marked
