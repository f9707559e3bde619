use Rattle.std.proofs.Common.{◌≡◌, ◌<◌, Bool, List, [], length, get_or, map, sym, ◌∙◌, ap, subst, arith, All}
use Rattle.proto_base.proofs.Common.{IfOk-weaker, on_ok_weaker}
use Rattle.proto_base.specs.Undone.{undone}
use Rattle.proto_base.specs.declared.changes.Change.{Change}
use Rattle.proto_names.proofs.PartsBefore.{was_sight}
use Rattle.proto_names.specs.Following.{TellWhatToLook}
use Rattle.proto_names.specs.LinkOfFiles.{IsLinkOf}
use Rattle.proto_names.specs.Renewal.{link_of_parts}
use Rattle.proto_names.specs.Sight.{IsSightOf, StayBut}
use Rattle.proto_names_update.specs.Relinked.{WasLink}
use Rattle.proto_names.proofs.parts.LinkParts.update.Goals as goal

-- what files saw, by what is there now and what the log has
back : (seen now saw : List (List Bool)) (log noted : List (Change (List Bool))) → seen ≡ now → log ≡ noted → undone noted now ≡ saw → undone log seen ≡ saw
back seen now saw log noted same told was = ap (undone log) same ∙ ap (λ (l : List (Change (List Bool))). undone l now) told ∙ was

pub update-requires-clause-was : goal.update-requires-clause-was
update-requires-clause-was c = was_sight c.args.files.now c.args.places.now c.args.self.now.declarations.table c.args.self.now.graph.imports.items c.args.self.now.declarations.rows.items c.args.self.now.graph.seen.items c.args.self.now.resolutions.meant.items c.args.self.now.resolutions.references.items c.requires.table c.requires.link

pub update_names-requires-clause-others : goal.update_names-requires-clause-others
update_names-requires-clause-others c =
    let count = (c.in_ok-update.ensures.sight c.are_read.ensures.0 c.are_read.ensures.1).count in
    subst (All (λ (x : Change (List Bool)). x.place < length c.args.files.now)) (sym c.deref-2.ensures.value) (λ k d l. omega (arith, c.update.ensures.seen_within k d l, count))

pub update_names-requires-clause-was : goal.update_names-requires-clause-was
update_names-requires-clause-was c =
    let log = c.deref-2.result.now in
    let saw = back c.deref.result.now c.update.new.self.seen.items c.args.self.now.graph.seen.items log c.update.new.log.seen.items c.deref.ensures.value c.deref-2.ensures.value c.update.ensures.seen in
    subst (λ (vs : List (List Bool)). All (λ (x : Change (List Bool)). get_or vs x.place [] ≡ x.was) log) (sym saw)
    (subst (All (λ (x : Change (List Bool)). get_or c.args.self.now.graph.seen.items x.place [] ≡ x.was)) (sym c.deref-2.ensures.value) c.update.ensures.was)

pub update_names-requires-clause-renewed : goal.update_names-requires-clause-renewed
update_names-requires-clause-renewed c =
    let was = c.args.self.now in
    let files = c.args.files.now in
    let before = was.graph.seen.items in
    let now = c.update.new.self.seen.items in
    let log = c.deref-2.result.now in
    let saw = back c.deref.result.now now before log c.update.new.log.seen.items c.deref.ensures.value c.deref-2.ensures.value c.update.ensures.seen in
    record {
      imports_before = was.graph.imports.items;
      link = subst (λ (vs : List (List Bool)). WasLink IsLinkOf files c.args.places.now (link_of_parts was.declarations.table was.graph.imports.items was.declarations.rows.items vs was.resolutions.meant.items was.resolutions.references.items)) (sym saw) c.requires.link;
      sight = λ reads are. subst (λ (vs : List (List Bool)). IsSightOf files reads vs) (sym c.deref.ensures.value) (c.in_ok-update.ensures.sight reads are);
      kept = subst (λ (vs : List (List Bool)). StayBut (map (λ x. x.place) log) vs c.deref.result.now) (sym saw)
          (subst (λ (vs : List (List Bool)). StayBut (map (λ x. x.place) log) before vs) (sym c.deref.ensures.value)
          (subst (λ (l : List (Change (List Bool))). StayBut (map (λ x. x.place) l) before now) (sym c.deref-2.ensures.value) c.update.ensures.unchanged));
    }

pub returns-clause-link : goal.returns-clause-link
returns-clause-link c =
    let declared = c.update_names.new.declarations in
    let resolved = c.update_names.new.resolutions in
    let imports = c.update.new.self.imports.items in
    on_ok_weaker c.update_names.result
    (λ link. subst (λ (vs : List (List Bool)). IsLinkOf c.args.files.now (link_of_parts declared.table imports declared.rows.items vs resolved.meant.items resolved.references.items)) c.deref.ensures.value (link imports c.in_ok-update.ensures.imports))
    c.update_names.ensures.link

pub returns-clause-told : goal.returns-clause-told
returns-clause-told c =
    let was = c.args.self.now in
    let saw = back c.deref.result.now c.update.new.self.seen.items was.graph.seen.items c.deref-2.result.now c.update.new.log.seen.items c.deref.ensures.value c.deref-2.ensures.value c.update.ensures.seen in
    IfOk-weaker c.update_names.result _ _
    (λ affected tell. subst (λ (vs : List (List Bool)). TellWhatToLook c.args.places.now c.args.files.now (link_of_parts was.declarations.table was.graph.imports.items was.declarations.rows.items vs was.resolutions.meant.items was.resolutions.references.items) affected) saw (tell was.graph.imports.items))
    c.update_names.ensures.told
