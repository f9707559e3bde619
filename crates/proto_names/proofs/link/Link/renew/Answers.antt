use Rattle.std.proofs.Common.{◌≡◌, ◌<◌, Bool, true, false, List, length, map, refl, sym, ◌∙◌, ap, subst, inl, inr, All, AllPairs}
use Rattle.proto_base.proofs.Common.{Vec, both_ways}
use Rattle.proto_base.specs.declared.fault.SchemaFault.{SchemaFault}
use Rattle.proto_base.specs.declared.fault.SchemaFault.TheVariants.{NoMemory}
use Rattle.proto_names_affected.specs.FirstWords.{AreFirstsOf}
use Rattle.proto_names_affected.proofs.WordSets.{are_still}
use Rattle.proto_names.specs.declared.whole_link.Renewal.{Renewal}
use Rattle.proto_names.specs.declared.whole_link.Renewal.TheVariants.{Done, Rebuild, Refused}
use Rattle.proto_names_imports.specs.LinkErrors.{IsLinkError}
use Rattle.proto_names.specs.Common.{Meant}
use Rattle.proto_names.specs.LinkOfFiles.{IsLinkOf}
use Rattle.proto_names_update.specs.Relinked.{IsCleanLink, WasLink}
use Rattle.proto_names.proofs.WaysBack.{lists_rise, meant_back, names_unchanged, references_back, rows_back, size_unchanged, table_back}
use Rattle.proto_names.proofs.link.Link.renew.Goals.{in-Ok+in-Err, in-Err-NeedsRebuild, in-Err-NoMemory}
use Rattle.proto_names.proofs.link.Link.renew.Goals as goal

pub invariant_of-self : goal.invariant_of-self
invariant_of-self g c =
    let last = c.update-updated.new.self in
    let read = c.in-Ok.ensures.read in
    let paired = c.in-Ok.ensures.paired in
    let link = c.in-Ok.ensures.link in (
      c.update-updated.ensures.table,
      paired,
      lists_rise c.args.files.now read.0 _ read.1 link last.resolutions.meant.items (λ i. map (λ v. v.items) last.resolutions.meant.items),
      c.in-Ok.ensures.firsts,
    )

pub invariant_of-self-in-Ok-follow : goal.invariant_of-self-in-Ok-follow
invariant_of-self-in-Ok-follow g c =
    let last = c.update-updated.new.self in
    let read = c.in-Ok.ensures.read in
    let paired = c.in-Ok.ensures.paired in
    let link = c.in-Ok.ensures.link in (
      c.update-updated.ensures.table,
      paired,
      lists_rise c.args.files.now read.0 _ read.1 link last.resolutions.meant.items (λ i. map (λ v. v.items) last.resolutions.meant.items),
      c.in-Ok.ensures.firsts,
    )

pub update-updated-requires-clause-firsts : goal.update-updated-requires-clause-firsts
update-updated-requires-clause-firsts g c = c.self.invariant.3

pub update-updated-requires-clause-link : goal.update-updated-requires-clause-link
update-updated-requires-clause-link g c =
    let were = c.requires.were in
    subst (WasLink IsLinkOf c.args.files.now c.args.places.now) (sym c.self.view_is) (were.before, were.link, were.same)

pub follow-requires-clause-was : goal.follow-requires-clause-was
follow-requires-clause-was g c =
    let were = c.requires.were in
    let files = c.args.files.now in
    let places = c.args.places.now in
    let tell = c.in-Ok.ensures.told in
    record {
      before = were.before;
      clean = were.link.clean;
      reads = were.link.reads;
      read = were.link.read;
      made = were.made;
      same = were.same;
      look = (tell were.before (subst (IsCleanLink IsLinkOf were.before) (sym c.self.view_is) were.link) were.same);
    }

pub invariant_of-self-2 : goal.invariant_of-self-2
invariant_of-self-2 g c =
    let none = c.new-log.ensures in
    let was = c.self.inside.parts in
    let log = c.new-log.result.names in
    let last = c.update-updated.new.log.names in
    let now = c.update-updated.new.self in
    let table = table_back log.declarations last.declarations was.declarations now.declarations c.update-updated.ensures.undeclared none.table in
    let meant = c.roll_back.ensures.meant ∙ meant_back log.resolutions last.resolutions was.resolutions now.resolutions c.update-updated.ensures.unresolved none.meant in
    let references = c.roll_back.ensures.references ∙ references_back log.resolutions last.resolutions was.resolutions now.resolutions c.update-updated.ensures.unresolved none.references none.count in (
      c.roll_back.ensures.table was.declarations.table table c.self.invariant.0,
      ap length references ∙ c.self.invariant.1 ∙ sym (size_unchanged was.declarations.table c.roll_back.new.self.declarations.table (c.roll_back.ensures.unchanged was.declarations.table table)),
      subst (All (λ (v : Vec Meant). AllPairs (λ m n. m.token < n.token) v.items)) (sym meant) c.self.invariant.2,
      subst (λ (fs : List (List Bool)). AreFirstsOf fs (map (λ v. v.items) c.roll_back.new.self.resolutions.meant.items)) (sym c.roll_back.ensures.firsts)
          (subst (λ (ms : List (Vec Meant)). AreFirstsOf now.resolutions.firsts (map (λ v. v.items) ms)) (sym meant)
          (are_still was.resolutions.firsts now.resolutions.firsts c.update-updated.ensures.firsts_stay (map (λ v. v.items) was.resolutions.meant.items) c.self.invariant.3)),
    )

pub returns-clause-kept : goal.returns-clause-kept
returns-clause-kept g c = λ other.
    (let none = c.new-log.ensures in
    let was = c.self.inside.parts in
    let log = c.new-log.result.names in
    let last = c.update-updated.new.log.names in
    let now = c.update-updated.new.self in
    let undeclared = c.update-updated.ensures.undeclared in
    let unresolved = c.update-updated.ensures.unresolved in
    let table = table_back log.declarations last.declarations was.declarations now.declarations undeclared none.table in
    let imports = ap (map (λ v. v.items)) (c.roll_back.ensures.imports ∙ c.update-updated.ensures.imports) in
    let seen = c.roll_back.ensures.seen ∙ c.update-updated.ensures.seen in
    let rows = ap (map (λ v. v.items)) (c.roll_back.ensures.rows ∙ rows_back log.declarations last.declarations was.declarations now.declarations undeclared none.rows) in
    let meant = ap (map (λ v. v.items)) (c.roll_back.ensures.meant ∙ meant_back log.resolutions last.resolutions was.resolutions now.resolutions unresolved none.meant) in
    let references = ap (map (λ v. v.items)) (c.roll_back.ensures.references ∙ references_back log.resolutions last.resolutions was.resolutions now.resolutions unresolved none.references none.count) in
    let names = names_unchanged was.declarations.table c.roll_back.new.self.declarations.table (c.roll_back.ensures.unchanged was.declarations.table table) in (
      (λ i. record { names = names i; imports = imports i; rows = rows i; seen = seen i; meant = meant i; references = references i }) ∙ c.self.view_is,
      elim c.match-updated.branch [
        | in-Ok+in-Err w ↦ w.made-is ∙ w.in-Err.ensures.kept
        | in-Err-NeedsRebuild w ↦ w.made-is
        | in-Err-NoMemory w ↦ w.made-is
      ],
    ))

-- how the link was changed, if it was refused
abbrev fault_of : SchemaFault → Renewal → SchemaFault
fault_of other (Refused fault) = fault
fault_of other Done = other
fault_of other Rebuild = other

abbrev is_refused : Renewal → Bool
is_refused (Refused fault) = true
is_refused Done = false
is_refused Rebuild = false

pub returns-clause-refused : goal.returns-clause-refused
returns-clause-refused g c = λ fault is.
    elim c.match-updated.branch [
      | in-Ok+in-Err w ↦
          let same : w.in-Err.fault ≡ fault = ap (fault_of fault) (sym w.answer-is ∙ is) in
          inr (w.in-Ok.ensures.clean, subst (g.M.Derived.IsRefused c.args.files.now) same w.in-Err.ensures.fault)
      | in-Err-NeedsRebuild w ↦ absurd (both_ways false refl (ap is_refused (sym w.answer-is ∙ is)))
      | in-Err-NoMemory w ↦
          let same : NoMemory ≡ fault = ap (fault_of fault) (sym w.answer-is ∙ is) in
          inl (subst (IsLinkError c.args.files.now) same tt)
    ]
