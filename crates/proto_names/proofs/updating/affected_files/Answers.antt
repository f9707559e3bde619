use Rattle.std.proofs.Common.{◌<◌, ℕ, Bool, List, length, map, sym, ◌∙◌, ap, subst, arith, All}
use Rattle.proto_base.proofs.Common.{Vec}
use Rattle.proto_base.specs.declared.changes.Change.{Change}
use Rattle.proto_names_affected.specs.ChangedFiles.{kind_rows_of}
use Rattle.proto_names_affected.specs.FirstWords.{AreFirstsOf}
use Rattle.proto_names_affected.specs.Sight.{IsSightMarked}
use Rattle.proto_names_affected.specs.declared.kind_rows.KindRow.{KindRow}
use Rattle.proto_names.proofs.MarksMore.{marks_of_lists}
use Rattle.proto_names.proofs.KindRows.{kind_count, kind_within}
use Rattle.proto_names.specs.Common.{Meant, RefId}
use Rattle.proto_names.proofs.updating.affected_files.Goals as goal

pub kind_rows_at-requires : goal.kind_rows_at-requires
kind_rows_at-requires c = λ k d l. omega (arith, c.requires.places k d l, c.requires.rows, ap length c.deref.ensures.value)

pub marks_of_changes-requires-clause-places : goal.marks_of_changes-requires-clause-places
marks_of_changes-requires-clause-places c = λ k d l. omega (arith, c.requires.places k d l, c.requires.meant, ap length c.deref-3.ensures.value)

pub marks_of_changes-requires-clause-now : goal.marks_of_changes-requires-clause-now
marks_of_changes-requires-clause-now c =
    let t = c.args.declarations.now.table in
    let places = c.args.edited.places.now in
    ap length c.deref-4.ensures.value ∙ kind_count t (map (λ v. v.items) c.args.declarations.now.rows.items) places c.in_ok-now.now.items (c.in_ok-now.ensures ∙ ap (λ (rs : List (Vec ℕ)). map (kind_rows_of t (map (λ v. v.items) rs)) places) c.deref.ensures.value)

pub marks_of_changes-requires-clause-within : goal.marks_of_changes-requires-clause-within
marks_of_changes-requires-clause-within c =
    let t = c.args.declarations.now.table in
    let places = c.args.edited.places.now in
    subst (All (λ (v : Vec KindRow). All (λ p. p.row < length t.rows.items) v.items)) (sym c.deref-4.ensures.value)
    (kind_within t (map (λ v. v.items) c.args.declarations.now.rows.items) places c.in_ok-now.now.items (c.in_ok-now.ensures ∙ ap (λ (rs : List (Vec ℕ)). map (kind_rows_of t (map (λ v. v.items) rs)) places) c.deref.ensures.value))

pub marks_of_changes-requires-clause-references : goal.marks_of_changes-requires-clause-references
marks_of_changes-requires-clause-references c =
    subst (λ (ms : List (Vec Meant)). All (λ (v : Vec RefId). All (λ r. r.file < length ms) v.items) c.deref-2.result.now) (sym c.deref-3.ensures.value)
    (subst (All (λ (v : Vec RefId). All (λ r. r.file < length c.args.resolutions.now.meant.items) v.items)) (sym c.deref-2.ensures.value) c.requires.references)

pub mark_others-requires-clause-others : goal.mark_others-requires-clause-others
mark_others-requires-clause-others c = λ k d l. omega (arith, c.requires.others k d l, c.in_ok-affected.ensures.len, ap length c.deref-3.ensures.value, c.requires.meant)

pub mark_others-requires-clause-rows : goal.mark_others-requires-clause-rows
mark_others-requires-clause-rows c = omega (arith, c.requires.rows, c.in_ok-affected.ensures.len, ap length c.deref-3.ensures.value, c.requires.meant)

pub mark_others-requires-clause-meant : goal.mark_others-requires-clause-meant
mark_others-requires-clause-meant c = omega (arith, ap length c.deref-5.ensures.value, c.in_ok-affected.ensures.len, ap length c.deref-3.ensures.value)

pub mark_others-requires-clause-seen : goal.mark_others-requires-clause-seen
mark_others-requires-clause-seen c = omega (arith, c.requires.seen, c.in_ok-affected.ensures.len, ap length c.deref-3.ensures.value, c.requires.meant)

pub returns-clause-len : goal.returns-clause-len
returns-clause-len c = omega (arith, c.in_ok-mark_others.ensures.stay.count, c.in_ok-affected.ensures.len, ap length c.deref-3.ensures.value, c.requires.meant)

pub returns-clause-changes : goal.returns-clause-changes
returns-clause-changes c =
    let t = c.args.declarations.now.table in
    let places = c.args.edited.places.now in
    marks_of_lists t c.in_ok-affected.affected c.mark_others.new.affected c.in_ok-mark_others.ensures.stay places (map (λ v. v.items) c.args.before.now)
    (ap (map (λ (v : Vec RefId). v.items)) c.deref-2.ensures.value)
    (ap (map (λ (v : Vec Meant). v.items)) c.deref-3.ensures.value)
    (ap (map (λ (v : Vec KindRow). v.items)) c.deref-4.ensures.value ∙ c.in_ok-now.ensures ∙ ap (λ (rs : List (Vec ℕ)). map (kind_rows_of t (map (λ v. v.items) rs)) places) c.deref.ensures.value)
    c.in_ok-affected.ensures.marked

pub returns-clause-sight : goal.returns-clause-sight
returns-clause-sight c = λ saw was.
    subst (λ (vs : List (Vec Meant)). All (λ (x : Change (List Bool)). IsSightMarked c.mark_others.new.affected c.args.declarations.now.table (map (λ v. v.items) c.args.declarations.now.rows.items) (map (λ v. v.items) vs) saw c.args.edited.seen.now x.place) c.args.edited.saw.now) c.deref-5.ensures.value (c.in_ok-mark_others.ensures.marked saw was)

pub marks_of_changes-requires-clause-firsts : goal.marks_of_changes-requires-clause-firsts
marks_of_changes-requires-clause-firsts c =
    subst (λ (ms : List (Vec Meant)). AreFirstsOf c.args.resolutions.now.firsts (map (λ v. v.items) ms)) (sym c.deref-3.ensures.value) c.requires.firsts
