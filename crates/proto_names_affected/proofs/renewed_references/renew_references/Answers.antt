use Rattle.std.proofs.Common.{◌≡◌, ℕ, ◌+◌, ◌<◌, true, false, All, List, [], length, get_or, map, sym, ◌∙◌, ap, subst, arith}
use Rattle.std.specs.Global.{Vec}
use Rattle.std.specs.List.{Contains}
use Rattle.std.proofs.lemmas.List.{length-map, length-replicate}
use Rattle.std.proofs.lemmas.List.Elements.{All-weaker}
use Rattle.std.proofs.lemmas.Result.{on_ok_weaker}
use Rattle.proto_base.specs.Undone.{AreWithin, undone}
use Rattle.proto_names_table.specs.declared.ids.Meant.{Meant}
use Rattle.proto_names_table.specs.declared.ids.RefId.{RefId}
use Rattle.proto_base.specs.declared.changes.Change.{Change}
use Rattle.proto_names_affected.specs.Gathering.{AreGathered, AreRowsBelow, AreRowsNamed, marked_meant}
use Rattle.proto_names_affected.specs.Renewed.{AreRenewed}
use Rattle.proto_names_affected.proofs.Renewing.{all_renewed, each_named, known_before, length_before, same_before}
use Rattle.proto_names_affected.proofs.renewed_references.renew_references.Goals as goal

pub insert_changed-requires : goal.insert_changed-requires
insert_changed-requires c =
    subst (λ n. AreWithin n c.args.old.now) (sym (ap length c.in_ok-changed.ensures ∙ length-replicate (length c.args.meant.now) false)) c.requires.within

pub add_former_rows-requires-clause-sound : goal.add_former_rows-requires-clause-sound
add_former_rows-requires-clause-sound c = c.new-gathered.ensures.sound

pub add_former_rows-requires-clause-within : goal.add_former_rows-requires-clause-within
add_former_rows-requires-clause-within c =
    let sized : c.len.result ≡ length c.args.references.now.items = omega arith in
    subst (λ n. All (λ (x : Change (Vec Meant)). AreRowsBelow n x.was.items) c.args.old.now) (sym (c.new-gathered.ensures.count ∙ sized)) c.requires.former

pub add_marked-requires-clause-sound : goal.add_marked-requires-clause-sound
add_marked-requires-clause-sound c = c.in_ok-add_former_rows.ensures.gathers.sound

pub add_marked-requires-clause-within : goal.add_marked-requires-clause-within
add_marked-requires-clause-within c =
    let sized : c.len.result ≡ length c.args.references.now.items = omega arith in
    subst (λ n. All (λ (v : Vec Meant). AreRowsBelow n v.items) c.args.meant.now) (sym (c.in_ok-add_former_rows.ensures.gathers.count ∙ c.new-gathered.ensures.count ∙ sized)) c.requires.rows

pub renew_listed-requires-clause-within : goal.renew_listed-requires-clause-within
renew_listed-requires-clause-within c =
    let g = c.in_ok-add_marked.ensures in
    let sized : c.len.result ≡ length c.args.references.now.items = omega arith in
    let n = g.count ∙ c.in_ok-add_former_rows.ensures.gathers.count ∙ c.new-gathered.ensures.count ∙ sized in
    subst (All (λ row. row < length c.args.references.now.items)) (sym c.as_slice-rows.ensures.keys) (subst (λ n. All (λ row. row < n) c.add_marked.new.self.rows.keys) n g.sound.within)

pub renew_listed-requires-clause-paired : goal.renew_listed-requires-clause-paired
renew_listed-requires-clause-paired c = ap length c.deref.ensures.value ∙ c.in_ok-add_marked.ensures.sound.paired ∙ sym (ap length c.as_slice-rows.ensures.keys)

pub returns-clause-references : goal.returns-clause-references
returns-clause-references c =
    let marks = c.insert_changed.new.files in
    let g = c.add_marked.new.self in
    let rows = g.rows.keys in
    let lists : List (List RefId) = map (λ v. v.items) g.lists.items in
    let given : List (Vec Meant) = c.args.meant.now in
    let now : List (List Meant) = map (λ v. v.items) given in
    let before : List (List Meant) = map (λ v. v.items) (undone c.args.old.now given) in
    let len : length before ≡ length now = length-map (undone c.args.old.now given) (λ v. v.items) ∙ length_before c.args.old.now given ∙ sym (length-map given (λ v. v.items)) in
    let old : List (List RefId) = map (λ v. v.items) c.args.references.now.items in
    let new : List (List RefId) = map (λ v. v.items) c.renew_listed.new.references.items in
    let p = c.in_ok-add_former_rows.ensures in
    let q = c.in_ok-add_marked.ensures in
    let has : AreGathered rows lists (marked_meant marks 0 now) = q.gathered [] (p.gathers.gathered [] c.new-gathered.ensures.empty) in
    let former : All (λ (x : Change (Vec Meant)). AreRowsNamed rows x.was.items) c.args.old.now =
    All-weaker (λ (x : Change (Vec Meant)). AreRowsNamed c.add_former_rows.new.self.rows.keys x.was.items) (λ (x : Change (Vec Meant)). AreRowsNamed rows x.was.items)
    (λ x h. All-weaker (λ (m : Meant). Contains c.add_former_rows.new.self.rows.keys m.row) (λ (m : Meant). Contains rows m.row) (λ m there. q.rows m.row there) x.was.items h) c.args.old.now p.named in
    let named : (file : ℕ) → get_or marks file false ≡ true → AreRowsNamed rows (get_or before file []) =
    known_before (AreRowsNamed rows) marks c.args.old.now given former (λ k it. each_named marks rows 0 now has.named k (ap (λ i. get_or marks i false) (from_zero k) ∙ it)) in
    on_ok_weaker c.renew_listed.result
    (λ renewed. all_renewed c.references_are_parted.ensures.rise c.references_are_parted.ensures.stay c.references_are_parted.ensures.gathered marks rows lists before now len (same_before marks c.args.old.now given c.insert_changed.ensures.changed) has
    old new c.requires.before named
    (subst (λ (rs : List ℕ). AreRenewed marks rs lists old new) c.as_slice-rows.ensures.keys (subst (λ (ls : List (Vec RefId)). AreRenewed marks c.as_slice-rows.result.now (map (λ v. v.items) ls) old new) c.deref.ensures.value renewed)))
    c.renew_listed.ensures.renewed
  where
    from_zero : (k : ℕ) → 0 + k ≡ k
    from_zero k = omega arith
