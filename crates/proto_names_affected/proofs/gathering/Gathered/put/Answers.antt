use Rattle.std.proofs.Common.{◌≡◌, List, [], ◌∷◌, ◌++◌, get_or, map, slice_set, sym, ◌∙◌, ap, subst, arith, append-nil, length-set}
use Rattle.std.proofs.lemmas.List.{get_or-map, length-map, map-set}
use Rattle.proto_names_affected.specs.Referred.{MeantRow}
use Rattle.proto_names_table.specs.declared.ids.RefId.{RefId}
use Rattle.proto_names_affected.specs.Gathering.{AreGathered}
use Rattle.proto_names_affected.proofs.Rows.{reference_added}
use Rattle.proto_names_affected.proofs.gathering.Gathered.put.Goals as goal

pub returns : goal.returns
returns c =
    let old = c.args.self.now in
    let mid = c.place.new.self in
    let place = c.in_ok-place.place in
    let p = c.in_ok-place.ensures.gathers in
    let lists : List (List RefId) = map (λ v. v.items) mid.lists.items in
    let n = length-map mid.lists.items (λ v. v.items) in
    let m : MeantRow = record { reference = c.args.reference; row = c.args.row } in
    let list : c.push.new.self.items ≡ get_or lists place [] ++ c.args.reference ∷ [] =
    c.in_ok-push.ensures.items ∙ ap (λ z. z ++ c.args.reference ∷ []) (ap (λ v. v.items) c.index_mut-list.ensures.value ∙ sym (get_or-map (λ v. v.items) mid.lists.items place c.index_mut-list.result.now [] c.in_ok-place.ensures.within)) in
    let items : map (λ v. v.items) (slice_set mid.lists.items place c.push.new.self) ≡ slice_set lists place (get_or lists place [] ++ c.args.reference ∷ []) =
    map-set (λ v. v.items) mid.lists.items place c.push.new.self ∙ ap (slice_set lists place) list in
    record {
      sound = record {
        paired = length-set mid.lists.items place c.push.new.self ∙ p.sound.paired;
        within = p.sound.within;
      };
      count = p.count;
      rows = p.rows;
      gathered = λ ms h.
          subst (λ (ls : List (List RefId)). AreGathered mid.rows.keys ls (ms ++ m ∷ [])) (sym items)
          (reference_added mid.rows.keys lists ms place c.args.row c.args.reference c.in_ok-place.ensures.unique (omega (arith, n, p.sound.paired)) (omega (arith, n, c.in_ok-place.ensures.within)) c.in_ok-place.ensures.place
          (subst (λ (z : List MeantRow). AreGathered mid.rows.keys lists z) (append-nil ms) (p.gathered ms h)));
    }
