use Rattle.std.proofs.Common.{List, ℕ, ◌<◌, [], All, get_or, length, map, sym, ◌∙◌, ap, subst, inl, inr, arith, below_more}
use Rattle.std.proofs.lemmas.Bool.{cases_lt}
use Rattle.std.proofs.lemmas.List.{get_or-map, get_or_past, length-map}
use Rattle.std.proofs.lemmas.List.Elements.{All-nil, All-weaker}
use Rattle.proto_names_affected.specs.Marking.{IsMarked}
use Rattle.proto_names_affected.specs.Sight.{IsGathered}
use Rattle.proto_names_affected.proofs.Sights.{AreRows, gathered_stays}
use Rattle.proto_names_affected.proofs.shown_names.shown_names.Goals as goal

pub loop-file-init : goal.loop-file-init
loop-file-init c = record {
  within = subst (AreRows c.args.table.now) (sym c.new.ensures.empty) (All-nil (λ row. row < length c.args.table.now.rows.items));
  gathered = λ file l. absurd (omega (arith, l));
}

pub add_if_marked-requires-clause-within : goal.add_if_marked-requires-clause-within
add_if_marked-requires-clause-within c = c.loop-file.invariant.within

pub loop-file-preserved : goal.loop-file-preserved
loop-file-preserved c =
    let t = c.args.table.now in
    let was = c.loop-file.names in
    let now = c.add_if_marked.new.self in
    let more = c.in_ok-add_if_marked.ensures.more in
    let lists : List (List ℕ) = map (λ v. v.items) c.args.rows.now in
    let here = c.deref.ensures.value ∙ ap (λ v. v.items) c.index-rows-file.is ∙ sym (get_or-map (λ v. v.items) c.args.rows.now c.loop-file.file c.index-rows-file.result [] c.loop-file-test.true) in
    record {
      within = more.within;
      gathered = below_more (λ file. IsMarked c.args.marks.now file → All (IsGathered t now.packages.keys now.keys.keys) (get_or lists file [])) c.loop-file.file
          (λ file l marked. All-weaker (IsGathered t was.packages.keys was.keys.keys) (IsGathered t now.packages.keys now.keys.keys) (gathered_stays t was.packages.keys was.keys.keys now.packages.keys now.keys.keys more) (get_or lists file []) (c.loop-file.invariant.gathered file l marked))
          (λ marked. subst (All (IsGathered t now.packages.keys now.keys.keys)) here (c.in_ok-add_if_marked.ensures.gathered marked));
    }

pub returns-clause-within : goal.returns-clause-within
returns-clause-within c = c.loop-file.invariant.within

pub returns-clause-gathered : goal.returns-clause-gathered
returns-clause-gathered c = λ file marked. elim (cases_lt file c.loop-file.file) [
  | inl l ↦ c.loop-file.invariant.gathered file l marked
  | inr past ↦
      let lists : List (List ℕ) = map (λ v. v.items) c.args.rows.now in
      let gathered = IsGathered c.args.table.now c.loop-file.names.packages.keys c.loop-file.names.keys.keys in
      subst (All gathered) (sym (get_or_past lists file [] (omega (arith, past, c.loop-file-test.false, length-map c.args.rows.now (λ v. v.items))))) (All-nil gathered)
]
