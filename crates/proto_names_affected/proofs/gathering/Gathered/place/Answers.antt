use Rattle.std.proofs.Common.{◌≡◌, ℕ, ◌<◌, List, [], ◌∷◌, ◌++◌, length, get_or, map, nat_eq, refl, sym, ◌∙◌, ap, subst, arith, append-nil}
use Rattle.std.specs.List.{Contains, list_any}
use Rattle.std.proofs.lemmas.Bool.{cond-false, eqb-true}
use Rattle.std.proofs.lemmas.List.{length-map, length_push, map_push}
use Rattle.std.proofs.lemmas.List.Elements.{All-push, Contains-append_left}
use Rattle.std.proofs.lemmas.Option.{get_or_from_slice_get}
use Rattle.proto_base.proofs.Common.{not-true}
use Rattle.proto_names_affected.specs.Referred.{MeantRow}
use Rattle.proto_names_table.specs.declared.ids.RefId.{RefId}
use Rattle.proto_names_affected.specs.Gathering.{AreGathered}
use Rattle.proto_names_affected.proofs.Rows.{not_there, row_added}
use Rattle.proto_names_affected.proofs.gathering.Gathered.place.Goals as goal

pub returns-in_ok-push-clause-gathers : goal.returns-in_ok-push-clause-gathers
returns-in_ok-push-clause-gathers c =
    let old = c.args.self.now in
    let row = c.args.row in
    let rows = old.rows.keys in
    let lists : List (List RefId) = map (λ v. v.items) old.lists.items in
    let absent : list_any (λ k. nat_eq row k) rows ≡ _ = not-true (list_any (λ k. nat_eq row k) rows) (sym c.in_ok-place.ensures.added ∙ c.if-is_new.true) in
    let keys : c.insert_full.new.self.keys ≡ rows ++ row ∷ [] = c.in_ok-place.ensures.keys ∙ cond-false (list_any (λ k. nat_eq row k) rows) rows (rows ++ row ∷ []) absent in
    let items : map (λ v. v.items) c.push.new.self.items ≡ lists ++ [] ∷ [] =
    ap (map (λ v. v.items)) c.in_ok-push.ensures.items ∙ map_push (λ v. v.items) old.lists.items c.new.result ∙ ap (λ z. lists ++ z ∷ []) c.new.ensures.items in
    record {
      sound = record {
        paired = omega (arith, ap length c.in_ok-push.ensures.items, length_push old.lists.items c.new.result, ap length keys, length_push rows row, c.requires.sound.paired);
        within = subst (λ (ks : List ℕ). (k d : ℕ) → k < length ks → get_or ks k d < old.count) (sym keys) (All-push (λ r. r < old.count) rows row c.requires.sound.within c.requires.within);
      };
      count = refl;
      rows = λ r there. subst (λ (ks : List ℕ). Contains ks r) (sym keys) (Contains-append_left rows (row ∷ []) r there);
      gathered = λ ms h.
          (let more = row_added rows row lists ms (not_there rows row absent) (omega (arith, length-map old.lists.items (λ v. v.items), c.requires.sound.paired)) h in
          subst (λ (z : List MeantRow). AreGathered c.insert_full.new.self.keys (map (λ v. v.items) c.push.new.self.items) z) (sym (append-nil ms))
          (subst (λ (ks : List ℕ). AreGathered ks (map (λ v. v.items) c.push.new.self.items) ms) (sym keys)
          (subst (λ (ls : List (List RefId)). AreGathered (rows ++ row ∷ []) ls ms) (sym items) more)));
    }

pub returns-in_ok-push-clause-place : goal.returns-in_ok-push-clause-place
returns-in_ok-push-clause-place c =
    let s = c.in_ok-place.ensures.stored in
    get_or_from_slice_get c.insert_full.new.self.keys c.in_ok-place.place s.0 0 s.1 ∙ sym (eqb-true c.args.row s.0 s.2)

pub returns-else-is_new-clause-place : goal.returns-else-is_new-clause-place
returns-else-is_new-clause-place c =
    let s = c.in_ok-place.ensures.stored in
    get_or_from_slice_get c.insert_full.new.self.keys c.in_ok-place.place s.0 0 s.1 ∙ sym (eqb-true c.args.row s.0 s.2)
