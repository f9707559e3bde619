-- Where some files are re-resolved, the references of all others mean what they meant (for the crates above).
use Rattle.std.proofs.Common.{◌≡◌, ℕ, Bool, true, false, List, ◌++◌, length, Some, sym, ◌∙◌, ap, inl, inr, arith, get_or, Contains, AllPairs, append-nil, length-append}
use Rattle.proto_base.proofs.Common.{both_ways, cases_Bool}
use Rattle.proto_names_rules.proofs.Common.{AreApart, IsLinked, IsNested, Reference, Workspace, front_or_same, has_meaning, meaning}
use Rattle.proto_names_rules.proofs.Kept.{flawless_stay, meanings_are_kept}
use Rattle.proto_names_rules.proofs.Unaffected.{keys_tell, unaffected_are_kept}
use Rattle.proto_names_rules.specs.Kept.{DifferAt, IsFlawless, IsKeptReference}
use Rattle.proto_names_rules.specs.Marked.{AreMarked, IsScopeOf, IsUnmarked, MarkedDecide, ScopesAreOwn, UnmarkedMeanTheSame}

-- the fronts of what a file declares are declared by it
front_of_scope : (w : Workspace) → IsNested w.symbols → (file : ℕ) (front back scope : List (List ℕ)) → front ++ back ≡ scope → IsScopeOf w file scope → IsScopeOf w file front
front_of_scope w nested file front back scope whole own long =
    let u = own (omega (arith, long, ap length whole, length-append front back)) in
    elim (front_or_same w.symbols nested front back u.0 u.1 (u.2 ∙ sym whole) long) [
      | inl none ↦ (u.0, u.1, u.2 ∙ sym whole ∙ ap (λ b. front ++ b) none ∙ append-nil front, u.3)
      | inr f ↦ (f.it, f.within, f.name, f.file ∙ u.3)
    ]

module _ (key : List ℕ → ℕ) (places : List ℕ) (w v : Workspace) (marks : List Bool) (ok : IsLinked w) (nested : IsNested v.symbols) (own : ScopesAreOwn v) (differ : DifferAt places w v) (are : AreMarked key places w v marks) where
  -- a file that is not marked is not edited
  not_edited : (file : ℕ) → IsUnmarked marks file → Contains places file → ⊥
  not_edited file left there = both_ways (get_or marks file false) left (are.edited file there)

  kept : (r : Reference) (m : List (List ℕ)) → Contains w.references r → Contains v.references r → IsUnmarked marks r.file → meaning w r ≡ Some m → IsKeptReference w v r m
  kept r m c now left h = unaffected_are_kept places w v differ r m (keys_tell key places w v r m (record {
    not_hidden = λ s cs n ty was. are.none_hidden r s c left (h ∙ some_name n) cs ty was;
    none_shown = λ s front back last first rest cs seen before outer whole n words same. (
      are.none_shown r first rest c left words s front last cs seen before outer n same (front_of_scope v nested r.file front back r.scope whole (own r now)),
      not_edited r.file left,
    );
    not_gone = λ s cs there n ty. are.none_gone r s c left (h ∙ some_name n) cs there ty;
    none_came = λ s front back last first rest cs there outer whole n words same.
        are.none_came r first rest c left words s front last cs there outer n same (front_of_scope v nested r.file front back r.scope whole (own r now));
  }))
    where
      some_name : {x : List (List ℕ)} → x ≡ m → Some m ≡ Some x
      some_name e = ap Some (sym e)

  -- its references are those that it had
  same : (r : Reference) → Contains v.references r → IsUnmarked marks r.file → Contains w.references r
  same r c left = differ.references r c (not_edited r.file left)

  same_meaning : (r : Reference) → Contains v.references r → IsUnmarked marks r.file → meaning v r ≡ meaning w r
  same_meaning r c left =
      let was = same r c left in
      let m = has_meaning (meaning w r) (ok.resolved r was) in
      meanings_are_kept w v nested r m.0 m.1 (kept r m.0 was c left m.1) ∙ sym m.1

  flawless : AllPairs AreApart v.symbols → ((r : Reference) → Contains v.references r → get_or marks r.file false ≡ true → IsFlawless v r) → (r : Reference) → Contains v.references r → IsFlawless v r
  flawless apart again r c = elim (cases_Bool (get_or marks r.file false)) [
    | inl marked ↦ again r c marked
    | inr left ↦
        let was = same r c left in
        let m = has_meaning (meaning w r) (ok.resolved r was) in
        flawless_stay w v nested apart r m.0 m.1 (kept r m.0 was c left m.1) (record { resolved = ok.resolved r was; no_entry = ok.no_entry r was; right_kind = ok.right_kind r was })
  ]

pub unmarked_mean_the_same : UnmarkedMeanTheSame
unmarked_mean_the_same key places w v marks ok nested own differ are r c left = same_meaning key places w v marks ok nested own differ are r c left

pub marked_decide : MarkedDecide
marked_decide key places w v marks ok nested own apart differ are again = record {
  nested = nested;
  unique = apart;
  resolved = λ r c. (each r c).resolved;
  no_entry = λ r c. (each r c).no_entry;
  right_kind = λ r c. (each r c).right_kind;
}
  where
    each : (r : Reference) → Contains v.references r → IsFlawless v r
    each = flawless key places w v marks ok nested own differ are apart again
