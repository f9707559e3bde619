use Rattle.std.proofs.Common.{◌≡◌, ◌-◌, ℕ, zero, suc, All, List, [], ◌∷◌, ◌++◌, length, get_or, map, refl, sym, ◌∙◌, ap, subst, inl, inr, arith, append-nil, append_assoc}
use Rattle.std.specs.Global.{Vec}
use Rattle.std.proofs.lemmas.List.{get_or-append_right, get_or_append_left, get_or_past, length_push, map-append}
use Rattle.std.proofs.lemmas.Bool.{cases_lt}
use Rattle.std.proofs.lemmas.List.Elements.{All-nil, All-push}
use Rattle.proto_names_table.specs.declared.ids.RefId.{RefId}
use Rattle.proto_names_affected.specs.Renewed.{AreGrown}
use Rattle.proto_names_affected.proofs.renewed_references.grow_references.Goals as goal

grown_none : (vs : List (Vec RefId)) → AreGrown vs vs
grown_none vs = record { added = []; behind = sym (append-nil vs); empty = All-nil (λ (v : Vec RefId). v.items ≡ []) }

grown_more : (old was now : List (Vec RefId)) (v : Vec RefId) → AreGrown old was → now ≡ was ++ v ∷ [] → v.items ≡ [] → AreGrown old now
grown_more old was now v g is empty = record {
  added = g.added ++ v ∷ [];
  behind = is ∙ ap (λ z. z ++ v ∷ []) g.behind ∙ append_assoc old g.added (v ∷ []);
  empty = All-push (λ (v : Vec RefId). v.items ≡ []) g.added v g.empty empty;
}

no_items : (vs : List (Vec RefId)) (k : ℕ) → All (λ v. v.items ≡ []) vs → get_or (map (λ (v : Vec RefId). v.items) vs) k [] ≡ []
no_items [] k h = refl
no_items (v ∷ vs) zero h = h 0 v (omega arith)
no_items (v ∷ vs) (suc k) h = no_items vs k (λ j d l. h (suc j) d (omega (arith, l)))

same_lists : (old now : List (Vec RefId)) → AreGrown old now → (row : ℕ) → get_or (map (λ (v : Vec RefId). v.items) now) row [] ≡ get_or (map (λ (v : Vec RefId). v.items) old) row []
same_lists old now g row =
    let had : List (List RefId) = map (λ (v : Vec RefId). v.items) old in
    let more : List (List RefId) = map (λ (v : Vec RefId). v.items) g.added in
    ap (λ (vs : List (Vec RefId)). get_or (map (λ (v : Vec RefId). v.items) vs) row []) g.behind
    ∙ ap (λ (ls : List (List RefId)). get_or ls row []) (map-append (λ (v : Vec RefId). v.items) old g.added)
    ∙ elim (cases_lt row (length had)) [
      | inl l ↦ get_or_append_left had more [] row l
      | inr past ↦ get_or-append_right had more (length had) row [] refl past ∙ no_items g.added (row - length had) g.empty ∙ sym (get_or_past had row [] past)
    ]

pub loop-init : goal.loop-init
loop-init c = record { grown = grown_none c.args.references.now.items; len = omega arith; upper = omega arith }

pub loop-preserved : goal.loop-preserved
loop-preserved c = record {
  grown = grown_more c.args.references.now.items c.loop.references.items c.push.new.self.items c.new.result c.loop.invariant.grown c.in_ok-push.ensures.items c.new.ensures.items;
  len = omega (arith, ap length c.in_ok-push.ensures.items, length_push c.loop.references.items c.new.result, c.loop.invariant.len);
  upper = omega (arith, c.loop-test.true);
}

pub returns-clause-grown : goal.returns-clause-grown
returns-clause-grown c = c.loop.invariant.grown

pub returns-clause-len : goal.returns-clause-len
returns-clause-len c = omega (arith, c.loop.invariant.len, c.loop.invariant.upper, c.loop-test.false)

pub returns-clause-same : goal.returns-clause-same
returns-clause-same c = same_lists c.args.references.now.items c.loop.references.items c.loop.invariant.grown

pub returns-in_err-push-clause-grown : goal.returns-in_err-push-clause-grown
returns-in_err-push-clause-grown c = subst (AreGrown c.args.references.now.items) (sym c.in_err-push.ensures.items) c.loop.invariant.grown

pub returns-in_err-push-clause-same : goal.returns-in_err-push-clause-same
returns-in_err-push-clause-same c = same_lists c.args.references.now.items c.push.new.self.items (subst (AreGrown c.args.references.now.items) (sym c.in_err-push.ensures.items) c.loop.invariant.grown)
