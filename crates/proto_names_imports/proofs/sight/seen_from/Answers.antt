use Rattle.std.proofs.Common.{◌≡◌, ◌≢◌, ◌<◌, List, [], ◌∷◌, length, get_or, map, true, false, sym, ◌∙◌, ap, subst, inl, inr, arith, slice_set, Contains, get_or-set_same, get_or-set_other, length-set}
use Rattle.proto_base.proofs.Common.{Contains-append_left, both_ways, contains_head, get_or-map, length-map}
use Rattle.std.proofs.lemmas.List.{length-replicate}
use Rattle.proto_names_imports.specs.Common.{FileImport}
use Rattle.proto_names_imports.specs.Walks.{Visits}
use Rattle.proto_names_imports.proofs.SeenFiles.{own_of, public_of}
use Rattle.proto_names_imports.proofs.Walks.{IsPart, part_first, part_more, part_whole_one, unmarked_none, marked_within, no_elements, last_in}
use Rattle.proto_names_imports.proofs.sight.seen_from.Goals as goal

pub visit_imported-requires : goal.visit_imported-requires
visit_imported-requires c = λ k d l. (
    let size = ap length c.insert.ensures ∙ length-set c.in_ok-seen.seen c.args.file true ∙ ap length c.in_ok-seen.ensures ∙ length-replicate (length c.args.imports.now) false in
    let r = c.requires.own k d l in
    omega (arith, r, size))

pub loop-next-init : goal.loop-next-init
loop-next-init c =
    let file = c.args.file in
    let publics = map (λ v. public_of v.items) c.args.imports.now in
    let own = own_of c.args.own.now in
    let steps = slice_set publics file own in
    let many : length publics ≡ length c.args.imports.now = length-map c.args.imports.now (λ v. public_of v.items) in
    let inside : file < length publics = omega (arith, many, c.requires.file) in
    let items = c.in_ok-seen.ensures in
    let long : length c.in_ok-seen.seen ≡ length steps = ap length items ∙ length-replicate (length c.args.imports.now) false ∙ sym (length-set publics file own ∙ many) in
    let first = part_first steps file c.in_ok-seen.seen long (omega (arith, inside, long, length-set publics file own)) (λ g. ap (λ z. get_or z g false) items ∙ unmarked_none (length c.args.imports.now) g) in
    let p = subst (λ s. IsPart steps (file ∷ []) s (file ∷ [])) (sym c.insert.ensures) first in
    let seen = c.visit_imported.new.seen in
    let todo = c.visit_imported.new.todo.items in
    let visits = subst (λ z. Visits own c.insert.new.self z seen todo) c.new-todo.ensures.items c.in_ok-visit_imported.ensures in
    record {
      part = part_more steps (file ∷ []) file c.insert.new.self [] seen todo p (subst (λ z. Visits z c.insert.new.self [] seen todo) (sym (get_or-set_same publics file own [] inside)) visits);
      apart = λ waits. elim (visits.fresh file waits) [ inl n ↦ absurd (omega (arith, n.1)) | inr unmarked ↦ both_ways (get_or c.insert.new.self file false) unmarked (p.begun file (contains_head file [])) ];
    }

pub bounds-imports-next : goal.bounds-imports-next
bounds-imports-next c =
    let publics = map (λ v. public_of v.items) c.args.imports.now in
    let steps = slice_set publics c.args.file (own_of c.args.own.now) in
    let many : length steps ≡ length c.args.imports.now = length-set publics c.args.file (own_of c.args.own.now) ∙ length-map c.args.imports.now (λ v. public_of v.items) in
    let p = subst (IsPart steps (c.args.file ∷ []) c.loop-next.seen) c.in-Some.ensures.items c.loop-next.invariant.part in
    let m = marked_within c.loop-next.seen c.in-Some.next (p.waiting c.in-Some.next (last_in c.pop.new.self.items c.in-Some.next)) in
    omega (arith, m, many, p.sized)

pub visit_public-requires : goal.visit_public-requires
visit_public-requires c = λ k d l. (
    let publics = map (λ v. public_of v.items) c.args.imports.now in
    let steps = slice_set publics c.args.file (own_of c.args.own.now) in
    let many : length steps ≡ length c.args.imports.now = length-set publics c.args.file (own_of c.args.own.now) ∙ length-map c.args.imports.now (λ v. public_of v.items) in
    let p = subst (IsPart steps (c.args.file ∷ []) c.loop-next.seen) c.in-Some.ensures.items c.loop-next.invariant.part in
    let m = marked_within c.loop-next.seen c.in-Some.next (p.waiting c.in-Some.next (last_in c.pop.new.self.items c.in-Some.next)) in
    let lt : c.in-Some.next < length c.args.imports.now = omega (arith, m, many, p.sized) in
    let e = c.deref.ensures.value ∙ ap (λ v. v.items) c.index-imports-next.is in
    let q = c.requires.within c.in-Some.next c.index-imports-next.result lt k d (subst (λ (z : List FileImport). k < length z) e l) in
    let r = subst (λ (z : List FileImport). (get_or z k d).to < length c.args.imports.now) (sym e) q in
    omega (arith, r, many, p.sized))

pub loop-next-preserved : goal.loop-next-preserved
loop-next-preserved c =
    let file = c.args.file in
    let next = c.in-Some.next in
    let left = c.pop.new.self.items in
    let publics = map (λ v. public_of v.items) c.args.imports.now in
    let own = own_of c.args.own.now in
    let steps = slice_set publics file own in
    let many : length steps ≡ length c.args.imports.now = length-set publics file own ∙ length-map c.args.imports.now (λ v. public_of v.items) in
    let popped = c.in-Some.ensures.items in
    let there : next ≢ file = λ e. c.loop-next.invariant.apart (subst (Contains c.loop-next.todo.items) e (subst (λ z. Contains z next) (sym popped) (last_in left next))) in
    let p = subst (IsPart steps (file ∷ []) c.loop-next.seen) popped c.loop-next.invariant.part in
    let m = marked_within c.loop-next.seen next (p.waiting next (last_in left next)) in
    let lt : next < length c.args.imports.now = omega (arith, m, many, p.sized) in
    let stands : get_or steps next [] ≡ public_of c.index-imports-next.result.items =
    get_or-set_other publics file next own [] there
    ∙ get_or-map (λ v. public_of v.items) c.args.imports.now next c.index-imports-next.result [] lt
    ∙ ap (λ v. public_of v.items) (sym c.index-imports-next.is) in
    let others : public_of c.deref.result.now ≡ get_or steps next [] = ap public_of c.deref.ensures.value ∙ sym stands in
    let visits = c.in_ok-visit_public.ensures in
    record {
      part = part_more steps (file ∷ []) next c.loop-next.seen left c.visit_public.new.seen c.visit_public.new.todo.items p (subst (λ z. Visits z c.loop-next.seen left c.visit_public.new.seen c.visit_public.new.todo.items) others visits);
      apart = λ waits. elim (visits.fresh file waits) [
        | inl old ↦ c.loop-next.invariant.apart (subst (λ z. Contains z file) (sym popped) (Contains-append_left left (next ∷ []) file old))
        | inr unmarked ↦ both_ways (get_or c.loop-next.seen file false) unmarked (p.begun file (contains_head file []))
      ];
    }

pub returns-clause-len : goal.returns-clause-len
returns-clause-len c =
    let publics = map (λ v. public_of v.items) c.args.imports.now in
    c.loop-next.invariant.part.sized ∙ length-set publics c.args.file (own_of c.args.own.now) ∙ length-map c.args.imports.now (λ v. public_of v.items)

pub returns-clause-exact : goal.returns-clause-exact
returns-clause-exact c =
    let steps = slice_set (map (λ v. public_of v.items) c.args.imports.now) c.args.file (own_of c.args.own.now) in
    part_whole_one steps c.args.file c.loop-next.seen (subst (IsPart steps (c.args.file ∷ []) c.loop-next.seen) (no_elements c.loop-next.todo.items (sym c.loop-next.todo.ok.0 ∙ c.in_default.ensures.cases.0)) c.loop-next.invariant.part)
