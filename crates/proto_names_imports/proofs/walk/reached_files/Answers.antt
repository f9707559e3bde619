use Rattle.std.proofs.Common.{◌≡◌, ◌<◌, Bool, List, [], ◌∷◌, ◌++◌, length, get_or, map, true, false, sym, ◌∙◌, ap, subst, arith, length-append, slice_set}
use Rattle.std.proofs.lemmas.List.{get_or-map, length-map, length-replicate}
use Rattle.proto_names_imports.specs.Walks.{Visits}
use Rattle.proto_names_imports.proofs.Walks.{IsPart, part_first, part_more, part_whole_one, unmarked_none, marked_within, no_elements, last_in}
use Rattle.proto_names_imports.proofs.walk.reached_files.Goals as goal

pub loop-file-init : goal.loop-file-init
loop-file-init c =
    let n = length-map c.args.next.now (λ v. v.items) in
    let size = length-replicate (length c.args.next.now) false in
    let items = c.in_ok-seen.ensures in
    let long : length c.in_ok-seen.seen ≡ length (map (λ v. v.items) c.args.next.now) = ap length items ∙ size ∙ sym n in
    subst (λ (s : List Bool). IsPart (map (λ v. v.items) c.args.next.now) (c.args.start ∷ []) s c.in_ok-todo.todo.items) (sym c.insert.ensures)
    (subst (IsPart (map (λ v. v.items) c.args.next.now) (c.args.start ∷ []) (slice_set c.in_ok-seen.seen c.args.start true)) (sym c.in_ok-todo.ensures.items)
    (part_first (map (λ v. v.items) c.args.next.now) c.args.start c.in_ok-seen.seen long (omega (arith, long, n, c.requires.start)) (λ g. ap (λ z. get_or z g false) items ∙ unmarked_none (length c.args.next.now) g)))

pub bounds-next-file : goal.bounds-next-file
bounds-next-file c =
    let n = length-map c.args.next.now (λ v. v.items) in
    let p = subst (IsPart (map (λ v. v.items) c.args.next.now) (c.args.start ∷ []) c.loop-file.seen) c.in-Some.ensures.items c.loop-file.invariant in
    let m = marked_within c.loop-file.seen c.in-Some.file (p.waiting c.in-Some.file (last_in c.pop.new.self.items c.in-Some.file)) in
    omega (arith, m, n, p.sized)

pub visit-requires : goal.visit-requires
visit-requires c = λ k d l. (
    let n = length-map c.args.next.now (λ v. v.items) in
    let p = subst (IsPart (map (λ v. v.items) c.args.next.now) (c.args.start ∷ []) c.loop-file.seen) c.in-Some.ensures.items c.loop-file.invariant in
    let m = marked_within c.loop-file.seen c.in-Some.file (p.waiting c.in-Some.file (last_in c.pop.new.self.items c.in-Some.file)) in
    let lt : c.in-Some.file < length c.args.next.now = omega (arith, m, n, p.sized) in
    let e = c.deref.ensures.value ∙ ap (λ v. v.items) c.index-next-file.is in
    let q = c.requires.files c.in-Some.file c.index-next-file.result lt k d (subst (λ z. k < length z) e l) in
    let r = subst (λ z. get_or z k d < length c.args.next.now) (sym e) q in
    omega (arith, r, n, p.sized))

pub loop-file-preserved : goal.loop-file-preserved
loop-file-preserved c =
    let n = length-map c.args.next.now (λ v. v.items) in
    let p = subst (IsPart (map (λ v. v.items) c.args.next.now) (c.args.start ∷ []) c.loop-file.seen) c.in-Some.ensures.items c.loop-file.invariant in
    let m = marked_within c.loop-file.seen c.in-Some.file (p.waiting c.in-Some.file (last_in c.pop.new.self.items c.in-Some.file)) in
    let lt : c.in-Some.file < length c.args.next.now = omega (arith, m, n, p.sized) in
    let e = c.deref.ensures.value ∙ ap (λ v. v.items) c.index-next-file.is ∙ sym (get_or-map (λ v. v.items) c.args.next.now c.in-Some.file c.index-next-file.result [] lt) in
    part_more (map (λ v. v.items) c.args.next.now) (c.args.start ∷ []) c.in-Some.file c.loop-file.seen c.pop.new.self.items c.visit.new.seen c.visit.new.todo.items p
    (subst (λ z. Visits z c.loop-file.seen c.pop.new.self.items c.visit.new.seen c.visit.new.todo.items) e c.in_ok-visit.ensures)

pub returns-clause-exact : goal.returns-clause-exact
returns-clause-exact c =
    part_whole_one (map (λ v. v.items) c.args.next.now) c.args.start c.loop-file.seen
    (subst (IsPart (map (λ v. v.items) c.args.next.now) (c.args.start ∷ []) c.loop-file.seen) (no_elements c.loop-file.todo.items (sym c.loop-file.todo.ok.0 ∙ c.in_default.ensures.cases.0)) c.loop-file.invariant)

pub loop-file-smaller : goal.loop-file-smaller
loop-file-smaller c =
    let popped : c.loop-file.todo.items ≡ c.pop.new.self.items ++ c.in-Some.file ∷ [] = c.in-Some.ensures.items in
    omega (arith, c.in_ok-visit.ensures.work, ap length popped, length-append c.pop.new.self.items (c.in-Some.file ∷ []))

pub returns-clause-len : goal.returns-clause-len
returns-clause-len c = c.loop-file.invariant.sized ∙ length-map c.args.next.now (λ v. v.items)
