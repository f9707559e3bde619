use Rattle.std.proofs.Common.{◌≡◌, List, ℕ, ◌++◌, [], ◌∷◌, sym, ◌∙◌, subst, rules, map, Option, String, Global, string_bytes}
use Rattle.proto_base.proofs.Common.{Vec}
use Rattle.std.specs.Vec.Iter.{into_iter_items}
use Rattle.proto_store.specs.Stores.{Held, HoldsBytes, HoldsGiven, IsListed, ListsPaths}
use Rattle.proto_store.proofs.Loading.{Loads, empty_if_short, loads_all, loads_more, loads_none, next_is_listed}
use Rattle.proto_session.proofs.reading.read_folder.Goals as goal

pub loop-path-init : goal.loop-path-init
loop-path-init g c =
    let held : Option Held = g.S.Store.holds c.list.new.self in
    let sorted : List (String Global) = c.sort_unstable.new.self.items in
    let paths : List (String Global) = c.in_ok-paths.paths.items in
    let listed : ListsPaths held (map string_bytes paths) = subst (λ h. ListsPaths h (map string_bytes paths)) (sym c.list.ensures.same) c.in_ok-paths.ensures.paths in
    let begun : Loads held [] sorted = loads_none held paths sorted listed c.sort_unstable.ensures.permutation c.sort_unstable.ensures.sorted in
    let items : into_iter_items c.into_iter-path-iterator.result ≡ sorted = search rules in
    let none : c.new-files.result.items ≡ [] = search rules in
    record {
      so_far = subst (λ done. Loads held done (into_iter_items c.into_iter-path-iterator.result)) (sym none) (subst (λ left. Loads held [] left) (sym items) begun);
      same = search rules;
      count = search rules;
    }

pub read-requires-clause-listed : goal.read-requires-clause-listed
read-requires-clause-listed g c =
    let held : Option Held = g.S.Store.holds c.list.new.self in
    let left : into_iter_items c.loop-path.path-iterator ≡ c.in-Some.path ∷ into_iter_items c.next.new.self = search rules in
    let done : List (String Global × Vec ℕ) = c.loop-path.files.items in
    let here : Loads held done (c.in-Some.path ∷ into_iter_items c.next.new.self) = subst (λ l. Loads held done l) left c.loop-path.invariant.so_far in
    let listed : IsListed held (string_bytes c.in-Some.path) = next_is_listed held done c.in-Some.path (into_iter_items c.next.new.self) here in
    let path : c.as_str.result.now ≡ string_bytes c.in-Some.path = search rules in
    subst (λ p. IsListed (g.S.Store.holds c.loop-path.store) p) (sym path) (subst (λ h. IsListed h (string_bytes c.in-Some.path)) (sym c.loop-path.invariant.same) listed)

pub loop-path-preserved : goal.loop-path-preserved
loop-path-preserved g c =
    let held : Option Held = g.S.Store.holds c.list.new.self in
    let left : into_iter_items c.loop-path.path-iterator ≡ c.in-Some.path ∷ into_iter_items c.next.new.self = search rules in
    let done : List (String Global × Vec ℕ) = c.loop-path.files.items in
    let here : Loads held done (c.in-Some.path ∷ into_iter_items c.next.new.self) = subst (λ l. Loads held done l) left c.loop-path.invariant.so_far in
    let path : c.as_str.result.now ≡ string_bytes c.in-Some.path = search rules in
    let bytes : HoldsBytes held (string_bytes c.in-Some.path) c.in_ok-bytes.bytes.items =
    subst (λ p. HoldsBytes held p c.in_ok-bytes.bytes.items) path (subst (λ h. HoldsBytes h c.as_str.result.now c.in_ok-bytes.bytes.items) c.loop-path.invariant.same c.in_ok-bytes.ensures.bytes) in
    let more : Loads held (done ++ (c.in-Some.path, c.in_ok-bytes.bytes) ∷ []) (into_iter_items c.next.new.self) = loads_more held done c.in-Some.path (into_iter_items c.next.new.self) c.in_ok-bytes.bytes here bytes in
    record {
      so_far = subst (λ files. Loads held files (into_iter_items c.next.new.self)) (sym c.in_ok-push.ensures.items) more;
      same = search rules;
      count = search rules;
    }

pub returns-clause-files : goal.returns-clause-files
returns-clause-files g c =
    let held : Option Held = g.S.Store.holds c.list.new.self in
    let done : List (String Global × Vec ℕ) = c.loop-path.files.items in
    let none : into_iter_items c.loop-path.path-iterator ≡ [] = empty_if_short (into_iter_items c.loop-path.path-iterator) (sym c.loop-path.path-iterator.rest.ok.0 ∙ c.in-None.ensures.steps.0) in
    subst (λ h. HoldsGiven h done) c.list.ensures.same (loads_all held done (into_iter_items c.loop-path.path-iterator) none c.loop-path.invariant.so_far)
