-- The loop of `all_files` of proto_store, over paths that were asked before.
use Rattle.std.proofs.Common.{◌≡◌, ℕ, List, ◌++◌, [], ◌∷◌, sym, ◌∙◌, ap, subst, rules, map, Option, String, Global, string_bytes}
use Rattle.proto_base.proofs.Common.{Vec}
use Rattle.std.specs.Vec.Iter.{into_iter_items}
use Rattle.proto_store.specs.Stores.{Held, HoldsBytes, IsListed}
use Rattle.proto_store.proofs.Loading.{Loads, empty_if_short, loads_all, loads_more, next_is_listed}
use Rattle.proto_journal.proofs.Gathered.{names_all, names_more, names_of, none_read}
use Rattle.proto_journal.proofs.gathering.read_files.Goals as goal

pub loop-path-init : goal.loop-path-init
loop-path-init g c =
    let held : Option Held = g.S.Store.holds c.args.store.now in
    let paths : List (String Global) = c.args.paths.items in
    let items : into_iter_items c.into_iter-path-iterator.result ≡ paths = search rules in
    let none : c.new-files.result.items ≡ [] = search rules in
    record {
      so_far = subst (λ done. Loads held done (into_iter_items c.into_iter-path-iterator.result)) (sym none) (subst (λ left. Loads held [] left) (sym items) (none_read held paths c.requires.paths));
      paths = ap (λ done. names_of done ++ map string_bytes (into_iter_items c.into_iter-path-iterator.result)) none ∙ ap (map string_bytes) items;
      same = search rules;
      count = search rules;
    }

pub read-requires-clause-listed : goal.read-requires-clause-listed
read-requires-clause-listed g c =
    let held : Option Held = g.S.Store.holds c.args.store.now in
    let left : into_iter_items c.loop-path.path-iterator ≡ c.in-Some.path ∷ into_iter_items c.next.new.self = search rules in
    let done : List (String Global × Vec ℕ) = c.loop-path.files.items in
    let here : Loads held done (c.in-Some.path ∷ into_iter_items c.next.new.self) = subst (λ l. Loads held done l) left c.loop-path.invariant.so_far in
    let listed : IsListed held (string_bytes c.in-Some.path) = next_is_listed held done c.in-Some.path (into_iter_items c.next.new.self) here in
    let path : c.as_str.result.now ≡ string_bytes c.in-Some.path = search rules in
    subst (λ p. IsListed (g.S.Store.holds c.loop-path.store) p) (sym path) (subst (λ h. IsListed h (string_bytes c.in-Some.path)) (sym c.loop-path.invariant.same) listed)

pub loop-path-preserved : goal.loop-path-preserved
loop-path-preserved g c =
    let held : Option Held = g.S.Store.holds c.args.store.now in
    let rest : List (String Global) = into_iter_items c.next.new.self in
    let left : into_iter_items c.loop-path.path-iterator ≡ c.in-Some.path ∷ rest = search rules in
    let done : List (String Global × Vec ℕ) = c.loop-path.files.items in
    let all : List (List ℕ) = map string_bytes c.args.paths.items in
    let here : Loads held done (c.in-Some.path ∷ rest) = subst (λ l. Loads held done l) left c.loop-path.invariant.so_far in
    let path : c.as_str.result.now ≡ string_bytes c.in-Some.path = search rules in
    let bytes : HoldsBytes held (string_bytes c.in-Some.path) c.in_ok-bytes.bytes.items =
    subst (λ p. HoldsBytes held p c.in_ok-bytes.bytes.items) path (subst (λ h. HoldsBytes h c.as_str.result.now c.in_ok-bytes.bytes.items) c.loop-path.invariant.same c.in_ok-bytes.ensures.bytes) in
    let more : Loads held (done ++ (c.in-Some.path, c.in_ok-bytes.bytes) ∷ []) rest = loads_more held done c.in-Some.path rest c.in_ok-bytes.bytes here bytes in
    let names : names_of (done ++ (c.in-Some.path, c.in_ok-bytes.bytes) ∷ []) ++ map string_bytes rest ≡ all =
    names_more done c.in-Some.path c.in_ok-bytes.bytes rest all (subst (λ l. names_of done ++ map string_bytes l ≡ all) left c.loop-path.invariant.paths) in
    record {
      so_far = subst (λ files. Loads held files rest) (sym c.in_ok-push.ensures.items) more;
      paths = subst (λ files. names_of files ++ map string_bytes rest ≡ all) (sym c.in_ok-push.ensures.items) names;
      same = search rules;
      count = search rules;
    }

pub returns-clause-files : goal.returns-clause-files
returns-clause-files g c =
    let held : Option Held = g.S.Store.holds c.args.store.now in
    let done : List (String Global × Vec ℕ) = c.loop-path.files.items in
    let none : into_iter_items c.loop-path.path-iterator ≡ [] = empty_if_short (into_iter_items c.loop-path.path-iterator) (sym c.loop-path.path-iterator.rest.ok.0 ∙ c.in-None.ensures.steps.0) in
    loads_all held done (into_iter_items c.loop-path.path-iterator) none c.loop-path.invariant.so_far

pub returns-clause-paths : goal.returns-clause-paths
returns-clause-paths g c =
    let none : into_iter_items c.loop-path.path-iterator ≡ [] = empty_if_short (into_iter_items c.loop-path.path-iterator) (sym c.loop-path.path-iterator.rest.ok.0 ∙ c.in-None.ensures.steps.0) in
    names_all c.loop-path.files.items (into_iter_items c.loop-path.path-iterator) (map string_bytes c.args.paths.items) none c.loop-path.invariant.paths
