use Rattle.std.proofs.Common.{◌≡◌, ◌<◌, ◌∙◌, List, ap, get_or, length, map, rules, subst, sym, Option, String, Global, string_bytes}
use Rattle.proto_store.proofs.Common.{Held, IsListed, ListsPaths, listed_string}
use Rattle.proto_base_tests.proofs.calls.read.Goals as goal

pub read-requires-clause-listed : goal.read-requires-clause-listed
read-requires-clause-listed g c =
    let held : Option Held = g.S.Store.holds c.list.new.self in
    let paths : List (String Global) = c.in_ok-paths.paths.items in
    let lists : ListsPaths held (map string_bytes paths) = subst (λ h. ListsPaths h (map string_bytes paths)) (sym c.list.ensures.same) c.in_ok-paths.ensures.paths in
    let inside : c.place_of-place.result < length paths = search rules in
    let found : c.as_str.result.now ≡ string_bytes (get_or paths c.place_of-place.result c.index.result.now) = c.as_str.ensures.value ∙ ap string_bytes c.index.ensures in
    subst (λ path. IsListed held path) (sym found) (listed_string held paths c.place_of-place.result c.index.result.now lists inside)
