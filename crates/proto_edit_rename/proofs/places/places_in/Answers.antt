use Rattle.std.proofs.Common.{◌≡◌, ◌<◌, ◌++◌, ℕ, List, Option, false, length, get_or, sym, ap, ap₂, subst, ◌∙◌, option_map, string_bytes}
use Rattle.proto_edit_rename.specs.Changes.{ArePlacesIn, HasDefaultsIn, or_own}
use Rattle.proto_edit_rename.specs.RenameScopes.{RenameScopeOf}
use Rattle.proto_edit_rename.proofs.ChangedMarks.{nothing_changes}
use Rattle.proto_edit_rename.proofs.Placed.{places_are}
use Rattle.proto_edit_rename.proofs.places.places_in.Goals as goal

pub standing_in-requires : goal.standing_in-requires
standing_in-requires c = rw (ap (λ (s : RenameScopeOf). s.files) c.scope.view_is) c.requires

pub defaults_in-requires : goal.defaults_in-requires
defaults_in-requires c = rw (ap (λ (s : RenameScopeOf). s.files) c.scope.view_is) c.requires

pub returns : goal.returns
returns c =
    let i = c.scope.inside in
    let files = i.linked.now.files in
    let a = i.target in
    let file = c.args.file in
    let enum = option_map string_bytes i.enum_name in
    let places = c.in_ok-places.places.items in
    let defaults = c.in_ok-defaults.defaults.items in
    let within : file < length files = rw (ap (λ (s : RenameScopeOf). s.files) c.scope.view_is) c.requires in
    let found : HasDefaultsIn files file enum i.old.now defaults = subst (λ (o : Option (List ℕ)). HasDefaultsIn files file o i.old.now defaults) c.as_deref-enum_name.ensures.value c.in_ok-defaults.ensures in
    let items : c.push_all.new.places.items ≡ (places ++ or_own a.file a.token file) ++ defaults =
    c.in_ok-push_all.ensures ∙ ap₂ (λ (x y : List ℕ). x ++ y) c.in_ok-push_own.ensures c.deref.ensures.value in
    subst (λ (s : RenameScopeOf). ArePlacesIn s.files s.target file c.push_all.new.places.items) c.scope.view_is (subst (ArePlacesIn files a file) (sym items)
    (places_are files a file within enum i.old.now c.scope.invariant.value places defaults c.in_ok-places.ensures found))

pub returns-then-not-contains : goal.returns-then-not-contains
returns-then-not-contains c =
    let i = c.scope.inside in
    let is = c.scope.invariant in
    let files = i.linked.now.files in
    let file = c.args.file in
    let within : file < length files = rw (ap (λ (s : RenameScopeOf). s.files) c.scope.view_is) c.requires in
    let unmarked : get_or i.changed file false ≡ false = sym c.contains.ensures ∙ c.if-not-contains.true in
    subst (λ (s : RenameScopeOf). ArePlacesIn s.files s.target file c.new.result.items) c.scope.view_is (subst (ArePlacesIn files i.target file) (sym c.new.ensures.items)
    (nothing_changes files is.clean.clean i.linked.now.link is.clean.link i.target (option_map string_bytes i.enum_name) i.changed is.changed file within unmarked i.old.now is.value))
