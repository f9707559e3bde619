use Rattle.std.proofs.Common.{◌≡◌, ◌==◌, true, Bool, List, [], get_or, length, map, sym, ap, subst, arith}
use Rattle.std.specs.List.{list_any}
use Rattle.std.proofs.lemmas.Bool.{eqb-true}
use Rattle.proto_base.proofs.Common.{any_to}
use Rattle.proto_file_sets.specs.FileSets.{IsIn}
use Rattle.proto_names_affected.proofs.WordSets.{files_short, is_among}
use Rattle.proto_names.specs.Common.{Meant}
use Rattle.proto_names.proofs.link.Link.files_beginning_with.Goals as goal

pub returns-clause-files : goal.returns-clause-files
returns-clause-files c = λ file any.
    (let key = c.args.key in
    let parts = c.self.inside.parts.resolutions in
    let meant : List (List Meant) = map (λ v. v.items) parts.meant.items in
    let begun = subst (λ (ms : List (List Meant)). list_any (λ m. m.first == key) (get_or ms file []) ≡ true) (sym (ap (λ l. l.meant) c.self.view_is)) any in
    let own = any_to (λ (m : Meant). m.first == key) (get_or meant file []) begun in
    subst (λ (set : List Bool). IsIn set file) (sym c.files_of.ensures.files) (is_among parts.firsts meant c.self.invariant.3 file key own.0 own.1 (eqb-true own.0.first key own.2)))

pub returns-clause-within : goal.returns-clause-within
returns-clause-within c =
    let parts = c.self.inside.parts.resolutions in
    let meant : List (List Meant) = map (λ v. v.items) parts.meant.items in
    omega (arith, ap length c.files_of.ensures.files, files_short parts.firsts meant c.self.invariant.3 c.args.key, ap length (ap (λ l. l.meant) c.self.view_is))
