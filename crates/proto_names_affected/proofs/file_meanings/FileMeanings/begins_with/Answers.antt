use Rattle.std.proofs.Common.{◌≡◌, ◌==◌, Bool, false, List, length, sym, ◌∙◌, ap, subst, arith}
use Rattle.std.specs.Global.{Vec}
use Rattle.std.specs.List.{list_any}
use Rattle.proto_names_table.specs.declared.ids.Meant.{Meant}
use Rattle.proto_names_affected.specs.FileMeanings.{is_begun}
use Rattle.proto_names_affected.proofs.Begun.{none_begun}
use Rattle.proto_names_affected.proofs.file_meanings.FileMeanings.begins_with.Goals as goal

pub is_begun-requires : goal.is_begun-requires
is_begun-requires c = omega (arith, c.self.invariant.some, ap length c.deref.ensures.value)

pub returns-else-is_begun : goal.returns-else-is_begun
returns-else-is_begun c =
    let key = c.args.key in
    let begun = c.self.inside.begun.items in
    let unset : is_begun begun key ≡ false = ap (λ (bs : List Bool). is_begun bs key) (sym c.deref.ensures.value) ∙ sym c.is_begun.ensures ∙ c.if-is_begun.false in
    c.if-is_begun.false
    ∙ sym (subst (λ (v : Vec Meant). list_any (λ m. m.first == key) v.items ≡ false) c.self.view_is (none_begun begun c.self.inside.list.items key c.self.invariant unset))
