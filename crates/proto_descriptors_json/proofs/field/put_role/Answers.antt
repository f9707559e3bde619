use Rattle.std.proofs.Common.{◌≡◌, List, [], ◌∷◌, codes, option_map, refl, sym, subst}
use Rattle.std.proofs.lemmas.Result.{on_ok_weaker}
use Rattle.serde.specs.Event.{Log}
use Rattle.proto_descriptors.specs.Views.{role_extendee, role_json_name}
use Rattle.proto_descriptors.specs.declared.field.FieldRole.{FieldRole}
use Rattle.proto_descriptors_json.specs.Common.{PutsMembers, Slot, json_string}
use Rattle.proto_descriptors_json.proofs.Sending.{absent, last, more}
use Rattle.proto_descriptors_json.proofs.field.put_role.Goals as goal

slots : FieldRole → List Slot
slots r = (codes "extendee", option_map json_string (role_extendee r)) ∷ (codes "jsonName", option_map json_string (role_json_name r)) ∷ []

of_role : {r s : FieldRole} {old new : Log} → r ≡ s → PutsMembers (slots s) old new → PutsMembers (slots r) old new
of_role {r} {s} {old} {new} is puts = subst (λ (x : FieldRole). PutsMembers (slots x) old new) (sym is) puts

pub returns-in-Regular : goal.returns-in-Regular
unfolding slots
returns-in-Regular g c =
    on_ok_weaker c.put.result (λ sent. of_role c.in-Regular.is (more (absent (codes "extendee") refl) (last sent))) c.put.ensures

pub returns-in-Extension : goal.returns-in-Extension
unfolding slots
returns-in-Extension g c =
    on_ok_weaker c.put-in-Extension.result (λ sent. of_role c.in-Extension.is (more sent (last (absent (codes "jsonName") refl)))) c.put-in-Extension.ensures
