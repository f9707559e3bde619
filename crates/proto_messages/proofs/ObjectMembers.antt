-- Objects that are made member by member.
use Rattle.std.proofs.Common.{◌≡◌, ℕ, Bool, true, false, codes, IfOk, None, Ok, OnOk, Option, Result, Some, ap, if◌then◌else◌, refl, subst, sym, ◌∙◌}
use Rattle.std.proofs.lemmas.Result.{IfOk-at_ok}
use Rattle.serde_json.specs.Data.{Data, Members, no_members, object, put}
use Rattle.serde_json.specs.View.{view}
use Rattle.serde_json.specs.declared.value.Value.{Value}
use Rattle.proto_base.specs.Texts.{Text}
use Rattle.proto_messages.specs.Objects.{Fills, Has, Puts, PutsVersion}
use Rattle.proto_messages.specs.Writing.{diagnostics_data}

-- a member is put as what its value is
pub put_as : {key : Text} {seen value : Data} {old new : Option Members} → Puts key seen old new → seen ≡ value → Puts key value old new
put_as {key} {seen} {value} {old} {new} one is = record { puts = λ ms start. subst (λ (d : Data). Has (put key d ms) new) is (one.puts ms start) }

-- one member more
pub more : {key : Text} {value : Data} {members : Members} {old new : Option Members} → Puts key value old new → Has members old → Has (put key value members) new
more {key} {value} {members} one start = one.puts members start

-- an object that had none has all that were put
pub fills : {value : Data} {members : Members} {old new : Option Members} → (Has no_members old → Has members new) → object members ≡ value → Fills value old new
fills which is = record { fills = λ empty. record { is = λ ms some. ap object ((which empty).has ms some) ∙ is } }

-- a member that was put by a call that did not fail
pub put_there : (is_refused : Bool) {key : Text} {value : Data} (before after : Members) → after ≡ put key value before
    → Puts key value (if is_refused then None else Some before) (if is_refused then None else Some after)
put_there true before after is = record { puts = λ ms start. record { has = λ all some. absurd cc } }
put_there false {key} {value} before after is =
    record {
      puts = λ ms start. record {
        has = λ all some.
            let same : after ≡ all = cc in
            sym same ∙ is ∙ ap (put key value) (start.has before refl);
      };
    }

-- nothing is left where memory is refused
pub none_there : {key : Text} {value : Data} {old : Option Members} → Puts key value old None
none_there = record { puts = λ ms start. record { has = λ all some. absurd cc } }

-- what was made, where it was
pub seen_where_made : {E : Type 0} {value : Data} (made : Result Value E) (v : Value) → made ≡ Ok v → IfOk made (λ x. view x ≡ value) → view v ≡ value
seen_where_made {E} {value} made v is seen = IfOk-at_ok (λ (x : Value). view x ≡ value) is seen

-- the version is put or not: both are the parameters of diagnostics
pub version_put : {old mid new : Option Members} (list uri : Data) (version : Option ℕ) → PutsVersion version mid new → (Has no_members old → Has (put (codes "uri") uri (put (codes "diagnostics") list no_members)) mid)
    → Fills (diagnostics_data list uri version) old new
version_put list uri None same which = fills (λ empty. subst (Has _) (sym same) (which empty)) refl
version_put list uri (Some n) puts which = fills (λ empty. more puts (which empty)) refl
