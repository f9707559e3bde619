-- What the clauses of one call say together.
use Rattle.std.specs.Prelude.{Result, Ok, Err, OnOk}

pub on_ok_both : {T E A B C : Type 0} (r : Result T E) → OnOk r A → OnOk r B → (A → B → C) → OnOk r C
on_ok_both (Ok x) a b f = f a b
on_ok_both (Err e) a b f = a
