-- Beginnings of texts that are written one behind the other.
use Rattle.std.proofs.Common.{ℕ, List, ◌++◌, Option, sym, ap, ◌∙◌, append_assoc, OnErr, OnOk, Result, Ok, Err}
use Rattle.proto_base.proofs.Common.{Appends-trans, Appends}
use Rattle.protoref_output.specs.Writing.{AppendsBeginning}

-- a beginning of a text is one of what goes on behind it
pub begins_longer : (a b : Option (List ℕ)) (p q : List ℕ) → AppendsBeginning a b p → AppendsBeginning a b (p ++ q)
begins_longer a b p q (written, rest, whole, appended) = (written, rest ++ q, ap (λ l. l ++ q) whole ∙ append_assoc written rest q, appended)

-- behind a text, a beginning of the next
pub begins_behind : (a b c : Option (List ℕ)) (p q : List ℕ) → Appends a b p → AppendsBeginning b c q → AppendsBeginning a c (p ++ q)
begins_behind a b c p q front (written, rest, whole, appended) =
    (p ++ written, rest, ap (λ l. p ++ l) whole ∙ sym (append_assoc p written rest), Appends-trans a b c p written front appended)

-- a third text behind two
pub three_written : {T E : Type 0} (o : Result T E) (a b c d : Option (List ℕ)) (p q r : List ℕ) → Appends a b p → Appends b c q → OnOk o (Appends c d r) → OnOk o (Appends a d (p ++ (q ++ r)))
three_written (Ok x) a b c d p q r first second third = Appends-trans a b d p (q ++ r) first (Appends-trans b c d q r second third)
three_written (Err e) a b c d p q r first second third = tt

pub three_begun : {T E : Type 0} (o : Result T E) (a b c d : Option (List ℕ)) (p q r : List ℕ) → Appends a b p → Appends b c q → OnErr o (AppendsBeginning c d r)
    → OnErr o (AppendsBeginning a d (p ++ (q ++ r)))
three_begun (Ok x) a b c d p q r first second third = tt
three_begun (Err e) a b c d p q r first second third = begins_behind a b d p (q ++ r) first (begins_behind b c d q r second third)
