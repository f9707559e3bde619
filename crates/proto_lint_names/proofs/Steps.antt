-- Six steps, each of which adds to what was found before it.
use Rattle.std.proofs.Common.{◌≡◌, List, ◌++◌, Result, ap, ◌∙◌, OnOk}
use Rattle.proto_base.proofs.Common.{on_ok_weaker, then_added}

-- what is added, by an equal of what it is made of
pub by_equal : {A C : Type 0} (part : A → List C) (x y : A) (old new : List C) → x ≡ y → new ≡ old ++ part x → new ≡ old ++ part y
by_equal part x y old new same added = added ∙ ap (λ z. old ++ part z) same

pub six : {T E C : Type 0} (result : Result T E) (f0 f1 f2 f3 f4 f5 f6 x1 x2 x3 x4 x5 x6 : List C)
    → f1 ≡ f0 ++ x1 → f2 ≡ f1 ++ x2 → f3 ≡ f2 ++ x3 → f4 ≡ f3 ++ x4 → f5 ≡ f4 ++ x5 → OnOk result (f6 ≡ f5 ++ x6) → OnOk result (f6 ≡ f0 ++ (x1 ++ (x2 ++ (x3 ++ (x4 ++ (x5 ++ x6))))))
six result f0 f1 f2 f3 f4 f5 f6 x1 x2 x3 x4 x5 x6 e1 e2 e3 e4 e5 =
    let last = x5 ++ x6 in
    on_ok_weaker result (λ e6. then_added x1 (x2 ++ (x3 ++ (x4 ++ last))) f0 f1 f6 e1 (then_added x2 (x3 ++ (x4 ++ last)) f1 f2 f6 e2 (then_added x3 (x4 ++ last) f2 f3 f6 e3 (then_added x4 last f3 f4 f6 e4 (then_added x5 x6 f4 f5 f6 e5 e6)))))
