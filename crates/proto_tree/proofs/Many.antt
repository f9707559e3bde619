-- Reading one after another, as a loop does.
use Rattle.std.proofs.Common.{◌≡◌, ℕ, suc, ◌-◌, ◌+◌, ◌≤◌, ◌<◌, true, false, List, [], ◌∷◌, ◌++◌, length, Some, None, refl, sym, ap, ◌∙◌, append_assoc, arith, option_and_then, append-nil}
use Rattle.proto_tree.specs.Common.{Expected, Lexeme, Stop, Read, Reader, Fails, starts, up_to, many}
use Rattle.proto_tree.specs.declared.reading.Stop.TheVariants as stop

-- what was read before, and what is still read
abbrev pub with_front : {A : Type 0} → List A → Read (List A) → Read (List A)
with_front front read = option_and_then (λ x. Some (front ++ x.0, x.1)) read

-- how far the loop has come
pub record IsSoFar {A : Type 0} (w : Expected) (p : Reader A) (tokens : List Lexeme) (items : List A) (counter : ℕ) (rest : List Lexeme) : Type 0 where
  pub same : with_front items (up_to (length tokens - counter) w p rest) ≡ many w p tokens

regroup : {A : Type 0} (front : List A) (n : A) (read : Read (List A)) → with_front front (option_and_then (λ y. Some (n ∷ y.0, y.1)) read) ≡ with_front (front ++ n ∷ []) read
regroup {A = A} front n (Some x) = ap (λ (ns : List A). Some (ns, x.1)) (simp append_assoc)
regroup front n None = refl

pub so_far_start : {A : Type 0} (w : Expected) (p : Reader A) (tokens : List Lexeme) → IsSoFar w p tokens [] 0 tokens
unfolding many
so_far_start w p tokens = record { same = let e : length tokens - 0 ≡ length tokens = omega arith in rw e (nothing (up_to (length tokens) w p tokens)) } where
  nothing : {A : Type 0} (read : Read (List A)) → with_front [] read ≡ read
  nothing (Some x) = refl
  nothing None = refl

pub so_far_goes_on : {A : Type 0} {w : Expected} {p : Reader A} {tokens : List Lexeme} {items : List A} {counter : ℕ} {rest : List Lexeme} (x : A) (after : List Lexeme)
    → IsSoFar w p tokens items counter rest → counter < length tokens → true ≡ starts w rest → p rest ≡ Some (x, after) → IsSoFar w p tokens (items ++ x ∷ []) (counter + 1) after
so_far_goes_on {w = w} {p = p} {tokens = tokens} {items = items} {counter = counter} {rest = rest} x after h lt begins e = record {
  same =
      let k : length tokens - counter ≡ suc (length tokens - (counter + 1)) = omega arith in
      let one : with_front items (up_to (length tokens - counter) w p rest) ≡ with_front (items ++ x ∷ []) (up_to (length tokens - (counter + 1)) w p after) = rw (k, ← begins, e) (regroup items x (up_to (length tokens - (counter + 1)) w p after)) in
      sym one ∙ h.same;
}

pub so_far_fails : {A : Type 0} {w : Expected} {p : Reader A} {tokens : List Lexeme} {items : List A} {counter : ℕ} {rest : List Lexeme} (e : Stop)
    → IsSoFar w p tokens items counter rest → counter < length tokens → starts w rest ≡ true → Fails e (p rest) → Fails e (many w p tokens)
so_far_fails stop.Memory h lt begins f = tt
so_far_fails {w = w} {p = p} {tokens = tokens} {items = items} {counter = counter} {rest = rest} stop.Syntax h lt begins f =
    let k : length tokens - counter ≡ suc (length tokens - (counter + 1)) = omega arith in
    let one : with_front items (up_to (length tokens - counter) w p rest) ≡ None = rw (k, begins, f) refl in
    sym h.same ∙ one

pub so_far_stops : {A : Type 0} {w : Expected} {p : Reader A} {tokens : List Lexeme} {items : List A} {counter : ℕ} {rest : List Lexeme}
    → IsSoFar w p tokens items counter rest → counter < length tokens → starts w rest ≡ false → many w p tokens ≡ Some (items, rest)
so_far_stops {A = A} {w = w} {p = p} {tokens = tokens} {items = items} {counter = counter} {rest = rest} h lt ends =
    let k : length tokens - counter ≡ suc (length tokens - (counter + 1)) = omega arith in
    let one : with_front items (up_to (length tokens - counter) w p rest) ≡ Some (items, rest) = rw (k, ends) (ap (λ (ns : List A). Some (ns, rest)) (append-nil items)) in
    sym h.same ∙ one

pub so_far_ends : {A : Type 0} {w : Expected} {p : Reader A} {tokens : List Lexeme} {items : List A} {counter : ℕ} {rest : List Lexeme}
    → IsSoFar w p tokens items counter rest → length tokens ≤ counter → many w p tokens ≡ Some (items, rest)
so_far_ends {A = A} {w = w} {p = p} {tokens = tokens} {items = items} {counter = counter} {rest = rest} h le =
    let k : length tokens - counter ≡ 0 = omega arith in
    let one : with_front items (up_to (length tokens - counter) w p rest) ≡ Some (items, rest) = rw k (ap (λ (ns : List A). Some (ns, rest)) (append-nil items)) in
    sym h.same ∙ one
