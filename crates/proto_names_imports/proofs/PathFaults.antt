-- The first import of a file whose path no file has, or an earlier import.
use Rattle.std.proofs.Common.{◌≡◌, ◌⊎◌, ℕ, ◌+◌, ◌<◌, ◌≤◌, Bool, true, false, List, [], ◌∷◌, length, get_or, map, Option, Some, None, refl, sym, ◌∙◌, ap, subst, inl, inr, arith, string_bytes, Contains, bytes_eq}
use Rattle.proto_base.proofs.Common.{cases_eq, cases_lt, both_ways, none-some, same_Some, get_or-map, length-map, position-Some, word_from_same}
use Rattle.proto_names_rules.proofs.Common.{Fault, fault, FaultIsBefore, IsLeast, AfterEarlier, AskedImport, file_with_path, at}
use Rattle.proto_names_imports.specs.Common.{asked_by, TokensAreRising, PathFault, unknown, double, WrittenImport}

-- two paths of one file are the same
pub same_path : (paths : List (List ℕ)) (p q : List ℕ) (to : ℕ) → file_with_path paths p ≡ Some to → file_with_path paths q ≡ Some to → p ≡ q
same_path paths p q to h k = word_from_same p (get_or paths to []) (position-Some (bytes_eq p) paths to [] h).1 ∙ sym (word_from_same q (get_or paths to []) (position-Some (bytes_eq q) paths to [] k).1)

-- what stands at an import of a file
pub record Stands (file : ℕ) (ws : List WrittenImport) (f : Fault) (j : ℕ) : Type 0 where
  pub within : j < length ws
  pub place : (d : WrittenImport) → f.place ≡ at file (get_or ws j d).token

-- a fault at an import is the least, where no fault stands before, and none of a smaller number there
pub least_at : (Says : Fault → Type 0) (file : ℕ) (ws : List WrittenImport) (i number : ℕ) (d : WrittenImport) → TokensAreRising ws → i < length ws → Says (fault (at file (get_or ws i d).token) number)
    → ((g : Fault) → Says g → (j : ℕ) × Stands file ws g j × (i ≤ j) × (i ≡ j → number ≤ g.number)) → IsLeast Says (fault (at file (get_or ws i d).token) number)
least_at Says file ws i number d rising l says later = record { holds = says; least = λ g s b. go g (later g s) b }
  where
    go : (g : Fault) → (j : ℕ) × Stands file ws g j × (i ≤ j) × (i ≡ j → number ≤ g.number) → FaultIsBefore g (fault (at file (get_or ws i d).token) number) → ⊥
    go g s b =
        let same = s.1.place d in
        let fl : g.place.file ≡ file = ap (λ z. z.file) same in
        let tk : g.place.token ≡ (get_or ws s.0 d).token = ap (λ z. z.token) same in
        elim b [
          | inl less ↦ omega (arith, less, fl)
          | inr p ↦ elim (cases_eq i s.0) [
            | inl e ↦
                let t : (get_or ws s.0 d).token ≡ (get_or ws i d).token = ap (λ z. (get_or ws z d).token) (sym e) in
                let n = s.3 e in
                elim p.1 [ inl q ↦ omega (arith, q, t, tk) | inr q ↦ omega (arith, q.1, n) ]
            | inr ne ↦
                let r = rising i s.0 d (omega (arith, s.2, ne)) s.1.within in
                elim p.1 [ inl q ↦ omega (arith, q, r, tk) | inr q ↦ omega (arith, q.0, r, tk) ]
          ]
        ]

-- up to here each import names a file, and no two the same
pub record IsFresh (look : WrittenImport → Option ℕ) (has : ℕ → Bool) (ws : List WrittenImport) (i : ℕ) : Type 0 where
  pub known : (j : ℕ) (d : WrittenImport) → j < i → (to : ℕ) × (look (get_or ws j d) ≡ Some to) × (has to ≡ true)
  pub named : (to : ℕ) → has to ≡ true → (j : ℕ) × (j < i) × ((d : WrittenImport) → look (get_or ws j d) ≡ Some to)
  pub single : (j k : ℕ) (d : WrittenImport) → j < k → k < i → look (get_or ws j d) ≡ look (get_or ws k d) → ⊥

pub fresh_more : (look : WrittenImport → Option ℕ) (has has' : ℕ → Bool) (ws : List WrittenImport) (i to : ℕ) → IsFresh look has ws i → ((d : WrittenImport) → look (get_or ws i d) ≡ Some to) → has to ≡ false
    → ((q : ℕ) → has q ≡ true → has' q ≡ true) → has' to ≡ true → ((q : ℕ) → has' q ≡ true → (q ≡ to) ⊎ (has q ≡ true)) → IsFresh look has' ws (i + 1)
fresh_more look has has' ws i to fr here new kept put only = record {
  known = λ j d l. elim (cases_eq j i) [
    | inl e ↦ (to, ap (λ z. look (get_or ws z d)) e ∙ here d, put)
    | inr ne ↦ let r = fr.known j d (omega (arith, l, ne)) in (r.0, r.1, kept r.0 r.2)
  ];
  named = λ q h. elim (only q h) [
    | inl e ↦ (i, omega arith, λ d. here d ∙ ap Some (sym e))
    | inr old ↦ let r = fr.named q old in (r.0, omega (arith, r.1), r.2)
  ];
  single = λ j k d l m same. elim (cases_eq k i) [
    | inl e ↦
        let r = fr.known j d (omega (arith, l, e)) in
        let t : r.0 ≡ to = same_Some r.0 to (sym r.1 ∙ same ∙ ap (λ z. look (get_or ws z d)) e ∙ here d) in
        both_ways (has to) new (subst (λ z. has z ≡ true) t r.2)
    | inr ne ↦ fr.single j k d l (omega (arith, m, ne)) same
  ];
}

-- where a path fault of a file stands
data Kind (paths : List (List ℕ)) (ws : List WrittenImport) (j number : ℕ) : Type 0 where
  is_unknown : number ≡ 10 → ((d : WrittenImport) → file_with_path paths (string_bytes (get_or ws j d).path) ≡ None) → Kind paths ws j number
  is_double : number ≡ 11 → (i : ℕ) → i < j → ((d : WrittenImport) → string_bytes (get_or ws i d).path ≡ string_bytes (get_or ws j d).path) → Kind paths ws j number

some_of : (ws : List WrittenImport) (j : ℕ) → j < length ws → WrittenImport
some_of [] j l = absurd (omega (arith, l))
some_of (w ∷ ws) j l = w

pub asked_at : (file : ℕ) (ws : List WrittenImport) (j : ℕ) (a : AskedImport) (d : WrittenImport) → j < length ws → get_or (map (asked_by file) ws) j a ≡ asked_by file (get_or ws j d)
asked_at file ws j a d l = get_or-map (asked_by file) ws j d a l

kind_of : (paths : List (List ℕ)) (file : ℕ) (ws : List WrittenImport) {g : Fault} → PathFault paths (map (asked_by file) ws) g → (j : ℕ) × Stands file ws g j × Kind paths ws j g.number
kind_of paths file ws (unknown a c n) =
    let l : c.0 < length ws = omega (arith, c.1, length-map ws (asked_by file)) in
    let same = λ (d : WrittenImport). sym c.2 ∙ asked_at file ws c.0 a d l in
    (c.0, record { within = l; place = λ d. ap (λ z. z.place) (same d) }, is_unknown refl (λ d. sym (ap (λ z. file_with_path paths z.path) (same d)) ∙ n))
kind_of paths file ws (double a c) =
    let l : c.1 < length ws = omega (arith, c.4, length-map ws (asked_by file)) in
    let k : c.0 < length ws = omega (arith, c.3, l) in
    let same = λ (d : WrittenImport). sym c.5 ∙ asked_at file ws c.1 c.2 d l in
    (c.1, record { within = l; place = λ d. ap (λ z. z.place) (same d) }, is_double refl c.0 c.3 (λ d. sym (ap (λ z. z.path) (asked_at file ws c.0 c.2 d k)) ∙ c.6.1 ∙ ap (λ z. z.path) (same d)))

not_before : (look : WrittenImport → Option ℕ) (has : ℕ → Bool) (paths : List (List ℕ)) (ws : List WrittenImport) (i j n : ℕ) → ((w : WrittenImport) → look w ≡ file_with_path paths (string_bytes w.path)) → IsFresh look has ws i → WrittenImport → Kind paths ws j n → j < i → ⊥
not_before look has paths ws i j n same fr d (is_unknown e none) l = let r = fr.known j d l in none-some r.0 (sym (none d) ∙ sym (same (get_or ws j d)) ∙ r.1)
not_before look has paths ws i j n same fr d (is_double e k m eq) l = fr.single k j d m l (same (get_or ws k d) ∙ ap (file_with_path paths) (eq d) ∙ sym (same (get_or ws j d)))

-- no import of the file is faulty
pub path_none : (look : WrittenImport → Option ℕ) (has : ℕ → Bool) (paths : List (List ℕ)) (file : ℕ) (ws : List WrittenImport) → ((w : WrittenImport) → look w ≡ file_with_path paths (string_bytes w.path)) → IsFresh look has ws (length ws) → (g : Fault) → PathFault paths (map (asked_by file) ws) g → ⊥
path_none look has paths file ws same fr g p =
    let k = kind_of paths file ws p in
    not_before look has paths ws (length ws) k.0 g.number same fr (some_of ws k.0 k.1.within) k.2 k.1.within

later : (look : WrittenImport → Option ℕ) (has : ℕ → Bool) (paths : List (List ℕ)) (file : ℕ) (ws : List WrittenImport) (i number : ℕ) (d : WrittenImport) → ((w : WrittenImport) → look w ≡ file_with_path paths (string_bytes w.path)) → IsFresh look has ws i
    → ((n : ℕ) → Kind paths ws i n → number ≤ n) → (g : Fault) → PathFault paths (map (asked_by file) ws) g → (j : ℕ) × Stands file ws g j × (i ≤ j) × (i ≡ j → number ≤ g.number)
later look has paths file ws i number d same fr least g p =
    let k = kind_of paths file ws p in
    elim (cases_lt k.0 i) [
      | inl before ↦ absurd (not_before look has paths ws i k.0 g.number same fr d k.2 before)
      | inr after ↦ (k.0, k.1, after, λ e. least g.number (subst (λ z. Kind paths ws z g.number) (sym e) k.2))
    ]

contains_asked : (file : ℕ) (ws : List WrittenImport) (i : ℕ) (d : WrittenImport) → i < length ws → Contains (map (asked_by file) ws) (asked_by file (get_or ws i d))
contains_asked file ws i d l = (i, omega (arith, l, length-map ws (asked_by file)), asked_at file ws i (asked_by file (get_or ws i d)) d l)

-- an import whose path no file has, after imports without fault
pub path_unknown : (look : WrittenImport → Option ℕ) (has : ℕ → Bool) (paths : List (List ℕ)) (file : ℕ) (ws : List WrittenImport) (i : ℕ) (d : WrittenImport) → ((w : WrittenImport) → look w ≡ file_with_path paths (string_bytes w.path)) → TokensAreRising ws → IsFresh look has ws i → i < length ws
    → look (get_or ws i d) ≡ None → IsLeast (PathFault paths (map (asked_by file) ws)) (fault (at file (get_or ws i d).token) 10)
path_unknown look has paths file ws i d same rising fr l none =
    least_at (PathFault paths (map (asked_by file) ws)) file ws i 10 d rising l
    (unknown (asked_by file (get_or ws i d)) (contains_asked file ws i d l) (sym (same (get_or ws i d)) ∙ none))
    (later look has paths file ws i 10 d same fr below)
  where
    below : (n : ℕ) → Kind paths ws i n → 10 ≤ n
    below n (is_unknown e x) = omega (arith, e)
    below n (is_double e j m x) = omega (arith, e)

-- an import of a file that an earlier one names
pub path_double : (look : WrittenImport → Option ℕ) (has : ℕ → Bool) (paths : List (List ℕ)) (file : ℕ) (ws : List WrittenImport) (i to : ℕ) (d : WrittenImport) → ((w : WrittenImport) → look w ≡ file_with_path paths (string_bytes w.path)) → TokensAreRising ws → IsFresh look has ws i → i < length ws
    → look (get_or ws i d) ≡ Some to → has to ≡ true → IsLeast (PathFault paths (map (asked_by file) ws)) (fault (at file (get_or ws i d).token) 11)
path_double look has paths file ws i to d same rising fr l here again =
    least_at (PathFault paths (map (asked_by file) ws)) file ws i 11 d rising l
    (double (asked_by file (get_or ws i d)) earlier)
    (later look has paths file ws i 11 d same fr below)
  where
    below : (n : ℕ) → Kind paths ws i n → 11 ≤ n
    below n (is_unknown e x) = absurd (none-some to (sym (x d) ∙ sym (same (get_or ws i d)) ∙ here))
    below n (is_double e j m x) = omega (arith, e)

    earlier : AfterEarlier (λ x y. (x.place.file ≡ y.place.file) × (x.path ≡ y.path)) (map (asked_by file) ws) (asked_by file (get_or ws i d))
    earlier =
        let e = fr.named to again in
        let k : e.0 < length ws = omega (arith, e.1, l) in
        let p = same_path paths (string_bytes (get_or ws e.0 d).path) (string_bytes (get_or ws i d).path) to (sym (same (get_or ws e.0 d)) ∙ e.2 d) (sym (same (get_or ws i d)) ∙ here) in
        let a = asked_at file ws e.0 (asked_by file d) d k in
        (e.0, i, asked_by file d, e.1, omega (arith, l, length-map ws (asked_by file)), asked_at file ws i (asked_by file d) d l, (ap (λ z. z.place.file) a, ap (λ z. z.path) a ∙ p))
