-- What each answer says of the cases.
use Rattle.std.proofs.Common.{◌≡◌, ◌↔◌, ℕ, suc, ◌+◌, ◌<◌, Bool, true, false, IsTrue, List, [], ◌∷◌, length, map, Option, Some, None, sym, ap, ◌∙◌, inl, inr, arith, Contains, true≢false}
use Rattle.proto_base.proofs.Common.{false_from_ne_true, Contains-append_cases, contains_map, from_map}
use Rattle.proto_case.specs.Camel.{entry_name}
use Rattle.proto_text.specs.declared.class.Class.TheVariants.{Letter}
use Rattle.proto_text.proofs.Common.{IsRun, offset_at, is_run, is_run_again, run_is, length_map}
use Rattle.proto_files.proofs.Common.{HasNoFault, ReadOf, AreRead, read_at, FileOf, file_at}
use Rattle.proto_edit_entries.specs.declared.refusal.Refusal.{Refusal}
use Rattle.proto_edit_entries.specs.Entries.{ChangeOf}
use Rattle.proto_edit_entries.specs.declared.refusal.Refusal.TheVariants as refusal
use Rattle.proto_names_rules.proofs.Common.{Collides, At, at, FileNames, all_used, file_used, used_in, Used, symbol_of}
use Rattle.proto_names_imports.specs.Links.{LinkFaults, link_skeleton, names_in, names_of_files, text_of}
use Rattle.proto_names.specs.Linking.{RefId}
use Rattle.proto_edit_rules.specs.Rename.{IsValueWord, NamesOptions, fixed_name, option_value}
use Rattle.proto_option_values.specs.OptionValues.{IsOptionValue}
use Rattle.proto_edit_captures.proofs.Common.{IsCapturedPlace, IsTargetOf, IsFoundTarget, IsNoTarget}
use Rattle.proto_edit_captures.specs.FirstCaptured.{IsFirstCaptured}
use Rattle.proto_edit_rename_laws.proofs.Common.{JsonNameClashes, ReservesWord, is_keyword_of, unknown_target, kind_not_allowed, not_an_identifier, keyword_name, same_name, collision, captured, name_reserved, json_clash, too_large, Target, IsNamed, name_map}
use Rattle.proto_edit_rename.specs.Common.{IsFreeBefore, AreChangesOf, AreChangesOfRename, IsChangesFault, IsFaultIn, IsLeastRenameCase, IsRenameCase, IsRenameRefusal, RewordFault}
use Rattle.proto_edit_rename.proofs.LeastCases.{all_free, first_free, from_1, from_16, from_19, from_2, from_20, from_3, from_4, from_5, from_6, from_7, from_8, from_9, late_free, least, next_free, option_free}
use Rattle.proto_edit_rename.proofs.OneAim.{aimed_one, same_kind}
use Rattle.proto_edit_rename.specs.declared.changing.RewordFault.TheVariants as fault
use Rattle.proto_edit_captures.specs.declared.rename_target.RenameTarget.{RenameTarget}
use Rattle.proto_edit_captures.specs.declared.rename_target.NoTarget.TheVariants as no_target

-- ---- cases 1 and 2

pub unknown_refused : (files : List FileOf) (reads : List ReadOf) → AreRead files reads → (name : List ℕ) → IsNoTarget files name no_target.Unknown → (to : List ℕ) → IsLeastRenameCase files name to 1
unknown_refused files reads r name h to = least files name to 1 (first_free files name to) (reads, r, unknown_target (h reads r))

pub kind_refused : (files : List FileOf) (reads : List ReadOf) → AreRead files reads → (name : List ℕ) → IsNoTarget files name no_target.NotAllowed → (to : List ℕ) → IsLeastRenameCase files name to 2
kind_refused files reads r name h to =
    let n = h reads r in
    least files name to 2
    (next_free files name to 1 2 (omega arith) (first_free files name to) (λ k. (let m = h k.0 k.1 in from_1 files name to k.0 k.2 m.symbol m.within m.name_is)))
    (reads, r, kind_not_allowed n.symbol n.within n.name_is n.kind)

module _ (files : List FileOf) (clean : HasNoFault (LinkFaults files)) (a : RenameTarget) (aim : IsTargetOf files a) (to : List ℕ) where
  pub aim_free : IsFreeBefore files a.name.now to 3
  aim_free = next_free files a.name.now to 2 3 (omega arith) (next_free files a.name.now to 1 2 (omega arith) (first_free files a.name.now to) known) allowed
    where
      known : IsRenameCase files a.name.now to 1 → ⊥
      known k =
          let t = aim k.0 k.1 in
          from_1 files a.name.now to k.0 k.2 (symbol_of (text_of files k.0) entry_name t.0.aim) (contains_map (symbol_of (text_of files k.0) entry_name) (link_skeleton files k.0).declared t.0.aim t.1.named.within) t.1.named.name_is

      allowed : IsRenameCase files a.name.now to 2 → ⊥
      allowed k =
          let t = aim k.0 k.1 in
          let s = from_2 files a.name.now to k.0 k.2 in
          true≢false (sym (same_kind files k.0 k.1 clean a.name.now t.0 t.1.named s.0 s.1 s.2) ∙ s.3)

  -- ---- cases 3 to 5

  module _ (reads : List ReadOf) (r : AreRead files reads) where
    pub word_refused : (b : Bool) → IsTrue b ↔ IsRun Letter to → b ≡ false → IsFreeBefore files a.name.now to 3 → IsLeastRenameCase files a.name.now to 3
    word_refused b test e free = least files a.name.now to 3 free (reads, r, not_an_identifier (false_from_ne_true (is_run to) (λ h. true≢false (sym (test.1 (run_is to h)) ∙ e))))

    pub keyword_refused : is_keyword_of a.kind to ≡ true → IsFreeBefore files a.name.now to 4 → IsLeastRenameCase files a.name.now to 4
    keyword_refused e free = let t = aim reads r in least files a.name.now to 4 free (reads, r, keyword_name t.0 t.1.named (ap (λ k. is_keyword_of k to) (sym t.1.kind) ∙ e))

    pub same_refused : text_of files reads (at a.file a.token) ≡ to → IsFreeBefore files a.name.now to 5 → IsLeastRenameCase files a.name.now to 5
    same_refused e free = let t = aim reads r in least files a.name.now to 5 free (reads, r, same_name t.0 t.1.named (ap (text_of files reads) (sym t.1.token) ∙ e))

  pub run_of : (b : Bool) → IsTrue b ↔ IsRun Letter to → b ≡ true → is_run to ≡ true
  run_of b test e = is_run_again to (test.0 e)

  pub word_free : is_run to ≡ true → IsFreeBefore files a.name.now to 3 → IsFreeBefore files a.name.now to 4
  word_free word free = next_free files a.name.now to 3 4 (omega arith) free (λ k. true≢false (sym word ∙ from_3 files a.name.now to k.0 k.2))

  pub keyword_free : is_keyword_of a.kind to ≡ false → IsFreeBefore files a.name.now to 4 → IsFreeBefore files a.name.now to 5
  keyword_free e free = next_free files a.name.now to 4 5 (omega arith) free (λ k.
      (let t = from_4 files a.name.now to k.0 k.2 in
      let h = aimed_one files k.0 k.1 clean a aim t.0 t.1 in
      true≢false (sym t.2 ∙ ap (λ z. is_keyword_of z to) (sym h.kind) ∙ e)))

  pub same_free : (b : Bool) → ((reads : List ReadOf) → AreRead files reads → IsTrue b ↔ (text_of files reads (at a.file a.token) ≡ to)) → b ≡ false → IsFreeBefore files a.name.now to 5 → IsFreeBefore files a.name.now to 6
  same_free b test e free = next_free files a.name.now to 5 6 (omega arith) free (λ k.
      (let t = from_5 files a.name.now to k.0 k.2 in
      let h = aimed_one files k.0 k.1 clean a aim t.0 t.1 in
      true≢false (sym ((test k.0 k.1).1 (ap (text_of files k.0) h.token ∙ t.2)) ∙ e)))

  -- ---- cases 6 to 9: a test of all readings of the files

  abbrev Tests : Bool → (List ReadOf → Target → Type 0) → Type 0
  Tests b Holds = (reads : List ReadOf) → AreRead files reads → (t : Target) → IsFoundTarget files reads a t → IsTrue b ↔ Holds reads t

  module _ (reads : List ReadOf) (r : AreRead files reads) (b : Bool) (e : b ≡ true) where
    pub collision_refused : Tests b (λ reads t. Collides (name_map files reads t to) (names_of_files files reads)) → IsFreeBefore files a.name.now to 6 → IsLeastRenameCase files a.name.now to 6
    collision_refused test free = let t = aim reads r in least files a.name.now to 6 free (reads, r, collision t.0 t.1.named ((test reads r t.0 t.1).0 e))

    pub reserved_refused : Tests b (λ reads t. ReservesWord files reads t.token to) → IsFreeBefore files a.name.now to 8 → IsLeastRenameCase files a.name.now to 8
    reserved_refused test free = let t = aim reads r in least files a.name.now to 8 free (reads, r, name_reserved t.0 t.1.named ((test reads r t.0 t.1).0 e))

    pub clash_refused : Tests b (λ reads t. JsonNameClashes files reads t.token to) → IsFreeBefore files a.name.now to 9 → IsLeastRenameCase files a.name.now to 9
    clash_refused test free = let t = aim reads r in least files a.name.now to 9 free (reads, r, json_clash t.0 t.1.named ((test reads r t.0 t.1).0 e))

  module _ (b : Bool) (e : b ≡ false) where
    pub no_collision : Tests b (λ reads t. Collides (name_map files reads t to) (names_of_files files reads)) → (reads : List ReadOf) → AreRead files reads → (t : Target) → IsFoundTarget files reads a t → Collides (name_map files reads t to) (names_of_files files reads) → ⊥
    no_collision test reads r t h k = true≢false (sym ((test reads r t h).1 k) ∙ e)

    pub collision_free : Tests b (λ reads t. Collides (name_map files reads t to) (names_of_files files reads)) → IsFreeBefore files a.name.now to 6 → IsFreeBefore files a.name.now to 7
    collision_free test free = next_free files a.name.now to 6 7 (omega arith) free (λ k.
        (let t = from_6 files a.name.now to k.0 k.2 in true≢false (sym ((test k.0 k.1 t.0 (aimed_one files k.0 k.1 clean a aim t.0 t.1)).1 t.2) ∙ e)))

    pub reserved_free : Tests b (λ reads t. ReservesWord files reads t.token to) → IsFreeBefore files a.name.now to 8 → IsFreeBefore files a.name.now to 9
    reserved_free test free = next_free files a.name.now to 8 9 (omega arith) free (λ k.
        (let t = from_8 files a.name.now to k.0 k.2 in true≢false (sym ((test k.0 k.1 t.0 (aimed_one files k.0 k.1 clean a aim t.0 t.1)).1 t.2) ∙ e)))

    pub clash_free : Tests b (λ reads t. JsonNameClashes files reads t.token to) → IsFreeBefore files a.name.now to 9 → IsFreeBefore files a.name.now to 10
    clash_free test free = next_free files a.name.now to 9 10 (omega arith) free (λ k.
        (let t = from_9 files a.name.now to k.0 k.2 in true≢false (sym ((test k.0 k.1 t.0 (aimed_one files k.0 k.1 clean a aim t.0 t.1)).1 t.2) ∙ e)))

  -- ---- case 7

  abbrev pub IsFirst : Option RefId → Type 0
  IsFirst first = (reads : List ReadOf) → AreRead files reads → (t : Target) → IsFoundTarget files reads a t → IsFirstCaptured files reads t to first

  pub capture_free : IsFirst None → IsFreeBefore files a.name.now to 7 → IsFreeBefore files a.name.now to 8
  capture_free none free = next_free files a.name.now to 7 8 (omega arith) free (λ k.
      (let t = from_7 files a.name.now to k.0 k.2 in none k.0 k.1 t.0 (aimed_one files k.0 k.1 clean a aim t.0 t.2) t.1 t.3))

  pub capture_refused : (reads : List ReadOf) → AreRead files reads → (id : RefId) → IsFirst (Some id) → id.file < length files → (e : Refusal) → IsCapturedPlace files id.file id.token e → IsFreeBefore files a.name.now to 7 → IsRenameRefusal files a.name.now to e
  capture_refused reads r id first inside (refusal.Captured path offset) place free =
      let t = aim reads r in
      let f = first reads r t.0 t.1 in (
        least files a.name.now to 7 free (reads, r, captured t.0 f.0 t.1.named f.1),
        (
          reads,
          r,
          (
            t.0,
            t.1.named,
            record {
              u = f.0;
              holds = f.1;
              least = f.3;
              path_is = place.0 ∙ ap (λ (z : At). (file_at files z.file).path) (sym f.2);
              offset_is = place.1 (read_at reads id.file).tokens (r.tokens id.file inside) ∙ ap (λ (z : At). offset_at (read_at reads z.file).tokens z.token) (sym f.2);
            },
          ),
        ),
      )
  capture_refused reads r id first inside _ place free = absurd place

  -- ---- case 16

  pub large_refused : (reads : List ReadOf) → AreRead files reads → IsChangesFault files a to fault.TooLarge → IsFreeBefore files a.name.now to 10 → IsLeastRenameCase files a.name.now to 16
  large_refused reads r h free =
      let t = aim reads r in
      let k = h reads r t.0 t.1 in
      least files a.name.now to 16 (late_free files a.name.now to free) (reads, r, too_large t.0 k.0 t.1.named k.1 k.2)

  module _ (cs : List ChangeOf) (h : AreChangesOf files a to cs) where
    pub large_free : IsFreeBefore files a.name.now to 10 → IsFreeBefore files a.name.now to 19
    large_free free = option_free files a.name.now to (late_free files a.name.now to free) (λ k.
        (let t = from_16 files a.name.now to k.0 k.2 in (h k.0 k.1 t.0 (aimed_one files k.0 k.1 clean a aim t.0 t.2)).short t.1 t.3 t.4))

    pub changes_are : (reads : List ReadOf) → AreRead files reads → AreChangesOfRename files a.name.now to cs
    changes_are reads r = let t = aim reads r in (reads, r, (t.0, t.1.named, (h reads r t.0 t.1).changes))

  -- ---- case 19

  abbrev pub IsAnswer : Option Refusal → Type 0
  IsAnswer answer = (reads : List ReadOf) → AreRead files reads → (t : Target) → IsFoundTarget files reads a t → IsOptionValue files reads (IsValueWord files reads t to) answer

  pub value_free : IsAnswer None → IsFreeBefore files a.name.now to 19 → IsFreeBefore files a.name.now to 20
  value_free none free = next_free files a.name.now to 19 20 (omega arith) free (λ k.
      (let t = from_19 files a.name.now to k.0 k.2 in none k.0 k.1 t.0 (aimed_one files k.0 k.1 clean a aim t.0 t.2) t.1 t.3))

  pub value_refused : (reads : List ReadOf) → AreRead files reads → (e : Refusal) → IsAnswer (Some e) → IsFreeBefore files a.name.now to 19 → IsRenameRefusal files a.name.now to e
  value_refused reads r e answer free = let t = aim reads r in by t.0 t.1.named e (answer reads r t.0 t.1)
    where
      by : (t : Target) → IsNamed files reads a.name.now t → (g : Refusal) → IsOptionValue files reads (IsValueWord files reads t to) (Some g) → IsRenameRefusal files a.name.now to g
      by t named (refusal.OptionValue path offset) place = (
        least files a.name.now to 19 free (reads, r, option_value t place.a named place.holds),
        (reads, r, (t, named, place)),
      )
      by t named _ place = absurd place

  -- ---- case 20

  module _ (b : Bool) (test : Tests b (λ reads t. NamesOptions files reads t to)) where
    pub fixed_refused : b ≡ true → (reads : List ReadOf) → AreRead files reads → IsFreeBefore files a.name.now to 20 → IsLeastRenameCase files a.name.now to 20
    fixed_refused e reads r free = let t = aim reads r in least files a.name.now to 20 free (reads, r, fixed_name t.0 t.1.named ((test reads r t.0 t.1).0 e))

    pub fixed_free : b ≡ false → IsFreeBefore files a.name.now to 20 → (k : ℕ) → IsRenameCase files a.name.now to k → ⊥
    fixed_free e free = all_free files a.name.now to free (λ k.
        (let t = from_20 files a.name.now to k.0 k.2 in true≢false (sym ((test k.0 k.1 t.0 (aimed_one files k.0 k.1 clean a aim t.0 t.1)).1 t.2) ∙ e)))

-- ---- a reference stands in one of the files

first_inside : (n : ℕ) (fs : List FileNames) (u : Used At) → Contains (all_used n fs) u → u.first.file < n + length fs
first_inside n [] u c = absurd (omega (arith, c.1))
first_inside n (f ∷ fs) u c = elim (Contains-append_cases (file_used n f) (all_used (suc n) fs) u c) [
  | inl a ↦ (let v = from_map (used_in n) f.used u a in let e : n ≡ u.first.file = ap (λ (z : Used At). z.first.file) v.2 in omega (arith, e))
  | inr b ↦ (let l = first_inside (suc n) fs u b in omega (arith, l))
]

pub captured_inside : (files : List FileOf) (reads : List ReadOf) → AreRead files reads → (t : Target) (to : List ℕ) (id : RefId) → IsFirstCaptured files reads t to (Some id) → id.file < length files
captured_inside files reads r t to id f =
    let l = first_inside 0 (map names_in reads) f.0 f.1.used in
    let n = length_map names_in reads in
    let same = r.same in
    let e : f.0.first.file ≡ id.file = ap (λ (z : At). z.file) f.2 in
    omega (arith, l, n, same, e)

-- a file that gets too long by its change is one that does by all
pub fault_among : (files : List FileOf) (a : RenameTarget) (file : ℕ) → file < length files → (to : List ℕ) (e : RewordFault) → IsFaultIn files a file to e → IsChangesFault files a to e
fault_among files a file inside to fault.TooLarge h = λ reads r t aimed. (file, inside, h reads r t aimed)
fault_among files a file inside to fault.NoMemory h = tt
