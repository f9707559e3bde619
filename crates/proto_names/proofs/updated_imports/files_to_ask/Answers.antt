use Rattle.std.proofs.Common.{◌≡◌, ◌⊎◌, ℕ, Bool, true, false, List, [], length, get_or, map, sym, ◌∙◌, ap, subst, inl, inr, below_more, arith}
use Rattle.proto_base.proofs.Common.{Vec, both_ways, cases_Bool, get_or-map}
use Rattle.proto_names_affected.specs.Marking.{IsMarked, MarksStay}
use Rattle.proto_names_imports.specs.declared.import.FileImport.{FileImport}
use Rattle.proto_names.specs.Sight.{public_files}
use Rattle.proto_names.proofs.updated_imports.files_to_ask.Goals.{then-not-branch, else-not-branch}
use Rattle.proto_names.proofs.updated_imports.files_to_ask.Goals as goal

-- a file without a mark had none
unmarked : (old new : List Bool) → MarksStay old new → (file : ℕ) → get_or new file false ≡ false → get_or old file false ≡ false
unmarked old new stay file clear = elim (cases_Bool (get_or old file false)) [
  | inl marked ↦ absurd (both_ways (get_or new file false) clear (stay.set file marked))
  | inr was ↦ was
]

-- what is said of a place and a file that need not be asked
abbrev Keeps : List (List FileImport) → List (List FileImport) → List (List Bool) → List ℕ → ℕ → ℕ → Type 0
Keeps before now seen places file j =
    (public_files (get_or before (get_or places j 0) []) ≡ public_files (get_or now j []))
    ⊎ (get_or (get_or seen file []) (get_or places j 0) false ≡ false)

pub loop-k-preserved : goal.loop-k-preserved
loop-k-preserved c =
    let was = c.loop-k.invariant in
    let k = c.loop-k.k in
    let imports = c.args.imports.now in
    let seen = c.args.seen.now in
    let places = c.args.places.now in
    let now = c.args.now.now in
    let before : List (List FileImport) = map (λ v. v.items) imports in
    let own : List (List FileImport) = map (λ v. v.items) now in
    elim c.if-not-branch.branch [
      | then-not-branch w ↦
          let next = w.mark_who_sees.new.marks in
          let stay = w.mark_who_sees.ensures.stay in
          record {
            len = ap length w.stale-is ∙ stay.count ∙ was.len;
            places = λ j d l. subst (λ (s : List Bool). IsMarked s (get_or places j d)) (sym w.stale-is) (stay.set (get_or places j d) (was.places j d l));
            each = λ file l clear.
                let gone : get_or next file false ≡ false = subst (λ (s : List Bool). get_or s file false ≡ false) w.stale-is clear in
                below_more (Keeps before own seen places file) k (was.each file l (unmarked c.loop-k.stale next stay file gone))
                (inr (elim (cases_Bool (get_or (get_or seen file []) (get_or places k 0) false)) [
                  | inl sees ↦ absurd (both_ways (get_or next file false) gone (w.mark_who_sees.ensures.marked file (omega (arith, l, was.len)) sees))
                  | inr blind ↦ blind
                ]));
          }
      | else-not-branch w ↦
          let here : get_or before (get_or places k 0) [] ≡ c.deref.result.now =
          get_or-map (λ (v : Vec FileImport). v.items) imports (get_or places k 0) c.index-imports-place.result [] (c.requires.places k 0 c.loop-k-test.true)
          ∙ sym (ap (λ (v : Vec FileImport). v.items) c.index-imports-place.is) ∙ sym c.deref.ensures.value in
          let there : get_or own k [] ≡ c.deref-in-loop-k.result.now =
          get_or-map (λ (v : Vec FileImport). v.items) now k c.index-now-k.result [] (omega (arith, c.loop-k-test.true, c.requires.paired))
          ∙ sym (ap (λ (v : Vec FileImport). v.items) c.index-now-k.is) ∙ sym c.deref-in-loop-k.ensures.value in
          let same = ap public_files here ∙ c.in_ok-import_same_publicly.ensures w.if-not-branch.false ∙ sym (ap public_files there) in
          record {
            len = ap length w.stale-is ∙ was.len;
            places = λ j d l. subst (λ (s : List Bool). IsMarked s (get_or places j d)) (sym w.stale-is) (was.places j d l);
            each = λ file l clear. below_more (Keeps before own seen places file) k (was.each file l (subst (λ (s : List Bool). get_or s file false ≡ false) w.stale-is clear)) (inl same);
          }
    ]
