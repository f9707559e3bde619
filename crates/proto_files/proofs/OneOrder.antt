-- Files of a workspace stand in one order, and faults are of one phase (for the crates above).
use Rattle.std.proofs.Common.{◌≡◌, ℕ, suc, List, [], ◌∷◌, refl, sym, ap, ◌∙◌, subst, inl, inr, ⊎_elim, arith, AllPairs, Contains}
use Rattle.proto_base.proofs.Common.{IsPermutation-sym, Contains-permutation, phase_of}
use Rattle.proto_base.specs.declared.fault.FaultKind.{FaultKind}
use Rattle.proto_base.specs.declared.fault.FaultKind.TheVariants.{BadPath, DoublePath, TooManyFiles}
use Rattle.proto_files.specs.Common.{IsBefore, FileOf, IsPathFault}
use Rattle.proto_files.specs.Laws.{OneOrder, PathsArePhase0, TextsArePhase1, GrammarIsPhase2}
use Rattle.proto_files.proofs.Members.{Member, Contains-from_member, member_from_Contains}
use Rattle.proto_files.proofs.PathOrder.{never_before_itself, before_trans}
use Rattle.proto_files.proofs.LeastOfFiles.{text_phase, grammar_phase}

-- each file is before those behind it
abbrev FilesRise : List FileOf → Type 0
FilesRise [] = Unit {0}
FilesRise (f ∷ files) = ((g : FileOf) → Member g files → IsBefore f.path g.path) × FilesRise files

files_rise : (files : List FileOf) → AllPairs (λ f g. IsBefore f.path g.path) files → FilesRise files
files_rise [] h = tt
files_rise (f ∷ files) h = (
  (λ g m. let at : Contains files g = Contains-from_member g files m in
      subst (λ (x : FileOf). IsBefore f.path x.path) at.2 (h 0 (suc at.0) g (omega arith) (omega (arith, at.1)))),
  files_rise files (λ i j d lt within. h (suc i) (suc j) d (omega arith) (omega arith)),
)

same_members : (a b : List FileOf) → FilesRise a → FilesRise b → ((f : FileOf) → Member f a → Member f b) → ((f : FileOf) → Member f b → Member f a) → a ≡ b
same_members [] [] ra rb to from = refl
same_members [] (g ∷ b) ra rb to from = absurd (from g (inl refl))
same_members (f ∷ a) [] ra rb to from = absurd (to f (inl refl))
same_members (f ∷ a) (g ∷ b) ra rb to from =
    let heads : g ≡ f =
    ⊎_elim (λ e. e) (λ (m : Member f b).
    ⊎_elim (λ (e : f ≡ g). sym e) (λ (n : Member g a). absurd (never_before_itself f.path (before_trans f.path g.path f.path (ra.0 g n) (rb.0 f m)))) (from g (inl refl)))
    (to f (inl refl)) in
    let forth : (h : FileOf) → Member h a → Member h b = λ h m.
    ⊎_elim (λ (e : g ≡ h). absurd (never_before_itself f.path (subst (λ (x : FileOf). IsBefore f.path x.path) (sym e ∙ heads) (ra.0 h m)))) (λ n. n) (to h (inr m)) in
    let back : (h : FileOf) → Member h b → Member h a = λ h m.
    ⊎_elim (λ (e : f ≡ h). absurd (never_before_itself g.path (subst (λ (x : FileOf). IsBefore g.path x.path) (sym e ∙ sym heads) (rb.0 h m)))) (λ n. n) (from h (inr m)) in
    ap (λ (x : FileOf). x ∷ a) (sym heads) ∙ ap (λ rest. g ∷ rest) (same_members a b ra.1 rb.1 forth back)

pub one_order : OneOrder
one_order a b same wa wb =
    same_members a b (files_rise a wa.ordered) (files_rise b wb.ordered)
    (λ f m. member_from_Contains f b (Contains-permutation a b f same (Contains-from_member f a m)))
    (λ f m. member_from_Contains f a (Contains-permutation b a f (IsPermutation-sym a b same) (Contains-from_member f b m)))

path_phase : (limit : ℕ) (paths : List (List ℕ)) (k : FaultKind) (q : List ℕ) → IsPathFault limit paths k q → phase_of k ≡ 0
path_phase limit paths BadPath q f = refl
path_phase limit paths DoublePath q f = refl
path_phase limit paths TooManyFiles q f = refl
path_phase limit paths _ q f = absurd f

pub paths_are_phase_0 : PathsArePhase0
paths_are_phase_0 limit paths x f = path_phase limit paths x.kind x.path f.1

pub texts_are_phase_1 : TextsArePhase1
texts_are_phase_1 files x f = text_phase f.0 x.offset x.kind f.3

pub grammar_is_phase_2 : GrammarIsPhase2
grammar_is_phase_2 files x f = grammar_phase f.0 x.offset x.kind f.3
