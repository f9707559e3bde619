-- What files see, once some are edited: where their marks are what they were they see what they saw, and by their marks references can be looked up.
use Rattle.std.proofs.Common.{◌≡◌, ◌⊎◌, ℕ, ◌<◌, ◌≤◌, ◌==◌, Bool, true, false, List, [], length, get_or, map, refl, sym, ◌∙◌, ap, subst, inl, inr, arith, Contains, eq-eqb, eqb-true}
use Rattle.std.specs.Cmp.{both_ways}
use Rattle.proto_base.proofs.Common.{Vec, any_from, any_to, cases_Bool, cases_lt, length-map, list_any}
use Rattle.proto_base.proofs.Common.{both_ways as none_both}
use Rattle.proto_files.proofs.Common.{FileOf, ReadOf}
use Rattle.proto_names_imports.proofs.Common.{names_in, names_of_files}
use Rattle.proto_names_affected.specs.Sight.{IsNewlySeen}
use Rattle.proto_names_rules.proofs.Common.{ImportsAreOfFiles, Sees, Workspace, by_import, itself, sees, sees_is}
use Rattle.proto_names.specs.Common.{IsFileLinked, LinkOf}
use Rattle.proto_names.specs.Renewed.{AreNamesRenewed, IsTableOf}
use Rattle.proto_names.specs.Sight.{IsSightOf}
use Rattle.proto_names_update.proofs.Differing.{as_many}
use Rattle.proto_names_table.specs.declared.table.Table.{Table}

-- a file is one of these, or it is none
pub is_place : (places : List ℕ) (k : ℕ) → Contains places k ⊎ (Contains places k → ⊥)
is_place places k = elim (cases_Bool (list_any (λ p. p == k) places)) [
  | inl it ↦ let x = any_to (λ p. p == k) places it in inl (subst (Contains places) (eqb-true x.0 k x.2) x.1)
  | inr none ↦ inr (λ c. none_both (list_any (λ p. p == k) places) none (any_from (λ p. p == k) places k c (eq-eqb k k refl)))
]

-- ---- past the last file, where no imports are

alone : (w : Workspace) → ImportsAreOfFiles w → (f g : ℕ) → w.files ≤ f → Sees w.imports f g → f ≡ g
alone w ok f g past itself = refl
alone w ok f g past (by_import i c e r) = let b = (ok i c).0 in absurd (omega (arith, b, e, past))

pub sees_itself : (w : Workspace) → ImportsAreOfFiles w → (f g : ℕ) → f ≡ g → sees w f g ≡ true
sees_itself w ok f g e = (sees_is w ok f g).1 (subst (Sees w.imports f) e itself)

past_all : (w v : Workspace) → ImportsAreOfFiles w → ImportsAreOfFiles v → (f g : ℕ) → w.files ≤ f → v.files ≤ f → sees v f g ≡ sees w f g
past_all w v ok_w ok_v f g past_w past_v =
    both_ways (sees v f g) (sees w f g)
    (λ h. sees_itself w ok_w f g (alone v ok_v f g past_v ((sees_is v ok_v f g).0 h)))
    (λ h. sees_itself v ok_v f g (alone w ok_w f g past_w ((sees_is w ok_w f g).0 h)))

module _ (places : List ℕ) (before : List FileOf) (was : List ReadOf) (l : LinkOf) (old : Table) (rows_before : List (Vec ℕ)) (files : List FileOf) (reads : List ReadOf) (t : Table) (rows : List (Vec ℕ))
    (of : IsTableOf before was l old rows_before) (is : AreNamesRenewed places before was old files reads t rows) (seen : List (List Bool)) (sight : IsSightOf files reads seen) where
  abbrev w : Workspace
  w = names_of_files before was

  abbrev v : Workspace
  v = names_of_files files reads

  count_before : w.files ≡ length files
  count_before = length-map was names_in ∙ is.edited.were_read.same ∙ as_many places before was files reads is.edited

  count_now : v.files ≡ length files
  count_now = length-map reads names_in ∙ is.edited.are_read.same

  -- a file whose marks are what they were sees what it saw
  pub sight_stays : (file g : ℕ) → get_or seen file [] ≡ get_or l.seen file [] → sees v file g ≡ sees w file g
  sight_stays file g same = elim (cases_lt file (length files)) [
    | inl lf ↦
        let lw : file < w.files = omega (arith, lf, count_before) in
        sym (sight.marks file lf g) ∙ ap (λ (ms : List Bool). get_or ms g false) same ∙ of.link.by.seen file lw g
    | inr past ↦ past_all w v of.link.by.between sight.between file g (omega (arith, past, count_before)) (omega (arith, past, count_now))
  ]

  -- what a file sees and did not see is newly seen by its marks
  pub is_newly_seen : (file g : ℕ) → file < length files → sees v file g ≡ true → sees w file g ≡ false → IsNewlySeen (get_or l.seen file []) (get_or seen file []) g
  is_newly_seen file g lf now unseen =
      let lw : file < w.files = omega (arith, lf, count_before) in
      (of.link.by.seen file lw g ∙ unseen, sight.marks file lf g ∙ now)

  -- the references of a file can be looked up
  pub file_is_linked : (file : ℕ) → file < length files → IsFileLinked t (get_or seen file []) (get_or (map (λ v. v.items) rows) file []) files reads file
  file_is_linked file lf = record {
    index = is.names.index;
    marks = sight.marks file lf;
    paired = is.names.counts file lf;
    plain = is.names.plain file lf;
    named = λ k b. is.names.named file k lf b;
  }
