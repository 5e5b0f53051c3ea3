-- The number of a read tells its fields: the terms of specs/Statements. Assumes nothing.
use Rattle.std.specs.Prelude.{Err, Ok, Result}
use Rattle.settings.specs.declared.settings.Refusal.{Refusal}
use mathlib.Core.Path.{◌≡◌, ◌∙◌, refl, sym, ap, subst}
use mathlib.Core.Bool.{Bool, true, false}
use mathlib.Core.Logic.{◌↔◌, ◌⊎◌, ⊎_elim}
use Prim.Native.Nat.{ℕ, ◌/◌, ◌%◌}
use native.Mathlib.Omega.{arith}
use borrow.Author.Tests.{eq-eqb, eqb-true}
use lib.Dec.{eqb}
use lib.IntN.{pos}
use Rattle.sig_words.specs.declared.words.SigFields.{SigFields}
use Rattle.sig_words.specs.Words.{one_if}
use Rattle.sig_words.proofs.WordLaws.{one_small, same_fields}
use Rattle.signal.specs.HtSig.{read_of}
use Rattle.signal.proofs.ReadFields.{read_fields_fit, read_width}
use Rattle.conversions.specs.Results.{fields_number, read_result}
use Rattle.conversions.specs.Statements.{HasFields, Readable, FieldsTold, OneNumberOneRead, ReadResultTold}
use Rattle.conversions.proofs.Minus.{pos_told, refused_not_pos}

-- a flag is told by its bit
pub one_told : (b : Bool) → eqb (one_if b) 1 ≡ b
one_told true = refl
one_told false = refl

flag_same : (a b : Bool) → one_if a ≡ one_if b → a ≡ b
flag_same a b e = sym (one_told a) ∙ ap (λ (n : ℕ). eqb n 1) e ∙ one_told b

-- a bit says that a width is 40
width_told : (x width : ℕ) → x ≡ one_if (eqb width 40) → (x ≡ 1) ↔ (width ≡ 40)
width_told x width e = (
  λ one. eqb-true width 40 (sym (one_told (eqb width 40)) ∙ ap (λ (n : ℕ). eqb n 1) (sym e ∙ one)),
  λ wide. e ∙ ap one_if (eq-eqb width 40 wide),
)

pub fields_told : FieldsTold
unfolding fields_number
fields_told g (fits, width) =
    let wide = one_small (eqb g.width 40) in
    let smooth = one_small g.smoothing in
    let sounds = one_small g.not_sounding in
    let joined = one_small g.aggregation in
    let short = one_small g.short_guard in
    record {
      mcs = omega arith;
      width = width_told (fields_number g / 128 % 2) g.width (omega arith);
      length = omega arith;
      smoothing = omega arith;
      not_sounding = omega arith;
      aggregation = omega arith;
      short_guard = omega arith;
      nothing_above = omega arith;
    }

-- ---- and so one number has one read

same_width : (v w : ℕ) → (v ≡ 20) ⊎ (v ≡ 40) → (w ≡ 20) ⊎ (w ≡ 40) → (v ≡ 40) ↔ (w ≡ 40) → v ≡ w
same_width v w either either' same =
    ⊎_elim
    (λ (narrow : v ≡ 20). ⊎_elim (λ (e : w ≡ 20). narrow ∙ sym e) (λ (e : w ≡ 40). same.1 e ∙ sym e) either')
    (λ (wide : v ≡ 40). wide ∙ sym (same.0 wide))
    either

same_told : (number : ℕ) (g h : SigFields) → Readable g → Readable h → HasFields number g → HasFields number h → g ≡ h
same_told number g h (fits, width) (fits', width') told told' =
    same_fields
    (same_width g.width h.width width width'
    (λ e. told'.width.0 (told.width.1 e), λ e. told.width.0 (told'.width.1 e)))
    (sym told.mcs ∙ told'.mcs)
    (sym told.length ∙ told'.length)
    (flag_same g.smoothing h.smoothing (sym told.smoothing ∙ told'.smoothing))
    (flag_same g.not_sounding h.not_sounding (sym told.not_sounding ∙ told'.not_sounding))
    (flag_same g.aggregation h.aggregation (sym told.aggregation ∙ told'.aggregation))
    (flag_same g.short_guard h.short_guard (sym told.short_guard ∙ told'.short_guard))

pub one_number_one_read : OneNumberOneRead
one_number_one_read g h r r' e =
    same_told (fields_number h) g h r r' (subst (λ (n : ℕ). HasFields n g) e (fields_told g r)) (fields_told h r')

pub read_result_told : ReadResultTold
read_result_told sig number = go (read_of sig) refl
  where
    go : (x : Result SigFields Refusal) → read_of sig ≡ x → read_result x ≡ pos number
        → (g : SigFields) × ((read_of sig ≡ Ok g) × (Readable g × HasFields number g))
    go (Ok g) is e =
        let readable : Readable g = (read_fields_fit sig g is, read_width sig g is) in
        (g, (is, (readable, subst (λ (n : ℕ). HasFields n g) (pos_told (fields_number g) number e) (fields_told g readable))))
    go (Err r) is e = absurd (refused_not_pos r number e)
