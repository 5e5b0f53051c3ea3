-- Accepted settings are in range, and the numbers that follow from them. Assumes nothing.
use Rattle.std.specs.Prelude.{Err, Ok}
use mathlib.Core.Path.{◌≡◌, refl, sym, subst}
use mathlib.Core.Bool.{Bool, true, false, cond, not, ◌||◌}
use Prim.Native.Nat.{ℕ, ◌≤◌}
use native.Mathlib.Omega.{arith}
use borrow.Author.Tests.{ltb-false, eqb-false, eqb-true}
use lib.Dec.{T, eqb, ltb}
use Rattle.laws.specs.Test.{among}
use Rattle.laws.proofs.Refusing.{true_not_false}
use Rattle.laws.proofs.Reflect.{or_false}
use Rattle.laws.proofs.Search.{above}
use Rattle.chain.specs.Plan.{widths, encoder_counts, streams_of, plan_of, Planned, Fits}
use Rattle.chain.proofs.Plans.{fits}
use Rattle.settings.specs.Settings.{number_of, bad_width, bad_mcs, bad_format, bad_length, bad_seed, settings_of, check_of, encoders_of, plan_for, Right}
use Rattle.settings.specs.declared.settings.RawSettings.{RawSettings}
use Rattle.settings.specs.declared.settings.Refusal.{Refusal}
use Rattle.settings.specs.declared.settings.Refusal.TheVariants.{Width, Mcs, Format, Length, Seed, Source, Place, Room, Point, Code, Frame, Closed, SigCrc, SigForm}
use Rattle.settings.specs.declared.settings.Settings.{Settings}

-- the answer where every test passes
pub accepted_is : (a : RawSettings) → bad_width a ≡ false → bad_mcs a ≡ false → bad_format a ≡ false → bad_length a ≡ false → bad_seed a ≡ false
    → Ok (settings_of a) ≡ check_of a
accepted_is a w m f l s = simp (w, m, f, l, s)

in_widths : (a b : Bool) (w : ℕ) → eqb w 20 ≡ a → eqb w 40 ≡ b → not (a || b) ≡ false → T (among widths w)
in_widths true b w p q e = subst (λ (v : ℕ). T (among widths v)) (sym (eqb-true w 20 p)) tt
in_widths false true w p q e = subst (λ (v : ℕ). T (among widths v)) (sym (eqb-true w 40 q)) tt
in_widths false false w p q e = absurd (true_not_false e)

-- accepted settings passed every test, and are the settings that the numbers mean
pub record Passed (a : RawSettings) (s : Settings) : Type 0 where
  pub width : bad_width a ≡ false
  pub mcs : bad_mcs a ≡ false
  pub format : bad_format a ≡ false
  pub length : bad_length a ≡ false
  pub seed : bad_seed a ≡ false
  pub meant : settings_of a ≡ s

pub passed : (a : RawSettings) (s : Settings) → check_of a ≡ Ok s → Passed a s
passed a s p = go (bad_width a) (bad_mcs a) (bad_format a) (bad_length a) (bad_seed a) refl refl refl refl refl p
  where
    no : (r : Refusal) → Err r ≡ Ok s → ⊥
    no r e = let z : ◌≡◌ {A = ℕ} 0 1 = cc in omega arith

    go : (w m f l d : Bool) → bad_width a ≡ w → bad_mcs a ≡ m → bad_format a ≡ f → bad_length a ≡ l → bad_seed a ≡ d
        → cond w (Err Width) (cond m (Err Mcs) (cond f (Err Format) (cond l (Err Length) (cond d (Err Seed) (Ok (settings_of a)))))) ≡ Ok s → Passed a s
    go true m f l d ew em ef el ed q = absurd (no Width q)
    go false true f l d ew em ef el ed q = absurd (no Mcs q)
    go false false true l d ew em ef el ed q = absurd (no Format q)
    go false false false true d ew em ef el ed q = absurd (no Length q)
    go false false false false true ew em ef el ed q = absurd (no Seed q)
    go false false false false false ew em ef el ed q =
        let is : settings_of a ≡ s = cc in
        record { width = ew; mcs = em; format = ef; length = el; seed = ed; meant = is }

-- accepted settings are in range
pub right : (a : RawSettings) (s : Settings) → check_of a ≡ Ok s → Right s
right a s p =
    let t = passed a s p in
    subst Right t.meant
    (record {
      width = in_widths (eqb a.width 20) (eqb a.width 40) a.width refl refl t.width;
      mcs = omega (arith, ltb-false 31 a.mcs t.mcs);
      format = omega (arith, ltb-false 1 a.format t.format);
      length_some = above a.length (eqb-false a.length 0 (or_false (eqb a.length 0) (ltb 65535 a.length) t.length).0);
      length_most = omega (arith, ltb-false 65535 a.length (or_false (eqb a.length 0) (ltb 65535 a.length) t.length).1);
      seed_some = above a.seed (eqb-false a.seed 0 (or_false (eqb a.seed 0) (ltb 127 a.seed) t.seed).0);
      seed_most = omega (arith, ltb-false 127 a.seed (or_false (eqb a.seed 0) (ltb 127 a.seed) t.seed).1);
    })

-- ---- the plan of accepted settings

-- what holds of one encoder and of two holds of every MCS's
encoders_by : (P : ℕ → Type 0) (m : ℕ) → P 1 → P 2 → P (encoders_of m)
encoders_by P m one two = go (ltb (streams_of m) 3)
  where
    go : (b : Bool) → P (cond b 1 2)
    go true = one
    go false = two

pub encoders_in : (m : ℕ) → T (among encoder_counts (encoders_of m))
encoders_in m = encoders_by (λ e. T (among encoder_counts e)) m tt tt

pub encoders_few : (m : ℕ) → encoders_of m ≤ 2
encoders_few m = encoders_by (λ e. e ≤ 2) m (omega arith) (omega arith)

pub planned : (s : Settings) → Right s → Planned s.width s.mcs (encoders_of s.mcs)
planned s r = record { width = r.width; mcs = r.mcs; encoders = encoders_in s.mcs }

pub plan_fits : (s : Settings) → Right s → Fits (plan_for s)
unfolding plan_for
plan_fits s r = fits s.width s.mcs (encoders_of s.mcs) (planned s r)

pub planned_width : (s : Settings) → (plan_for s).width ≡ s.width
unfolding plan_for plan_of
planned_width s = refl

pub planned_encoders : (s : Settings) → (plan_for s).encoders ≡ encoders_of s.mcs
unfolding plan_for plan_of
planned_encoders s = refl

-- every refusal's number is one of document 01's table
pub number_range : (r : Refusal) → (1 ≤ number_of r) × (number_of r ≤ 14)
number_range Width = (omega arith, omega arith)
number_range Mcs = (omega arith, omega arith)
number_range Format = (omega arith, omega arith)
number_range Length = (omega arith, omega arith)
number_range Seed = (omega arith, omega arith)
number_range Source = (omega arith, omega arith)
number_range Place = (omega arith, omega arith)
number_range Room = (omega arith, omega arith)
number_range Point = (omega arith, omega arith)
number_range Code = (omega arith, omega arith)
number_range Frame = (omega arith, omega arith)
number_range Closed = (omega arith, omega arith)
number_range SigCrc = (omega arith, omega arith)
number_range SigForm = (omega arith, omega arith)
