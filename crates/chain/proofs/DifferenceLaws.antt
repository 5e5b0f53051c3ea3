-- Inputs that differ show: after equal histories, two symbols whose inputs differ differ in a half label, and it is found. Assumes nothing.
use mathlib.Core.Path.{◌≡◌, refl}
use mathlib.Core.Bool.{Bool}
use mathlib.Core.Logic.{⊎_elim}
use Prim.Native.Nat.{ℕ, ◌+◌, ◌-◌, ◌*◌, ◌/◌, ◌%◌, ◌<◌, ◌≤◌}
use native.Mathlib.Nat.{div-lt_iff_lt-mul, mod-lt}
use native.Mathlib.Omega.{arith}
use borrow.Author.Tests.{eqb-true, eqb-false}
use lib.Arith.{digits_lt}
use lib.Dec.{eqb}
use Rattle.laws.proofs.Radix.{quot_of, rem_of}
use Rattle.laws.proofs.Search.{AllBelow, FirstFailing, search_below}
use Rattle.chain.specs.Plan.{Fits}
use Rattle.chain.specs.declared.plan.Plan.{Plan}
use Rattle.chain.specs.Labels.{half_label, halves_of}
use Rattle.chain.specs.Statements.{HalvesDiffer}
use Rattle.chain.proofs.LabelLaws.{halves_tell, halves_some}
use Rattle.chain.proofs.DecodeLaws.{history_local, labels_force}

module _ (p : Plan) (fits : Fits p) (x y : ℕ → ℕ) (bx : (d : ℕ) → x d < 2) (by : (d : ℕ) → y d < 2) (n : ℕ) where
  -- whether half k % count of stream k / count is the same
  abbrev alike : ℕ → Bool
  alike k = eqb (half_label p x n (k / halves_of p) (k % halves_of p)) (half_label p y n (k / halves_of p) (k % halves_of p))

  half_alike : AllBelow alike (p.streams * halves_of p) → (i m : ℕ) → i < p.streams → m < halves_of p → half_label p x n i m ≡ half_label p y n i m
  half_alike all i m h l =
      let k : ℕ = i * halves_of p + m in
      let e = eqb-true (half_label p x n (k / halves_of p) (k % halves_of p)) (half_label p y n (k / halves_of p) (k % halves_of p)) (all k (digits_lt h l)) in
      rw (quot_of (halves_of p) i m k l refl, rem_of (halves_of p) i m k l refl) at e

  -- where inputs before the symbol agree and one of its own differs, so does a half label
  pub halves_differ : ((d : ℕ) → d < n * p.dbps → x d ≡ y d) → (d : ℕ) → n * p.dbps ≤ d → d < n * p.dbps + p.dbps → (x d ≡ y d → ⊥)
      → HalvesDiffer p x y n
  halves_differ before d low high apart = ⊎_elim none found (search_below alike (p.streams * halves_of p))
    where
      none : AllBelow alike (p.streams * halves_of p) → HalvesDiffer p x y n
      none all =
          let same = labels_force p fits x y bx by n (λ j h. history_local p fits x y n j h before)
          (λ i r h l. halves_tell p fits x y n n i (λ m b. half_alike all i m h b) r l) (d - n * p.dbps) (omega arith) in
          let at : n * p.dbps + (d - n * p.dbps) ≡ d = omega arith in
          absurd (apart (rw at at same))

      found : FirstFailing alike (p.streams * halves_of p) → HalvesDiffer p x y n
      found f = record {
        stream = f.at / halves_of p;
        half = f.at % halves_of p;
        stream_lt = (div-lt_iff_lt-mul (halves_some p fits)).1 f.below;
        half_lt = mod-lt f.at (halves_some p fits);
        apart = eqb-false (half_label p x n (f.at / halves_of p) (f.at % halves_of p)) (half_label p y n (f.at / halves_of p) (f.at % halves_of p)) f.fails;
      }
