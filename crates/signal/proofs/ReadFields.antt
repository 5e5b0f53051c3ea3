-- What the read gives is in range, whatever it was lent. Assumes nothing.
use Rattle.std.specs.Prelude.{Err, Ok}
use mathlib.Core.Path.{◌≡◌, refl, subst}
use mathlib.Core.Bool.{Bool, true, false, cond, not}
use mathlib.Core.List.{List, [], ◌∷◌}
use mathlib.Core.Logic.{◌⊎◌, inl, inr}
use Prim.Native.Nat.{ℕ, zero, suc, ◌+◌, ◌*◌, ◌^◌, ◌<◌}
use native.Mathlib.Nat.{pow-suc}
use native.Mathlib.Omega.{arith}
use lib.Dec.{eqb}
use lib.Pow.{pow_pos}
use lib.ListN.{length, take, drop}
use Rattle.settings.specs.declared.settings.Refusal.{Refusal}
use Rattle.settings.specs.declared.settings.Refusal.TheVariants.{Source, SigCrc, SigForm}
use Rattle.sig_words.specs.declared.words.SigFields.{SigFields}
use Rattle.signal.specs.HtSig.{value, bits_in, field, crc_wrong, form_wrong, fields_in, read_of}
use Rattle.sig_words.specs.Words.{SigFits}
use Rattle.signal.proofs.Bits.{Two, two_in}

two_drop : (n : ℕ) (l : List ℕ) → Two l → Two (drop n l)
two_drop zero l t = t
two_drop (suc n) [] t = tt
two_drop (suc n) (b ∷ bs) t = two_drop n bs t.1

-- the number in at most n bits
value_small : (n : ℕ) (l : List ℕ) → Two l → value (take n l) < 2 ^ n
value_small zero l t = pow_pos 0
value_small (suc n) [] t = pow_pos (suc n)
value_small (suc n) (b ∷ bs) t = rw pow-suc (double b (value (take n bs)) (2 ^ n) t.0 (value_small n bs t.1))
  where
    double : (b v p : ℕ) → b < 2 → v < p → b + 2 * v < p * 2
    double b v p h k = omega arith

field_small : (l : List ℕ) (a n : ℕ) → field (bits_in l) a n < 2 ^ n
unfolding field
field_small l a n = value_small n (drop a (bits_in l)) (two_drop a (bits_in l) (two_in l))

pub fields_in_fit : (l : List ℕ) → SigFits (fields_in (bits_in l))
unfolding fields_in
fields_in_fit l = record { mcs = field_small l 0 7; length = field_small l 8 16 }

-- the width is one of the two
fields_in_width : (l : List ℕ) → ((fields_in (bits_in l)).width ≡ 20) ⊎ ((fields_in (bits_in l)).width ≡ 40)
unfolding fields_in field
fields_in_width l = go (eqb (field (bits_in l) 7 1) 1)
  where
    go : (b : Bool) → let w : ℕ = cond b 40 20 in (w ≡ 20) ⊎ (w ≡ 40)
    go true = inr refl
    go false = inl refl

-- the fields that the read gives are those in the bits
read_fields : (l : List ℕ) (g : SigFields) → read_of l ≡ Ok g → fields_in (bits_in l) ≡ g
read_fields l g = go (not (eqb (length l) 6)) (crc_wrong (bits_in l)) (form_wrong (bits_in l))
  where
    no : (r : Refusal) → Err r ≡ Ok g → ⊥
    no r e = let z : ◌≡◌ {A = ℕ} 0 1 = cc in omega arith

    go : (a b c : Bool)
        → cond a (Err Source) (cond b (Err SigCrc) (cond c (Err SigForm) (Ok (fields_in (bits_in l))))) ≡ Ok g
        → fields_in (bits_in l) ≡ g
    go true b c e = absurd (no Source e)
    go false true c e = absurd (no SigCrc e)
    go false false true e = absurd (no SigForm e)
    go false false false e = cc

-- and so they fit their places
pub read_fields_fit : (l : List ℕ) (g : SigFields) → read_of l ≡ Ok g → SigFits g
read_fields_fit l g e = subst SigFits (read_fields l g e) (fields_in_fit l)

pub read_width : (l : List ℕ) (g : SigFields) → read_of l ≡ Ok g → (g.width ≡ 20) ⊎ (g.width ≡ 40)
read_width l g e = subst (λ (h : SigFields). (h.width ≡ 20) ⊎ (h.width ≡ 40)) (read_fields l g e) (fields_in_width l)
