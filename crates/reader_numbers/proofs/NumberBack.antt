-- A state's number loses nothing: a number below 2^49 is the number of the state that it is, and a state whose fields fit is the state of its number.
-- Assumes nothing.
use mathlib.Core.Path.{◌≡◌, ◌∙◌, ap}
use mathlib.Core.Bool.{Bool}
use mathlib.Core.List.{[], ◌∷◌}
use Prim.Native.Nat.{ℕ, ◌+◌, ◌*◌, ◌/◌, ◌%◌, ◌<◌}
use native.Mathlib.Omega.{arith}
use lib.Dec.{eqb}
use Rattle.sig_words.specs.Words.{one_if}
use Rattle.sig_words.proofs.WordLaws.{one_small, one_back}
use Rattle.conversions.proofs.FieldsTold.{one_told}
use Rattle.reader_state.specs.declared.state.OpenSettings.{OpenSettings}
use Rattle.reader_state.specs.declared.state.Reader.{Reader}
use Rattle.reader_numbers.specs.Numbers.{state_number, reader_of}
use Rattle.reader_numbers.specs.Statements.{HasState}
use Rattle.reader_numbers.proofs.StateTold.{state_told}

-- ---- from the number

summed : (x n h k z p e q₁ q₂ q₃ q₄ : ℕ) → x ≡ n + 65536 * q₁ → q₁ ≡ h + 256 * q₂ → q₂ ≡ k + 256 * q₃ → q₃ ≡ z + 256 * q₄ → q₄ ≡ p + 256 * e
    → n + 65536 * h + 16777216 * k + 4294967296 * z + 1099511627776 * p + 281474976710656 * e ≡ x
summed x n h k z p e q₁ q₂ q₃ q₄ a b c d f = omega arith

split_16 : (x : ℕ) → x ≡ x % 65536 + 65536 * (x / 65536)
split_16 x = omega arith

split_24 : (x : ℕ) → x / 65536 ≡ x / 65536 % 256 + 256 * (x / 16777216)
split_24 x = omega arith

split_32 : (x : ℕ) → x / 16777216 ≡ x / 16777216 % 256 + 256 * (x / 4294967296)
split_32 x = omega arith

split_40 : (x : ℕ) → x / 4294967296 ≡ x / 4294967296 % 256 + 256 * (x / 1099511627776)
split_40 x = omega arith

split_48 : (x : ℕ) → x < 562949953421312 → x / 1099511627776 ≡ x / 1099511627776 % 256 + 256 * (x / 281474976710656 % 2)
split_48 x l = omega arith

pub number_back : (o : OpenSettings) (state : ℕ) → state < 562949953421312 → state_number (reader_of o state) ≡ state
unfolding state_number reader_of
number_back o x l =
    ap (λ (e : ℕ). x % 65536 + 65536 * (x / 65536 % 256) + 16777216 * (x / 16777216 % 256) + 4294967296 * (x / 4294967296 % 256)
    + 1099511627776 * (x / 1099511627776 % 256) + 281474976710656 * e) (one_back (x / 281474976710656 % 2) (omega arith))
    ∙ summed x _ _ _ _ _ _ _ _ _ _ (split_16 x) (split_24 x) (split_32 x) (split_40 x) (split_48 x l)

-- ---- from the state

-- a state by its fields
abbrev state_of : OpenSettings → (symbol first second scrambler part : ℕ) → Bool → Reader
state_of o n h k z p e = record { settings = o; symbol = n; ended = e; histories = h ∷ (k ∷ []); scrambler = z; part = p }

module _ (o : OpenSettings) (n h k z p : ℕ) (e : Bool) (ln : n < 65536) (lh : h < 256) (lk : k < 256) (lz : z < 256) (lp : p < 256) where
  abbrev whole : ℕ
  whole = state_number (state_of o n h k z p e)

  told : HasState whole (state_of o n h k z p e)
  told = state_told (state_of o n h k z p e) (ln, (lh, (lk, (lz, lp))))

  -- a state's number is below 2^49
  pub number_below : state_number (record { settings = o; symbol = n; ended = e; histories = h ∷ (k ∷ []); scrambler = z; part = p })
      < 562949953421312
  number_below = omega (arith, told.ended, one_small e)

  ended_back : eqb (whole / 281474976710656 % 2) 1 ≡ e
  ended_back =
      let one : whole / 281474976710656 % 2 ≡ one_if e = omega (arith, told.ended, one_small e) in
      ap (λ (b : ℕ). eqb b 1) one ∙ one_told e

  pub reader_back :
      reader_of o (state_number (record { settings = o; symbol = n; ended = e; histories = h ∷ (k ∷ []); scrambler = z; part = p }))
      ≡ record { settings = o; symbol = n; ended = e; histories = h ∷ (k ∷ []); scrambler = z; part = p }
  unfolding reader_of
  reader_back = λ i.
      state_of o (told.symbol i) (told.first_history i) (told.second_history i) (told.scrambler i) (told.part i) (ended_back i)
