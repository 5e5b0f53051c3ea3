-- Which subcarriers carry pilots, data or nothing (document 01 step 7; EWC 4.6, 4.7), by their own numbers.
use Rattle.std.specs.Prelude.{◌≡◌, Bool, false, cond, ◌||◌, Option, Some, None, List, [], ◌∷◌, ◌++◌, ℕ, zero, suc, ◌-◌, ◌<◌, eqb, ltb}
use Rattle.std.specs.Prelude.{length, get_or, ℤ, pos, ◌+ℤ◌}
use Rattle.std.specs.Int.Signed.{lt_z}
use Rattle.laws.specs.Integers.{minus, alike}
use Rattle.chain.specs.Plan.{carriers_of}
use Rattle.subcarriers.specs.declared.layout.Use.{Use}
use Rattle.subcarriers.specs.declared.layout.Use.TheVariants.{Silent, Pilot, Data}

-- n subcarriers from z on, rising
abbrev pub rising : ℤ → ℕ → List ℤ
rising z zero = []
rising z (suc n) = z ∷ rising (z +ℤ pos 1) n

-- "Subcarriers -28..-1, 1..28, or -58..-2, 2..58, rising"
unfoldable pub used_subcarriers : (width : ℕ) → List ℤ
used_subcarriers width = cond (eqb width 40) (rising (minus 58) 57 ++ rising (pos 2) 57) (rising (minus 28) 28 ++ rising (pos 1) 28)

-- "Pilots at ±7, ±21, or ±11, ±25, ±53"
unfoldable pub pilot_subcarriers : (width : ℕ) → List ℤ
pilot_subcarriers width =
    cond (eqb width 40)
    (minus 53 ∷ minus 25 ∷ minus 11 ∷ pos 11 ∷ pos 25 ∷ pos 53 ∷ [])
    (minus 21 ∷ minus 7 ∷ pos 7 ∷ pos 21 ∷ [])

-- the place of a subcarrier in a list, the list's length where it is not in it
abbrev pub place_in : List ℤ → ℤ → ℕ
place_in [] z = 0
place_in (y ∷ ys) z = cond (alike y z) 0 (suc (place_in ys z))

abbrev pub stands_in : List ℤ → ℤ → Bool
stands_in zs z = ltb (place_in zs z) (length zs)

-- the place of a subcarrier in a list that has it
abbrev pub place_found : List ℤ → ℤ → Option ℕ
place_found zs z = cond (stands_in zs z) (Some (place_in zs z)) None

-- the subcarriers of a list that another has not
abbrev pub without : List ℤ → List ℤ → List ℤ
without ys [] = []
without ys (z ∷ zs) = cond (stands_in ys z) (without ys zs) (z ∷ without ys zs)

-- "data fill the rest in rising order"
unfoldable pub data_subcarriers : (width : ℕ) → List ℤ
unfolding used_subcarriers pilot_subcarriers
data_subcarriers width = without (pilot_subcarriers width) (used_subcarriers width)

-- what a subcarrier is used for: pilots by their place q from 0, data carriers by their number from 0, "every unused one is silent"
unfoldable pub use_of : (width : ℕ) (z : ℤ) → Use
unfolding pilot_subcarriers data_subcarriers
use_of width z =
    cond (stands_in (pilot_subcarriers width) z) (Pilot (place_in (pilot_subcarriers width) z))
    (cond (stands_in (data_subcarriers width) z) (Data (place_in (data_subcarriers width) z)) Silent)

-- how many subcarriers a stream's points stand for, and which stands at place f: "subcarriers rising"
abbrev pub places_of : (width : ℕ) → ℕ
places_of width = cond (eqb width 40) 114 56

unfoldable pub subcarrier_at : (width f : ℕ) → ℤ
unfolding used_subcarriers
subcarrier_at width f = get_or (used_subcarriers width) f (pos 0)

-- pilots of a width: those of `pilot_subcarriers`
abbrev pub pilots_of : (width : ℕ) → ℕ
pilots_of width = cond (eqb width 40) 6 4

-- "it takes -32..31 or -64..63"; "others are 7"
abbrev pub reach : (width : ℕ) → ℕ
reach width = cond (eqb width 40) 64 32

abbrev pub outside : (width : ℕ) (z : ℤ) → Bool
outside width z = lt_z z (minus (reach width)) || lt_z (pos (reach width - 1)) z

abbrev pub Inside : (width : ℕ) (z : ℤ) → Type 0
Inside width z = outside width z ≡ false

-- step 8: "each subcarrier above 0", at 40 MHz
abbrev pub upper : (width : ℕ) (z : ℤ) → Bool
upper width z = cond (eqb width 40) (lt_z (pos 0) z) false

-- subcarriers by their numbers from -64 on
abbrev pub subcarrier_from : ℕ → ℤ
subcarrier_from k = pos k +ℤ minus 64

-- the pilot or the data carrier that a use names is one of the width's
abbrev pub UseRight : (width : ℕ) → Use → Type 0
UseRight width Silent = Unit {0}
UseRight width (Pilot q) = q < pilots_of width
UseRight width (Data c) = c < carriers_of width

-- the subcarrier at place f is one of the channel, and used
pub record PlaceUsed (width f : ℕ) : Type 0 where
  pub inside : Inside width (subcarrier_at width f)
  pub not_silent : use_of width (subcarrier_at width f) ≡ Silent → ⊥

-- a place that data carrier c stands at
pub record CarrierPlace (width c : ℕ) : Type 0 where
  pub place : ℕ
  pub inside : place < places_of width
  pub carries : use_of width (subcarrier_at width place) ≡ Data c
