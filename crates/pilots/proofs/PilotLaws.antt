-- The pilots' signs: what the code's numbers stand for, and what holds of every pilot. Assumes nothing.
use Rattle.std.proofs.Common.{◌≡◌, ◌∙◌, refl, sym, ap, Bool, true, false, cond, List, [], ℕ, ◌+◌, ◌-◌, ◌/◌, ◌%◌, ◌^◌, ◌<◌, arith, T}
use Rattle.std.proofs.Common.{eqb, lit<, get_or, ℤ, nat_abs, ◌*ℤ◌}
use Rattle.laws.specs.Claim.{Claim, ◌is◌, ◌under◌, ◌and◌, up_to, each, Holds, test, sound}
use Rattle.laws.specs.Test.{among}
use Rattle.laws.specs.Integers.{counted}
use Rattle.laws.proofs.Integers.{counted_same}
use Rattle.chain.specs.Plan.{widths, stream_counts}
use Rattle.chain.specs.Scrambler.{output, state_at}
use Rattle.chain.proofs.ScramblerLaws.{output_period, scrambler_bit_lem}
use Rattle.mapper.specs.Levels.{whole}
use Rattle.subcarriers.specs.Subcarriers.{pilots_of}
use Rattle.pilots.specs.Pilots.{sign_of, pattern_of, polarity_start, polarity_bit, pilot_sign, PilotAsked}

-- a pilot is its row's value times its symbol's polarity
pub pilot_is : (width streams format n i q : ℕ)
    → pilot_sign width streams format n i q ≡ pattern_of width streams i ((n + q) % pilots_of width) *ℤ sign_of (polarity_bit format n)
unfolding pilot_sign
pilot_is width streams format n i q = refl

few : (b : Bool) (m : ℕ) → m % cond b 6 4 < cond b 6 4
few true m = omega arith
few false m = omega arith

-- the value of a row that a pilot has is inside the row
pub pilots_few : (width : ℕ) → (n q : ℕ) → (n + q) % pilots_of width < pilots_of width
pilots_few width n q = few (eqb width 40) (n + q)

-- a symbol's polarity is a bit
pub polarity_small : (format n : ℕ) → polarity_bit format n < 2
unfolding polarity_bit
polarity_small format n = scrambler_bit_lem 127 ((n + polarity_start format) % 127)

-- the scrambler's output so many steps on is the polarity: as many more than the symbol's number as the format says
pub polarity_at : (format n steps state r : ℕ) → state ≡ state_at 127 steps → r ≡ output state → steps ≡ n + polarity_start format
    → r ≡ polarity_bit format n
unfolding polarity_bit
polarity_at format n steps state r there told e =
    told ∙ ap output there ∙ sym (output_period 127 steps (lit< tt)) ∙ ap (λ (k : ℕ). output (state_at 127 (k % 127))) e

-- streams are from 1 to 4
abbrev range_claim : Claim
range_claim = each stream_counts λ s. (0 under s) and (s under 5)

pub streams_range : (streams : ℕ) → T (among stream_counts streams) → (0 < streams) × (streams < 5)
streams_range = sound range_claim tt

-- bit k of row i, under a name that stays shut where the rows are read off a goal
unfoldable pub bit_in : (rows : List ℕ) (i k : ℕ) → ℕ
bit_in rows i k = get_or rows i 0 / 2 ^ k % 2

pub bit_in_lem : (rows : List ℕ) (i k : ℕ) → get_or rows i 0 / 2 ^ k % 2 ≡ bit_in rows i k
unfolding bit_in
bit_in_lem rows i k = refl

-- a table of bits says the minus signs of a width's table
abbrev pub rows_claim : (table : List (List ℕ)) (width : ℕ) → Claim
rows_claim table width =
    each stream_counts λ s. up_to s λ i. up_to (pilots_of width) λ k.
    counted (sign_of (get_or (get_or table (s - 1) []) i 0 / 2 ^ k % 2)) is counted (pattern_of width s i k)

-- where it does, a bit of a stream's row says that stream's value
pub row_says : (table : List (List ℕ)) (w width streams i k : ℕ) (rows : List ℕ)
    → T (test (rows_claim table w)) → width ≡ w → PilotAsked width streams i k → rows ≡ get_or table (streams - 1) []
    → (sign_of (bit_in rows i k) ≡ pattern_of width streams i k) × (bit_in rows i k < 2)
unfolding bit_in
row_says table w width streams i k rows right e asked there =
    let says : sign_of (get_or rows i 0 / 2 ^ k % 2) ≡ pattern_of width streams i k =
    ap (λ (r : List ℕ). sign_of (get_or r i 0 / 2 ^ k % 2)) there
    ∙ counted_same _ _ (sound (rows_claim table w) right streams asked.known_streams i asked.stream k (rw e at asked.place))
    ∙ ap (λ (x : ℕ). pattern_of x streams i k) (sym e) in
    (says, omega arith)

-- the sign of two bits' xor is the product of their signs
abbrev product_claim : Claim
product_claim = up_to 2 λ a. up_to 2 λ b. counted (sign_of a *ℤ sign_of b) is counted (sign_of ((a + b) % 2))

pub sign_product : (a b : ℕ) → a < 2 → b < 2 → sign_of a *ℤ sign_of b ≡ sign_of ((a + b) % 2)
sign_product a b h l = counted_same _ _ (sound product_claim tt a h b l)

-- the float of a row's value times a polarity, by their bits' xor
pub sign_float : (value : ℤ) (a b parity : ℕ) → sign_of a ≡ value → a < 2 → b < 2 → (a + b) % 2 ≡ parity → whole (sign_of parity) ≡ whole (value *ℤ sign_of b)
sign_float value a b parity e h l p = ap (λ (k : ℕ). whole (sign_of k)) (sym p) ∙ ap whole (sym (sign_product a b h l) ∙ ap (λ (z : ℤ). z *ℤ sign_of b) e)

-- every pilot is 1 or -1
abbrev ones_claim : Claim
ones_claim =
    each widths λ w. each stream_counts λ s. up_to s λ i. up_to (pilots_of w) λ k. up_to 2 λ b.
    nat_abs (pattern_of w s i k *ℤ sign_of b) is 1

ones : Holds ones_claim
unfolding pattern_of
ones = sound ones_claim tt

pub pilot_one : (width streams format n i q : ℕ) → PilotAsked width streams i q → nat_abs (pilot_sign width streams format n i q) ≡ 1
pilot_one width streams format n i q asked =
    ap nat_abs (pilot_is width streams format n i q)
    ∙ ones width asked.known_width streams asked.known_streams i asked.stream ((n + q) % pilots_of width) (pilots_few width n q)
    (polarity_bit format n) (polarity_small format n)
