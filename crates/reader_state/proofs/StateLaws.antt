-- The reader's state: its numbers are small, and it is closed exactly where it is not in range. Assumes nothing.
use Rattle.std.specs.Prelude.{Ok}
use mathlib.Core.Path.{◌≡◌, refl, sym}
use mathlib.Core.Bool.{Bool, true, false, ◌||◌}
use Prim.Native.Nat.{ℕ, ◌*◌, ◌%◌, ◌^◌, ◌<◌, ◌≤◌}
use native.Mathlib.Nat.{mul-le-mul}
use native.Mathlib.Omega.{arith}
use native.Mathlib.Decide.{ℕ_discrete}
use borrow.Author.Tests.{le-ltb, ltb-false, leb-false, lt-leb, eq-eqb, ne_eqb, eqb-false}
use lib.Dec.{leb, ltb, eqb}
use Rattle.laws.proofs.Reflect.{or_false}
use Rattle.laws.proofs.Search.{above}
use Rattle.chain.specs.declared.plan.Plan.{Plan}
use Rattle.settings.specs.declared.settings.Settings.{Settings}
use Rattle.settings.specs.Settings.{check_of, plan_for, Right}
use Rattle.symbols.specs.Symbols.{symbols_of}
use Rattle.settings.proofs.SettingsLaws.{right, plan_fits}
use Rattle.symbols.proofs.CountLaws.{symbols_few}
use Rattle.assembler.specs.Assembled.{payload_before}
use Rattle.reader_state.specs.declared.state.Reader.{Reader}
use Rattle.reader_state.specs.State.{InRange, OnlyEnded, open_raw, history_of, first_bit, bad_histories, bad_scrambler, bad_part, closed_of, ended_of}

-- the number of a symbol's first data bit is small
pub first_near : (s : Settings) → Right s → (n : ℕ) → n < 32768 → n * (plan_for s).dbps ≤ 70778880
first_near s r n h = mul-le-mul {n₂ = 32768} {m₂ = 2160} (omega arith) (plan_fits s r).dbps_most

-- symbols in the frame are few
pub symbol_few : (s : Settings) → Right s → (n : ℕ) → n < symbols_of s → n < 32768
symbol_few s r n h = omega (arith, symbols_few s r)

-- a closed state by the tests of the code: the end and the count first
module _ (s : Settings) (st : Reader) where
  pub closed_past : (st.ended || leb (symbols_of s) st.symbol) ≡ true → true ≡ closed_of s st
  unfolding closed_of
  closed_past e = simp e

  pub closed_by : (h a b : Bool) → (st.ended || leb (symbols_of s) st.symbol) ≡ false → h ≡ bad_histories st.histories
      → a ≡ bad_scrambler st.symbol st.scrambler → b ≡ bad_part s st.symbol st.part → (h || (a || b)) ≡ closed_of s st
  unfolding closed_of
  closed_by h a b e d f g = simp (e, d, f, g)

-- the tests of the scrambler, and the range
scrambler_range : (symbol scrambler : ℕ) → bad_scrambler symbol scrambler ≡ false → (symbol ≡ 0 → ⊥) → (0 < scrambler) × (scrambler < 128)
scrambler_range symbol scrambler e n =
    let f : (eqb scrambler 0 || ltb 127 scrambler) ≡ false = simp (ne_eqb symbol 0 n) at e in
    let g = or_false (eqb scrambler 0) (ltb 127 scrambler) f in
    let low : scrambler ≡ 0 → ⊥ = eqb-false scrambler 0 g.0 in
    (above scrambler low, omega (arith, ltb-false 127 scrambler g.1))

scrambler_ok : (symbol scrambler : ℕ) → ((symbol ≡ 0 → ⊥) → 0 < scrambler) → ((symbol ≡ 0 → ⊥) → scrambler < 128) → bad_scrambler symbol scrambler ≡ false
scrambler_ok symbol scrambler low high =
    elim (ℕ_discrete symbol 0) [
      | yes z ↦ simp (eq-eqb symbol 0 z)
      | no n ↦
          let z : scrambler ≡ 0 → ⊥ = λ e. omega (arith, low n) in
          simp (ne_eqb symbol 0 n, ne_eqb scrambler 0 z, le-ltb 127 scrambler (omega (arith, high n)))
    ]

-- a state that is not closed is in range, and a state in range is not closed
module _ (s : Settings) (st : Reader) where
  pub in_range : closed_of s st ≡ false → InRange s st
  unfolding closed_of
  in_range e =
      let scrambler : Bool = bad_scrambler st.symbol st.scrambler in
      let part : Bool = bad_part s st.symbol st.part in
      let far : Bool = bad_histories st.histories in
      let a = or_false (st.ended || leb (symbols_of s) st.symbol) (far || (scrambler || part)) e in
      let b = or_false st.ended (leb (symbols_of s) st.symbol) a.0 in
      let c = or_false far (scrambler || part) a.1 in
      let d = or_false (leb 64 (history_of st 0)) (leb 64 (history_of st 1)) c.0 in
      let g = or_false scrambler part c.1 in
      record {
        going = b.0;
        below_count = leb-false (symbols_of s) st.symbol b.1;
        first_history = leb-false 64 (history_of st 0) d.0;
        second_history = leb-false 64 (history_of st 1) d.1;
        scrambler_some = λ n. (scrambler_range st.symbol st.scrambler g.0 n).0;
        scrambler_most = λ n. (scrambler_range st.symbol st.scrambler g.0 n).1;
        part_fits = leb-false (2 ^ (payload_before s.length (first_bit s st.symbol) % 8)) st.part g.1;
      }

  pub not_closed : InRange s st → closed_of s st ≡ false
  unfolding closed_of
  not_closed r =
      simp (
        r.going,
        lt-leb (symbols_of s) st.symbol r.below_count,
        lt-leb 64 (history_of st 0) r.first_history,
        lt-leb 64 (history_of st 1) r.second_history,
        scrambler_ok st.symbol st.scrambler r.scrambler_some r.scrambler_most,
        lt-leb (2 ^ (payload_before s.length (first_bit s st.symbol) % 8)) st.part r.part_fits,
      )

-- a state with its end marked differs in nothing else
pub only_ended : (st : Reader) → OnlyEnded st (ended_of st)
only_ended st = record { settings = refl; symbol = refl; histories = refl; scrambler = refl; part = refl; ended = refl }

-- the number that the code computes of a symbol's first data bit
module _ (s : Settings) (p : Plan) (plan : p ≡ plan_for s) where
  pub bits_near : Right s → (n : ℕ) → n < 32768 → n * p.dbps ≤ 70778880
  bits_near r n h = rw plan (first_near s r n h)

-- settings that are accepted are in their ranges
pub open_right : (st : Reader) (s : Settings) → Ok s ≡ check_of (open_raw st.settings) → Right s
open_right st s e = right (open_raw st.settings) s (sym e)
