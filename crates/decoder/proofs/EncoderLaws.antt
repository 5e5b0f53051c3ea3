-- Encoders inverted one after the other give the whole symbol's inputs.
-- Assumes nothing.
use mathlib.Core.Path.{◌≡◌, ◌∙◌, refl, sym, ap}
use mathlib.Core.Bool.{Bool}
use mathlib.Core.List.{List}
use Prim.Native.Nat.{ℕ, zero, suc, ◌+◌, ◌-◌, ◌*◌, ◌/◌, ◌%◌, ◌<◌, ◌≤◌}
use native.Mathlib.Nat.{mul-le-mul_left, mul-le-mul_right, mul-suc, mod-lt, mul_comm, div-add-mod, div-lt_iff_lt-mul, zero-add}
use native.Mathlib.Omega.{arith}
use lib.Dec.{T, eqb, eqb→eq}
use lib.ListN.{length, get_or, set, length-set}
use lib.Seq.{get_or-set_same, get_or-set_other}
use borrow.Author.Count.{below_more}
use Rattle.laws.specs.Test.{below, below_at, below_of}
use Rattle.laws.proofs.Reflect.{same_test, eqb_of}
use Rattle.laws.proofs.Radix.{rem_of}
use Rattle.chain.specs.Decoder.{coded_after, forced_history, forced_input, inputs_of, checks}
use Rattle.chain.proofs.Counts.{encoders_most}
use Rattle.forcing.specs.Asked.{GroupsRight, EncoderAsked, EncoderDone}
use Rattle.decoder.specs.Decoded.{histories_in}
use Rattle.decoder.specs.Asked.{EncodersAsked, EncodersDone}

module _ (hs : ℕ → ℕ) (c : ℕ → ℕ → ℕ) (e q n : ℕ) where
  abbrev Right : ℕ → Type 0
  Right j = GroupsRight (hs j) (c j) q n

  abbrev one : ℕ → ℕ → Bool
  one j g = eqb (c j (q * g)) (coded_after (hs j) (forced_input (hs j) (c j) q) q (q * g))

  checks_of : ((j : ℕ) → j < e → Right j) → T (checks hs c e q n)
  unfolding checks
  checks_of right = below_of (λ j. below (one j) n) e (λ j l. below_of (one j) n (λ g m. eqb_of _ _ (right j l g m)))

  checks_at : T (checks hs c e q n) → (j : ℕ) → j < e → Right j
  unfolding checks
  checks_at t j l g m = eqb→eq _ _ (below_at (one j) n (below_at (λ j. below (one j) n) e t j l) g m)

  -- a count that is 0 exactly when all groups are right is the test
  count_checks : (wrong : ℕ) → (wrong ≡ 0 → (j : ℕ) → j < e → Right j) → (((j : ℕ) → j < e → Right j) → wrong ≡ 0) → eqb wrong 0 ≡ checks hs c e q n
  count_checks wrong f g = same_test (eqb wrong 0) (checks hs c e q n) (λ t. checks_of (f (eqb→eq wrong 0 t))) (λ t. eqb_of wrong 0 (g (checks_at t)))

  -- the inputs, encoder by encoder
  inputs_of_lem : (f : ℕ → ℕ) → 1 ≤ e → ((j t : ℕ) → j < e → t < (q - 1) * n → f (e * t + j) ≡ forced_input (hs j) (c j) q t)
      → (d : ℕ) → d < e * ((q - 1) * n) → f d ≡ inputs_of hs c e q d
  unfolding inputs_of
  inputs_of_lem f some same d l =
      ap f (sym (div-add-mod d e)) ∙ same (d % e) (d / e) (mod-lt d some) ((div-lt_iff_lt-mul {k = e} some).1 (rw (mul_comm ((q - 1) * n) e) l))

-- inputs of two encoders are apart
apart : (e t j k n : ℕ) → j < n → n < e → e * t + j ≡ e * k + n → ⊥
apart e t j k n l h same =
    let low : (e * t + j) % e ≡ j = rem_of e t j (e * t + j) (omega arith) (rw (mul_comm e t)) in
    let high : (e * t + j) % e ≡ n = rem_of e k n (e * t + j) h (same ∙ rw (mul_comm e k)) in
    omega arith

-- the first n encoders' inverse: their histories and inputs, all else as it was; a count that is 0 exactly when all their groups are right
pub record Passed (hs : ℕ → ℕ) (c : ℕ → ℕ → ℕ) (e q groups n : ℕ) (histories : List ℕ) (wrong : ℕ) (inputs₀ inputs : List ℕ) : Type 0 where
  pub two : length histories ≡ 2
  pub moved : (j : ℕ) → j < n → get_or histories j 0 ≡ forced_history (hs j) (c j) q ((q - 1) * groups)
  pub others : (j : ℕ) → n ≤ j → get_or histories j 0 ≡ hs j
  pub same : length inputs ≡ length inputs₀
  pub done : (j : ℕ) → j < n → (t : ℕ) → t < (q - 1) * groups → get_or inputs (e * t + j) 0 ≡ forced_input (hs j) (c j) q t
  pub rest : (l : ℕ) → ((j : ℕ) → j < n → (t : ℕ) → t < (q - 1) * groups → l ≡ e * t + j → ⊥) → get_or inputs l 0 ≡ get_or inputs₀ l 0
  pub sound : wrong ≡ 0 → (j : ℕ) → j < n → GroupsRight (hs j) (c j) q groups
  pub full : ((j : ℕ) → j < n → GroupsRight (hs j) (c j) q groups) → wrong ≡ 0
  pub few : wrong ≤ 1296 * n

module _ (hs : ℕ → ℕ) (c : ℕ → ℕ → ℕ) (e q groups : ℕ) where
  -- none
  pub passed_none : (histories inputs : List ℕ) → length histories ≡ 2 → ((j : ℕ) → get_or histories j 0 ≡ hs j)
      → Passed hs c e q groups 0 histories 0 inputs inputs
  passed_none histories inputs two own = record {
    two = two;
    moved = λ j l. absurd (omega arith);
    others = λ j l. own j;
    same = refl;
    done = λ j l. absurd (omega arith);
    rest = λ l out. refl;
    sound = λ z j l. absurd (omega arith);
    full = λ right. refl;
    few = omega arith;
  }

  module _ (n : ℕ) (histories : List ℕ) (wrong : ℕ) (inputs₀ inputs : List ℕ)
      (p : Passed hs c e q groups n histories wrong inputs₀ inputs) where
    -- one more
    pub passed_more : (h wrong' : ℕ) (inputs' : List ℕ) → n < e → e ≤ 2 → EncoderDone (hs n) (c n) q groups e n h wrong' inputs inputs'
        → Passed hs c e q groups (n + 1) (set histories n h) (wrong + wrong') inputs₀ inputs'
    passed_more h wrong' inputs' l few d =
        let here : n < length histories = omega (arith, p.two) in
        record {
          two = length-set histories n h ∙ p.two;
          moved = below_more _ n
              (λ j b. get_or-set_other histories n j h 0 (λ r. omega (arith, r)) ∙ p.moved j b)
              (get_or-set_same histories n h 0 here ∙ d.part.moved);
          others = λ j b. get_or-set_other histories n j h 0 (λ r. omega (arith, r)) ∙ p.others j (omega arith);
          same = d.part.forced.same ∙ p.same;
          done = below_more _ n
              (λ j b t m. d.part.forced.rest (e * t + j) (λ k i. apart e t j k n b l) ∙ p.done j b t m)
              (λ t m. d.part.forced.done t m);
          rest = λ i out.
              d.part.forced.rest i (λ t m. out n (omega arith) t m) ∙ p.rest i (λ j b t m. out j (omega arith) t m);
          sound = λ z. below_more _ n (p.sound (omega (arith, z))) (d.tally.sound (omega (arith, z)));
          full = λ right.
              let x : wrong ≡ 0 = p.full (λ j b. right j (omega arith)) in
              let y : wrong' ≡ 0 = d.tally.full (right n (omega arith)) in
              omega arith;
          few = omega (arith, p.few, d.tally.few, d.few);
        }

    -- all
    pub passed_all : 1 ≤ e → n ≡ e → EncodersDone hs c e q groups histories (eqb wrong 0) inputs₀ inputs
    passed_all some all =
        record {
          two = p.two;
          moved = λ j l. p.moved j (omega arith);
          others = λ j l. p.others j (omega arith);
          filled = record {
            same = p.same;
            done = λ d l.
                ap (λ (k : ℕ). get_or inputs k 0) (zero-add d)
                ∙ inputs_of_lem hs c e q groups (λ k. get_or inputs k 0) some (λ j t b m. p.done j (omega arith) t m) d l;
            before = λ d l. absurd (omega arith);
            after = λ d l. p.rest d (λ j b t m r. omega (arith, r, rw mul-suc at (mul-le-mul_left e m)));
          };
          checked = count_checks hs c e q groups wrong
              (λ z j l. p.sound z j (omega arith))
              (λ right. p.full (λ j b. right j (omega arith)));
        }

-- what the call for encoder j asks, after any of the histories
pub encoder_asked : {inputs coded histories : List ℕ} {e q n : ℕ} → EncodersAsked inputs coded histories e q n
    → (k : ℕ) → k < 2 → (j : ℕ) → j < e → (inputs' : List ℕ) → length inputs' ≡ length inputs
    → EncoderAsked inputs' coded (histories_in histories k) q n (1296 * j) e j
encoder_asked {inputs} {coded} {histories} {e} {q} {n} p k l j h inputs' same =
    let two : e ≤ 2 = encoders_most e p.one_or_two in
    record {
      rate = p.rate;
      few = p.few;
      small = p.six_bits k l;
      near = omega arith;
      source = source j h two;
      two = two;
      encoder = h;
      room = omega (arith, p.room);
      one_bit = λ i b. p.one_bit j i h b;
    }
  where
    source : (j : ℕ) → j < e → e ≤ 2 → 1296 * j + q * n ≤ length coded
    source zero h two = omega (arith, p.source, p.sized, mul-le-mul_right (q * n) h)
    source (suc zero) h two = omega (arith, p.source, p.sized, mul-le-mul_right (q * n) h)
    source (suc (suc j)) h two = absurd (omega arith)
