-- The decoder looks at a symbol's own label bits, coded bits and inputs only; its test passes exactly for the label bits that some inputs give.
-- Assumes of the plan that it fits.
use mathlib.Core.Path.{◌≡◌, refl, ap₂}
use mathlib.Core.Bool.{Bool, true, false, cond}
use mathlib.Core.Logic.{⊎_elim, ◌↔◌}
use Prim.Native.Nat.{ℕ, zero, suc, ◌+◌, ◌-◌, ◌*◌, ◌/◌, ◌%◌, ◌<◌, ◌≤◌}
use native.Mathlib.Nat.{mod-lt, mul_comm, div-lt_iff_lt-mul, mul-le-mul_left, mul-suc}
use native.Mathlib.Omega.{arith}
use lib.Dec.{eqb, ltb}
use borrow.Author.Tests.{lt-ltb, le-ltb}
use Rattle.laws.specs.Test.{both, below}
use Rattle.laws.proofs.Search.{lt_or_le}
use Rattle.laws.proofs.Reflect.{T_true, true_T}
use Rattle.chain.specs.declared.plan.Plan.{Plan}
use Rattle.chain.specs.Plan.{groups_of, Fits}
use Rattle.chain.specs.Labels.{share}
use Rattle.chain.specs.Decoder.{sum_after, history_after, coded_after, forcing_bit, forced_push, forced_history, forced_input, dealt, inputs_of, checks, coded_in, decoded_input, decodes}
use Rattle.chain.proofs.Counts.{encoders_some, kept_low}
use Rattle.chain.proofs.KeptLaws.{step_below}
use Rattle.chain.proofs.Window.{share_is}
use Rattle.chain.proofs.Inverse.{forcing_below}
use Rattle.chain.proofs.Dealing.{history_ext, coded_ext}
use Rattle.chain.proofs.Machine.{history_small}
use Rattle.chain.proofs.ParserLaws.{parses}
use Rattle.chain.proofs.InterleaverLaws.{interleaves_plan}
use Rattle.chain.proofs.DecodeLaws.{decoded_bit, given_decodes, decoded_labels}
use Rattle.decoder.specs.Decoded.{history_moved}
use Rattle.decoder.specs.Statements.{SomeInputs}

-- tests that agree below n
below_ext : (f g : ℕ → Bool) (n : ℕ) → ((k : ℕ) → k < n → f k ≡ g k) → below f n ≡ below g n
below_ext f g zero e = refl
below_ext f g (suc n) e = ap₂ both (e n (omega arith)) (below_ext f g n (λ k l. e k (omega arith)))

-- one encoder: coded bits of n groups that agree force the same
module _ (q : ℕ) (two : 2 ≤ q) (h : ℕ) (c c' : ℕ → ℕ) (n : ℕ) (same : (i : ℕ) → i < q * n → c i ≡ c' i) where
  pub forced_history_ext : (t : ℕ) → t ≤ (q - 1) * n → forced_history h c q t ≡ forced_history h c' q t
  unfolding forced_history
  forced_history_ext zero l = refl
  forced_history_ext (suc t) l =
      ap₂ (forced_push (t % (q - 1) + 1)) (same (forcing_bit q t) (forcing_below q two t n l)) (forced_history_ext t (omega arith))

  pub forced_ext : (t : ℕ) → t < (q - 1) * n → forced_input h c q t ≡ forced_input h c' q t
  unfolding forced_input
  forced_ext t l = ap₂ (sum_after (t % (q - 1) + 1)) (forced_history_ext t (omega arith)) (same (forcing_bit q t) (forcing_below q two t n l))

  group_below : (g : ℕ) → g < n → q * g < q * n
  group_below g l = omega (arith, rw mul-suc at (mul-le-mul_left q l))

  -- and pass the same tests
  check_ext : (g : ℕ) → g < n → eqb (c (q * g)) (coded_after h (forced_input h c q) q (q * g)) ≡ eqb (c' (q * g)) (coded_after h (forced_input h c' q) q (q * g))
  check_ext g l =
      let k : q * g < q * n = group_below g l in
      ap₂ eqb (same (q * g) k) (coded_ext h (forced_input h c q) (forced_input h c' q) q (q * g)
      (λ s b. forced_ext s (omega (arith, step_below q (q * g) two n k))))

-- all encoders
module _ (hs : ℕ → ℕ) (c c' : ℕ → ℕ → ℕ) (e q n : ℕ) (some : 1 ≤ e) (two : 2 ≤ q)
    (same : (j i : ℕ) → j < e → i < q * n → c j i ≡ c' j i) where
  pub inputs_ext : (d : ℕ) → d < e * ((q - 1) * n) → inputs_of hs c e q d ≡ inputs_of hs c' e q d
  unfolding inputs_of
  inputs_ext d l =
      let j : d % e < e = mod-lt d some in
      forced_ext q two (hs (d % e)) (c (d % e)) (c' (d % e)) n (λ i b. same (d % e) i j b) (d / e)
      ((div-lt_iff_lt-mul {k = e} some).1 (rw (mul_comm ((q - 1) * n) e) l))

  pub checks_ext : checks hs c e q n ≡ checks hs c' e q n
  unfolding checks
  checks_ext = below_ext _ _ e (λ j l. below_ext _ _ n (λ g b. check_ext q two (hs j) (c j) (c' j) n (λ i m. same j i l m) g b))

module _ (p : Plan) (fits : Fits p) (hs : ℕ → ℕ) where
  some : 1 ≤ p.encoders
  some = encoders_some p.encoders fits.encoders

  two : 2 ≤ p.kept
  two = kept_low p.kept fits.kept

  module _ (lab lab' : ℕ → ℕ → ℕ) (same : (i r : ℕ) → i < p.streams → r < p.block → lab i r ≡ lab' i r) where
    coded_in_ext : (j y : ℕ) → j < p.encoders → y < p.kept * groups_of p → coded_in p lab j y ≡ coded_in p lab' j y
    unfolding coded_in
    coded_in_ext j y h l =
        let b : y < share p = rw (share_is p fits) l in
        let li = (parses p fits).stream_lt y in
        same _ _ li ((interleaves_plan p fits _ li).place_lt _ ((parses p fits).bit_lt j y h b))

    -- the inputs depend on the symbol's label bits only
    pub decoded_ext : (d : ℕ) → d < p.dbps → decoded_input p hs lab d ≡ decoded_input p hs lab' d
    decoded_ext d l = inputs_ext hs (coded_in p lab) (coded_in p lab') p.encoders p.kept (groups_of p) some two coded_in_ext d (rw fits.dbps_groups at l)

    -- and so does the test
    pub decodes_ext : decodes p hs lab ≡ decodes p hs lab'
    decodes_ext = checks_ext hs (coded_in p lab) (coded_in p lab') p.encoders p.kept (groups_of p) some two coded_in_ext

  -- a history after a symbol depends on the symbol's inputs only
  pub moved_ext : (X X' : ℕ → ℕ) → ((d : ℕ) → d < p.dbps → X d ≡ X' d) → (j : ℕ) → history_moved p hs X j ≡ history_moved p hs X' j
  unfolding history_moved
  moved_ext X X' same j =
      ⊎_elim
      (λ (l : j < p.encoders).
      simp (lt-ltb j p.encoders) (history_ext (hs j) (dealt X p.encoders j) (dealt X' p.encoders j) ((p.kept - 1) * groups_of p)
      (λ t b. same (p.encoders * t + j) (rw fits.dbps_groups (omega (arith, rw mul-suc at (mul-le-mul_left p.encoders b)))))))
      (λ (l : p.encoders ≤ j). simp (le-ltb j p.encoders))
      (lt_or_le j p.encoders)

  -- the test passes exactly for the label bits that some inputs give
  pub code_exactly : (lab : ℕ → ℕ → ℕ) → ((i r : ℕ) → i < p.streams → r < p.block → lab i r < 2) → (decodes p hs lab ≡ true) ↔ SomeInputs p hs lab
  code_exactly lab bits = (found, given)
    where
      found : decodes p hs lab ≡ true → SomeInputs p hs lab
      found e = record {
        X = decoded_input p hs lab;
        bits = λ d l. decoded_bit p hs lab d;
        gives = decoded_labels p fits hs lab bits (true_T _ e);
      }

      given : SomeInputs p hs lab → decodes p hs lab ≡ true
      given s = T_true (decodes p hs lab) (given_decodes p fits hs s.X lab s.bits s.gives)

-- a history stays six bits
pub moved_small : (p : Plan) (hs X : ℕ → ℕ) (j : ℕ) → hs j < 64 → history_moved p hs X j < 64
unfolding history_moved
moved_small p hs X j l = go (ltb j p.encoders)
  where
    go : (t : Bool) → cond t (history_after (hs j) (dealt X p.encoders j) ((p.kept - 1) * groups_of p)) (hs j) < 64
    go true = history_small _ _ _ l
    go false = l
