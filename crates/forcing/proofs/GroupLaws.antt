-- The code's steps of a group, and its groups of a symbol: what each call asks, and what all of them leave.
-- Assumes nothing.
use mathlib.Core.Path.{◌≡◌, ◌∙◌, refl, sym, ap, subst}
use mathlib.Core.List.{List}
use mathlib.Core.Bool.{not}
use mir.Val.{bool_byte}
use lib.Dec.{eqb}
use Prim.Native.Nat.{ℕ, suc, ◌+◌, ◌-◌, ◌*◌, ◌<◌, ◌≤◌}
use native.Mathlib.Nat.{mul-le-mul, mul-le-mul_left, mul-suc}
use native.Mathlib.Omega.{arith}
use lib.ListN.{length, get_or}
use Rattle.chain.specs.Decoder.{sum_after}
use Rattle.chain.proofs.Counts.{kept_low, kept_high}
use Rattle.forcing.specs.Asked.{StepDone, Part, GroupAsked, EncoderAsked, EncoderDone, Tally}
use Rattle.forcing.proofs.StepLaws.{part_none, part_more, part_on}
use Rattle.forcing.proofs.TallyLaws.{tally_none, tally_more}

-- the steps of a group
module _ {inputs coded : List ℕ} {h q e to i : ℕ} (p : GroupAsked inputs coded h q e to i) where
  abbrev bit : ℕ → ℕ
  bit k = get_or coded (i + k) 0

  pub begun : Part h bit q e to 0 h inputs inputs
  begun = part_none h bit q e to inputs p.small

  -- what step t leaves
  pub step_done : {t g g' : ℕ} {d d' : List ℕ} → Part h bit q e to t g inputs d → t + 1 < q
      → StepDone (t + 1) g (bit (t + 1)) (e * t + to) g' d d' → Part h bit q e to (t + 1) g' inputs d'
  step_done {t} past l s = part_more h bit q e to p.some l refl (p.room t l) past s

-- the groups of a symbol
module _ {inputs coded : List ℕ} {h q n base e j : ℕ} (p : EncoderAsked inputs coded h q n base e j) where
  abbrev own : ℕ → ℕ
  own k = get_or coded (base + k) 0

  two : 2 ≤ q
  two = kept_low q p.rate

  pub none : Part h own q e j ((q - 1) * 0) h inputs inputs × Tally h own q 0 0
  none = (
    subst (λ (k : ℕ). Part h own q e j k h inputs inputs) (omega arith) (part_none h own q e j inputs p.small),
    tally_none h own q two,
  )

  module _ {g : ℕ} (l : g < n) where
    -- where group g's coded bits and inputs stand
    abbrev i : ℕ
    i = base + q * g

    abbrev to : ℕ
    to = e * ((q - 1) * g) + j

    -- the numbers of a turn
    pub record Turn : Type 0 where
      pub kept_low : 2 ≤ q
      pub source : i + q ≤ length coded
      pub inside : q * g + q ≤ q * n
      pub low : i ≤ 9072
      pub near : to ≤ 12960
      pub room : to + e * (q - 1) ≤ length inputs + j

    pub turn : Turn
    turn =
        let a : q * suc g ≤ q * n = mul-le-mul_left q l in
        let b : (q - 1) * suc g ≤ (q - 1) * n = mul-le-mul_left (q - 1) l in
        let d : e * ((q - 1) * suc g) ≤ e * ((q - 1) * n) = mul-le-mul_left e b in
        let x : q * n ≤ 7776 = mul-le-mul {n₂ = 6} {m₂ = 1296} (kept_high q p.rate) p.few in
        let y : (q - 1) * n ≤ 6480 = mul-le-mul {n₂ = 5} {m₂ = 1296} (omega (arith, kept_high q p.rate)) p.few in
        let z : e * ((q - 1) * n) ≤ 12960 = mul-le-mul {n₂ = 2} {m₂ = 6480} p.two y in
        let a' : q * suc g ≡ q * g + q = mul-suc q g in
        let d' : e * ((q - 1) * suc g) ≡ e * ((q - 1) * g) + e * (q - 1) = ap (λ (k : ℕ). e * k) (mul-suc (q - 1) g) ∙ omega arith in
        let some : 1 * (q - 1) ≤ e * (q - 1) = mul-le-mul {n₂ = e} {m₂ = q - 1} (omega (arith, p.encoder)) (omega arith) in
        record {
          kept_low = two;
          source = omega (arith, p.source);
          inside = omega arith;
          low = omega (arith, p.near, p.source);
          near = omega (arith, p.encoder, p.two, two);
          room = omega (arith, p.room);
        }

    at : (k : ℕ) → base + (q * g + k) ≡ i + k
    at k = omega arith

    -- the coded bits of the group are bits
    pub group_bit : (k : ℕ) → k < q → get_or coded (i + k) 0 < 2
    group_bit k b = rw (sym (at k)) (p.one_bit (q * g + k) (omega (arith, turn.inside)))

    module _ {x : ℕ} {d : List ℕ} (past : Part h own q e j ((q - 1) * g) x inputs d) where
      pub group_asked : GroupAsked d coded x q e to i
      group_asked =
          let t = turn in
          record {
            rate = p.rate;
            small = past.small;
            some = omega (arith, p.encoder);
            two = p.two;
            near = t.near;
            low = t.low;
            source = t.source;
            room = λ s b.
                let r : e * suc (suc s) ≤ e * q = mul-le-mul_left e (omega arith) in
                let r' : e * suc (suc s) ≡ e * s + (e + e) = mul-suc e (suc s) ∙ omega (arith, mul-suc e s) in
                let r'' : e * q ≡ e * (q - 1) + e = ap (λ (k : ℕ). e * k) (omega arith) ∙ mul-suc e (q - 1) ∙ omega arith in
                omega (arith, r, r', r'', t.room, p.encoder, past.forced.same);
            one_bit = group_bit;
          }

      -- a group more
      pub group_done : {x' : ℕ} {d' : List ℕ} → Part x (λ k. get_or coded (i + k) 0) q e to (q - 1) x' d d'
          → Part h own q e j ((q - 1) * (g + 1)) x' inputs d'
      group_done {x'} {d'} new =
          part_on h own q two g (omega (arith, p.encoder)) refl past
          (subst (λ (c : ℕ → ℕ). Part x c q e to (q - 1) x' d d') (λ r k. get_or coded (sym (at k) r) 0) new)

      -- and its first bit counted
      pub counted : {bad b a w : ℕ} → Tally h own q g bad → b ≡ sum_after 1 x (get_or coded (i + 1) 0) → a ≡ sum_after 0 x b
          → w ≡ bool_byte (not (eqb (get_or coded i 0) a)) → Tally h own q (g + 1) (bad + w)
      counted {bad} {b} {a} {w} y eb ea counts =
          tally_more h own q two g bad w x b a y past.moved (eb ∙ ap (λ (k : ℕ). sum_after 1 x (get_or coded k 0)) (sym (at 1))) ea counts

  -- the end
  pub all_done : {g x bad : ℕ} {d : List ℕ} → g ≡ n → Part h own q e j ((q - 1) * g) x inputs d → Tally h own q g bad → EncoderDone h own q n e j x bad inputs d
  all_done {g} {x} {bad} {d} same past y = record {
    part = subst (λ (k : ℕ). Part h own q e j ((q - 1) * k) x inputs d) same past;
    tally = subst (λ (k : ℕ). Tally h own q k bad) same y;
    few = p.few;
  }
