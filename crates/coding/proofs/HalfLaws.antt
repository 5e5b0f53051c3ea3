-- Half labels read through the table of label sources: the bits of one half, the halves of a run, and the rotation of a stream as two runs.
-- Assumes of the plan that it fits.
use Rattle.std.proofs.Common.{◌≡◌, ◌∙◌, refl, sym, ap, ap₂, subst, List, ⊎_elim, ℕ, ◌+◌, ◌*◌, ◌/◌, ◌%◌, ◌<◌, ◌≤◌, mul-le-mul}
use Rattle.std.proofs.Common.{mul-le-mul_right, arith, T, length, get_or}
use Rattle.std.proofs.Math.Arith.{digits_lt}
use Rattle.laws.specs.Test.{among}
use Rattle.laws.specs.Claim.{Claim, ◌is◌, ◌under◌, ◌and◌, up_to, each, given, unless, Holds, sound}
use Rattle.laws.specs.Filled.{Filled}
use Rattle.laws.proofs.Filling.{fill_as, fill_end, fill_from, fill_join}
use Rattle.laws.proofs.Radix.{quot_of}
use Rattle.laws.proofs.Search.{lt_or_le}
use Rattle.chain.specs.Plan.{widths, bit_counts, Fits, axis_counts}
use Rattle.chain.specs.declared.plan.Plan.{Plan}
use Rattle.chain.specs.Parser.{axis_bits, encoder_of, index_of}
use Rattle.chain.specs.Interleaver.{rotation, shift_of, source}
use Rattle.chain.specs.Labels.{written, halves_of}
use Rattle.chain.proofs.ParserLaws.{parses}
use Rattle.chain.proofs.InterleaverLaws.{shift_lt, stream_below_four, plan_block, interleaves_plan}
use Rattle.chain.proofs.Counts.{carriers_few, axis_known, bits_some}
use Rattle.chain.proofs.LabelLaws.{written_from}
use Rattle.sources.specs.Sources.{label_source}
use Rattle.sources.proofs.SourceLaws.{small}
use Rattle.sources.proofs.TableLaws.{coded_room, place_there, turned_bit}
use Rattle.coding.specs.Halves.{half_at, label_in, half_in, HalfRunAsked, HalvesFilled}

-- a half label of one bit
pub one_bit_lem : (f : ℕ → ℕ) (s m a : ℕ) → s ≡ 1 → a ≡ f m → a ≡ written f (m * s) s
unfolding written
one_bit_lem f s m a e first =
    let at : f m ≡ f (m * 1 + 0) = ap f (omega arith) in
    rw e (omega (arith, first ∙ at))

-- a half label of two bits
pub two_bits_lem : (f : ℕ → ℕ) (s m a b : ℕ) → s ≡ 2 → a ≡ f (2 * m) → b ≡ f (2 * m + 1) → a * 2 + b ≡ written f (m * s) s
unfolding written
two_bits_lem f s m a b e first second =
    let at : f (2 * m) ≡ f (m * 2 + 0) = ap f (omega arith) in
    let next : f (2 * m + 1) ≡ f (m * 2 + 1) = ap f (omega arith) in
    rw e (omega (arith, first ∙ at, second ∙ next))

-- a half label of three bits
pub three_bits_lem : (f : ℕ → ℕ) (s m a b d : ℕ) → s ≡ 3 → a ≡ f (3 * m) → b ≡ f (3 * m + 1) → d ≡ f (3 * m + 2)
    → a * 4 + b * 2 + d ≡ written f (m * s) s
unfolding written
three_bits_lem f s m a b d e first second third =
    let at : f (3 * m) ≡ f (m * 3 + 0) = ap f (omega arith) in
    let next : f (3 * m + 1) ≡ f (m * 3 + 1) = ap f (omega arith) in
    let last : f (3 * m + 2) ≡ f (m * 3 + 2) = ap f (omega arith) in
    rw e (omega (arith, first ∙ at, second ∙ next, third ∙ last))

-- half labels of a number of carriers, as they are counted
abbrev pub Counted : (bits carriers n : ℕ) → Type 0
Counted bits carriers n = (bits < 2 → n ≡ carriers) × (2 ≤ bits → n ≡ 2 * carriers)

abbrev axis_claim : Claim
axis_claim = each bit_counts λ b. given b 1 (axis_bits b is 1) and unless b 1 (b is 2 * axis_bits b)

axes : Holds axis_claim
unfolding axis_bits
axes = sound axis_claim tt

-- they hold the carriers' bits
halves_times : (b c n : ℕ) → T (among bit_counts b) → Counted b c n → n * axis_bits b ≡ c * b
halves_times b c n h e = ⊎_elim
    (λ (l : b < 2).
    let one : b ≡ 1 = omega (arith, bits_some b h) in
    ap₂ (λ (x y : ℕ). x * y) (e.0 l) ((axes b h).0 one ∙ sym one))
    (λ (l : 2 ≤ b).
    let regroup : 2 * c * axis_bits b ≡ c * (2 * axis_bits b) = omega arith in
    ap (λ (x : ℕ). x * axis_bits b) (e.1 l) ∙ regroup ∙ ap (λ (x : ℕ). c * x) (sym ((axes b h).1 (λ q. omega (arith, q)))))
    (lt_or_le b 2)

counted_most : (b c n : ℕ) → Counted b c n → n ≤ 2 * c
counted_most b c n e = ⊎_elim (λ (l : b < 2). omega (arith, e.0 l)) (λ (l : 2 ≤ b). omega (arith, e.1 l)) (lt_or_le b 2)

abbrev turn_claim : Claim
turn_claim = each widths λ w. up_to 4 λ i. (i * 2 % 3 + 3 * (i / 3)) * rotation w under 109

turns : Holds turn_claim
unfolding rotation
turns = sound turn_claim tt

-- where stream i's half labels begin in the table, and how many they are
pub record Turned (p : Plan) (i s count first : ℕ) : Type 0 where
  pub axis_is : s ≡ axis_bits p.bits
  pub count_is : count ≡ halves_of p
  pub whole : count * s ≡ p.block
  pub shift_is : first * s ≡ shift_of p.width p.bits i
  pub less : first < count
  pub few : count ≤ 216

module _ (p : Plan) (f : Fits p) where
  -- a plan has few carriers
  pub carriers_most : p.carriers ≤ 108
  carriers_most = omega (arith, f.carriers_is, carriers_few p.width)

  -- the halves that the code counts of all carriers are a stream's
  pub counted_halves : (count : ℕ) → Counted p.bits p.carriers count → count ≡ halves_of p
  counted_halves count e =
      sym (quot_of (axis_bits p.bits) count 0 p.block (small p f).axis_least
      (f.block_is ∙ sym (halves_times p.bits p.carriers count f.bits e) ∙ omega arith))

  halves_counted : Counted p.bits p.carriers (halves_of p)
  halves_counted =
      ⊎_elim
      (λ (l : p.bits < 2). counted p.carriers (λ h. refl) (λ h. absurd (omega arith)))
      (λ (l : 2 ≤ p.bits). counted (2 * p.carriers) (λ h. absurd (omega arith)) (λ h. refl))
      (lt_or_le p.bits 2)
    where
      counted : (n : ℕ) → (p.bits < 2 → n ≡ p.carriers) → (2 ≤ p.bits → n ≡ 2 * p.carriers) → Counted p.bits p.carriers (halves_of p)
      counted n one two = subst (λ (k : ℕ). Counted p.bits p.carriers k) (counted_halves n (one, two)) (one, two)

  module _ (i : ℕ) (hi : i < p.streams) where
    -- a stream's halves are among the streams' halves
    pub stream_room : (count : ℕ) → count ≡ halves_of p → (i + 1) * count ≤ p.streams * halves_of p
    stream_room count e = rw e (mul-le-mul_right (halves_of p) (omega arith))

    -- a stream is rotated by at most 108 carriers
    pub rotated_few : (n : ℕ) → n ≡ (i * 2 % 3 + 3 * (i / 3)) * rotation p.width → n ≤ 108
    rotated_few n e = omega (arith, e, turns p.width f.width i (stream_below_four p f i hi))

    -- a stream's bits stand a few places on
    pub shift_few : (s : ℕ) → s ≡ axis_bits p.bits → i * s ≤ 12
    shift_few s e = mul-le-mul {n₂ = 4} {m₂ = 3} (omega (arith, stream_below_four p f i hi)) (omega (arith, e, small p f))

    -- what the code counts
    pub turned : (s count carriers first : ℕ) → s ≡ axis_bits p.bits → count ≡ halves_of p
        → carriers ≡ (i * 2 % 3 + 3 * (i / 3)) * rotation p.width → Counted p.bits carriers first → Turned p i s count first
    unfolding shift_of
    turned s count carriers first axis own rotated begun =
        let counted : Counted p.bits p.carriers count = subst (λ (k : ℕ). Counted p.bits p.carriers k) (sym own) halves_counted in
        let whole : count * s ≡ p.block =
        ap (λ (x : ℕ). count * x) axis ∙ halves_times p.bits p.carriers count f.bits counted ∙ sym f.block_is in
        let shift_is : first * s ≡ shift_of p.width p.bits i =
        ap (λ (x : ℕ). first * x) axis ∙ halves_times p.bits carriers first f.bits begun ∙ ap (λ (x : ℕ). x * p.bits) rotated in
        let below : first * s < count * s = omega (
          arith,
          plan_block p f,
          whole,
          shift_is,
          shift_lt p.width p.bits i f.width f.bits (stream_below_four p f i hi),
        ) in
        record {
          axis_is = axis;
          count_is = own;
          whole = whole;
          shift_is = shift_is;
          less = ⊎_elim (λ (l : first < count). l) (λ (l : count ≤ first). absurd (omega (arith, below, mul-le-mul_right s l))) (lt_or_le first count);
          few = omega (arith, counted_most p.bits p.carriers count counted, carriers_most);
        }

    module _ {s count first : ℕ} (t : Turned p i s count first) where
      module _ (table : List ℕ) (tabled : (r : ℕ) → r < p.block → get_or table r 0 ≡ label_source p r) where
        -- the code's number of bits of an axis
        on : (r : ℕ) → get_or table r 0 + i * s ≡ get_or table r 0 + i * axis_bits p.bits
        on r = ap (λ (x : ℕ). get_or table r 0 + i * x) t.axis_is

        -- the table's place r, as many places on, is one of the coded bits
        reached : (r : ℕ) → r < p.block → get_or table r 0 + i * s < 2592
        reached r l =
            let k = source p.width p.bits 0 r in
            let inside : k < p.block = (interleaves_plan p f 0 (omega arith)).source_lt r l in
            let n = small p f in
            omega (
              arith,
              on r ∙ place_there p f i hi table tabled r l,
              coded_room p.coded p.encoders (encoder_of (axis_bits p.bits) p.encoders k)
                  (index_of (axis_bits p.bits) p.streams p.encoders i k) (omega (arith, (parses p f).encoder_lt k)) n.encoders f.coded_most
                  ((parses p f).encoder_lt k) ((parses p f).index_lt i k hi inside),
            )

        -- the half label of the table's bits that is half label m of stream i: the rotation on, and round
        turned_half : (coded : List ℕ) (m m' g : ℕ) → m < count → m' < count → m + first ≡ g * count + m'
            → half_at coded table s (i * s) m' ≡ half_in p coded i m
        turned_half coded m m' g l l' e =
            written_from (λ r. get_or coded (get_or table r 0 + i * s) 0 % 2) (label_in p coded i) (m' * s) (m * s) s
            (λ k b. ap (λ (x : ℕ). get_or coded x 0 % 2)
            (on (m' * s + k) ∙ turned_bit p f i hi table tabled (m * s + k) (m' * s + k) g (in_block m k l b) (in_block m' k l' b) (turn k)))
            ∙ ap (λ (x : ℕ). written (label_in p coded i) (m * x) x) t.axis_is
          where
            in_block : (n k : ℕ) → n < count → k < s → n * s + k < p.block
            in_block n k h b = omega (arith, digits_lt h b, t.whole)

            turn : (k : ℕ) → m * s + k + shift_of p.width p.bits i ≡ g * p.block + (m' * s + k)
            turn k = omega (arith, ap (λ (x : ℕ). x * s) e, ap (λ (x : ℕ). g * x) t.whole, t.shift_is)

        -- the halves from `first` on and then those before it are stream i's
        pub turned_halves : (coded : List ℕ) {h₀ h₁ h₂ : List ℕ} {n : ℕ} → n + first ≡ count
            → Filled 0 0 (λ m. half_at coded table s (i * s) (first + m)) n h₀ h₁
            → Filled 0 n (λ m. half_at coded table s (i * s) (0 + m)) first h₁ h₂
            → Filled 0 0 (half_in p coded i) (halves_of p) h₀ h₂
        turned_halves coded {h₀} {h₁} {h₂} {n} all one two =
            let less = t.less in
            fill_end 0 0 (half_in p coded i) (all ∙ t.count_is)
            (fill_join 0 0 (half_in p coded i) n first h₀ h₁ h₂
            (fill_as 0 0 _ _ n h₀ h₁ (λ m l. turned_half coded m (first + m) 0 (omega arith) (omega arith) (omega arith)) one)
            (fill_from 0 _ (omega arith)
            (fill_as 0 n _ _ first h₁ h₂ (λ m l. turned_half coded (n + m) (0 + m) 1 (omega arith) (omega arith) (omega arith)) two)))

        -- what a run within the stream's halves asks
        pub turned_run : {halves coded : List ℕ} (from : ℕ) → length coded ≡ 2592 → p.block ≤ length table → from + length halves ≤ count
            → HalfRunAsked halves coded table s (i * s) from
        turned_run {halves} {coded} from sized wide low =
            let bits : (from + length halves) * s ≤ count * s = mul-le-mul_right s low in
            let whole = t.whole in
            record {
              axis = subst (λ (x : ℕ). T (among axis_counts x)) (sym t.axis_is) (axis_known p.bits f.bits);
              few = omega (arith, t.few);
              inside = omega arith;
              reached = λ r l. omega (arith, reached r (omega arith), sized);
            }

-- one stream more
pub halves_more : (p : Plan) (f : ℕ → ℕ → ℕ) (i : ℕ) (h₀ h h' : List ℕ) → HalvesFilled p f i h₀ h
    → Filled 0 (i * halves_of p) (λ m. f i m) (halves_of p) h h' → HalvesFilled p f (i + 1) h₀ h'
halves_more p f i h₀ h h' past new = record {
  same = new.same ∙ past.same;
  done = λ j m l b. ⊎_elim
      (λ (before : j < i). new.before (j * halves_of p + m) (digits_lt before b) ∙ past.done j m before b)
      (λ (last : i ≤ j).
      let e : j ≡ i = omega arith in
      subst (λ (k : ℕ). get_or h' (k * halves_of p + m) 0 ≡ f k m) (sym e) (new.done m b))
      (lt_or_le j i);
  rest = λ k l. new.after k (omega arith) ∙ past.rest k (omega arith);
}
