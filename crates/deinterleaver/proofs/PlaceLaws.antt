-- Label bits scattered through the table of label sources: a run, a stream as two runs round its rotation, and all streams.
-- Assumes of the plan that it fits.
use mathlib.Core.Path.{◌≡◌, ◌∙◌, refl, sym, ap, ap₂, subst}
use mathlib.Core.List.{List}
use mathlib.Core.Logic.{⊎_elim}
use Prim.Native.Nat.{ℕ, ◌+◌, ◌-◌, ◌*◌, ◌/◌, ◌%◌, ◌<◌, ◌≤◌}
use native.Mathlib.Nat.{mul-le-mul, mul-le-mul_right}
use native.Mathlib.Omega.{arith}
use lib.ListN.{length, get_or, take, drop}
use Rattle.std.proofs.lemmas.List.{get_or-take, get_or-drop, length-take-le, length-drop}
use Rattle.laws.specs.Scattered.{Scattered}
use Rattle.laws.proofs.Search.{lt_or_le}
use Rattle.chain.specs.declared.plan.Plan.{Plan}
use Rattle.chain.specs.Plan.{Fits}
use Rattle.chain.specs.Parser.{axis_bits, bit_of}
use Rattle.chain.specs.Interleaver.{rotation, shift_of, place}
use Rattle.chain.specs.Labels.{share}
use Rattle.chain.specs.Statements.{coded_stream, coded_place, place_encoder, place_index}
use Rattle.chain.specs.Decoder.{coded_in}
use Rattle.chain.proofs.InterleaverLaws.{shift_lt, stream_below_four, plan_block}
use Rattle.chain.proofs.LabelPlaces.{label_of_coded, coded_of_label}
use Rattle.sources.specs.Sources.{label_source}
use Rattle.sources.proofs.SourceLaws.{small}
use Rattle.sources.proofs.TableLaws.{coded_room, turned_bit}
use Rattle.deinterleaver.specs.Deinterleaved.{label_bit_in, slot_of}
use Rattle.deinterleaver.specs.Asked.{CodedRunAsked, Placed}
use Rattle.deinterleaver.proofs.ScatterLaws.{scatter_end, scatter_as, scatter_join}

-- ys is the n numbers of xs from place a on
pub record PartOf (xs : List ℕ) (a n : ℕ) (ys : List ℕ) : Type 0 where
  pub sized : length ys ≡ n
  pub read : (k : ℕ) → k < n → get_or ys k 0 ≡ get_or xs (a + k) 0

pub part_of : (xs : List ℕ) (a n m : ℕ) → n ≡ m → a + m ≤ length xs → PartOf xs a m (take n (drop a xs))
part_of xs a n m e h = record {
  sized = length-take-le n (drop a xs) (omega (arith, length-drop a xs)) ∙ e;
  read = λ k l. get_or-take n (drop a xs) k 0 (omega arith) ∙ get_or-drop a xs k 0;
}

pub start_of : (xs : List ℕ) (n : ℕ) → n ≤ length xs → PartOf xs 0 n (take n xs)
start_of xs n h = record {
  sized = length-take-le n xs h;
  read = λ k l. get_or-take n xs k 0 l ∙ ap (λ (j : ℕ). get_or xs j 0) (omega arith);
}

-- and a part of that
pub front_of : {xs ys zs : List ℕ} {a n : ℕ} (m : ℕ) → PartOf xs a n ys → m ≤ n → zs ≡ take m ys → PartOf xs a m zs
front_of {ys = ys} m part h e = record {
  sized = ap length e ∙ length-take-le m ys (omega (arith, part.sized));
  read = λ k l. ap (λ (v : List ℕ). get_or v k 0) e ∙ get_or-take m ys k 0 l ∙ part.read k (omega arith);
}

pub back_of : {xs ys zs : List ℕ} {a b n r : ℕ} (m : ℕ) → PartOf xs a n ys → a + m ≡ b → m + r ≡ n → zs ≡ drop m ys → PartOf xs b r zs
back_of {xs} {ys} m part place count e = record {
  sized = ap length e ∙ length-drop m ys ∙ omega (arith, part.sized);
  read = λ k l.
      ap (λ (v : List ℕ). get_or v k 0) e ∙ get_or-drop m ys k 0 ∙ part.read (m + k) (omega arith)
      ∙ ap (λ (j : ℕ). get_or xs j 0) (omega arith);
}

-- no two coded bits of one encoder or of two stand in the same place
same_slot : (c e j y j' y' : ℕ) → e ≤ 2 → c ≤ 2592 → j < e → y < c / e → j' < e → y' < c / e → 1296 * j + y ≡ 1296 * j' + y' → (j ≡ j') × (y ≡ y')
same_slot c e j y j' y' most room hj hy hj' hy' same = ⊎_elim
    (λ (l : e < 2). omega arith)
    (λ (l : 2 ≤ e).
    let two : e ≡ 2 = omega arith in
    omega (arith, subst (λ (d : ℕ). y < c / d) two hy, subst (λ (d : ℕ). y' < c / d) two hy'))
    (lt_or_le e 2)

-- what the code counts for stream i: how far its coded bits are on, its rotation, the rest of the block, and where its label bits begin
pub record Turned (p : Plan) (i shift turn rest from : ℕ) : Type 0 where
  pub shift_is : shift ≡ i * axis_bits p.bits
  pub turn_is : turn ≡ shift_of p.width p.bits i
  pub whole : turn + rest ≡ p.block
  pub from_is : from ≡ i * p.block

-- the two runs: the label bits before the round and behind it, and the table's places behind the rotation and before it
pub record Parted (p : Plan) (i shift turn rest from : ℕ) (bits table first last before after : List ℕ) : Type 0 where
  pub counted : Turned p i shift turn rest from
  pub first_is : PartOf bits from rest first
  pub last_is : PartOf bits (from + rest) turn last
  pub before_is : PartOf table 0 turn before
  pub after_is : PartOf table turn rest after

module _ (p : Plan) (f : Fits p) where
  pub block_few : p.block ≤ 648
  block_few = (small p f).block

  slot_same : (j y j' y' : ℕ) → j < p.encoders → y < share p → j' < p.encoders → y' < share p → 1296 * j + y ≡ 1296 * j' + y' → (j ≡ j') × (y ≡ y')
  slot_same j y j' y' hj hy hj' hy' =
      same_slot p.coded p.encoders j y j' y' (small p f).encoders f.coded_most hj hy hj' hy'

  module _ (i : ℕ) (hi : i < p.streams) where
    -- a stream's rotation is less than the block
    pub turn_less : shift_of p.width p.bits i < p.block
    turn_less = omega (arith, plan_block p f, shift_lt p.width p.bits i f.width f.bits (stream_below_four p f i hi))

    -- carriers times bits of a carrier
    turn_by : (carriers : ℕ) → carriers ≡ (i * 2 % 3 + 3 * (i / 3)) * rotation p.width → carriers * p.bits ≡ shift_of p.width p.bits i
    unfolding shift_of
    turn_by carriers e = ap (λ (x : ℕ). x * p.bits) e

    -- a stream's label bits are among all streams'
    pub stream_room : i * p.block + p.block ≤ p.streams * p.block
    stream_room = let more : (i + 1) * p.block ≤ p.streams * p.block = mul-le-mul_right p.block (omega arith) in omega (arith, more)

    -- its coded bits stand a few places on
    pub shift_few : i * axis_bits p.bits ≤ 12
    shift_few = mul-le-mul {n₂ = 4} {m₂ = 3} (omega (arith, stream_below_four p f i hi)) (small p f).axis_most

    -- what the code counts
    pub turned : (axis carriers : ℕ) → axis ≡ axis_bits p.bits → carriers ≡ (i * 2 % 3 + 3 * (i / 3)) * rotation p.width
        → Turned p i (i * axis) (carriers * p.bits) (p.block - carriers * p.bits) (i * p.block)
    turned axis carriers ea ec =
        let turn_is = turn_by carriers ec in
        record {
          shift_is = ap (λ (x : ℕ). i * x) ea;
          turn_is = turn_is;
          whole = omega (arith, turn_is, turn_less);
          from_is = refl;
        }

    slot_lt : (r : ℕ) → r < p.block → slot_of p i r < 2592
    slot_lt r l =
        let h = coded_of_label p f i r hi l in
        coded_room p.coded p.encoders (place_encoder p i r) (place_index p i r) (omega (arith, h.encoder_lt)) (small p f).encoders f.coded_most
        h.encoder_lt h.index_lt

    slot_apart : (r r' : ℕ) → r < r' → r' < p.block → slot_of p i r ≡ slot_of p i r' → ⊥
    slot_apart r r' less l same =
        let h = coded_of_label p f i r hi (omega arith) in
        let h' = coded_of_label p f i r' hi l in
        let e = slot_same (place_encoder p i r) (place_index p i r) (place_encoder p i r') (place_index p i r') h.encoder_lt h.index_lt h'.encoder_lt h'.index_lt same in
        let z : r ≡ r' = sym h.place_back
        ∙ ap₂ (λ (j y : ℕ). place p.width p.bits i (bit_of (axis_bits p.bits) p.streams p.encoders j y)) e.0 e.1
        ∙ h'.place_back in
        omega arith

    -- the parts as the code cuts them
    pub parted : {shift turn rest from n : ℕ} {bits table first last before after : List ℕ} → Turned p i shift turn rest from
        → p.streams * p.block ≤ length bits → p.block ≤ length table → n ≡ p.block
        → first ≡ take rest (take n (drop from bits)) → last ≡ drop rest (take n (drop from bits))
        → before ≡ take turn (take p.block table) → after ≡ drop turn (take p.block table)
        → Parted p i shift turn rest from bits table first last before after
    parted {turn = turn} {rest = rest} {from = from} {n = n} {bits = bits} {table = table} t whole wide all f-is l-is b-is a-is =
        let own : PartOf bits from p.block (take n (drop from bits)) =
        part_of bits from n p.block all (omega (arith, stream_room, t.from_is)) in
        let places : PartOf table 0 p.block (take p.block table) = start_of table p.block wide in
        record {
          counted = t;
          first_is = front_of rest own (omega (arith, t.whole)) f-is;
          last_is = back_of rest own refl (omega (arith, t.whole)) l-is;
          before_is = front_of turn places (omega (arith, t.whole)) b-is;
          after_is = back_of turn places (omega arith) (omega (arith, t.whole)) a-is;
        }

    module _ (table : List ℕ) (tabled : (r : ℕ) → r < p.block → get_or table r 0 ≡ label_source p r) where
      module _ {shift turn rest from : ℕ} {bits first last before after : List ℕ}
          (parts : Parted p i shift turn rest from bits table first last before after) where
        t : Turned p i shift turn rest from
        t = parts.counted

        -- the places of the two runs
        first_run : (k : ℕ) → k < rest → get_or table (turn + k) 0 + shift ≡ slot_of p i k
        first_run k l =
            ap (λ (x : ℕ). get_or table (turn + k) 0 + x) t.shift_is
            ∙ turned_bit p f i hi table tabled k (turn + k) 0 (omega (arith, t.whole)) (omega (arith, t.whole)) (omega (arith, t.turn_is))

        second_run : (k : ℕ) → k < turn → get_or table (0 + k) 0 + shift ≡ slot_of p i (rest + k)
        second_run k l =
            ap (λ (x : ℕ). get_or table (0 + k) 0 + x) t.shift_is
            ∙ turned_bit p f i hi table tabled (rest + k) (0 + k) 1 (omega (arith, t.whole)) (omega (arith, t.whole)) (omega (arith, t.turn_is, t.whole))

        -- what a run of n label bits from bit `start` on asks
        run_asked : {coded part places : List ℕ} (start at n : ℕ) → start + n ≤ p.block → length part ≡ n → PartOf table at n places
            → ((k : ℕ) → k < n → get_or table (at + k) 0 + shift ≡ slot_of p i (start + k)) → length coded ≡ 2592
            → CodedRunAsked coded part places shift
        run_asked {places = places} start at n inside whole placed slots sized = record {
          sized = sized;
          inside = omega (arith, placed.sized);
          reached = λ k l. omega (arith, to k (omega arith), slot_lt (start + k) (omega arith));
          apart = λ k l h b e.
              slot_apart (start + k) (start + l) (omega arith) (omega arith) (sym (to k (omega arith)) ∙ e ∙ to l (omega arith));
        }
          where
            to : (k : ℕ) → k < n → get_or places k 0 + shift ≡ slot_of p i (start + k)
            to k l = ap (λ (x : ℕ). x + shift) (placed.read k l) ∙ slots k l

        pub first_asked : {coded : List ℕ} → length coded ≡ 2592 → CodedRunAsked coded first after shift
        first_asked sized =
            run_asked 0 turn rest (omega (arith, t.whole)) parts.first_is.sized parts.after_is
            (λ k l. first_run k l ∙ ap (slot_of p i) (omega arith)) sized

        pub second_asked : {coded : List ℕ} → length coded ≡ 2592 → CodedRunAsked coded last before shift
        second_asked sized = run_asked rest 0 turn (omega (arith, t.whole)) parts.last_is.sized parts.before_is second_run sized

        -- the two runs are the stream
        pub stream_done : (c₀ c₁ c₂ : List ℕ)
            → Scattered 0 (λ k. get_or after k 0 + shift) (λ k. get_or first k 0) (length first) c₀ c₁
            → Scattered 0 (λ k. get_or before k 0 + shift) (λ k. get_or last k 0) (length last) c₁ c₂
            → Scattered 0 (λ r. slot_of p i r) (λ r. label_bit_in p bits i r) p.block c₀ c₂
        stream_done c₀ c₁ c₂ one two =
            scatter_end (omega (arith, t.whole)) (scatter_join (slot_of p i) (label_bit_in p bits i) rest turn c₀ c₁ c₂
            (λ k l h b. slot_apart k l h (omega (arith, t.whole)))
            (scatter_as _ (slot_of p i) _ (label_bit_in p bits i) rest c₀ c₁
            (λ k l. ap (λ (x : ℕ). x + shift) (parts.after_is.read k l) ∙ first_run k l)
            (λ k l. parts.first_is.read k l ∙ ap (λ (x : ℕ). get_or bits x 0) (omega (arith, t.from_is)))
            (scatter_end parts.first_is.sized one))
            (scatter_as _ (λ k. slot_of p i (rest + k)) _ (λ k. label_bit_in p bits i (rest + k)) turn c₁ c₂
            (λ k l. ap (λ (x : ℕ). x + shift) (parts.before_is.read k l) ∙ second_run k l)
            (λ k l. parts.last_is.read k l ∙ ap (λ (x : ℕ). get_or bits x 0) (omega (arith, t.from_is)))
            (scatter_end parts.last_is.sized two)))

-- one stream more
pub placed_more : (p : Plan) (f : Fits p) (bits : List ℕ) (i : ℕ) (c₀ c c' : List ℕ) → i < p.streams → Placed p bits i c₀ c
    → Scattered 0 (λ r. slot_of p i r) (λ r. label_bit_in p bits i r) p.block c c' → Placed p bits (i + 1) c₀ c'
unfolding coded_in
placed_more p f bits i c₀ c c' hi past new = record {
  same = new.same ∙ past.same;
  done = λ j y hj hy l. ⊎_elim
      (λ (before : coded_stream p y < i). new.rest (1296 * j + y) (other j y hj hy before) ∙ past.done j y hj hy before)
      (λ (last : i ≤ coded_stream p y). own j y hj hy (omega arith))
      (lt_or_le (coded_stream p y) i);
}
  where
    other : (j y : ℕ) → j < p.encoders → y < share p → coded_stream p y < i → (r : ℕ) → r < p.block → 1296 * j + y ≡ slot_of p i r → ⊥
    other j y hj hy before r hr same =
        let h = coded_of_label p f i r hi hr in
        let e = slot_same p f j y (place_encoder p i r) (place_index p i r) hj hy h.encoder_lt h.index_lt same in
        let z : coded_stream p y ≡ i = ap (coded_stream p) e.1 ∙ h.stream_back in
        omega arith

    own : (j y : ℕ) → j < p.encoders → y < share p → coded_stream p y ≡ i → get_or c' (1296 * j + y) 0 ≡ coded_in p (label_bit_in p bits) j y
    own j y hj hy e =
        let h = label_of_coded p f j y hj hy in
        let s : Scattered 0 (λ r. slot_of p (coded_stream p y) r) (λ r. label_bit_in p bits (coded_stream p y) r) p.block c c' =
        subst (λ (k : ℕ). Scattered 0 (λ r. slot_of p k r) (λ r. label_bit_in p bits k r) p.block c c') (sym e) new in
        ap₂ (λ (a b : ℕ). get_or c' (1296 * a + b) 0) (sym h.encoder_back) (sym h.index_back)
        ∙ s.done (coded_place p j y) h.place_lt
