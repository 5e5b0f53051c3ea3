-- What is read off a point: its labels, its label bits, and a pilot's test. Assumes nothing.
use mathlib.Core.Path.{◌≡◌, ◌∙◌, refl, sym, ap, ap₂, subst}
use mathlib.Core.Bool.{Bool, true, false, cond, not, ◌&&◌}
use mathlib.Core.List.{List}
use Prim.Native.Nat.{ℕ, ◌+◌, ◌-◌, ◌^◌, ◌<◌, ◌≤◌}
use native.Mathlib.Omega.{arith}
use borrow.Author.Tests.{lt-ltb, le-ltb}
use lib.Dec.{T, eqb, ltb}
use lib.ListN.{get_or}
use lib.IntN.{ℤ, pos, nat_abs}
use mir.Val.{bool_byte}
use lib.Ieee.{Float, binary32, of_int, to_bits}
use Rattle.laws.specs.Test.{among}
use Rattle.laws.specs.Claim.{Claim, ◌is◌, ◌under◌, ◌and◌, each, given, unless, Holds, sound}
use Rattle.laws.specs.Filled.{Filled}
use Rattle.laws.proofs.Filling.{fill_as, fill_end, fill_join}
use Rattle.chain.specs.Plan.{bit_counts}
use Rattle.chain.specs.Parser.{axis_bits}
use Rattle.mapper.specs.declared.point.Point.{Point}
use Rattle.mapper.specs.Levels.{whole, levels}
use Rattle.modulator.specs.Symbol.{turned_if}
use Rattle.modulator.proofs.RunningLaws.{pilot_point_whole}
use Rattle.demapper.specs.declared.point.PointLabels.{PointLabels}
use Rattle.demapper.specs.Demapped.{same_bits, level_label}
use Rattle.demapper.specs.Demapped.{first_label, second_label, second_labels, data_given, bit_of_label, point_bit}
use Rattle.demapper.specs.Asked.{PointTables, PointRead, DataHeard, pilot_heard}
use Rattle.demapper.proofs.LabelLaws.{all_labels}

-- zero's bits
pub zero_bits : to_bits binary32 (whole (pos 0)) ≡ 0
unfolding of_int to_bits
zero_bits = refl

-- the second label at B = 1: whether the level is 0
pub second_one : (bits : ℕ) (t : Bool) (x y v : Float) (b r : ℕ) → bits ≡ 1 → v ≡ cond t x y → b ≡ to_bits binary32 v
    → r ≡ bool_byte (not (eqb b 0)) → r ≡ second_label bits t x y
second_one bits t x y v b r one v-is told e =
    let same : eqb (to_bits binary32 (cond t x y)) (to_bits binary32 (whole (pos 0))) ≡ eqb b 0 =
    ap₂ eqb (ap (to_bits binary32) (sym v-is) ∙ sym told) zero_bits in
    e ∙ byte_of (eqb b 0) ∙ rw one (simp same)
  where
    byte_of : (z : Bool) → bool_byte (not z) ≡ cond z 0 1
    byte_of true = refl
    byte_of false = refl

module _ (bits s : ℕ) (levels labels : List ℕ) (tables : PointTables bits s levels labels) where
  -- all labels of an axis
  pub all_axis : get_or labels 0 0 ≡ 2 ^ axis_bits bits
  all_axis = all_labels s labels tables.tables.axis tables.tables.labels_are ∙ ap (λ (k : ℕ). 2 ^ k) tables.axis_is

  -- a point's labels as they are read
  pub point_read : (t : Bool) (x y v : Float) (first second seconds : ℕ) → v ≡ cond t y x → first ≡ level_label s v → second ≡ second_label bits t x y
      → seconds ≡ cond (eqb bits 1) 1 (get_or labels 0 0)
      → PointRead bits t x y (record { first = first; second = second; given = ltb first (get_or labels 0 0) && ltb second seconds })
  unfolding data_given
  point_read t x y v first second seconds v-is e g n =
      let f : first ≡ first_label bits t x y = e ∙ ap₂ level_label tables.axis_is v-is in
      let m : seconds ≡ second_labels bits = n ∙ ap (cond (eqb bits 1) 1) all_axis in
      record {
        first = f;
        second = g;
        given = ap₂ (λ (a b : Bool). a && b) (ap₂ ltb f all_axis) (ap₂ ltb g m);
      }

-- the bits of an axis: one at B = 1, and else half of B
abbrev axis_claim : Claim
axis_claim = each bit_counts λ b. given b 1 (axis_bits b is 1) and unless b 1 (axis_bits b + axis_bits b is b)

axes : Holds axis_claim
unfolding axis_bits
axes = sound axis_claim tt

pub axis_one : (bits : ℕ) → T (among bit_counts bits) → bits ≡ 1 → axis_bits bits ≡ 1
axis_one bits known e = (axes bits known).0 e

pub axis_two : (bits : ℕ) → T (among bit_counts bits) → (bits ≡ 1 → ⊥) → axis_bits bits + axis_bits bits ≡ bits
axis_two bits known n = (axes bits known).1 n

-- bit t of a point's label is one of its first level's label, and then of its second's
pub first_bits : (bits : ℕ) (t : Bool) (x y : Float) (k : ℕ) → k < axis_bits bits
    → bit_of_label (axis_bits bits) (first_label bits t x y) k ≡ point_bit bits t x y k
unfolding point_bit
first_bits bits t x y k h = simp (lt-ltb k (axis_bits bits) h)

pub second_bits : (bits : ℕ) (t : Bool) (x y : Float) (k : ℕ)
    → bit_of_label (axis_bits bits) (second_label bits t x y) k ≡ point_bit bits t x y (axis_bits bits + k)
unfolding point_bit
second_bits bits t x y k =
    let back : axis_bits bits + k - axis_bits bits ≡ k = omega arith in
    simp (le-ltb (axis_bits bits + k) (axis_bits bits) (omega arith), back)

module _ (bits s : ℕ) (known : T (among bit_counts bits)) (axis : s ≡ axis_bits bits) (t : Bool) (x y : Float) (at : ℕ) where
  -- the first label's bits stored
  first_put : (first : ℕ) (d₀ d : List ℕ) → first ≡ first_label bits t x y → Filled 0 at (bit_of_label s first) s d₀ d
      → Filled 0 at (point_bit bits t x y) (axis_bits bits) d₀ d
  first_put first d₀ d e p =
      fill_end 0 at (point_bit bits t x y) axis
      (fill_as 0 at (bit_of_label s first) (point_bit bits t x y) s d₀ d
      (λ k h. ap₂ (λ (a l : ℕ). bit_of_label a l k) axis e ∙ first_bits bits t x y k (subst (λ (m : ℕ). k < m) axis h)) p)

  -- at B = 1 they are all
  pub data_one : (read : PointLabels) (d₀ d : List ℕ) → PointRead bits t x y read → bits ≡ 1
      → Filled 0 at (bit_of_label s read.first) s d₀ d → DataHeard bits t x y at read.given d₀ d
  data_one read d₀ d r one p = record {
    given = r.given;
    label = fill_end 0 at (point_bit bits t x y) (axis_one bits known one ∙ sym one) (first_put read.first d₀ d r.first p);
  }

  -- and else the second label's follow
  pub data_two : (read : PointLabels) (d₀ d d' : List ℕ) → PointRead bits t x y read → (bits ≡ 1 → ⊥)
      → Filled 0 at (bit_of_label s read.first) s d₀ d → Filled 0 (at + s) (bit_of_label s read.second) s d d'
      → DataHeard bits t x y at read.given d₀ d'
  data_two read d₀ d d' r two p q =
      let q' : Filled 0 (at + axis_bits bits) (bit_of_label (axis_bits bits) read.second) (axis_bits bits) d d' =
      subst (λ (k : ℕ). Filled 0 (at + k) (bit_of_label k read.second) k d d') axis q in
      record {
        given = r.given;
        label = fill_end 0 at (point_bit bits t x y) (axis_two bits known two)
            (fill_join 0 at (point_bit bits t x y) (axis_bits bits) (axis_bits bits) d₀ d d' (first_put read.first d₀ d r.first p)
            (fill_as 0 (at + axis_bits bits) (bit_of_label (axis_bits bits) read.second) (λ k. point_bit bits t x y (axis_bits bits + k)) (axis_bits bits) d d'
            (λ k h. ap (λ (l : ℕ). bit_of_label (axis_bits bits) l k) r.second ∙ second_bits bits t x y k) q'));
      }

-- a pilot's test where its sign is the float of a small whole number
pub pilot_heard_lem : (sign : Float) (t : Bool) (x y : Float) (s : ℤ) → nat_abs s < 8 → sign ≡ whole s
    → let l = turned_if t (levels s (pos 0)) in
    pilot_heard sign t x y ≡ (same_bits x (whole l.first) && same_bits y (whole l.second))
pilot_heard_lem sign t x y s small e = ap (λ (p : Point). same_bits x p.first && same_bits y p.second) (pilot_point_whole sign t s small e)

abbrev room_claim : Claim
room_claim = each bit_counts λ b. axis_bits b under b + 1 and axis_bits b under 4

room : Holds room_claim
unfolding axis_bits
room = sound room_claim tt

-- the bits of one axis are few, and at most the point's; two axes' are the point's where it has two labels
pub record AxisRoom (bits s : ℕ) : Type 0 where
  pub few : s ≤ 3
  pub one : s ≤ bits
  pub two : (bits ≡ 1 → ⊥) → s + s ≡ bits

pub axis_room : (bits s : ℕ) → T (among bit_counts bits) → s ≡ axis_bits bits → AxisRoom bits s
axis_room bits s known e = record {
  few = omega (arith, e, (room bits known).1);
  one = omega (arith, e, (room bits known).0);
  two = λ n. ap₂ (λ (a b : ℕ). a + b) e e ∙ axis_two bits known n;
}
