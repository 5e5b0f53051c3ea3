-- The CRC register by its stages and as a number. Assumes nothing.
use mathlib.Core.Path.{◌≡◌, refl, sym, ap, ◌∙◌}
use mathlib.Core.List.{List, [], ◌∷◌}
use Prim.Native.Nat.{ℕ, zero, suc, ◌+◌, ◌-◌, ◌*◌, ◌/◌, ◌%◌, ◌<◌}
use native.Mathlib.Omega.{arith}
use Rattle.signal.specs.HtSig.{low, value, Register, ones, shifted, shifted_over, sent_out, crc_bits}
use Rattle.sig_crc.specs.Crc.{crc_shift, crc_run, crc_field}
use Rattle.signal.proofs.Bits.{Two}

-- the register as a number, stage 0 its low bit
abbrev pub register_number : Register → ℕ
register_number r = r.d0 + 2 * r.d1 + 4 * r.d2 + 8 * r.d3 + 16 * r.d4 + 32 * r.d5 + 64 * r.d6 + 128 * r.d7

-- each stage is 0 or 1
pub record Stages (r : Register) : Type 0 where
  pub s0 : r.d0 < 2
  pub s1 : r.d1 < 2
  pub s2 : r.d2 < 2
  pub s3 : r.d3 < 2
  pub s4 : r.d4 < 2
  pub s5 : r.d5 < 2
  pub s6 : r.d6 < 2
  pub s7 : r.d7 < 2

-- the stages start as bits
pub stages_ones : Stages ones
stages_ones = record { s0 = omega arith; s1 = omega arith; s2 = omega arith; s3 = omega arith; s4 = omega arith; s5 = omega arith; s6 = omega arith; s7 = omega arith }

-- a shift leaves the stages bits
pub stages_shifted : (r : Register) (b : ℕ) → Stages r → Stages (shifted r b)
stages_shifted r b s = record { s0 = omega arith; s1 = omega arith; s2 = omega arith; s3 = s.s2; s4 = s.s3; s5 = s.s4; s6 = s.s5; s7 = s.s6 }

module _ (a b c d e f g h : ℕ) (at : a < 2) (bt : b < 2) (ct : c < 2) (dt : d < 2) (et : e < 2) (ft : f < 2) (gt : g < 2) (ht : h < 2) where
  abbrev num : ℕ
  num = a + 2 * b + 4 * c + 8 * d + 16 * e + 32 * f + 64 * g + 128 * h

  top : num / 128 ≡ h
  top = omega arith

  into1 : (x : ℕ) → (num + x) % 2 ≡ (a + x) % 2
  into1 x = omega arith

  into2 : (x : ℕ) → (num / 2 + x) % 2 ≡ (b + x) % 2
  into2 x = omega arith

  moved : num / 4 % 32 ≡ c + 2 * d + 4 * e + 8 * f + 16 * g
  moved = omega arith

  bit0 : num % 2 ≡ a
  bit0 = omega arith

  bit1 : num / 2 % 2 ≡ b
  bit1 = omega arith

  bit2 : num / 4 % 2 ≡ c
  bit2 = omega arith

  bit3 : num / 8 % 2 ≡ d
  bit3 = omega arith

  bit4 : num / 16 % 2 ≡ e
  bit4 = omega arith

  bit5 : num / 32 % 2 ≡ f
  bit5 = omega arith

  bit6 : num / 64 % 2 ≡ g
  bit6 = omega arith

  bit7 : num / 128 % 2 ≡ h
  bit7 = omega arith

-- the numbers of one shift, put together
shift_sum : (n b h x y z : ℕ) → n / 128 ≡ h → (n + (h + b) % 2) % 2 ≡ x → (n / 2 + (h + b) % 2) % 2 ≡ y → n / 4 % 32 ≡ z
    → crc_shift n b ≡ (h + b) % 2 + 2 * x + 4 * y + 8 * z
shift_sum n b h x y z p q r s =
    ap (λ (k : ℕ). (k + b) % 2 + 2 * ((n + (k + b) % 2) % 2) + 4 * ((n / 2 + (k + b) % 2) % 2) + 8 * (n / 4 % 32)) p
    ∙ ap (λ (k : ℕ). (h + b) % 2 + 2 * k + 4 * ((n / 2 + (h + b) % 2) % 2) + 8 * (n / 4 % 32)) q
    ∙ ap (λ (k : ℕ). (h + b) % 2 + 2 * x + 4 * k + 8 * (n / 4 % 32)) r
    ∙ ap (λ (k : ℕ). (h + b) % 2 + 2 * x + 4 * y + 8 * k) s

regroup : (f x y c d e g h : ℕ) → f + 2 * x + 4 * y + 8 * (c + 2 * d + 4 * e + 8 * g + 16 * h) ≡ f + 2 * x + 4 * y + 8 * c + 16 * d + 32 * e + 64 * g + 128 * h
regroup f x y c d e g h = omega arith

-- one shift, by the stages and by the number
pub shift_number : (r : Register) (b : ℕ) → Stages r → crc_shift (register_number r) b ≡ register_number (shifted r b)
shift_number r b s =
    let f = (r.d7 + b) % 2 in
    shift_sum (register_number r) b r.d7 ((r.d0 + f) % 2) ((r.d1 + f) % 2) (r.d2 + 2 * r.d3 + 4 * r.d4 + 8 * r.d5 + 16 * r.d6)
    (top r.d0 r.d1 r.d2 r.d3 r.d4 r.d5 r.d6 r.d7 s.s0 s.s1 s.s2 s.s3 s.s4 s.s5 s.s6 s.s7)
    (into1 r.d0 r.d1 r.d2 r.d3 r.d4 r.d5 r.d6 r.d7 s.s0 s.s1 s.s2 s.s3 s.s4 s.s5 s.s6 s.s7 f)
    (into2 r.d0 r.d1 r.d2 r.d3 r.d4 r.d5 r.d6 r.d7 s.s0 s.s1 s.s2 s.s3 s.s4 s.s5 s.s6 s.s7 f)
    (moved r.d0 r.d1 r.d2 r.d3 r.d4 r.d5 r.d6 r.d7 s.s0 s.s1 s.s2 s.s3 s.s4 s.s5 s.s6 s.s7)
    ∙ regroup f ((r.d0 + f) % 2) ((r.d1 + f) % 2) r.d2 r.d3 r.d4 r.d5 r.d6

-- shifted over the low bits of a number, by the stages and by the number
pub register_number_lem : (k : ℕ) (r : Register) (w : ℕ) → Stages r → crc_run k (register_number r) w ≡ register_number (shifted_over r (low k w))
unfolding crc_run
register_number_lem zero r w s = refl
register_number_lem (suc k) r w s =
    ap (λ (x : ℕ). crc_run k x (w / 2)) (shift_number r (w % 2) s) ∙ register_number_lem k (shifted r (w % 2)) (w / 2) (stages_shifted r (w % 2) s)

-- so do shifts over bits
pub stages_over : (r : Register) (l : List ℕ) → Stages r → Stages (shifted_over r l)
stages_over r [] s = s
stages_over r (b ∷ bs) s = stages_over (shifted r b) bs (stages_shifted r b s)

-- the bits sent out, added up
out_sum : (a b c d e f g h : ℕ) → a + 2 * (b + 2 * (c + 2 * (d + 2 * (e + 2 * (f + 2 * (g + 2 * (h + 2 * 0))))))) ≡ a + 2 * b + 4 * c + 8 * d + 16 * (e + 2 * f + 4 * g + 8 * h)
out_sum a b c d e f g h = omega arith

field_with : (n : ℕ) {a b c d e f g h : ℕ} → n / 128 % 2 ≡ h → n / 64 % 2 ≡ g → n / 32 % 2 ≡ f → n / 16 % 2 ≡ e → n / 8 % 2 ≡ d → n / 4 % 2 ≡ c → n / 2 % 2 ≡ b → n % 2 ≡ a
    → (1 - h) + 2 * (1 - g) + 4 * (1 - f) + 8 * (1 - e) + 16 * ((1 - d) + 2 * (1 - c) + 4 * (1 - b) + 8 * (1 - a)) ≡ crc_field n
unfolding crc_field
field_with n p q r s t u v w = simp (p, q, r, s, t, u, v, w)

-- what is sent out, as a number
pub value_sent : (r : Register) → Stages r → value (sent_out r) ≡ crc_field (register_number r)
value_sent r s =
    out_sum (1 - r.d7) (1 - r.d6) (1 - r.d5) (1 - r.d4) (1 - r.d3) (1 - r.d2) (1 - r.d1) (1 - r.d0)
    ∙ field_with (register_number r)
    (bit7 r.d0 r.d1 r.d2 r.d3 r.d4 r.d5 r.d6 r.d7 s.s0 s.s1 s.s2 s.s3 s.s4 s.s5 s.s6 s.s7)
    (bit6 r.d0 r.d1 r.d2 r.d3 r.d4 r.d5 r.d6 r.d7 s.s0 s.s1 s.s2 s.s3 s.s4 s.s5 s.s6 s.s7)
    (bit5 r.d0 r.d1 r.d2 r.d3 r.d4 r.d5 r.d6 r.d7 s.s0 s.s1 s.s2 s.s3 s.s4 s.s5 s.s6 s.s7)
    (bit4 r.d0 r.d1 r.d2 r.d3 r.d4 r.d5 r.d6 r.d7 s.s0 s.s1 s.s2 s.s3 s.s4 s.s5 s.s6 s.s7)
    (bit3 r.d0 r.d1 r.d2 r.d3 r.d4 r.d5 r.d6 r.d7 s.s0 s.s1 s.s2 s.s3 s.s4 s.s5 s.s6 s.s7)
    (bit2 r.d0 r.d1 r.d2 r.d3 r.d4 r.d5 r.d6 r.d7 s.s0 s.s1 s.s2 s.s3 s.s4 s.s5 s.s6 s.s7)
    (bit1 r.d0 r.d1 r.d2 r.d3 r.d4 r.d5 r.d6 r.d7 s.s0 s.s1 s.s2 s.s3 s.s4 s.s5 s.s6 s.s7)
    (bit0 r.d0 r.d1 r.d2 r.d3 r.d4 r.d5 r.d6 r.d7 s.s0 s.s1 s.s2 s.s3 s.s4 s.s5 s.s6 s.s7)

-- the CRC of the 34 low bits of a number, by its bits and by the number
pub crc_value : (w : ℕ) → value (crc_bits (low 34 w)) ≡ crc_field (crc_run 34 255 w)
crc_value w =
    value_sent (shifted_over ones (low 34 w)) (stages_over ones (low 34 w) stages_ones)
    ∙ ap crc_field (sym (register_number_lem 34 ones w stages_ones))

off_two : (x : ℕ) → 1 - x < 2
off_two x = omega arith

-- what is sent out is bits
pub two_sent : (r : Register) → Two (sent_out r)
two_sent r = (off_two r.d7, (off_two r.d6, (off_two r.d5, (off_two r.d4, (off_two r.d3, (off_two r.d2, (off_two r.d1, (off_two r.d0, tt))))))))

-- the CRC as a number is a byte
pub field_small : (r : ℕ) → crc_field r < 256
unfolding crc_field
field_small r = small (1 - r / 128 % 2) (1 - r / 64 % 2) (1 - r / 32 % 2) (1 - r / 16 % 2) (1 - r / 8 % 2) (1 - r / 4 % 2) (1 - r / 2 % 2) (1 - r % 2)
    (off_two _) (off_two _) (off_two _) (off_two _) (off_two _) (off_two _) (off_two _) (off_two _)
  where
    small : (a b c d e f g h : ℕ) → a < 2 → b < 2 → c < 2 → d < 2 → e < 2 → f < 2 → g < 2 → h < 2
        → a + 2 * b + 4 * c + 8 * d + 16 * (e + 2 * f + 4 * g + 8 * h) < 256
    small a b c d e f g h i j k l m n o p = omega arith
