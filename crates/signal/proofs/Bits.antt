-- Lists of bits and the numbers that they are. Assumes nothing.
use mathlib.Core.Path.{◌≡◌, refl, sym, ap, ◌∙◌}
use mathlib.Core.List.{List, [], ◌∷◌, ◌++◌}
use Prim.Native.Nat.{ℕ, zero, suc, ◌+◌, ◌-◌, ◌*◌, ◌/◌, ◌%◌, ◌^◌, ◌<◌, ◌≤◌}
use native.Mathlib.Nat.{mul_comm, mul_assoc, mod-eq_of_lt, pow-suc, zero-add, suc-add, div-one, div-div-eq-div-mul, not-suc-le-zero, le_of_suc-le-suc}
use native.Mathlib.Omega.{arith}
use lib.ListN.{length, get_or, take, drop, length-append}
use lib.Arith.{mod-mul}
use lib.Pow.{pow_pos}
use Rattle.signal.specs.HtSig.{low, value, packed, bits_in, field}
use Rattle.sig_words.specs.Words.{six_of, word_in}
use Rattle.laws.specs.Bytes.{AreBytes}

-- ---- bits

-- each is 0 or 1
abbrev pub Two : List ℕ → Type 0
Two [] = Unit {0}
Two (b ∷ bs) = (b < 2) × Two bs

bit : (b v : ℕ) → b < 2 → (b + 2 * v) % 2 ≡ b
bit b v h = omega arith

rest : (b v : ℕ) → b < 2 → (b + 2 * v) / 2 ≡ v
rest b v h = omega arith

-- bits are the low bits of their number
pub low_value : (l : List ℕ) → Two l → low (length l) (value l) ≡ l
low_value [] t = refl
low_value (b ∷ bs) t =
    ap (λ (x : ℕ). x ∷ low (length bs) ((b + 2 * value bs) / 2)) (bit b (value bs) t.0)
    ∙ ap (λ (x : ℕ). b ∷ low (length bs) x) (rest b (value bs) t.0)
    ∙ ap (λ (x : List ℕ). b ∷ x) (low_value bs t.1)

-- the low bits of a number are bits
pub two_low : (k x : ℕ) → Two (low k x)
two_low zero x = tt
two_low (suc k) x = (omega arith, two_low k (x / 2))

-- bits after bits are bits
pub two_append : (a b : List ℕ) → Two a → Two b → Two (a ++ b)
two_append [] b s t = t
two_append (x ∷ a) b s t = (s.0, two_append a b s.1 t)

-- there are as many low bits as asked
pub length_low : (k x : ℕ) → length (low k x) ≡ k
length_low zero x = refl
length_low (suc k) x = ap suc (length_low k (x / 2))

regroup : (x p v w : ℕ) → x + 2 * (v + p * w) ≡ x + 2 * v + p * 2 * w
regroup x p v w =
    let e : p * 2 * w ≡ 2 * (p * w) = ap (λ (y : ℕ). y * w) (mul_comm p 2) ∙ mul_assoc 2 p w in
    omega arith

-- the number of bits after bits
pub value_append : (a b : List ℕ) → value (a ++ b) ≡ value a + 2 ^ length a * value b
value_append [] b = omega arith
value_append (x ∷ a) b =
    ap (λ (y : ℕ). x + 2 * y) (value_append a b) ∙ regroup x (2 ^ length a) (value a) (value b)
    ∙ ap (λ (y : ℕ). x + 2 * value a + y * value b) (sym (pow-suc 2 (length a)))

-- the number of the low bits
pub value_low : (k x : ℕ) → value (low k x) ≡ x % 2 ^ k
value_low zero x = omega arith
value_low (suc k) x =
    ap (λ (y : ℕ). x % 2 + 2 * y) (value_low k (x / 2))
    ∙ swap (x / 2 % 2 ^ k) (x % 2)
    ∙ sym (mod-mul x {m = 2 ^ k} {c = 2} (pow_pos k) (omega arith))
    ∙ ap (λ (y : ℕ). x % y) (sym (pow-suc 2 k))
  where
    swap : (a b : ℕ) → b + 2 * a ≡ a * 2 + b
    swap a b = omega arith

-- ---- bytes

-- the n low bytes of a number
abbrev pub bytes_of : ℕ → ℕ → List ℕ
bytes_of zero x = []
bytes_of (suc n) x = (x % 256) ∷ bytes_of n (x / 256)

-- the low bits past the first a
pub drop_low : (a k x : ℕ) → drop a (low (a + k) x) ≡ low k (x / 2 ^ a)
drop_low zero k x = ap (λ (n : ℕ). low n x) (zero-add k) ∙ ap (low k) (sym (div-one x))
drop_low (suc a) k x =
    ap (λ (n : ℕ). drop (suc a) (low n x)) (suc-add a k)
    ∙ drop_low a k (x / 2)
    ∙ ap (low k) (div-div-eq-div-mul x 2 (2 ^ a) ∙ ap (λ (n : ℕ). x / n) (mul_comm 2 (2 ^ a) ∙ sym (pow-suc 2 a)))

-- the first a of the low bits
pub take_low : (a k x : ℕ) → take a (low (a + k) x) ≡ low a x
take_low zero k x = refl
take_low (suc a) k x = ap (λ (n : ℕ). take (suc a) (low n x)) (suc-add a k) ∙ ap (λ (l : List ℕ). x % 2 ∷ l) (take_low a k (x / 2))

-- the low bits packed are the low bytes
pub packed_low : (n x : ℕ) → packed n (low (n * 8) x) ≡ bytes_of n x
packed_low zero x = refl
packed_low (suc n) x =
    ap (λ (k : ℕ). value (take 8 (low k x)) ∷ packed n (drop 8 (low k x))) (more n)
    ∙ ap (λ (l : List ℕ). value l ∷ packed n (drop 8 (low (8 + n * 8) x))) (take_low 8 (n * 8) x)
    ∙ ap (λ (l : List ℕ). value (low 8 x) ∷ packed n l) (drop_low 8 (n * 8) x)
    ∙ ap (λ (v : ℕ). v ∷ packed n (low (n * 8) (x / 256))) (value_low 8 x)
    ∙ ap (λ (l : List ℕ). x % 256 ∷ l) (packed_low n (x / 256))
  where
    more : (n : ℕ) → suc n * 8 ≡ 8 + n * 8
    more n = omega arith

-- ---- bits of numbers

-- lists of as many bits and of the same number are the same
pub same_bit_list : (a b : List ℕ) → Two a → Two b → length a ≡ length b → value a ≡ value b → a ≡ b
same_bit_list a b s t n v = sym (low_value a s) ∙ ap (λ (k : ℕ). low k (value a)) n ∙ ap (low (length b)) v ∙ low_value b t

-- bits are the low bits of their number, by their count
pub low_of : (k : ℕ) (l : List ℕ) → Two l → length l ≡ k → l ≡ low k (value l)
low_of k l t n = sym (low_value l t) ∙ ap (λ (j : ℕ). low j (value l)) n

-- the low bits do not see what is above them
pub low_mod : (k x : ℕ) → low k (x % 2 ^ k) ≡ low k x
low_mod k x =
    ap (low k) (sym (value_low k x)) ∙ sym (low_of k (low k x) (two_low k x) (length_low k x))

-- the number in n bits from bit a on
pub field_of : (k a n w : ℕ) → a + n ≤ k → field (low k w) a n ≡ w / 2 ^ a % 2 ^ n
unfolding field
field_of k a n w h =
    let m = k - (a + n) in
    let e : k ≡ a + (n + m) = omega arith in
    ap (λ (j : ℕ). value (take n (drop a (low j w)))) e
    ∙ ap (λ (l : List ℕ). value (take n l)) (drop_low a (n + m) w)
    ∙ ap value (take_low n m (w / 2 ^ a))
    ∙ value_low n (w / 2 ^ a)

-- ---- bits of bytes

-- the number that bytes are, low byte first
abbrev pub joined : List ℕ → ℕ
joined [] = 0
joined (b ∷ bs) = b + 256 * joined bs

first_byte : (b : ℕ) (bs : List ℕ) → AreBytes (b ∷ bs) → b < 256
first_byte b bs h = h 0 (omega arith)

later_bytes : (b : ℕ) (bs : List ℕ) → AreBytes (b ∷ bs) → AreBytes bs
later_bytes b bs h = λ i k. h (suc i) (omega arith)

-- the bits of bytes are bits
pub two_in : (l : List ℕ) → Two (bits_in l)
two_in [] = tt
two_in (b ∷ bs) = two_append (low 8 b) (bits_in bs) (two_low 8 b) (two_in bs)

-- eight bits a byte
pub length_in : (l : List ℕ) → length (bits_in l) ≡ length l * 8
length_in [] = refl
length_in (b ∷ bs) = length-append (low 8 b) (bits_in bs) ∙ ap (λ (k : ℕ). 8 + k) (length_in bs) ∙ more (length bs)
  where
    more : (n : ℕ) → 8 + n * 8 ≡ suc n * 8
    more n = omega arith

-- the number of the bits of bytes
pub value_in_lem : (l : List ℕ) → AreBytes l → value (bits_in l) ≡ joined l
value_in_lem [] h = refl
value_in_lem (b ∷ bs) h =
    value_append (low 8 b) (bits_in bs)
    ∙ ap (λ (x : ℕ). x + 256 * value (bits_in bs)) (value_low 8 b ∙ mod-eq_of_lt (first_byte b bs h))
    ∙ ap (λ (x : ℕ). b + 256 * x) (value_in_lem bs (later_bytes b bs h))

-- bytes are the low bytes of their number
pub bytes_joined : (l : List ℕ) → AreBytes l → l ≡ bytes_of (length l) (joined l)
bytes_joined [] h = refl
bytes_joined (b ∷ bs) h =
    let v = joined bs in
    let k : b < 256 = first_byte b bs h in
    let r : b ≡ (b + 256 * v) % 256 = omega arith in
    let q : v ≡ (b + 256 * v) / 256 = omega arith in
    ap (λ (x : List ℕ). b ∷ x) (bytes_joined bs (later_bytes b bs h))
    ∙ ap (λ (x : ℕ). b ∷ bytes_of (length bs) x) q
    ∙ ap (λ (x : ℕ). x ∷ bytes_of (length bs) ((b + 256 * v) / 256)) r

-- six bytes, one by one
pub six : (l : List ℕ) → length l ≡ 6 → l ≡ get_or l 0 0 ∷ get_or l 1 0 ∷ get_or l 2 0 ∷ get_or l 3 0 ∷ get_or l 4 0 ∷ get_or l 5 0 ∷ []
six [] h = absurd (let z : ◌≡◌ {A = ℕ} 0 6 = h in omega arith)
six (a ∷ []) h = absurd (let z : ◌≡◌ {A = ℕ} 1 6 = h in omega arith)
six (a ∷ b ∷ []) h = absurd (let z : ◌≡◌ {A = ℕ} 2 6 = h in omega arith)
six (a ∷ b ∷ c ∷ []) h = absurd (let z : ◌≡◌ {A = ℕ} 3 6 = h in omega arith)
six (a ∷ b ∷ c ∷ d ∷ []) h = absurd (let z : ◌≡◌ {A = ℕ} 4 6 = h in omega arith)
six (a ∷ b ∷ c ∷ d ∷ e ∷ []) h = absurd (let z : ◌≡◌ {A = ℕ} 5 6 = h in omega arith)
six (a ∷ b ∷ c ∷ d ∷ e ∷ f ∷ []) h = refl
six (a ∷ b ∷ c ∷ d ∷ e ∷ f ∷ g ∷ l) h = absurd (omega arith)

-- the number that six bytes are
pub joined_six : (l : List ℕ) → length l ≡ 6 → joined l ≡ word_in l
joined_six l h = ap joined (six l h) ∙ sum (get_or l 0 0) (get_or l 1 0) (get_or l 2 0) (get_or l 3 0) (get_or l 4 0) (get_or l 5 0)
  where
    sum : (a b c d e f : ℕ) → a + 256 * (b + 256 * (c + 256 * (d + 256 * (e + 256 * (f + 256 * 0))))) ≡ a + 256 * b + 65536 * c + 16777216 * (d + 256 * e + 65536 * f)
    sum a b c d e f = omega arith

-- six bytes are 48 bits, and they are the low bits of their number
pub six_bits : (l : List ℕ) → length l ≡ 6 → bits_in l ≡ low 48 (value (bits_in l))
six_bits l h = low_of 48 (bits_in l) (two_in l) (length_in l ∙ ap (λ (k : ℕ). k * 8) h)

-- the bits of six bytes are the low bits of their number
pub bits_in_lem : (l : List ℕ) → length l ≡ 6 → AreBytes l → bits_in l ≡ low 48 (word_in l)
bits_in_lem l h b = six_bits l h ∙ ap (low 48) (value_in_lem l b ∙ joined_six l h)

-- six bytes are the low bytes of their number
pub six_joined : (l : List ℕ) → length l ≡ 6 → AreBytes l → l ≡ six_of (word_in l)
six_joined l h b = bytes_joined l b ∙ ap (λ (k : ℕ). bytes_of k (joined l)) h ∙ ap six_of (joined_six l h)

word_small : (a b c d e f : ℕ) → a < 256 → b < 256 → c < 256 → d < 256 → e < 256 → f < 256
    → a + 256 * b + 65536 * c + 16777216 * (d + 256 * e + 65536 * f) < 281474976710656
word_small a b c d e f p q r s t u = omega arith

-- the number of six bytes has 48 bits
pub six_small : (l : List ℕ) → length l ≡ 6 → AreBytes l → word_in l < 281474976710656
six_small l h b =
    word_small (get_or l 0 0) (get_or l 1 0) (get_or l 2 0) (get_or l 3 0) (get_or l 4 0) (get_or l 5 0)
    (b 0 (omega arith)) (b 1 (omega arith)) (b 2 (omega arith)) (b 3 (omega arith)) (b 4 (omega arith)) (b 5 (omega arith))

bytes_below : (n x i : ℕ) → i < length (bytes_of n x) → get_or (bytes_of n x) i 0 < 256
bytes_below zero x i h = absurd (not-suc-le-zero h)
bytes_below (suc n) x zero h = omega arith
bytes_below (suc n) x (suc i) h = bytes_below n (x / 256) i (le_of_suc-le-suc h)

-- the six low bytes of a number are bytes
pub six_are_bytes : (w : ℕ) → AreBytes (six_of w)
six_are_bytes w = λ i h. bytes_below 6 w i h

join : (w0 w1 w2 w3 w4 w5 : ℕ) → w1 ≡ w0 / 256 → w2 ≡ w1 / 256 → w3 ≡ w2 / 256 → w4 ≡ w3 / 256 → w5 ≡ w4 / 256 → w0 < 281474976710656
    → w0 % 256 + 256 * (w1 % 256) + 65536 * (w2 % 256) + 16777216 * (w3 % 256 + 256 * (w4 % 256) + 65536 * (w5 % 256)) ≡ w0
join w0 w1 w2 w3 w4 w5 a b c d e h = omega arith

-- a number of 48 bits is found again from its six bytes
pub word_again : (w : ℕ) → w < 281474976710656 → word_in (six_of w) ≡ w
word_again w h = join w _ _ _ _ _ refl refl refl refl refl h
