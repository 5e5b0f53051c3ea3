-- HT-SIG by its bits and as numbers, and what follows for the calls. Assumes nothing.
use Rattle.std.specs.Prelude.{Err, Ok, Result}
use mathlib.Core.Path.{◌≡◌, refl, sym, ap, ◌∙◌, subst}
use mathlib.Core.List.{List, [], ◌∷◌, ◌++◌}
use mathlib.Core.Bool.{Bool, true, false, cond, not, ◌||◌}
use mathlib.Core.Logic.{◌↔◌}
use Prim.Native.Nat.{ℕ, zero, suc, ◌+◌, ◌*◌, ◌/◌, ◌%◌, ◌^◌, ◌<◌, ◌≤◌}
use native.Mathlib.Nat.{mod-eq_of_lt, div-one}
use native.Mathlib.Omega.{arith}
use lib.ListN.{length, take, drop, length-append, length-drop}
use lib.Seq.{drop_at, take_at}
use lib.Dec.{T, ltb, eqb}
use borrow.Author.Tests.{le-ltb, ltb-false, eq-eqb, ne_eqb, eqb-true, eqb-false, not-false}
use Rattle.laws.specs.Test.{among}
use Rattle.laws.specs.Refusals.{Rule, first_of}
use Rattle.laws.proofs.Refusing.{given_exactly}
use Rattle.laws.proofs.Reflect.{less, same, other, either, or_false}
use Rattle.chain.specs.Plan.{widths}
use Rattle.settings.specs.declared.settings.Refusal.{Refusal}
use Rattle.settings.specs.declared.settings.Refusal.TheVariants.{Source, Room, SigCrc, SigForm}
use Rattle.settings.specs.declared.settings.RawSettings.{RawSettings}
use Rattle.settings.specs.declared.settings.Settings.{Settings}
use Rattle.sig_words.specs.declared.words.SigFields.{SigFields}
use Rattle.settings.specs.Settings.{check_of, settings_of, Right}
use Rattle.signal.specs.HtSig.{low, value, packed, ones, shifted_over, crc_bits, head_bits, sig_bits, sig_bytes, fields_of, written_of, written_into, written_number, bits_in, field, SourceRow, CrcRow, crc_wrong, FormRow, form_wrong, fields_in, read_of, read_number}
use Rattle.sig_crc.specs.Crc.{crc_run, crc_field}
use Rattle.sig_words.specs.Words.{one_if, head_word, sig_word, six_of, word_in, word_crc_wrong, word_form_wrong, fields_in_word, SigFits}
use Rattle.sig_words.proofs.WordLaws.{same_fields, one_small, one_back}
use Rattle.laws.specs.Bytes.{AreBytes}
use Rattle.signal.specs.Statements.{ReadExactly, ReadRefusals, SignalRoomRow, WriteRefusals}
use Rattle.settings.proofs.SettingsLaws.{right, accepted_is}
use Rattle.settings.proofs.Refusals.{settingsRules, after_settings}
use Rattle.signal.proofs.Bits.{Two, two_low, two_append, value_append, value_low, same_bit_list, low_of, low_mod, field_of, drop_low, take_low, packed_low, six_bits, bits_in_lem, six_joined, six_small, six_are_bytes, word_again}
use Rattle.signal.proofs.Registers.{crc_value, two_sent, field_small}

-- ---- the field that is written

abbrev flags : SigFields → List ℕ
flags g = one_if g.smoothing ∷ one_if g.not_sounding ∷ 1 ∷ one_if g.aggregation ∷ 0 ∷ 0 ∷ 0 ∷ one_if g.short_guard ∷ 0 ∷ 0 ∷ []

two_flags : (g : SigFields) → Two (flags g)
two_flags g = (one_small g.smoothing, (one_small g.not_sounding, (omega arith, (one_small g.aggregation, (omega arith, (omega arith, (omega arith, (one_small g.short_guard, (omega arith, (omega arith, tt))))))))))

two_head : (g : SigFields) → Two (head_bits g)
unfolding head_bits
two_head g = two_append (low 7 g.mcs) (one_if (eqb g.width 40) ∷ (low 16 g.length ++ flags g)) (two_low 7 g.mcs) (one_small (eqb g.width 40), two_append (low 16 g.length) (flags g) (two_low 16 g.length) (two_flags g))

length_head : (g : SigFields) → length (head_bits g) ≡ 34
unfolding head_bits
length_head g = refl

-- the two numbers and the flags, put together
sum_up : (m l w s n a h : ℕ) → m + 128 * (w + 2 * (l + 65536 * (s + 2 * (n + 2 * (1 + 2 * (a + 2 * (0 + 2 * (0 + 2 * (0 + 2 * (h + 2 * (0 + 2 * (0 + 2 * 0)))))))))))) ≡ m + 128 * w + 256 * l + 16777216 * (s + 2 * n + 4 + 8 * a + 128 * h)
sum_up m l w s n a h = omega arith

value_head : (g : SigFields) → SigFits g → value (head_bits g) ≡ head_word g
unfolding head_bits head_word
value_head g f =
    let w = one_if (eqb g.width 40) in
    let m : value (low 7 g.mcs) ≡ g.mcs = value_low 7 g.mcs ∙ mod-eq_of_lt f.mcs in
    let l : value (low 16 g.length) ≡ g.length = value_low 16 g.length ∙ mod-eq_of_lt f.length in
    value_append (low 7 g.mcs) (w ∷ (low 16 g.length ++ flags g))
    ∙ ap (λ (x : ℕ). x + 128 * (w + 2 * value (low 16 g.length ++ flags g))) m
    ∙ ap (λ (x : ℕ). g.mcs + 128 * (w + 2 * x)) (value_append (low 16 g.length) (flags g) ∙ ap (λ (x : ℕ). x + 65536 * value (flags g)) l)
    ∙ sum_up g.mcs g.length w (one_if g.smoothing) (one_if g.not_sounding) (one_if g.aggregation) (one_if g.short_guard)

-- bits 0 to 33 are the low bits of their number
pub head_low : (g : SigFields) → SigFits g → head_bits g ≡ low 34 (head_word g)
head_low g f = low_of 34 (head_bits g) (two_head g) (length_head g) ∙ ap (low 34) (value_head g f)

abbrev tail : List ℕ
tail = 0 ∷ 0 ∷ 0 ∷ 0 ∷ 0 ∷ 0 ∷ []

two_ending : (l : List ℕ) → Two (crc_bits l ++ tail)
two_ending l = two_append (crc_bits l) tail (two_sent (shifted_over ones l)) (lit, (lit, (lit, (lit, (lit, (lit, tt))))))
  where
    lit : 0 < 2
    lit = omega arith

value_ending : (l : List ℕ) → value (crc_bits l ++ tail) ≡ value (crc_bits l)
value_ending l = value_append (crc_bits l) tail ∙ plus (value (crc_bits l))
  where
    plus : (v : ℕ) → v + 256 * 0 ≡ v
    plus v = omega arith

-- all 48 bits are the low bits of their number
pub sig_low : (g : SigFields) → SigFits g → sig_bits g ≡ low 48 (sig_word g)
unfolding sig_bits sig_word
sig_low g f =
    let e = crc_bits (head_bits g) ++ tail in
    let v : value (head_bits g ++ e) ≡ head_word g + 17179869184 * crc_field (crc_run 34 255 (head_word g)) =
    value_append (head_bits g) e
    ∙ ap (λ (x : ℕ). x + 2 ^ length (head_bits g) * value e) (value_head g f)
    ∙ ap (λ (x : ℕ). head_word g + 2 ^ x * value e) (length_head g)
    ∙ ap (λ (x : ℕ). head_word g + 17179869184 * x) (value_ending (head_bits g) ∙ ap (λ (l : List ℕ). value (crc_bits l)) (head_low g f) ∙ crc_value (head_word g)) in
    let n : length (head_bits g ++ e) ≡ 48 = length-append (head_bits g) e ∙ ap (λ (x : ℕ). x + 14) (length_head g) in
    low_of 48 (head_bits g ++ e) (two_append (head_bits g) e (two_head g) (two_ending (head_bits g))) n ∙ ap (low 48) v

-- the six bytes of the field are the low bytes of its number
pub bytes_are : (g : SigFields) → SigFits g → sig_bytes g ≡ six_of (sig_word g)
unfolding sig_bytes
bytes_are g f = ap (packed 6) (sig_low g f) ∙ packed_low 6 (sig_word g)

-- accepted settings have fields that fit
pub sig_fits : (s : Settings) → Right s → SigFits (fields_of s)
sig_fits s r = record { mcs = omega (arith, r.mcs); length = r.length_most }

-- ---- the write

-- where six bytes or more are lent, the six are written
pub wrote : (x : Result Settings Refusal) (s : Settings) (w : ℕ) (l m : List ℕ) → x ≡ Ok s → 6 ≤ length l → SigFits (fields_of s) → w ≡ sig_word (fields_of s)
    → m ≡ six_of w ++ drop 6 l → ((Ok tt) ≡ written_of x (length l)) × (m ≡ written_into x l)
wrote x s w l m q h fit p d =
    let t : ltb (length l) 6 ≡ false = le-ltb (length l) 6 h in
    let b : six_of w ≡ sig_bytes (fields_of s) = ap six_of p ∙ sym (bytes_are (fields_of s) fit) in (
      ap (λ (b : Bool). cond b (Err Room) (Ok tt)) (sym t) ∙ ap (λ (y : Result Settings Refusal). written_of y (length l)) (sym q),
      d ∙ ap (λ (y : List ℕ). y ++ drop 6 l) b ∙ ap (λ (b : Bool). cond b l (sig_bytes (fields_of s) ++ drop 6 l)) (sym t) ∙ ap (λ (y : Result Settings Refusal). written_into y l) (sym q),
    )

-- ---- the read, by bits and by the number

-- the CRC test on the bits is the one on the number
pub crc_in : (w : ℕ) → crc_wrong (low 48 w) ≡ word_crc_wrong w
unfolding crc_wrong word_crc_wrong
crc_in w =
    ap (λ (x : ℕ). not (eqb x (value (crc_bits (take 34 (low 48 w)))))) (field_of 48 34 8 w (omega arith))
    ∙ ap (λ (x : ℕ). not (eqb (w / 17179869184 % 256) x))
    (ap (λ (l : List ℕ). value (crc_bits l)) (take_low 34 14 w ∙ sym (low_mod 34 w)) ∙ crc_value (w % 17179869184))

low_field : (w : ℕ) → field (low 48 w) 0 7 ≡ w % 128
low_field w = field_of 48 0 7 w (omega arith) ∙ ap (λ (x : ℕ). x % 128) (div-one w)

form_with : (w : ℕ) {a b c d e f g : ℕ} → a ≡ w % 128 → b ≡ w / 256 % 65536 → c ≡ w / 67108864 % 2 → d ≡ w / 268435456 % 4 → e ≡ w / 1073741824 % 2 → f ≡ w / 4294967296 % 4
    → g ≡ w / 4398046511104 % 64
    → (ltb 31 a || (eqb b 0 || (not (eqb c 1) || (not (eqb d 0) || (not (eqb e 0) || (not (eqb f 0) || not (eqb g 0))))))) ≡ word_form_wrong w
unfolding word_form_wrong
form_with w p q r s t u v = cc

-- and so is the test of the form
pub form_in : (w : ℕ) → form_wrong (low 48 w) ≡ word_form_wrong w
unfolding form_wrong
form_in w =
    form_with w (low_field w) (field_of 48 8 16 w (omega arith)) (field_of 48 26 1 w (omega arith)) (field_of 48 28 2 w (omega arith)) (field_of 48 30 1 w (omega arith))
    (field_of 48 32 2 w (omega arith)) (field_of 48 42 6 w (omega arith))

-- and the fields
pub fields_in_word_lem : (w : ℕ) → fields_in (low 48 w) ≡ fields_in_word w
unfolding fields_in fields_in_word
fields_in_word_lem w =
    same_fields
    (ap (λ (x : ℕ). cond (eqb x 1) 40 20) (field_of 48 7 1 w (omega arith)))
    (low_field w)
    (field_of 48 8 16 w (omega arith))
    (ap (λ (x : ℕ). eqb x 1) (field_of 48 24 1 w (omega arith)))
    (ap (λ (x : ℕ). eqb x 1) (field_of 48 25 1 w (omega arith)))
    (ap (λ (x : ℕ). eqb x 1) (field_of 48 27 1 w (omega arith)))
    (ap (λ (x : ℕ). eqb x 1) (field_of 48 31 1 w (omega arith)))

-- the read by its tests' values
abbrev pub by_tests : Bool → Bool → Bool → SigFields → Result SigFields Refusal
by_tests a b c g = cond a (Err Source) (cond b (Err SigCrc) (cond c (Err SigForm) (Ok g)))

-- the read of six bytes, on their number
pub read_word : (l : List ℕ) → length l ≡ 6 → AreBytes l → read_of l ≡ by_tests false (word_crc_wrong (word_in l)) (word_form_wrong (word_in l)) (fields_in_word (word_in l))
read_word l h b =
    let e = bits_in_lem l h b in
    ap (λ (t : Bool). by_tests (not t) (crc_wrong (bits_in l)) (form_wrong (bits_in l)) (fields_in (bits_in l))) (eq-eqb (length l) 6 h)
    ∙ ap (λ (k : List ℕ). by_tests false (crc_wrong k) (form_wrong k) (fields_in k)) e
    ∙ ap (λ (t : Bool). by_tests false t (form_wrong (low 48 (word_in l))) (fields_in (low 48 (word_in l)))) (crc_in (word_in l))
    ∙ ap (λ (t : Bool). by_tests false (word_crc_wrong (word_in l)) t (fields_in (low 48 (word_in l)))) (form_in (word_in l))
    ∙ ap (λ (g : SigFields). by_tests false (word_crc_wrong (word_in l)) (word_form_wrong (word_in l)) g) (fields_in_word_lem (word_in l))

-- a slice that is not six bytes
pub read_short : (l : List ℕ) → SourceRow l → read_of l ≡ Err Source
read_short l n = ap (λ (t : Bool). by_tests (not t) (crc_wrong (bits_in l)) (form_wrong (bits_in l)) (fields_in (bits_in l))) (ne_eqb (length l) 6 n)

-- the read of six bytes, for the code: by what its parts say of the number
pub read_by : (l : List ℕ) (w : ℕ) (b c : Bool) (g : SigFields) → length l ≡ 6 → AreBytes l → w ≡ word_in l → word_crc_wrong w ≡ b → word_form_wrong w ≡ c → g ≡ fields_in_word w
    → by_tests false b c g ≡ read_of l
read_by l w b c g h k e p q r =
    let u : b ≡ word_crc_wrong (word_in l) = sym p ∙ ap word_crc_wrong e in
    let v : c ≡ word_form_wrong (word_in l) = sym q ∙ ap word_form_wrong e in
    let z : g ≡ fields_in_word (word_in l) = r ∙ ap fields_in_word e in
    ap (λ (x : Bool). by_tests false x c g) u
    ∙ ap (λ (x : Bool). by_tests false (word_crc_wrong (word_in l)) x g) v
    ∙ ap (λ (x : SigFields). by_tests false (word_crc_wrong (word_in l)) (word_form_wrong (word_in l)) x) z
    ∙ sym (read_word l h k)

-- ---- what is written is read

bool_back : (b : Bool) (x : ℕ) → x ≡ one_if b → eqb x 1 ≡ b
bool_back true x e = ap (λ (n : ℕ). eqb n 1) e
bool_back false x e = ap (λ (n : ℕ). eqb n 1) e

one_le : (b : Bool) → one_if b ≤ 1
one_le true = omega arith
one_le false = omega arith

-- the parts of a number, each at its place in HT-SIG
record Parts (x m w l s n a h f : ℕ) : Type 0 where
  mcs : x % 128 ≡ m
  width : x / 128 % 2 ≡ w
  length : x / 256 % 65536 ≡ l
  smoothing : x / 16777216 % 2 ≡ s
  sounding : x / 33554432 % 2 ≡ n
  reserved : x / 67108864 % 2 ≡ 1
  aggregation : x / 134217728 % 2 ≡ a
  stbc : x / 268435456 % 4 ≡ 0
  coding : x / 1073741824 % 2 ≡ 0
  guard : x / 2147483648 % 2 ≡ h
  extension : x / 4294967296 % 4 ≡ 0
  crc : x / 17179869184 % 256 ≡ f
  rest : x / 4398046511104 % 64 ≡ 0
  head : x % 17179869184 ≡ m + 128 * w + 256 * l + 16777216 * (s + 2 * n + 4 + 8 * a + 128 * h)
  small : x < 281474976710656

-- a number put together of parts has these parts
parts : (m w l s n a h f : ℕ) → m < 32 → w ≤ 1 → l < 65536 → s ≤ 1 → n ≤ 1 → a ≤ 1 → h ≤ 1 → f < 256
    → Parts (m + 128 * w + 256 * l + 16777216 * (s + 2 * n + 4 + 8 * a + 128 * h) + 17179869184 * f) m w l s n a h f
parts m w l s n a h f mf wf lf sf nf af hf ff = record {
  mcs = omega arith;
  width = omega arith;
  length = omega arith;
  smoothing = omega arith;
  sounding = omega arith;
  reserved = omega arith;
  aggregation = omega arith;
  stbc = omega arith;
  coding = omega arith;
  guard = omega arith;
  extension = omega arith;
  crc = omega arith;
  rest = omega arith;
  head = omega arith;
  small = omega arith;
}

form_right : (w : ℕ) {m l : ℕ} → w % 128 ≡ m → m < 32 → w / 256 % 65536 ≡ l → 0 < l → w / 67108864 % 2 ≡ 1 → w / 268435456 % 4 ≡ 0 → w / 1073741824 % 2 ≡ 0 → w / 4294967296 % 4 ≡ 0
    → w / 4398046511104 % 64 ≡ 0 → word_form_wrong w ≡ false
unfolding word_form_wrong
form_right w {m} {l} p mf q lf r s t u v =
    let some : l ≡ 0 → ⊥ = λ z. omega arith in
    simp (p, q, r, s, t, u, v, le-ltb 31 m (omega arith), ne_eqb l 0 some)

width_back : (x w : ℕ) → T (among widths w) → x ≡ one_if (eqb w 40) → cond (eqb x 1) 40 20 ≡ w
width_back x w t e = ap (λ (k : ℕ). cond (eqb k 1) 40 20) e ∙ go (eqb w 20) (eqb w 40) refl refl
  where
    go : (b c : Bool) → eqb w 20 ≡ b → eqb w 40 ≡ c → cond (eqb (one_if c) 1) 40 20 ≡ w
    go b true p q = sym (eqb-true w 40 q)
    go true false p q = sym (eqb-true w 20 p)
    go false false p q = absurd (simp (p, q) at t)

module _ (s : Settings) (r : Right s) where
  abbrev meant : SigFields
  meant = fields_of s

  abbrev sent : ℕ
  sent = crc_field (crc_run 34 255 (head_word meant))

  sent_small : sent < 256
  sent_small = field_small (crc_run 34 255 (head_word meant))

  got : Parts (sig_word meant) s.mcs (one_if (eqb s.width 40)) s.length (one_if s.smoothing) (one_if s.not_sounding) (one_if s.aggregation)
      (one_if s.short_guard) sent
  unfolding sig_word head_word
  got =
      parts s.mcs (one_if (eqb s.width 40)) s.length (one_if s.smoothing) (one_if s.not_sounding) (one_if s.aggregation) (one_if s.short_guard) sent
      r.mcs (one_le (eqb s.width 40)) r.length_most (one_le s.smoothing) (one_le s.not_sounding) (one_le s.aggregation) (one_le s.short_guard) sent_small

  got_head : sig_word meant % 17179869184 ≡ head_word meant
  unfolding head_word
  got_head = got.head

  crc_back : word_crc_wrong (sig_word meant) ≡ false
  unfolding word_crc_wrong
  crc_back = ap not (eq-eqb _ _ (got.crc ∙ ap (λ (x : ℕ). crc_field (crc_run 34 255 x)) (sym got_head)))

  form_back : word_form_wrong (sig_word meant) ≡ false
  form_back = form_right (sig_word meant) got.mcs r.mcs got.length r.length_some got.reserved got.stbc got.coding got.extension got.rest

  fields_back : fields_in_word (sig_word meant) ≡ meant
  unfolding fields_in_word
  fields_back =
      same_fields (width_back _ s.width r.width got.width) got.mcs got.length (bool_back s.smoothing _ got.smoothing) (bool_back s.not_sounding _ got.sounding)
      (bool_back s.aggregation _ got.aggregation) (bool_back s.short_guard _ got.guard)

  read_back : read_of (sig_bytes meant) ≡ Ok meant
  read_back =
      let w = sig_word meant in
      let e : word_in (six_of w) ≡ w = word_again w got.small in
      ap read_of (bytes_are meant (sig_fits s r))
      ∙ sym (read_by (six_of w) w false false meant refl (six_are_bytes w) (sym e) crc_back form_back (sym fields_back))

-- reading what was written gives the settings' fields back
pub read_of_written : (s : Settings) → Right s → read_of (sig_bytes (fields_of s)) ≡ Ok (fields_of s)
read_of_written s r = read_back s r

-- ---- the read gives fields for nothing else

-- what the two tests of the read leave of a number
record Passed (w : ℕ) : Type 0 where
  crc : w / 17179869184 % 256 ≡ crc_field (crc_run 34 255 (w % 17179869184))
  mcs : w % 128 ≤ 31
  some : w / 256 % 65536 ≡ 0 → ⊥
  reserved : w / 67108864 % 2 ≡ 1
  stbc : w / 268435456 % 4 ≡ 0
  coding : w / 1073741824 % 2 ≡ 0
  extension : w / 4294967296 % 4 ≡ 0
  rest : w / 4398046511104 % 64 ≡ 0

passed : (w : ℕ) → word_crc_wrong w ≡ false → word_form_wrong w ≡ false → Passed w
unfolding word_crc_wrong word_form_wrong
passed w c f =
    let f1 = or_false (ltb 31 (w % 128)) _ f in
    let f2 = or_false (eqb (w / 256 % 65536) 0) _ f1.1 in
    let f3 = or_false (not (eqb (w / 67108864 % 2) 1)) _ f2.1 in
    let f4 = or_false (not (eqb (w / 268435456 % 4) 0)) _ f3.1 in
    let f5 = or_false (not (eqb (w / 1073741824 % 2) 0)) _ f4.1 in
    let f6 = or_false (not (eqb (w / 4294967296 % 4) 0)) _ f5.1 in
    record {
      crc = eqb-true _ _ (not-false _ c);
      mcs = ltb-false 31 (w % 128) f1.0;
      some = eqb-false (w / 256 % 65536) 0 f2.0;
      reserved = eqb-true _ _ (not-false _ f3.0);
      stbc = eqb-true _ _ (not-false _ f4.0);
      coding = eqb-true _ _ (not-false _ f5.0);
      extension = eqb-true _ _ (not-false _ f6.0);
      rest = eqb-true _ _ (not-false _ f6.1);
    }

width_one : (x : ℕ) → x < 2 → one_if (eqb (cond (eqb x 1) 40 20) 40) ≡ x
width_one zero h = refl
width_one (suc zero) h = refl
width_one (suc (suc x)) h = absurd (omega arith)

-- a number by its parts
low_parts : (w : ℕ) → w % 16777216 ≡ w % 128 + 128 * (w / 128 % 2) + 256 * (w / 256 % 65536)
low_parts w = omega arith

-- bits 24 to 33, each part from the one before it
ten_parts : (v a b c d e f g : ℕ) → a ≡ v / 2 → b ≡ a / 2 → c ≡ b / 2 → d ≡ c / 2 → e ≡ d / 4 → f ≡ e / 2 → g ≡ f / 2 → b % 2 ≡ 1 → d % 4 ≡ 0 → e % 2 ≡ 0 → g % 4 ≡ 0
    → v % 1024 ≡ v % 2 + 2 * (a % 2) + 4 + 8 * (c % 2) + 128 * (f % 2)
ten_parts v a b c d e f g i j k l m n o p q r s =
    mod_of v (v % 2 + 2 * (a % 2) + 4 + 8 * (c % 2) + 128 * (f % 2)) (g / 4) (omega arith) (omega arith)
  where
    mod_of : (v r q : ℕ) → v ≡ r + 1024 * q → r < 1024 → v % 1024 ≡ r
    mod_of v r q e h = omega arith

two_parts : (w : ℕ) → w % 17179869184 ≡ w % 16777216 + 16777216 * (w / 16777216 % 1024)
two_parts w = omega arith

all_parts : (w : ℕ) → w < 281474976710656 → w / 4398046511104 % 64 ≡ 0 → w ≡ w % 17179869184 + 17179869184 * (w / 17179869184 % 256)
all_parts w h e = omega arith

-- bits 24 to 33 of a number that passed
flag_parts : (w : ℕ) → Passed w
    → w / 16777216 % 1024 ≡ w / 16777216 % 2 + 2 * (w / 33554432 % 2) + 4 + 8 * (w / 134217728 % 2) + 128 * (w / 2147483648 % 2)
flag_parts w p =
    ten_parts (w / 16777216) (w / 33554432) (w / 67108864) (w / 134217728) (w / 268435456) (w / 1073741824) (w / 2147483648) (w / 4294967296)
    (omega arith) (omega arith) (omega arith) (omega arith) (omega arith) (omega arith) (omega arith) p.reserved p.stbc p.coding p.extension

-- bits 0 to 33 are the fields' own
head_again : (w : ℕ) → Passed w → head_word (fields_in_word w) ≡ w % 17179869184
unfolding head_word fields_in_word
head_again w p =
    let below : (x : ℕ) → x % 2 < 2 = λ x. omega arith in
    together (w % 128) (w / 256 % 65536) (width_one (w / 128 % 2) (below (w / 128))) (one_back (w / 16777216 % 2) (below (w / 16777216))) (one_back (w / 33554432 % 2) (below (w / 33554432)))
    (one_back (w / 134217728 % 2) (below (w / 134217728))) (one_back (w / 2147483648 % 2) (below (w / 2147483648)))
    ∙ ap (λ (x : ℕ). w % 128 + 128 * (w / 128 % 2) + 256 * (w / 256 % 65536) + 16777216 * x) (sym (flag_parts w p))
    ∙ ap (λ (x : ℕ). x + 16777216 * (w / 16777216 % 1024)) (sym (low_parts w))
    ∙ sym (two_parts w)
  where
    together : (m l : ℕ) {a b c d e a' b' c' d' e' : ℕ} → a ≡ a' → b ≡ b' → c ≡ c' → d ≡ d' → e ≡ e'
        → m + 128 * a + 256 * l + 16777216 * (b + 2 * c + 4 + 8 * d + 128 * e) ≡ m + 128 * a' + 256 * l + 16777216 * (b' + 2 * c' + 4 + 8 * d' + 128 * e')
    together m l p q r s t = cc

-- a number that passed is the number of its fields
word_of_fields : (w : ℕ) → w < 281474976710656 → Passed w → sig_word (fields_in_word w) ≡ w
unfolding sig_word
word_of_fields w h p =
    let e = head_again w p in
    ap (λ (x : ℕ). x + 17179869184 * crc_field (crc_run 34 255 x)) e
    ∙ ap (λ (x : ℕ). w % 17179869184 + 17179869184 * x) (sym p.crc)
    ∙ sym (all_parts w h p.rest)

-- what is known where fields are given
record Given (l : List ℕ) (g : SigFields) : Type 0 where
  six : length l ≡ 6
  passes : Passed (word_in l)
  fields : g ≡ fields_in_word (word_in l)

given : (l : List ℕ) (g : SigFields) → AreBytes l → read_of l ≡ Ok g → Given l g
given l g k e = by_length (eqb (length l) 6) refl
  where
    by_form : (c : Bool) → length l ≡ 6 → word_crc_wrong (word_in l) ≡ false → word_form_wrong (word_in l) ≡ c → by_tests false false c (fields_in_word (word_in l)) ≡ Ok g → Given l g
    by_form true h p q f = absurd (let z : ◌≡◌ {A = ℕ} 0 1 = cc in omega arith)
    by_form false h p q f = let z : fields_in_word (word_in l) ≡ g = cc in record { six = h; passes = passed (word_in l) p q; fields = sym z }

    by_crc : (b : Bool) → length l ≡ 6 → word_crc_wrong (word_in l) ≡ b → by_tests false b (word_form_wrong (word_in l)) (fields_in_word (word_in l)) ≡ Ok g → Given l g
    by_crc true h p f = absurd (let z : ◌≡◌ {A = ℕ} 0 1 = cc in omega arith)
    by_crc false h p f = by_form (word_form_wrong (word_in l)) h p refl f

    by_length : (t : Bool) → eqb (length l) 6 ≡ t → Given l g
    by_length true p = let h = eqb-true (length l) 6 p in by_crc (word_crc_wrong (word_in l)) h refl (sym (read_word l h k) ∙ e)
    by_length false p = absurd (let f = sym (read_short l (eqb-false (length l) 6 p)) ∙ e in let z : ◌≡◌ {A = ℕ} 0 1 = cc in omega arith)

-- settings with given fields
abbrev asked : SigFields → RawSettings
asked g = record {
  width = g.width;
  mcs = g.mcs;
  format = 0;
  length = g.length;
  seed = 1;
  smoothing = g.smoothing;
  not_sounding = g.not_sounding;
  aggregation = g.aggregation;
  short_guard = g.short_guard;
}

either_width : (b : Bool) → not (eqb (cond b 40 20) 20 || eqb (cond b 40 20) 40) ≡ false
either_width true = refl
either_width false = refl

length_right : (n : ℕ) → n < 65536 → (n ≡ 0 → ⊥) → (eqb n 0 || ltb 65535 n) ≡ false
length_right n h k = simp (ne_eqb n 0 k, le-ltb 65535 n (omega arith))

asked_accepted : (w : ℕ) → Passed w → check_of (asked (fields_in_word w)) ≡ Ok (settings_of (asked (fields_in_word w)))
unfolding fields_in_word
asked_accepted w p =
    sym (accepted_is (asked (fields_in_word w)) (either_width (eqb (w / 128 % 2) 1)) (le-ltb 31 (w % 128) p.mcs) refl (length_right (w / 256 % 65536) (omega arith) p.some) refl)

read_fits : (w : ℕ) → SigFits (fields_in_word w)
unfolding fields_in_word
read_fits w = record { mcs = omega arith; length = omega arith }

-- the bytes read are those that these fields make
bytes_again : (l : List ℕ) (g : SigFields) → AreBytes l → Given l g → l ≡ sig_bytes g
bytes_again l g k v =
    let w = word_in l in
    six_joined l v.six k
    ∙ ap six_of (sym (word_of_fields w (six_small l v.six k) v.passes))
    ∙ sym (bytes_are (fields_in_word w) (read_fits w))
    ∙ ap sig_bytes (sym v.fields)

-- the read gives fields exactly for what accepted settings write
pub read_exactly : ReadExactly
read_exactly = λ l k. (
  (
    λ p. let v = given l p.0 k p.1 in (
      asked p.0,
      (
        settings_of (asked p.0),
        (
          subst (λ (g : SigFields). check_of (asked g) ≡ Ok (settings_of (asked g))) (sym v.fields) (asked_accepted (word_in l) v.passes),
          bytes_again l p.0 k v,
        ),
      ),
    ),
    λ q. let s = q.1.0 in (fields_of s, ap read_of q.1.1.1 ∙ read_of_written s (right q.0 s q.1.1.0)),
  ),
  λ g a s e c b. let f = sym e ∙ ap read_of b ∙ read_of_written s (right a s c) in let z : g ≡ fields_of s = cc in z,
)

-- ---- the refusals of the read

-- eight bits are the CRC exactly when they have its number
same_crc : (l : List ℕ) → length l ≡ 6 → field (bits_in l) 34 8 ≡ value (crc_bits (take 34 (bits_in l))) → take 8 (drop 34 (bits_in l)) ≡ crc_bits (take 34 (bits_in l))
unfolding field
same_crc l h e =
    let v = value (bits_in l) in
    let s : take 8 (drop 34 (bits_in l)) ≡ low 8 (v / 17179869184) =
    ap (λ (b : List ℕ). take 8 (drop 34 b)) (six_bits l h) ∙ ap (take 8) (drop_low 34 14 v) ∙ take_low 8 6 (v / 17179869184) in
    s ∙ same_bit_list (low 8 (v / 17179869184)) (crc_bits (take 34 (bits_in l))) (two_low 8 (v / 17179869184)) (two_sent (shifted_over ones (take 34 (bits_in l)))) refl (ap value (sym s) ∙ e)

crc_row : (l : List ℕ) → length l ≡ 6 → (crc_wrong (bits_in l) ≡ true) ↔ CrcRow l
unfolding crc_wrong field
crc_row l h =
    let o = other (field (bits_in l) 34 8) (value (crc_bits (take 34 (bits_in l)))) in
    (λ e n. o.0 e (ap value n), λ n. o.1 (λ v. n (same_crc l h v)))

form_row : (l : List ℕ) → (form_wrong (bits_in l) ≡ true) ↔ FormRow l
unfolding form_wrong
form_row l =
    let b = bits_in l in
    either _ _ (less 31 (field b 0 7)) (either _ _ (same (field b 8 16) 0) (either _ _ (other (field b 26 1) 1) (either _ _ (other (field b 28 2) 0)
    (either _ _ (other (field b 30 1) 0) (either _ _ (other (field b 32 2) 0) (other (field b 42 6) 0))))))

module _ (l : List ℕ) (h : length l ≡ 6) where
  abbrev sourceRule : Rule
  sourceRule = record { number = 6; Applies = SourceRow l; test = not (eqb (length l) 6); right = other (length l) 6 }

  abbrev crcRule : Rule
  crcRule = record { number = 13; Applies = CrcRow l; test = crc_wrong (bits_in l); right = crc_row l h }

  abbrev formRule : Rule
  formRule = record { number = 14; Applies = FormRow l; test = form_wrong (bits_in l); right = form_row l }

  read_number_lem : read_number (read_of l) ≡ first_of (sourceRule ∷ crcRule ∷ formRule ∷ [])
  read_number_lem = go (not (eqb (length l) 6)) (crc_wrong (bits_in l)) (form_wrong (bits_in l))
    where
      go : (a b c : Bool) → read_number (by_tests a b c (fields_in (bits_in l))) ≡ cond a 6 (cond b 13 (cond c 14 0))
      go true b c = refl
      go false true c = refl
      go false false true = refl
      go false false false = refl

-- the signal read gives each refusal exactly when its row applies and none before it does
pub read_refusals : ReadRefusals
read_refusals l = go (eqb (length l) 6) refl
  where
    go : (t : Bool) → eqb (length l) 6 ≡ t
        → ((read_number (read_of l) ≡ 6) ↔ (SourceRow l × Unit {0}))
        × (((read_number (read_of l) ≡ 13) ↔ (CrcRow l × ((SourceRow l → ⊥) × Unit {0})))
        × (((read_number (read_of l) ≡ 14) ↔ (FormRow l × ((SourceRow l → ⊥) × ((CrcRow l → ⊥) × Unit {0}))))
        × ((read_number (read_of l) ≡ 0) ↔ ((SourceRow l → ⊥) × ((CrcRow l → ⊥) × ((FormRow l → ⊥) × Unit {0}))))))
    go true p =
        let h = eqb-true (length l) 6 p in
        given_exactly (read_number (read_of l)) (sourceRule l h ∷ crcRule l h ∷ formRule l h ∷ []) tt (read_number_lem l h)
    go false p =
        let n = eqb-false (length l) 6 p in
        let r : read_number (read_of l) ≡ 6 = ap read_number (read_short l n) in (
          (λ e. (n, tt), λ q. r),
          (
            (λ e. absurd (omega arith), λ q. absurd (q.1.0 n)),
            (
              (λ e. absurd (omega arith), λ q. absurd (q.1.0 n)),
              (λ e. absurd (omega arith), λ q. absurd (q.0 n)),
            ),
          ),
        )

-- ---- what the write leaves

pub six_length : (g : SigFields) → length (sig_bytes g) ≡ 6
unfolding sig_bytes
six_length g = refl

-- a refused write changes nothing
pub refused_writes_nothing : (c : Result Settings Refusal) (l : List ℕ) → (written_number (written_of c (length l)) ≡ 0 → ⊥) → written_into c l ≡ l
refused_writes_nothing (Ok s) l n = go (ltb (length l) 6) n
  where
    go : (t : Bool) → (written_number (cond t (Err Room) (Ok tt)) ≡ 0 → ⊥) → cond t l (sig_bytes (fields_of s) ++ drop 6 l) ≡ l
    go true n = refl
    go false n = absurd (n refl)
refused_writes_nothing (Err r) l n = refl

-- from the seventh byte on the lent bytes stay, and there are as many
pub rest_stays : (c : Result Settings Refusal) (l : List ℕ) → (drop 6 (written_into c l) ≡ drop 6 l) × (length (written_into c l) ≡ length l)
rest_stays (Ok s) l = go (ltb (length l) 6) refl
  where
    go : (t : Bool) → ltb (length l) 6 ≡ t
        → (drop 6 (cond t l (sig_bytes (fields_of s) ++ drop 6 l)) ≡ drop 6 l) × (length (cond t l (sig_bytes (fields_of s) ++ drop 6 l)) ≡ length l)
    go true e = (refl, refl)
    go false e =
        let h : 6 ≤ length l = ltb-false (length l) 6 e in
        let n = six_length (fields_of s) in (
          drop_at (sig_bytes (fields_of s)) (drop 6 l) 6 n,
          length-append (sig_bytes (fields_of s)) (drop 6 l) ∙ ap (λ (k : ℕ). k + length (drop 6 l)) n ∙ simp length-drop (omega arith),
        )
rest_stays (Err r) l = (refl, refl)

-- where the settings are accepted and there is room, the first six bytes are the field's
pub six_written : (s : Settings) (l : List ℕ) → 6 ≤ length l → take 6 (written_into (Ok s) l) ≡ sig_bytes (fields_of s)
six_written s l h = simp (le-ltb (length l) 6) (take_at (sig_bytes (fields_of s)) (drop 6 l) 6 (six_length (fields_of s)))

abbrev blank : List ℕ
blank = 0 ∷ 0 ∷ 0 ∷ 0 ∷ 0 ∷ 0 ∷ []

blank_refused : read_of blank ≡ Err SigCrc
unfolding crc_wrong
blank_refused = refl

-- a program that writes nothing does not meet the write's promise: six zeros never stay
pub blank_changes : (s : Settings) → Right s → written_into (Ok s) blank ≡ blank → ⊥
blank_changes s r e =
    let w : blank ≡ sig_bytes (fields_of s) = sym (ap (take 6) e) ∙ six_written s blank (omega arith) in
    let f : Err SigCrc ≡ Ok (fields_of s) = sym blank_refused ∙ ap read_of w ∙ read_of_written s r in
    let z : ◌≡◌ {A = ℕ} 0 1 = cc in
    omega arith

-- ---- the refusals of the write

abbrev room_rule : ℕ → Rule
room_rule room = record { number = 8; Applies = SignalRoomRow room; test = ltb room 6; right = less room 6 }

-- the signal write gives each refusal exactly when its row applies and none before it does
pub write_refusals : WriteRefusals
write_refusals a room =
    given_exactly (written_number (written_of (check_of a) room)) (settingsRules a ++ (room_rule room ∷ [])) tt
    (after_settings a (λ (c : Result Settings Refusal). written_number (written_of c room)) (room_rule room ∷ []) (λ r. refl) (go (ltb room 6)))
  where
    go : (t : Bool) → written_number (cond t (Err Room) (Ok tt)) ≡ cond t 8 0
    go true = refl
    go false = refl
