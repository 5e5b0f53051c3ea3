-- Data bits and scrambler outputs together are the encoders' inputs, and zeros before them the line of inputs.
use Rattle.std.proofs.Common.{◌≡◌, ◌∙◌, sym, ap, List, ℕ, ◌+◌, ◌-◌, ◌*◌, ◌/◌, ◌%◌, ◌<◌, ◌≤◌, min, get_or, zero-add, arith}
use Rattle.std.specs.Int.Bits.{bit_xor}
use Rattle.std.specs.List.{between}
use Rattle.std.proofs.lemmas.List.Edits.{get_or-between}
use borrow.Author.Tests.{lt-ltb, le-ltb}
use Rattle.laws.specs.Filled.{Filled}
use Rattle.laws.proofs.Filling.{fill_at, fill_from, fill_as, fill_join, fill_end}
use Rattle.laws.proofs.Search.{parts}
use Rattle.laws.proofs.Xor.{xor_bits}
use Rattle.chain.specs.Scrambler.{scrambler_bit, state_at}
use Rattle.chain.specs.DataBits.{payload_bit, payload_end, tail_end, data_bit, coder_input}
use Rattle.chain.specs.Encoder.{with_history}
use Rattle.chain.proofs.ScramblerLaws.{output_on}
use Rattle.chain.proofs.InputLaws.{input_before, input_tail, input_after, line_head, line_on}
use Rattle.data_bits.specs.Asked.{DataFilled}
use Rattle.inputs.specs.Asked.{mixed_bit}

module _ (raw outputs : ℕ → ℕ) (tail pad t : ℕ) where
  -- before the tail, in it and after it
  mixed_before : t < tail → mixed_bit raw outputs tail pad t ≡ (raw t + outputs t) % 2
  mixed_before h = simp (lt-ltb t tail)

  mixed_tail : tail ≤ t → t < pad → mixed_bit raw outputs tail pad t ≡ 0
  mixed_tail h k = simp (le-ltb t tail, lt-ltb t pad)

  mixed_after : tail ≤ pad → pad ≤ t → mixed_bit raw outputs tail pad t ≡ (raw t + outputs t) % 2
  mixed_after o h = let k : tail ≤ t = omega arith in simp (le-ltb t tail, le-ltb t pad)

-- all bits with the outputs on them, and then zeros in the tail, are the mixed bits
pub mixed_filled : (raw outputs : List ℕ) (tail pad n : ℕ) → tail ≤ pad → pad ≤ n
    → ((j : ℕ) → get_or raw j 0 < 2) → ((j : ℕ) → j < n → get_or outputs j 0 < 2) → {line₀ line₁ line₂ : List ℕ}
    → Filled 0 0 (λ t. bit_xor (get_or raw t 0) (get_or outputs t 0)) n line₀ line₁
    → Filled 0 tail (λ t. 0) (pad - tail) line₁ line₂
    → Filled 0 0 (mixed_bit (λ j. get_or raw j 0) (λ j. get_or outputs j 0) tail pad) n line₀ line₂
mixed_filled raw outputs tail pad n ordered ends raw_bits out_bits {line₀} {line₁} {line₂} added cleared = record {
  same = cleared.same ∙ added.same;
  done = λ t h. rw (zero-add t) (parts tail pad t
      (λ a. cleared.before t a ∙ sum t h ∙ sym (mixed_before rawAt outAt tail pad t a))
      (λ a b. ap (λ (j : ℕ). get_or line₂ j 0) (omega arith) ∙ cleared.done (t - tail) (omega arith)
      ∙ sym (mixed_tail rawAt outAt tail pad t a b))
      (λ a. cleared.after t (omega arith) ∙ sum t h ∙ sym (mixed_after rawAt outAt tail pad t ordered a)));
  before = λ t h. absurd (omega arith);
  after = λ t h. cleared.after t (omega arith) ∙ added.after t h;
}
  where
    rawAt : ℕ → ℕ
    rawAt j = get_or raw j 0

    outAt : ℕ → ℕ
    outAt j = get_or outputs j 0

    sum : (t : ℕ) → t < n → get_or line₁ t 0 ≡ (get_or raw t 0 + get_or outputs t 0) % 2
    sum t h = fill_at 0 _ added t h ∙ xor_bits (get_or raw t 0) (raw_bits t) (get_or outputs t 0) (out_bits t h)

-- the mixed bit is the encoders' input where data bit, output and tail are right
pub mixed_input : (v raw outputs : ℕ → ℕ) (bytes encoders seed start count tail pad t : ℕ)
    → tail ≡ min (payload_end bytes - start) count → pad ≡ min (tail_end bytes encoders - start) count → t < count
    → raw t ≡ data_bit v bytes (start + t) → outputs t ≡ scrambler_bit (state_at seed start) t
    → mixed_bit raw outputs tail pad t ≡ coder_input v bytes encoders seed (start + t)
mixed_input v raw outputs bytes encoders seed start count tail pad t tail-is pad-is h r o =
    let same : (raw t + outputs t) % 2 ≡ (data_bit v bytes (start + t) + scrambler_bit seed (start + t)) % 2 = rw (r, o, output_on seed start t) in
    let x = scrambler_bit seed (start + t) in
    parts (payload_end bytes) (tail_end bytes encoders) (start + t)
    (λ a. mixed_before raw outputs tail pad t (omega arith) ∙ same ∙ sym (input_before v bytes encoders x (start + t) a))
    (λ a b. mixed_tail raw outputs tail pad t (omega arith) (omega arith) ∙ sym (input_tail v bytes encoders x (start + t) a b))
    (λ a. mixed_after raw outputs tail pad t (omega arith) (omega arith) ∙ same ∙ sym (input_after v bytes encoders x (start + t) a))

-- data bits from a whole byte on, outputs from the state at `start` on, and the mixed bits of both are the encoders' inputs from `start` on
pub inputs_filled : (payload raw₀ raw outputs₀ outputs line₀ line : List ℕ) (bytes encoders seed start count state tail pad : ℕ)
    → count ≤ 2172 → DataFilled payload bytes (start / 8) ((start % 8 + count + 7) / 8) raw₀ raw
    → state ≡ state_at seed start → Filled 0 0 (λ t. scrambler_bit state t) count outputs₀ outputs
    → tail ≡ min (payload_end bytes - start) count → pad ≡ min (tail_end bytes encoders - start) count
    → Filled 0 0 (mixed_bit (λ j. get_or (between (start % 8) 2184 raw) j 0) (λ j. get_or outputs j 0) tail pad) count line₀ line
    → Filled 0 0 (λ t. coder_input (payload_bit payload) bytes encoders seed (start + t)) count line₀ line
inputs_filled payload raw₀ raw outputs₀ outputs line₀ line bytes encoders seed start count state tail pad few
    data_is state_is out-is tail-is pad-is =
    fill_as _ _ _ (λ t. coder_input (payload_bit payload) bytes encoders seed (start + t)) _ _ _
    (λ t h. mixed_input (payload_bit payload) (λ j. get_or (between (start % 8) 2184 raw) j 0) (λ j. get_or outputs j 0)
    bytes encoders seed start count tail pad t tail-is pad-is h
    (get_or-between raw (start % 8) 2184 t 0 (omega arith) ∙ data_is.done (start % 8 + t) (omega arith)
    ∙ ap (data_bit (payload_bit payload) bytes) (omega arith))
    (fill_at 0 (λ k. scrambler_bit state k) out-is t h ∙ ap (λ (s : ℕ). scrambler_bit s t) state_is))

-- zeros, and the inputs after them, are the line from place `first` on
pub line_filled : (x : ℕ → ℕ) (encoders first count head : ℕ) (d₀ d d' : List ℕ)
    → encoders ≤ 2 → 12 ≤ count → head ≡ min (6 * encoders - first) count
    → Filled 0 0 (λ t. 0) head d₀ d → Filled 0 head (λ t. x (first + head - 6 * encoders + t)) (count - head) d d'
    → Filled 0 0 (λ j. with_history x encoders (first + j)) count d₀ d'
line_filled x encoders first count head d₀ d d' two some head-is p q =
    fill_end _ _ _ (omega arith)
    (fill_join 0 0 (λ j. with_history x encoders (first + j)) head (count - head) d₀ d d'
    (fill_as 0 0 (λ t. 0) (λ j. with_history x encoders (first + j)) head d₀ d (λ t h. sym (line_head x encoders (first + t) (omega arith))) p)
    (fill_from _ _ (omega arith)
    (fill_as 0 head (λ t. x (first + head - 6 * encoders + t)) (λ t. with_history x encoders (first + (head + t))) (count - head) d d'
    (λ t h. ap x (omega arith) ∙ sym (line_on x encoders (first + (head + t)) (omega arith))) q)))
