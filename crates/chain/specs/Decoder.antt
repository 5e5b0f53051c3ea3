-- The encoders undone (document 01: "no data bits give these coded bits after the earlier ones"): an encoder as a machine whose last six inputs
-- are one number, the inputs that a symbol's label bits force, and the test whether any inputs give them.
use Rattle.std.specs.Prelude.{Bool, cond, ℕ, zero, suc, ◌+◌, ◌-◌, ◌*◌, ◌/◌, ◌%◌, eqb}
use Rattle.laws.specs.Test.{below}
use Rattle.chain.specs.declared.plan.Plan.{Plan}
use Rattle.chain.specs.Plan.{groups_of}
use Rattle.chain.specs.Puncture.{kept_step}
use Rattle.chain.specs.Parser.{axis_bits, encoder_of, index_of, stream_of, bit_of}
use Rattle.chain.specs.Interleaver.{place, source}

-- an encoder's last six inputs as a number, u k the input of k steps before: the newest is bit 0
abbrev pub history_of_taps : (u : ℕ → ℕ) → ℕ
history_of_taps u = u 1 + 2 * u 2 + 4 * u 3 + 8 * u 4 + 16 * u 5 + 32 * u 6

-- the history after one input more, and after t inputs x
abbrev pub history_with : (h b : ℕ) → ℕ
history_with h b = (2 * h + b) % 64

unfoldable pub history_after : (h : ℕ) (x : ℕ → ℕ) (t : ℕ) → ℕ
history_after h x zero = h
history_after h x (suc t) = history_with (history_after h x t) (x t)

-- sums A and B of input b after history h, and the one at place m of a pattern: they alternate, A first
abbrev pub history_a : (h b : ℕ) → ℕ
history_a h b = (b + h / 2 + h / 4 + h / 16 + h / 32) % 2

abbrev pub history_b : (h b : ℕ) → ℕ
history_b h b = (b + h + h / 2 + h / 4 + h / 32) % 2

unfoldable pub sum_after : (m h b : ℕ) → ℕ
sum_after m h b = cond (eqb (m % 2) 0) (history_a h b) (history_b h b)

-- kept bit i of inputs x after history h
unfoldable pub coded_after : (h : ℕ) (x : ℕ → ℕ) (kept i : ℕ) → ℕ
coded_after h x kept i = sum_after (i % kept) (history_after h x (kept_step kept i)) (x (kept_step kept i))

-- the kept bit that forces input t: its step's only one, or its second
unfoldable pub forcing_bit : (kept t : ℕ) → ℕ
forcing_bit kept t = t / (kept - 1) * kept + (t % (kept - 1) + 1)

-- the forced input is the same sum with the kept bit in the input's place
abbrev pub forced_push : (m c h : ℕ) → ℕ
forced_push m c h = history_with h (sum_after m h c)

unfoldable pub forced_history : (h : ℕ) (c : ℕ → ℕ) (kept t : ℕ) → ℕ
forced_history h c kept zero = h
forced_history h c kept (suc t) = forced_push (t % (kept - 1) + 1) (c (forcing_bit kept t)) (forced_history h c kept t)

unfoldable pub forced_input : (h : ℕ) (c : ℕ → ℕ) (kept t : ℕ) → ℕ
forced_input h c kept t = sum_after (t % (kept - 1) + 1) (forced_history h c kept t) (c (forcing_bit kept t))

-- inputs dealt to encoder j: "Bit d goes to encoder d mod NES"
abbrev pub dealt : (x : ℕ → ℕ) (encoders j t : ℕ) → ℕ
dealt x encoders j t = x (encoders * t + j)

-- all encoders of a symbol, each with its history hs j and its coded bits c j: the forced inputs, and the test, which the first bit of each group is
unfoldable pub inputs_of : (hs : ℕ → ℕ) (c : ℕ → ℕ → ℕ) (encoders kept d : ℕ) → ℕ
inputs_of hs c encoders kept d = forced_input (hs (d % encoders)) (c (d % encoders)) kept (d / encoders)

unfoldable pub checks : (hs : ℕ → ℕ) (c : ℕ → ℕ → ℕ) (encoders kept groups : ℕ) → Bool
checks hs c encoders kept groups =
    below (λ j. below (λ g. eqb (c j (kept * g)) (coded_after (hs j) (forced_input (hs j) (c j) kept) kept (kept * g))) groups) encoders

-- coded bit y of encoder j among label bits, bit r of stream i being lab i r
unfoldable pub coded_in : (p : Plan) (lab : ℕ → ℕ → ℕ) (j y : ℕ) → ℕ
coded_in p lab j y =
    let s = axis_bits p.bits in
    let i = stream_of s p.streams y in
    lab i (place p.width p.bits i (bit_of s p.streams p.encoders j y))

-- input d of the symbol, as its label bits force it; and whether the symbol's label bits are those of any inputs
abbrev pub decoded_input : (p : Plan) (hs : ℕ → ℕ) (lab : ℕ → ℕ → ℕ) (d : ℕ) → ℕ
decoded_input p hs lab d = inputs_of hs (coded_in p lab) p.encoders p.kept d

abbrev pub decodes : (p : Plan) (hs : ℕ → ℕ) (lab : ℕ → ℕ → ℕ) → Bool
decodes p hs lab = checks hs (coded_in p lab) p.encoders p.kept (groups_of p)

-- label bit r of stream i that inputs X of the symbol give after histories hs
unfoldable pub label_after : (p : Plan) (hs X : ℕ → ℕ) (i r : ℕ) → ℕ
label_after p hs X i r =
    let s = axis_bits p.bits in
    let k = source p.width p.bits i r in
    let j = encoder_of s p.encoders k in
    coded_after (hs j) (dealt X p.encoders j) p.kept (index_of s p.streams p.encoders i k)

-- the history of encoder j before symbol n of the inputs x
abbrev pub history_before : (p : Plan) (x : ℕ → ℕ) (n j : ℕ) → ℕ
history_before p x n j = history_after 0 (dealt x p.encoders j) (n * ((p.kept - 1) * groups_of p))
