-- What a right data bit is, as plain facts (document 01, refusal 11): "service, tail or pad bit wrong".
use Rattle.std.specs.Prelude.{◌≡◌, ℕ, ◌<◌, ◌≤◌}
use Rattle.chain.specs.DataBits.{payload_end, tail_end}

-- data bit d of the frame, the input b with the plain bit a: service and pad are zero before scrambling, tail inputs are zero
abbrev pub RightBit : (bytes encoders d b a : ℕ) → Type 0
RightBit bytes encoders d b a =
    (d < 16 → a ≡ 0) × (payload_end bytes ≤ d → d < tail_end bytes encoders → b ≡ 0) × (tail_end bytes encoders ≤ d → a ≡ 0)
