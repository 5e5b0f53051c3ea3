-- The words of demand 3 (document 01, 'What each answer owes'): two frames and what is said of their symbols.
use Rattle.query.specs.declared.query.Carried.{Carried}
use Rattle.settings.specs.declared.settings.Refusal.{Refusal}
use Rattle.std.specs.Prelude.{◌≡◌, List, ℕ, ◌+◌, ◌-◌, ◌*◌, ◌<◌, ◌≤◌, length, get_or, Float, Ok, Result}
use Rattle.laws.specs.Bytes.{AreBytes}
use Rattle.chain.specs.DataBits.{payload_bit}
use Rattle.mapper.specs.declared.point.Point.{Point}
use Rattle.settings.specs.declared.settings.Settings.{Settings}
use Rattle.settings.specs.declared.settings.RawSettings.{RawSettings}
use Rattle.settings.specs.Settings.{plan_for}
use Rattle.query.specs.declared.query.Carried.TheVariants.{Data}
use Rattle.frame.specs.Points.{floats_of}
use Rattle.frame.specs.Compared.{SameBits, SameLevel}

-- "Its payload is the slice's first length bytes, whole when the slice has that many"
abbrev pub WholePayload : RawSettings → List ℕ → Type 0
WholePayload a p = (a.length ≤ length p) × AreBytes p

-- "else they differ": a level that does
abbrev pub DifferentSymbol : Settings → (l l' : List Float) → Type 0
DifferentSymbol s l l' = (g : ℕ) × ((g < floats_of s) × (SameLevel l l' g → ⊥))

-- two answers of the question are data points of which some level differs
abbrev pub DifferentPoints : (r r' : Result Carried Refusal) → Type 0
DifferentPoints r r' = (x : Point) × ((y : Point) × ((r ≡ Ok (Data x)) × ((r' ≡ Ok (Data y))
    × (SameBits x.first y.first → SameBits x.second y.second → ⊥))))

-- "Symbol n's own are nD to nD + D - 1. The last six steps of each encoder before it take nD - 6·NES to nD - 1; symbol 0 has none before it":
-- whether symbol n looks at data bit d
abbrev pub LooksAt : Settings → (n d : ℕ) → Type 0
LooksAt s n d = (n * (plan_for s).dbps ≤ d + 6 * (plan_for s).encoders) × (d < n * (plan_for s).dbps + (plan_for s).dbps)

-- "the payloads agree on every byte with a bit in" those; "Bit b of payload byte j, both from 0, low bit first, is data bit 16 + 8j + b"
abbrev pub AgreeWhereLooked : Settings → (n : ℕ) (p q : List ℕ) → Type 0
AgreeWhereLooked s n p q = (j b : ℕ) → j < s.length → b < 8 → LooksAt s n (16 + 8 * j + b) → get_or p j 0 ≡ get_or q j 0

-- "their payloads differ"
abbrev pub PayloadsDiffer : RawSettings → (p q : List ℕ) → Type 0
PayloadsDiffer a p q = (j : ℕ) × ((j < a.length) × (get_or p j 0 ≡ get_or q j 0 → ⊥))

-- "The first differing bit is the lowest data bit at which the payloads differ"
abbrev pub FirstDiffering : RawSettings → (p q : List ℕ) (d : ℕ) → Type 0
FirstDiffering a p q d =
    (16 ≤ d) × ((d < 16 + 8 * a.length)
    × ((payload_bit p (d - 16) ≡ payload_bit q (d - 16) → ⊥) × ((e : ℕ) → 16 ≤ e → e < d → payload_bit p (e - 16) ≡ payload_bit q (e - 16))))
