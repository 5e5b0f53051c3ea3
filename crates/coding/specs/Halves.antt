-- Half labels read through the table, and what the calls ask and leave.
use Rattle.std.specs.Prelude.{◌≡◌, List, ℕ, ◌+◌, ◌*◌, ◌%◌, ◌<◌, ◌≤◌, T, length, get_or}
use Rattle.laws.specs.Test.{among}
use Rattle.chain.specs.Plan.{Fits, axis_counts, most_coded, most_block}
use Rattle.chain.specs.declared.plan.Plan.{Plan}
use Rattle.chain.specs.Parser.{axis_bits}
use Rattle.chain.specs.Interleaver.{source}
use Rattle.chain.specs.Labels.{written, halves_of}
use Rattle.sources.specs.Sources.{coded_slot, label_source}

-- half m through a table of places, `shift` places on: s bits, the first the highest
abbrev pub half_at : (coded table : List ℕ) (s shift m : ℕ) → ℕ
half_at coded table s shift m = written (λ r. get_or coded (get_or table r 0 + shift) 0 % 2) (m * s) s

-- the coded bit that is bit r of stream i's interleaved block
abbrev pub label_in : (p : Plan) (coded : List ℕ) (i r : ℕ) → ℕ
label_in p coded i r = get_or coded (coded_slot (axis_bits p.bits) p.streams p.encoders i (source p.width p.bits i r)) 0 % 2

abbrev pub half_in : (p : Plan) (coded : List ℕ) (i m : ℕ) → ℕ
half_in p coded i m = written (label_in p coded i) (m * axis_bits p.bits) (axis_bits p.bits)

pub record HalfAsked (coded table : List ℕ) (s shift m : ℕ) : Type 0 where
  pub axis : T (among axis_counts s)
  pub few : m < most_block
  pub inside : (t : ℕ) → t < s → m * s + t < length table
  pub reached : (t : ℕ) → t < s → get_or table (m * s + t) 0 + shift < length coded

pub record HalfRunAsked (halves coded table : List ℕ) (s shift from : ℕ) : Type 0 where
  pub axis : T (among axis_counts s)
  pub few : from + length halves ≤ most_block
  pub inside : (from + length halves) * s ≤ length table
  pub reached : (r : ℕ) → r < (from + length halves) * s → get_or table r 0 + shift < length coded

-- all labels of a symbol from its coded bits
pub record HalvesAsked (halves coded : List ℕ) (p : Plan) : Type 0 where
  pub fits : Fits p
  pub room : p.streams * halves_of p ≤ length halves
  pub sized : length coded ≡ most_coded

-- the same, with the table of label sources at hand, for the halves of stream i
pub record HalfStreamAsked (halves coded table : List ℕ) (p : Plan) (i : ℕ) : Type 0 where
  pub fits : Fits p
  pub own : length halves ≡ halves_of p
  pub sized : length coded ≡ most_coded
  pub stream : i < p.streams
  pub wide_enough : p.block ≤ length table
  pub tabled : (r : ℕ) → r < p.block → get_or table r 0 ≡ label_source p r

-- half m of stream i stands at i·count + m, for the first streams; all else is as it was
pub record HalvesFilled (p : Plan) (f : ℕ → ℕ → ℕ) (streams : ℕ) (halves₀ halves : List ℕ) : Type 0 where
  pub same : length halves ≡ length halves₀
  pub done : (i m : ℕ) → i < streams → m < halves_of p → get_or halves (i * halves_of p + m) 0 ≡ f i m
  pub rest : (k : ℕ) → streams * halves_of p ≤ k → get_or halves k 0 ≡ get_or halves₀ k 0

-- the half labels of symbol n of a frame
pub record LabelsAsked (halves payload : List ℕ) (seed : ℕ) (p : Plan) (n : ℕ) : Type 0 where
  pub fits : Fits p
  pub room : p.streams * halves_of p ≤ length halves
  pub short : length payload ≤ 65535
  pub seeded : seed < 128
  pub near : n ≤ 32768
