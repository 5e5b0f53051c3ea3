-- What the modulator's functions ask and fill.
use Rattle.std.specs.Prelude.{◌≡◌, Bool, cond, List, ℕ, ◌+◌, ◌-◌, ◌*◌, ◌/◌, ◌%◌, ◌^◌, ◌<◌, ◌≤◌, T, length, get_or, ℤ, pos, Float}
use Rattle.std.specs.Float.{nan}
use Rattle.laws.specs.Test.{among}
use Rattle.laws.specs.Filled.{Filled}
use Rattle.chain.specs.Plan.{bit_counts, Fits}
use Rattle.chain.specs.Parser.{axis_bits}
use Rattle.chain.specs.Labels.{halves_of}
use Rattle.chain.specs.declared.plan.Plan.{Plan}
use Rattle.mapper.specs.declared.point.Point.{Point}
use Rattle.mapper.specs.Levels.{whole, carrier_levels}
use Rattle.mapper.specs.Mapped.{LevelTable, HalvesAt, turned_point}
use Rattle.subcarriers.specs.declared.layout.Run.{Run}
use Rattle.subcarriers.specs.Runs.{run_of, run_end}
use Rattle.pilots.specs.Pilots.{polarity_bit}
use Rattle.modulator.specs.declared.symbol.Stream.{Stream}
use Rattle.modulator.specs.Symbol.{turned_if, axis_level, stream_level, stream_floats}

-- half labels of the stream that stands from `from` on
abbrev pub halves_from : (halves : List ℕ) (from m : ℕ) → ℕ
halves_from halves from m = get_or halves (from + m) 0

-- half m of stream i, in a list of `count` halves a stream
abbrev pub halves_in : (halves : List ℕ) (count i m : ℕ) → ℕ
halves_in halves count i m = get_or halves (i * count + m) 0

-- a run of data carriers of a stream
pub record RunAsked (out : List Float) (s : Stream) (to : ℕ) (run : Run) : Type 0 where
  pub known : T (among bit_counts s.plan.bits)
  pub tabled : LevelTable (axis_bits s.plan.bits) s.table.now
  pub stands : HalvesAt s.halves.now s.plan.bits s.from (run.carrier + run.count)
  pub room : to + 2 * run.count ≤ length out
  pub few : run.carrier + run.count ≤ 108

-- level g of a run of carriers
abbrev pub run_level : (halves : List ℕ) (bits from carrier : ℕ) (turned : Bool) (g : ℕ) → ℤ
run_level halves bits from carrier turned g =
    axis_level (turned_if turned (carrier_levels bits (halves_from halves from) (carrier + g / 2))) (g % 2)

-- half label m of a stream
abbrev pub own_half : (s : Stream) (m : ℕ) → ℕ
own_half s m = halves_from s.halves.now s.from m

-- what the data carriers of a run fill, from place `to` on
abbrev pub CarriersFilled : (s : Stream) (to : ℕ) (run : Run) (out₀ out : List Float) → Type 0
CarriersFilled s to run out₀ out =
    Filled nan to (λ g. whole (run_level s.halves.now s.plan.bits s.from run.carrier run.turned g)) (2 * run.count) out₀ out

-- step 8, "data and pilots": a pilot's point, its sign on the first level before the turn
abbrev pub pilot_point : (sign : Float) (turned : Bool) → Point
pilot_point sign turned = let p : Point = record { first = sign; second = whole (pos 0) } in cond turned (turned_point p) p

-- a stream's points from place `base` on, its half labels from `from` on
pub record StreamAsked (out : List Float) (s : Stream) : Type 0 where
  pub fits : Fits s.plan
  pub tabled : LevelTable (axis_bits s.plan.bits) s.table.now
  pub stands : HalvesAt s.halves.now s.plan.bits s.from s.plan.carriers
  pub stream : s.i < s.plan.streams
  pub near : s.n ≤ 32768
  pub room : s.base + stream_floats s.plan.width ≤ length out

-- what of a stream's levels a run and its pilot are, and the whole stream, whatever format the polarity is of
abbrev pub SegmentFilled : (s : Stream) (r : ℕ) (out₀ out : List Float) → Type 0
SegmentFilled s r out₀ out = (format : ℕ) → s.polarity ≡ polarity_bit format s.n
    → let run = run_of s.plan.width r in
    Filled nan (s.base + 2 * run.place) (λ g. whole (stream_level s.plan (λ j. own_half s) format s.n s.i (2 * run.place + g)))
    (2 * (run_end run - run.place)) out₀ out

abbrev pub StreamFilled : (s : Stream) (out₀ out : List Float) → Type 0
StreamFilled s out₀ out = (format : ℕ) → s.polarity ≡ polarity_bit format s.n
    → Filled nan s.base (λ g. whole (stream_level s.plan (λ j. own_half s) format s.n s.i g)) (stream_floats s.plan.width) out₀ out

-- a symbol's points from its half labels
pub record SymbolAsked (out : List Float) (halves : List ℕ) (p : Plan) (n : ℕ) : Type 0 where
  pub fits : Fits p
  pub room : p.streams * stream_floats p.width ≤ length out
  pub whole_halves : p.streams * halves_of p ≤ length halves
  pub label : (i m : ℕ) → i < p.streams → m < halves_of p → halves_in halves (halves_of p) i m < 2 ^ axis_bits p.bits
  pub near : n ≤ 32768
