-- What the modulator's functions fill, part by part: a point, a run, a run with its pilot, a stream, a symbol. Assumes of the plan that it fits.
use Rattle.std.proofs.Common.{◌≡◌, ◌∙◌, refl, sym, ap, ap₂, subst, Bool, true, false, cond, List, Option, Some, None, is_some, ℕ, zero, suc}
use Rattle.std.proofs.Common.{◌+◌, ◌-◌, ◌*◌, ◌/◌, ◌%◌, ◌<◌, ◌≤◌, zero-add, suc-mul, mul-le-mul, mul-le-mul_left, mul-le-mul_right}
use Rattle.std.proofs.Common.{arith, length, ℤ, pos, nat_abs, ◌*ℤ◌}
use lib.Ieee.{Float, nan}
use Rattle.laws.specs.Filled.{Filled}
use Rattle.laws.proofs.Filling.{fill_as, fill_end, fill_from, fill_join}
use Rattle.chain.specs.declared.plan.Plan.{Plan}
use Rattle.chain.specs.Plan.{Fits}
use Rattle.chain.specs.Parser.{axis_bits}
use Rattle.chain.specs.Labels.{halves_of}
use Rattle.chain.proofs.Counts.{carriers_few, streams_most}
use Rattle.chain.proofs.LabelLaws.{halves_most}
use Rattle.mapper.specs.declared.point.Point.{Point}
use Rattle.mapper.specs.Levels.{whole, Levels, levels, carrier_levels, point_of}
use Rattle.mapper.specs.Mapped.{LevelTable, carrier_halves, HalvesAt, Small, turned_point, axis_of}
use Rattle.mapper.proofs.CarrierLaws.{all_halves}
use Rattle.mapper.proofs.PointLaws.{turned_whole}
use Rattle.subcarriers.specs.declared.layout.Run.{Run}
use Rattle.subcarriers.specs.declared.layout.Use.{Use}
use Rattle.subcarriers.specs.declared.layout.Use.TheVariants.{Pilot, Data}
use Rattle.subcarriers.specs.Subcarriers.{use_of, subcarrier_at, pilots_of, upper}
use Rattle.subcarriers.specs.Runs.{half_runs, run_of, run_end, RunRight, RunsRight}
use Rattle.subcarriers.proofs.SubcarrierLaws.{places_few}
use Rattle.subcarriers.proofs.RunLaws.{runs_right, runs_some, pilot_counts, run_start, start_next, start_place, start_end}
use Rattle.pilots.specs.Pilots.{sign_of, pattern_of, polarity_bit, pilot_sign, PilotAsked}
use Rattle.pilots.proofs.PilotLaws.{pilot_is, pilot_one}
use Rattle.modulator.proofs.SymbolLaws.{stream_float}
use Rattle.modulator.specs.declared.symbol.Stream.{Stream}
use Rattle.modulator.specs.Symbol.{used_levels, turned_if, axis_level, stream_level, stream_floats, symbol_float}
use Rattle.modulator.specs.Asked.{halves_from, own_half, halves_in, run_level, RunAsked, CarriersFilled, pilot_point, StreamAsked}
use Rattle.modulator.specs.Asked.{SegmentFilled, StreamFilled, SymbolAsked}

-- a point that is turned
pub turned_point_lem : (t : Bool) (l : Levels) (p r : Point) → t ≡ true → Small l → p ≡ point_of l → r ≡ turned_point p
    → r ≡ point_of (turned_if t l)
turned_point_lem t l p r e small made turned = rw e (turned ∙ ap turned_point made ∙ turned_whole l small)

-- a pilot's point, by the turn
pub pilot_turned : (sign : Float) (t : Bool) (r : Point) → t ≡ true → r ≡ turned_point (record { first = sign; second = whole (pos 0) })
    → r ≡ pilot_point sign t
pilot_turned sign t r e turned = rw e turned

pub pilot_plain : (sign : Float) (t : Bool) → t ≡ false → record { first = sign; second = whole (pos 0) } ≡ pilot_point sign t
pilot_plain sign t e = rw e

-- where its sign is the float of a small whole number
pub pilot_point_whole : (sign : Float) (t : Bool) (s : ℤ) → nat_abs s < 8 → sign ≡ whole s
    → pilot_point sign t ≡ point_of (turned_if t (levels s (pos 0)))
pilot_point_whole sign t s small e = ap (λ (x : Float). pilot_point x t) e ∙ by_turn t
  where
    by_turn : (t : Bool) → pilot_point (whole s) t ≡ point_of (turned_if t (levels s (pos 0)))
    by_turn true = turned_whole (levels s (pos 0)) (record { first = small; second = omega arith })
    by_turn false = refl

-- a point's floats are its levels
axis_whole : (p : Point) (l : Levels) → p ≡ point_of l → (g : ℕ) → axis_of p g ≡ whole (axis_level l g)
axis_whole p l e zero = ap (λ (x : Point). x.first) e
axis_whole p l e (suc g) = ap (λ (x : Point). x.second) e

-- two floats of a point after the floats of an index function that gives the point's levels next
point_more : (a k : ℕ) (f : ℕ → ℤ) (p : Point) (l : Levels) (d₀ d d' : List Float) → p ≡ point_of l → ((g : ℕ) → g < 2 → axis_level l g ≡ f (2 * k + g))
    → Filled nan a (λ g. whole (f g)) (2 * k) d₀ d → Filled nan (a + 2 * k) (axis_of p) 2 d d' → Filled nan a (λ g. whole (f g)) (2 * (k + 1)) d₀ d'
point_more a k f p l d₀ d d' made same filled put =
    fill_end nan a (λ g. whole (f g)) (omega arith)
    (fill_join nan a (λ g. whole (f g)) (2 * k) 2 d₀ d d' filled
    (fill_as nan (a + 2 * k) (axis_of p) (λ g. whole (f (2 * k + g))) 2 d d' (λ g h. axis_whole p l made g ∙ ap whole (same g h)) put))

-- the point and the axis of a float: two floats a point
half_of : (k g : ℕ) → g < 2 → (2 * k + g) / 2 ≡ k
half_of k g h = omega arith

part_of : (k g : ℕ) → g < 2 → (2 * k + g) % 2 ≡ g
part_of k g h = omega arith

-- half labels of so many carriers are half labels of fewer
pub halves_fewer : {halves : List ℕ} {bits from more : ℕ} → HalvesAt halves bits from more → (fewer : ℕ) → fewer ≤ more → HalvesAt halves bits from fewer
halves_fewer {bits = bits} {more = more} stands fewer h =
    let below : carrier_halves bits * fewer ≤ carrier_halves bits * more = mul-le-mul_left (carrier_halves bits) h in
    record { inside = omega (arith, stands.inside); label = λ m l. stands.label m (omega arith) }

-- a turn of a run: carrier k's point after those before it
pub run_more : (halves : List ℕ) (bits from to carrier k : ℕ) (t : Bool) (p : Point) (d₀ d d' : List Float)
    → p ≡ point_of (turned_if t (carrier_levels bits (halves_from halves from) (carrier + k)))
    → Filled nan to (λ g. whole (run_level halves bits from carrier t g)) (2 * k) d₀ d → Filled nan (to + 2 * k) (axis_of p) 2 d d'
    → Filled nan to (λ g. whole (run_level halves bits from carrier t g)) (2 * (k + 1)) d₀ d'
run_more halves bits from to carrier k t p d₀ d d' made filled put =
    point_more to k (run_level halves bits from carrier t) p (turned_if t (carrier_levels bits (halves_from halves from) (carrier + k))) d₀ d d' made
    (λ g h. ap₂ (λ (c j : ℕ). axis_level (turned_if t (carrier_levels bits (halves_from halves from) (carrier + c))) j) (sym (half_of k g h)) (sym (part_of k g h)))
    filled put

-- where a run's points stand in a list of so many floats, and its pilot's after them
pub record RunIn (run : Run) (base size : ℕ) : Type 0 where
  pub near : run.place + run.count ≤ 114
  pub inside : base + 2 * run.place + 2 * run.count ≤ size
  pub pilot_inside : (q : ℕ) → run.pilot ≡ Some q → base + 2 * run.place + 2 * run.count + 2 ≤ size

-- a stream's run
module _ {out : List Float} {s : Stream} (asked : StreamAsked out s) (run : Run) (right : RunRight s.plan.width run) where
  -- stands inside the stream
  pub run_in : RunIn run s.base (length out)
  run_in = record {
    near = omega (arith, right.inside, places_few s.plan.width);
    inside = omega (arith, right.inside, asked.room);
    pilot_inside = λ q e. omega (arith, right.inside, asked.room, pilot_counts (run.place + run.count) q run.pilot e);
  }

  -- what its carriers ask
  pub carriers_asked : RunAsked out s (s.base + 2 * run.place) run
  carriers_asked = record {
    known = asked.fits.bits;
    tabled = asked.tabled;
    stands = halves_fewer asked.stands (run.carrier + run.count) (omega (arith, right.carriers_inside, asked.fits.carriers_is));
    room = run_in.inside;
    few = omega (arith, right.carriers_inside, carriers_few s.plan.width);
  }

  -- what its pilot asks
  pub pilot_asked : (q : ℕ) → run.pilot ≡ Some q → PilotAsked s.plan.width s.plan.streams s.i q
  pilot_asked q e = record {
    known_width = asked.fits.width;
    known_streams = asked.fits.streams;
    stream = asked.stream;
    place = right.pilot_inside q e;
  }

-- a level of a stream, by the use and the side of the subcarrier that it stands on
level_at : (p : Plan) (h : ℕ → ℕ → ℕ) (format n i x f j : ℕ) (u : Use) (t : Bool)
    → x / 2 ≡ f → x % 2 ≡ j → use_of p.width (subcarrier_at p.width f) ≡ u → upper p.width (subcarrier_at p.width f) ≡ t
    → axis_level (turned_if t (used_levels (pilot_sign p.width p.streams format n i) (carrier_levels p.bits (h i)) u)) j ≡ stream_level p h format n i x
unfolding stream_level
level_at p h format n i x f j u t ef ej eu et = rw (ef, ej, eu, et)

-- floats of a run that begins at a and has b carriers, with a pilot and without
span : (a b q : ℕ) (t : Option ℕ) → t ≡ Some q → 2 * (b + 1) ≡ 2 * (a + b + cond (is_some t) 1 0 - a)
span a b q t e = rw e (omega arith)

short_span : (a b : ℕ) (t : Option ℕ) → t ≡ None → 2 * b ≡ 2 * (a + b + cond (is_some t) 1 0 - a)
short_span a b t e = rw e (omega arith)

-- what a run and its pilot fill
abbrev RunFilled : (s : Stream) (d₀ d : List Float) → Run → Type 0
RunFilled s d₀ d run = (format : ℕ) → s.polarity ≡ polarity_bit format s.n
    → Filled nan (s.base + 2 * run.place)
    (λ g. whole (stream_level s.plan (λ j. own_half s) format s.n s.i (2 * run.place + g)))
    (2 * (run_end run - run.place)) d₀ d

module _ (s : Stream) (r : ℕ) (run : Run) (told : run ≡ run_of s.plan.width r) (right : RunRight s.plan.width run) where
  -- level g from the run's first on
  abbrev level : (format g : ℕ) → ℤ
  level format g = stream_level s.plan (λ j. own_half s) format s.n s.i (2 * run.place + g)

  -- the run's carriers as levels of the stream
  carriers_filled : (format : ℕ) (d₀ d : List Float) → CarriersFilled s (s.base + 2 * run.place) run d₀ d
      → Filled nan (s.base + 2 * run.place) (λ g. whole (level format g)) (2 * run.count) d₀ d
  carriers_filled format d₀ d filled =
      fill_as nan (s.base + 2 * run.place) _ (λ g. whole (level format g)) (2 * run.count) d₀ d
      (λ g h. ap whole
      (level_at s.plan (λ j. own_half s) format s.n s.i (2 * run.place + g) (run.place + g / 2) (g % 2)
      (Data (run.carrier + g / 2)) run.turned
      (omega arith) (omega arith) (right.carries (g / 2) (omega arith)) (right.side (g / 2) (omega arith))))
      filled

  -- a run without a pilot
  pub run_filled : (d₀ d : List Float) → run.pilot ≡ None → CarriersFilled s (s.base + 2 * run.place) run d₀ d → SegmentFilled s r d₀ d
  run_filled d₀ d ends filled =
      subst (RunFilled s d₀ d) told
      (λ format e. fill_end nan (s.base + 2 * run.place) (λ g. whole (level format g)) (short_span run.place run.count run.pilot ends)
      (carriers_filled format d₀ d filled))

  -- the sign of pilot q is one of 1 and -1, and the symbol's polarity is in it
  module _ (q : ℕ) (sign : Float) (asked : PilotAsked s.plan.width s.plan.streams s.i q)
      (signed : sign ≡ whole (pattern_of s.plan.width s.plan.streams s.i ((s.n + q) % pilots_of s.plan.width) *ℤ sign_of s.polarity)) where
    pilot_whole : (format : ℕ) → s.polarity ≡ polarity_bit format s.n
        → (nat_abs (pilot_sign s.plan.width s.plan.streams format s.n s.i q) < 8)
        × (sign ≡ whole (pilot_sign s.plan.width s.plan.streams format s.n s.i q))
    pilot_whole format e = (
      omega (arith, pilot_one s.plan.width s.plan.streams format s.n s.i q asked),
      signed ∙ ap (λ (b : ℕ). whole (pattern_of s.plan.width s.plan.streams s.i ((s.n + q) % pilots_of s.plan.width) *ℤ sign_of b)) e
          ∙ ap whole (sym (pilot_is s.plan.width s.plan.streams format s.n s.i q)),
    )

    -- a run and its pilot
    pub pilot_filled : (d₀ d d' : List Float) (point : Point) → run.pilot ≡ Some q → CarriersFilled s (s.base + 2 * run.place) run d₀ d
        → point ≡ pilot_point sign run.turned → Filled nan (s.base + 2 * run.place + 2 * run.count) (axis_of point) 2 d d'
        → SegmentFilled s r d₀ d'
    pilot_filled d₀ d d' point piloted filled pilot put =
        subst (RunFilled s d₀ d') told
        (λ format e.
        let w = pilot_whole format e in
        let l = pilot_sign s.plan.width s.plan.streams format s.n s.i q in
        fill_end nan (s.base + 2 * run.place) (λ g. whole (level format g)) (span run.place run.count q run.pilot piloted)
        (point_more (s.base + 2 * run.place) run.count (level format) point (turned_if run.turned (levels l (pos 0))) d₀ d d'
        (pilot ∙ pilot_point_whole sign run.turned l w.0 w.1)
        (λ g h.
        level_at s.plan (λ j. own_half s) format s.n s.i (2 * run.place + (2 * run.count + g)) (run.place + run.count) g
        (Pilot q) run.turned (omega arith) (omega arith) (right.pilot_use q piloted) (right.pilot_side q piloted))
        (carriers_filled format d₀ d filled) put))

-- what the runs before run r fill of a stream
abbrev pub PartFilled : (s : Stream) (r : ℕ) (d₀ d : List Float) → Type 0
PartFilled s r d₀ d = (format : ℕ) → s.polarity ≡ polarity_bit format s.n
    → Filled nan s.base (λ g. whole (stream_level s.plan (λ j. own_half s) format s.n s.i g)) (2 * run_start s.plan.width r) d₀ d

-- floats up to a run's first and its own are those up to its end
next_span : (a b c : ℕ) → a ≤ b → c ≡ b → 2 * a + 2 * (b - a) ≡ 2 * c
next_span a b c h e = omega arith

ends_after : (run : Run) → run.place ≤ run_end run
ends_after run = omega arith

module _ (s : Stream) (fits : Fits s.plan) where
  -- the stream's runs and its floats
  runs : RunsRight s.plan.width
  runs = runs_right s.plan.width fits.width

  abbrev streamed : (format g : ℕ) → Float
  streamed format g = whole (stream_level s.plan (λ j. own_half s) format s.n s.i g)

  -- a run more
  pub part_more : (r : ℕ) (d₀ d d' : List Float) → r < 2 * half_runs s.plan.width → PartFilled s r d₀ d
      → SegmentFilled s r d d' → PartFilled s (r + 1) d₀ d'
  part_more r d₀ d d' h part segment = λ format e.
      let run = run_of s.plan.width r in
      fill_end nan s.base (streamed format)
      (next_span run.place (run_end run) (run_start s.plan.width (r + 1)) (ends_after run) (start_next s.plan.width r))
      (fill_join nan s.base (streamed format) (2 * run.place) (2 * (run_end run - run.place)) d₀ d d'
      (fill_end nan s.base (streamed format) (ap (λ (k : ℕ). 2 * k) (start_place s.plan.width runs r h)) (part format e))
      (segment format e))

  -- all runs are the stream
  pub part_end : (r : ℕ) (d₀ d : List Float) → r ≡ 2 * half_runs s.plan.width → PartFilled s r d₀ d
      → StreamFilled s d₀ d
  part_end r d₀ d h part = λ format e.
      fill_end nan s.base (streamed format)
      (ap (λ (k : ℕ). 2 * run_start s.plan.width k) h
      ∙ ap (λ (k : ℕ). 2 * k) (start_end s.plan.width runs (runs_some s.plan.width fits.width)))
      (part format e)

-- a stream's levels depend on its own half labels only
own_halves : (p : Plan) (halves : List ℕ) (count format n i g : ℕ)
    → stream_level p (λ j. halves_from halves (i * count)) format n i g ≡ stream_level p (halves_in halves count) format n i g
unfolding stream_level
own_halves p halves count format n i g = refl

-- a stream more of a symbol
pub stream_more : (p : Plan) (halves : List ℕ) (format n i floats count : ℕ) (d₀ d d' : List Float)
    → floats ≡ stream_floats p.width → count ≡ halves_of p
    → Filled nan 0 (symbol_float p (halves_in halves (halves_of p)) format n) (i * stream_floats p.width) d₀ d
    → Filled nan (i * floats) (λ g. whole (stream_level p (λ j. halves_from halves (i * count)) format n i g)) (stream_floats p.width) d d'
    → Filled nan 0 (symbol_float p (halves_in halves (halves_of p)) format n) ((i + 1) * stream_floats p.width) d₀ d'
stream_more p halves format n i floats count d₀ d d' sized counted filled stream =
    let size = stream_floats p.width in
    let h = halves_in halves (halves_of p) in
    let own : Filled nan (i * size) (λ g. whole (stream_level p (λ j. halves_from halves (i * halves_of p)) format n i g)) size d d' =
    rw (sized, counted) at stream in
    fill_end nan 0 (symbol_float p h format n) (omega arith)
    (fill_join nan 0 (symbol_float p h format n) (i * size) size d₀ d d' filled
    (fill_from nan (λ g. symbol_float p h format n (i * size + g)) (sym (zero-add (i * size)))
    (fill_as nan (i * size) _ (λ g. symbol_float p h format n (i * size + g)) size d d'
    (λ g l. ap whole (own_halves p halves (halves_of p) format n i g) ∙ sym (stream_float p h format n i g l)) own)))

-- where stream i's floats and half labels stand
pub record StreamIn (p : Plan) (i floats count : ℕ) : Type 0 where
  pub floats_end : i * floats + floats ≤ p.streams * floats
  pub floats_most : p.streams * floats ≤ 912
  pub halves_end : i * count + count ≤ p.streams * count
  pub halves_few : p.streams * count ≤ 864

pub stream_in_lem : (p : Plan) (i floats count : ℕ) → Fits p → i < p.streams → floats ≡ stream_floats p.width → count ≡ halves_of p → StreamIn p i floats count
stream_in_lem p i floats count fits h sized counted = record {
  floats_end = below floats;
  floats_most = mul-le-mul {n₂ = 4} {m₂ = 228} (streams_most p.streams fits.streams) (omega (arith, places_few p.width));
  halves_end = below count;
  halves_few = rw counted (halves_most p fits);
}
  where
    below : (k : ℕ) → i * k + k ≤ p.streams * k
    below k = omega (arith, rw suc-mul at (mul-le-mul_right k h))

-- what a stream of a symbol asks
pub stream_asked : (out out₀ : List Float) (s : Stream) (floats count : ℕ)
    → SymbolAsked out₀ s.halves.now s.plan s.n → length out ≡ length out₀
    → LevelTable (axis_bits s.plan.bits) s.table.now → s.i < s.plan.streams
    → s.base ≡ s.i * floats → s.from ≡ s.i * count → floats ≡ stream_floats s.plan.width → count ≡ halves_of s.plan → StreamAsked out s
stream_asked out out₀ s floats count asked same tabled h at from sized counted =
    let p = s.plan in
    let t = stream_in_lem p s.i floats count asked.fits h sized counted in
    let c = all_halves p asked.fits in
    let spread : p.streams * floats ≡ p.streams * stream_floats p.width = ap (λ (k : ℕ). p.streams * k) sized in
    let halved : p.streams * count ≡ p.streams * halves_of p = ap (λ (k : ℕ). p.streams * k) counted in
    record {
      fits = asked.fits;
      tabled = tabled;
      stands = record {
        inside = rw from (omega (arith, t, c, halved, asked.whole_halves));
        label = λ m l. rw (from, counted) (asked.label s.i m h (omega arith));
      };
      stream = h;
      near = asked.near;
      room = rw at (omega (arith, t, spread, asked.room));
    }
