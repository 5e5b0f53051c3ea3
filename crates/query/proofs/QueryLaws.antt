-- What accepted settings and a frame's half labels give the question's inner functions, and its answer by the tests. Assumes nothing.
use Rattle.std.specs.Prelude.{Err, Ok, Result}
use mathlib.Core.Path.{◌≡◌, ◌∙◌, sym, ap, ap₂, subst}
use mathlib.Core.Bool.{Bool, false, cond, ◌||◌}
use mathlib.Core.List.{List}
use Prim.Native.Nat.{ℕ, ◌+◌, ◌*◌, ◌/◌, ◌%◌, ◌<◌, ◌≤◌}
use native.Mathlib.Nat.{mul-le-mul_right, suc-mul}
use native.Mathlib.Omega.{arith}
use borrow.Author.Tests.{ltb-false, leb-false}
use lib.Dec.{T, ltb, leb}
use lib.IntN.{ℤ, ◌*ℤ◌}
use lib.ListN.{length, get_or}
use lib.Ieee.{Float}
use Rattle.laws.specs.Test.{among}
use Rattle.laws.proofs.Reflect.{or_false}
use Rattle.chain.specs.declared.plan.Plan.{Plan}
use Rattle.chain.specs.Plan.{Fits, axis_counts}
use Rattle.chain.specs.Parser.{axis_bits}
use Rattle.chain.specs.Labels.{halves_of}
use Rattle.chain.proofs.Counts.{axis_known, axis_some}
use Rattle.mapper.specs.declared.point.Point.{Point}
use Rattle.mapper.specs.Levels.{whole, carrier_levels, point_of}
use Rattle.mapper.proofs.CarrierLaws.{carrier_from, halves_to}
use Rattle.mapper.specs.Mapped.{LevelTable, carrier_halves, HalvesAt, PointAsked}
use Rattle.subcarriers.specs.Subcarriers.{use_of, pilots_of, outside, Inside, UseRight}
use Rattle.subcarriers.specs.declared.layout.Use.{Use}
use Rattle.subcarriers.specs.declared.layout.Use.TheVariants.{Silent as Unused, Pilot as PilotAt, Data as DataAt}
use Rattle.subcarriers.proofs.SubcarrierLaws.{use_right}
use Rattle.pilots.specs.Pilots.{sign_of, pattern_of, polarity_bit, pilot_sign, PilotAsked}
use Rattle.settings.specs.declared.settings.Refusal.{Refusal}
use Rattle.settings.specs.declared.settings.Refusal.TheVariants.{Source, Place}
use Rattle.settings.specs.declared.settings.Settings.{Settings}
use Rattle.settings.specs.Settings.{plan_for, Right}
use Rattle.symbols.specs.Symbols.{symbols_of}
use Rattle.settings.proofs.SettingsLaws.{plan_fits, planned_width}
use Rattle.frame.specs.Points.{labels_of}
use Rattle.frame.specs.Asked.{InFrame, LabelsHeld}
use Rattle.frame.proofs.FrameLaws.{held_small}
use Rattle.query.specs.declared.query.Carried.TheVariants.{Silent, Pilot, Data}
use Rattle.query.specs.Query.{carried_by, carried_of, not_in_frame, query_of}

inside : (i streams count upto size : ℕ) → i < streams → upto ≤ count → streams * count ≤ size → i * count + upto ≤ size
inside i streams count upto size h k room = omega (arith, rw suc-mul at (mul-le-mul_right count h), k, room)

-- with the plan and the bits of its axis at hand
module _ (s : Settings) (r : Right s) (p : Plan) (t : ℕ) (e : p ≡ plan_for s) (g : t ≡ axis_bits p.bits) where
  fitting : Fits p
  fitting = subst Fits (sym e) (plan_fits s r)

  -- an axis has one, two or three bits
  pub axis_among : T (among axis_counts t)
  axis_among = rw g (axis_known p.bits fitting.bits)

  pub axis_above : 0 < t
  axis_above = omega (arith, g, axis_some p.bits fitting.bits)

-- stream i's carriers up to c, where the symbol's half labels stand
module _ (s : Settings) (payload : List ℕ) (n : ℕ) (halves : List ℕ) (r : Right s) (l : LabelsHeld s payload n halves)
    (i c : ℕ) (h : i < (plan_for s).streams) (k : c < (plan_for s).carriers) where
  most : carrier_halves (plan_for s).bits * (c + 1) ≤ halves_of (plan_for s)
  most = halves_to (plan_for s) (plan_fits s r) c k

  -- they have half labels of their axis's bits
  pub halves_at : HalvesAt halves (plan_for s).bits (i * halves_of (plan_for s)) (c + 1)
  halves_at =
      record {
        inside = inside i (plan_for s).streams (halves_of (plan_for s)) (carrier_halves (plan_for s).bits * (c + 1)) (length halves) h most l.sized;
        label = λ m b. held_small s payload n halves l i m h (omega (arith, b, most));
      }

  -- carrier c has the levels of the symbol's half labels
  pub levels_held : carrier_levels (plan_for s).bits (λ m. get_or halves (i * halves_of (plan_for s) + m) 0) c
      ≡ carrier_levels (plan_for s).bits (labels_of s payload n i) c
  levels_held = carrier_from (plan_for s).bits (plan_fits s r).bits _ _ c (λ m b. l.held i m h (omega (arith, b, most)))

  -- both with the plan and the bits of its axis at hand: what its point asks, and is
  module _ (p : Plan) (t : ℕ) (e : p ≡ plan_for s) (g : t ≡ axis_bits p.bits) where
    pub point_asked : (table : List Float) → LevelTable t table → PointAsked halves table p.bits (i * (p.block / t)) c
    point_asked table levels =
        let b : t ≡ axis_bits (plan_for s).bits = rw e at g in
        rw (b, e) (record { known = (plan_fits s r).bits; tabled = rw b at levels; stands = halves_at })

    pub point_is : (x : Point) → x ≡ point_of (carrier_levels p.bits (λ m. get_or halves (i * (p.block / t) + m) 0) c)
        → x ≡ point_of (carrier_levels (plan_for s).bits (labels_of s payload n i) c)
    point_is x k =
        k
        ∙ ap₂ (λ (q : Plan) (u : ℕ). point_of (carrier_levels q.bits (λ m. get_or halves (i * (q.block / u) + m) 0) c)) e (rw e at g)
        ∙ ap point_of levels_held

-- ---- pilots

-- what a pilot asks
pub pilot_asked : (s : Settings) → Right s → (p : Plan) → p ≡ plan_for s → (i q : ℕ) → i < (plan_for s).streams → q < pilots_of (plan_for s).width
    → PilotAsked p.width p.streams i q
pilot_asked s r p e i q h k = rw e (record { known_width = (plan_fits s r).width; known_streams = (plan_fits s r).streams; stream = h; place = k })

-- its sign, with the symbol's polarity at hand
pub pilot_is : (s : Settings) (p : Plan) (n i q polarity : ℕ) (r : Float) → p ≡ plan_for s → polarity ≡ polarity_bit s.format n
    → r ≡ whole (pattern_of p.width p.streams i ((n + q) % pilots_of p.width) *ℤ sign_of polarity)
    → r ≡ whole (pilot_sign (plan_for s).width (plan_for s).streams s.format n i q)
unfolding pilot_sign
pilot_is s p n i q polarity r e b g =
    g ∙ ap₂ (λ (x : Plan) (y : ℕ). whole (pattern_of x.width x.streams i ((n + q) % pilots_of x.width) *ℤ sign_of y)) e b

-- ---- the question

-- a subcarrier of the plan's channel is one of the settings'
pub inside_width : (s : Settings) (z : ℤ) → Inside (plan_for s).width z → Inside s.width z
inside_width s z = subst (λ (w : ℕ). Inside w z) (planned_width s)

-- what stream i carries on subcarrier z in symbol n, by what the subcarrier is used for
module _ (s : Settings) (payload : List ℕ) (n i : ℕ) (z : ℤ) where
  carried_by_lem : (u : Use) → use_of s.width z ≡ u
      → carried_by (pilot_sign (plan_for s).width (plan_for s).streams s.format n i) (carrier_levels (plan_for s).bits (labels_of s payload n i)) u ≡ carried_of s payload n i z
  unfolding carried_of
  carried_by_lem u e =
      ap (carried_by (pilot_sign (plan_for s).width (plan_for s).streams s.format n i) (carrier_levels (plan_for s).bits (labels_of s payload n i)))
      (sym e ∙ ap (λ (w : ℕ). use_of w z) (sym (planned_width s)))

  -- nothing where it is silent
  pub carried_silent : use_of s.width z ≡ Unused → Silent ≡ carried_of s payload n i z
  carried_silent e = carried_by_lem Unused e

  -- a pilot's sign
  pub carried_pilot : (q : ℕ) (x : Float) → use_of s.width z ≡ PilotAt q
      → x ≡ whole (pilot_sign (plan_for s).width (plan_for s).streams s.format n i q) → Pilot x ≡ carried_of s payload n i z
  carried_pilot q x e g = ap Pilot g ∙ carried_by_lem (PilotAt q) e

  -- a data carrier's point
  pub carried_data : (c : ℕ) (x : Point) → use_of s.width z ≡ DataAt c
      → x ≡ point_of (carrier_levels (plan_for s).bits (labels_of s payload n i) c) → Data x ≡ carried_of s payload n i z
  carried_data c x e g = ap Data g ∙ carried_by_lem (DataAt c) e

-- its pilot or data carrier is one of the plan's
module _ (s : Settings) (r : Right s) (z : ℤ) (inside : Inside (plan_for s).width z) where
  used : (u : Use) → use_of s.width z ≡ u → UseRight (plan_for s).width u
  used u e = subst (UseRight (plan_for s).width) (ap (λ (w : ℕ). use_of w z) (planned_width s) ∙ e) (use_right (plan_for s).width (plan_fits s r).width z inside)

  pub pilot_in : (q : ℕ) → use_of s.width z ≡ PilotAt q → q < pilots_of (plan_for s).width
  pilot_in q e = used (PilotAt q) e

  pub data_in : (c : ℕ) → use_of s.width z ≡ DataAt c → c < (plan_for s).carriers
  data_in c e = rw (plan_fits s r).carriers_is (used (DataAt c) e)

-- the answer where the settings are accepted
module _ (s : Settings) (payload : List ℕ) (symbol stream : ℕ) (z : ℤ) where
  -- by the tests' values
  pub query_by : (x : Result Settings Refusal) (short elsewhere : Bool) → x ≡ Ok s → ltb (length payload) s.length ≡ short → elsewhere ≡ not_in_frame s symbol stream z
      → cond short (Err Source) (cond elsewhere (Err Place) (Ok (carried_of s payload symbol stream z))) ≡ query_of x payload symbol stream z
  query_by x short elsewhere e f g =
      ap₂ (λ (a b : Bool). cond a (Err Source) (cond b (Err Place) (Ok (carried_of s payload symbol stream z)))) (sym f) g
      ∙ ap (λ (y : Result Settings Refusal). query_of y payload symbol stream z) (sym e)

  -- where both are false, symbol, stream and subcarrier are in the frame
  pub in_frame : Right s → ltb (length payload) s.length ≡ false → not_in_frame s symbol stream z ≡ false
      → InFrame s payload symbol × ((stream < (plan_for s).streams) × Inside (plan_for s).width z)
  in_frame r short elsewhere =
      let f = or_false (leb (symbols_of s) symbol) (leb (plan_for s).streams stream || outside (plan_for s).width z) elsewhere in
      let g = or_false (leb (plan_for s).streams stream) (outside (plan_for s).width z) f.1 in (
        record { right = r; whole_payload = ltb-false (length payload) s.length short; below_count = leb-false (symbols_of s) symbol f.0 },
        (leb-false (plan_for s).streams stream g.0, g.1),
      )
