-- A stream's places as runs of data carriers with pilots between: in a run the place and the carrier rise together (M(k) of EWC 4.7).
-- Each half of the band, below and above 0, has as many runs, and a pilot after each but the last.
use Rattle.std.specs.Prelude.{◌≡◌, false, cond, Some, None, is_some, List, [], ◌∷◌, ℕ, ◌+◌, ◌-◌, ◌*◌, ◌/◌, ◌%◌, ◌<◌, ◌≤◌, eqb, leb, get_or}
use Rattle.chain.specs.Plan.{carriers_of}
use Rattle.subcarriers.specs.declared.layout.Run.{Run}
use Rattle.subcarriers.specs.declared.layout.Use.TheVariants.{Pilot, Data}
use Rattle.subcarriers.specs.Subcarriers.{use_of, subcarrier_at, places_of, pilots_of, upper}

-- runs of a half of the band
abbrev pub half_runs : (width : ℕ) → ℕ
half_runs width = cond (eqb width 40) 4 3

abbrev pub run_places : (width : ℕ) → List ℕ
run_places width = cond (eqb width 40) (0 ∷ 6 ∷ 34 ∷ 48 ∷ 57 ∷ 67 ∷ 81 ∷ 109 ∷ []) (0 ∷ 8 ∷ 22 ∷ 28 ∷ 35 ∷ 49 ∷ [])

abbrev pub run_carriers : (width : ℕ) → List ℕ
run_carriers width = cond (eqb width 40) (0 ∷ 5 ∷ 32 ∷ 45 ∷ 54 ∷ 63 ∷ 76 ∷ 103 ∷ []) (0 ∷ 7 ∷ 20 ∷ 26 ∷ 32 ∷ 45 ∷ [])

abbrev pub run_counts : (width : ℕ) → List ℕ
run_counts width = cond (eqb width 40) (5 ∷ 27 ∷ 13 ∷ 9 ∷ 9 ∷ 13 ∷ 27 ∷ 5 ∷ []) (7 ∷ 13 ∷ 6 ∷ 6 ∷ 13 ∷ 7 ∷ [])

-- run r: its first place and carrier, how many carriers, the pilot that follows or none, and whether the run is turned
unfoldable pub run_of : (width r : ℕ) → Run
run_of width r = record {
  place = get_or (run_places width) r 0;
  carrier = get_or (run_carriers width) r 0;
  count = get_or (run_counts width) r 0;
  pilot = cond (eqb (r % half_runs width) (half_runs width - 1)) None (Some (r - r / half_runs width));
  turned = cond (eqb width 40) (leb 4 r) false;
}

-- where a run ends, its pilot counted
abbrev pub run_end : Run → ℕ
run_end run = run.place + run.count + cond (is_some run.pilot) 1 0

-- what holds of a run: step 7 gives its places these uses
pub record RunRight (width : ℕ) (run : Run) : Type 0 where
  pub inside : run_end run ≤ places_of width
  pub carriers_inside : run.carrier + run.count ≤ carriers_of width
  pub pilot_inside : (q : ℕ) → run.pilot ≡ Some q → q < pilots_of width
  pub carries : (k : ℕ) → k < run.count → use_of width (subcarrier_at width (run.place + k)) ≡ Data (run.carrier + k)
  pub side : (k : ℕ) → k < run.count → upper width (subcarrier_at width (run.place + k)) ≡ run.turned
  pub pilot_use : (q : ℕ) → run.pilot ≡ Some q → use_of width (subcarrier_at width (run.place + run.count)) ≡ Pilot q
  pub pilot_side : (q : ℕ) → run.pilot ≡ Some q → upper width (subcarrier_at width (run.place + run.count)) ≡ run.turned

-- a width's runs: each right, each beginning where the one before it ends, from the first place to the last
pub record RunsRight (width : ℕ) : Type 0 where
  pub right : (r : ℕ) → r < 2 * half_runs width → RunRight width (run_of width r)
  pub first : (run_of width 0).place ≡ 0
  pub next : (r : ℕ) → r + 1 < 2 * half_runs width → (run_of width (r + 1)).place ≡ run_end (run_of width r)
  pub last : run_end (run_of width (2 * half_runs width - 1)) ≡ places_of width
