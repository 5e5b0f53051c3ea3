-- The runs' laws: one claim computed at both widths, every run and every place. Assumes nothing.
use Rattle.std.proofs.Common.{◌≡◌, ◌∙◌, sym, ap, subst, Bool, false, cond, ◌&&◌, Option, Some, None, is_some, List, ℕ, zero}
use Rattle.std.proofs.Common.{suc, ◌+◌, ◌-◌, ◌*◌, ◌<◌, ◌≤◌, T, eqb, leb, get_or, ne_eqb, arith, add-one}
use Rattle.laws.specs.Test.{among}
use Rattle.laws.specs.Claim.{Claim, ◌is◌, ◌under◌, ◌and◌, up_to, each, Holds, sound}
use Rattle.chain.specs.Plan.{widths, carriers_of}
use Rattle.subcarriers.specs.declared.layout.Run.{Run}
use Rattle.subcarriers.specs.declared.layout.TheConstants.{RUNS_20, RUNS_40}
use Rattle.subcarriers.specs.declared.layout.Use.TheVariants.{Pilot, Data}
use Rattle.subcarriers.specs.Subcarriers.{used_subcarriers, pilot_subcarriers, data_subcarriers, use_of, places_of, subcarrier_at, pilots_of, upper}
use Rattle.subcarriers.specs.Runs.{half_runs, run_of, run_end, RunRight, RunsRight}
use Rattle.subcarriers.proofs.SubcarrierLaws.{one, one_same, code, code_same, found_code, found_same}

-- what is claimed of carrier k of a run, of the pilot after it, and of the run
abbrev right_carrier : (width : ℕ) → Run → ℕ → Claim
right_carrier w run k =
    code (use_of w (subcarrier_at w (run.place + k))) is code (Data (run.carrier + k))
    and one (upper w (subcarrier_at w (run.place + k))) is one run.turned

abbrev right_pilot : (width : ℕ) → Run → Option ℕ → Claim
right_pilot w run None = 0 is 0
right_pilot w run (Some q) =
    q under pilots_of w
    and code (use_of w (subcarrier_at w (run.place + run.count))) is code (Pilot q)
    and one (upper w (subcarrier_at w (run.place + run.count))) is one run.turned

abbrev right_run : (width : ℕ) → Run → Claim
right_run w run =
    run_end run under places_of w + 1
    and run.carrier + run.count under carriers_of w + 1
    and up_to run.count (right_carrier w run)
    and right_pilot w run run.pilot

abbrev run_claim : Claim
run_claim = each widths λ w.
    (up_to (2 * half_runs w) λ r. right_run w (run_of w r))
    and (run_of w 0).place is 0
    and (up_to (2 * half_runs w - 1) λ r. (run_of w (r + 1)).place is run_end (run_of w r))
    and run_end (run_of w (2 * half_runs w - 1)) is places_of w

runs : Holds run_claim
unfolding used_subcarriers pilot_subcarriers data_subcarriers use_of subcarrier_at run_of
runs = sound run_claim tt

right_run_lem : (width : ℕ) (run : Run) → Holds (right_run width run) → RunRight width run
right_run_lem width run h =
    record {
      inside = omega (arith, h.0);
      carriers_inside = omega (arith, h.1.0);
      pilot_inside = λ q e. (piloted q e).0;
      carries = λ k l. code_same (use_of width (subcarrier_at width (run.place + k))) (Data (run.carrier + k)) (h.1.1.0 k l).0;
      side = λ k l. one_same (upper width (subcarrier_at width (run.place + k))) run.turned (h.1.1.0 k l).1;
      pilot_use = λ q e. code_same (use_of width (subcarrier_at width (run.place + run.count))) (Pilot q) (piloted q e).1.0;
      pilot_side = λ q e. one_same (upper width (subcarrier_at width (run.place + run.count))) run.turned (piloted q e).1.1;
    }
  where
    piloted : (q : ℕ) → run.pilot ≡ Some q → Holds (right_pilot width run (Some q))
    piloted q e = subst (λ (p : Option ℕ). Holds (right_pilot width run p)) e h.1.1.1

-- every run is right, and the runs follow one another from the first place to the last
pub runs_right : (width : ℕ) → T (among widths width) → RunsRight width
runs_right width h =
    record {
      right = λ r l. right_run_lem width (run_of width r) ((runs width h).0 r l);
      first = (runs width h).1.0;
      next = λ r l. (runs width h).1.1.0 r (omega (arith, l));
      last = (runs width h).1.1.1;
    }

-- a row of the code's tables, and the run that it stands for
abbrev pub Row : Type 0
Row = ℕ × ℕ × ℕ × Option ℕ

abbrev pub row_run : Row → Bool → Run
row_run row turned = record { place = row.0; carrier = row.1; count = row.2; pilot = row.3; turned = turned }

abbrev pub row_at : List Row → ℕ → Row
row_at rows r = get_or rows r (0, 0, 0, None)

abbrev same_row : Row → Run → Claim
same_row row run = row.0 is run.place and row.1 is run.carrier and row.2 is run.count and found_code row.3 is found_code run.pilot

same_row_lem : (row : Row) (run : Run) → Holds (same_row row run) → row_run row run.turned ≡ run
same_row_lem row run h = let e = found_same _ _ h.1.1.1 in rw (h.0, h.1.0, h.1.1.0, e)

abbrev rows_claim : Claim
rows_claim = (up_to 8 λ r. same_row (row_at RUNS_40 r) (run_of 40 r)) and (up_to 6 λ r. same_row (row_at RUNS_20 r) (run_of 20 r))

rows : Holds rows_claim
unfolding run_of
rows = sound rows_claim tt

-- each row of a width's table is a run of the width
module _ (width r : ℕ) (row : Row) (h : r < 2 * half_runs width) where
  pub wide_run : width ≡ 40 → row ≡ row_at RUNS_40 r → row_run row (eqb width 40 && leb 4 r) ≡ run_of width r
  unfolding run_of
  wide_run e there = rw (there, e) (same_row_lem (row_at RUNS_40 r) (run_of 40 r) (rows.0 r (rw e at h)))

  pub narrow_run : (width ≡ 40 → ⊥) → row ≡ row_at RUNS_20 r → row_run row (eqb width 40 && leb 4 r) ≡ run_of width r
  unfolding run_of
  narrow_run n there =
      let e : eqb width 40 ≡ false = ne_eqb width 40 n in
      rw (there, e) (same_row_lem (row_at RUNS_20 r) (run_of 20 r) (rows.1 r (rw e at h)))

abbrev count_claim : Claim
count_claim = each widths λ w. 0 under 2 * half_runs w

counts : Holds count_claim
counts = sound count_claim tt

-- there is a run
pub runs_some : (width : ℕ) → T (among widths width) → 0 < 2 * half_runs width
runs_some width h = counts width h

-- a pilot takes a place, and where there is none a run ends with its carriers
pub pilot_counts : (n q : ℕ) (p : Option ℕ) → p ≡ Some q → n + cond (is_some p) 1 0 ≡ n + 1
pilot_counts n q p e = rw e

pub none_counts : (n : ℕ) (p : Option ℕ) → p ≡ None → n + cond (is_some p) 1 0 ≡ n
none_counts n p e = rw e (omega arith)

pub counts_most : (n : ℕ) (p : Option ℕ) → n + cond (is_some p) 1 0 ≤ n + 1
counts_most n None = omega arith
counts_most n (Some q) = omega arith

-- where run r begins: where the run before it ends; after the last run, where the stream ends
abbrev pub run_start : (width r : ℕ) → ℕ
run_start width zero = 0
run_start width (suc r) = run_end (run_of width r)

pub start_next : (width r : ℕ) → run_start width (r + 1) ≡ run_end (run_of width r)
start_next width r = rw (add-one r)

pub start_place : (width : ℕ) → RunsRight width → (r : ℕ) → r < 2 * half_runs width → run_start width r ≡ (run_of width r).place
start_place width right zero h = sym right.first
start_place width right (suc r) h = sym (right.next r (omega arith)) ∙ ap (λ (k : ℕ). (run_of width k).place) (add-one r)

pub start_end : (width : ℕ) → RunsRight width → 0 < 2 * half_runs width → run_start width (2 * half_runs width) ≡ places_of width
start_end width right some =
    let one : 2 * half_runs width ≡ 2 * half_runs width - 1 + 1 = omega arith in
    ap (run_start width) one ∙ start_next width (2 * half_runs width - 1) ∙ right.last

-- run r of a width: right, from where it begins to where the next begins
module _ (width r : ℕ) (run : Run) (told : run ≡ run_of width r) (h : T (among widths width)) (l : r < 2 * half_runs width) where
  pub run_right : RunRight width run
  run_right = subst (RunRight width) (sym told) ((runs_right width h).right r l)

  pub run_begins : run_start width r ≡ run.place
  run_begins = start_place width (runs_right width h) r l ∙ sym (ap (λ (x : Run). x.place) told)

  pub run_ends : (next : ℕ) → next ≡ r + 1 → run_start width next ≡ run_end run
  run_ends next e = ap (run_start width) e ∙ start_next width r ∙ sym (ap run_end told)

-- what the places of a run are used for
module _ (width f : ℕ) (run : Run) (right : RunRight width run) where
  pub carrier_use : run.place ≤ f → f < run.place + run.count → Data (run.carrier + (f - run.place)) ≡ use_of width (subcarrier_at width f)
  carrier_use b l =
      let n : run.place + (f - run.place) ≡ f = omega arith in
      sym (rw n at (right.carries (f - run.place) (omega arith)))

  pub pilot_use_at : (q : ℕ) → run.pilot ≡ Some q → f ≡ run.place + run.count → Pilot q ≡ use_of width (subcarrier_at width f)
  pilot_use_at q e n = sym (rw n (right.pilot_use q e))
