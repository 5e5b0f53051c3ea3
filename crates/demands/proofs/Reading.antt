-- What the sentences of demand 2 mean to the reader's laws: a symbol that the points call gives has the floats of the frame's payload bits, and the other
-- way. Assumes that the reader was begun.
use Rattle.std.specs.Prelude.{Err, Ok, Result}
use Rattle.settings.specs.declared.settings.Refusal.{Refusal}
use Rattle.settings.specs.declared.settings.Settings.{Settings}
use mathlib.Core.Path.{◌≡◌, ◌∙◌, refl, sym, ap}
use mathlib.Core.Bool.{false}
use mathlib.Core.List.{List}
use Prim.Native.Nat.{ℕ, ◌<◌, ◌≤◌}
use native.Mathlib.Omega.{arith}
use borrow.Author.Tests.{le-ltb, lt-leb, ne_eqb}
use lib.ListN.{length, get_or, drop, length-append, length-drop}
use lib.Ieee.{Float, nan, binary32, to_bits}
use Rattle.laws.specs.Firsts.{firsts}
use Rattle.laws.proofs.Firsts.{length_firsts}
use Rattle.chain.specs.DataBits.{payload_bit}
use Rattle.chain.specs.Labels.{half_label}
use Rattle.settings.specs.Settings.{bad_seed, settings_of, check_of, plan_for}
use Rattle.settings.proofs.SettingsLaws.{accepted_is, passed}
use Rattle.symbols.specs.Symbols.{symbols_of}
use Rattle.modulator.specs.Symbol.{symbol_float}
use Rattle.frame.specs.Points.{point_float, floats_of, points_of, points_into, points_number}
use Rattle.frame.proofs.PointsLaws.{points_by}
use Rattle.reader_state.specs.declared.state.OpenSettings.{OpenSettings}
use Rattle.reader_state.specs.State.{with_seed, open_raw, start_by}
use Rattle.reader_runs.specs.Sent.{settings_for, sent_input, FloatsSent}
use Rattle.demands.specs.Demand2.{Begun, GivesSymbol}
use Rattle.demands.proofs.Calls.{Given, given, level_at}

-- "begun by its start": the settings are accepted
abbrev is_ready : Result (Unit {0}) Refusal → ℕ
is_ready (Ok tt) = 1
is_ready (Err r) = 0

pub begun_ready : (o : OpenSettings) → Begun o → check_of (open_raw o) ≡ Ok (settings_for o)
begun_ready o = go (check_of (open_raw o)) refl
  where
    go : (x : Result Settings Refusal) → check_of (open_raw o) ≡ x → (start_by x o).answer ≡ Ok tt → check_of (open_raw o) ≡ Ok (settings_for o)
    go (Ok s) e begun = e ∙ ap Ok (sym (passed (open_raw o) s e).meant)
    go (Err r) e begun = absurd (let n : ◌≡◌ {A = ℕ} 0 1 = ap is_ready begun in omega (arith, n))

module _ (o : OpenSettings) (ready : check_of (open_raw o) ≡ Ok (settings_for o)) (seed : ℕ) (some : 1 ≤ seed) (most : seed ≤ 127) where
  seed_passes : bad_seed (with_seed o seed) ≡ false
  seed_passes = simp (ne_eqb seed 0 (λ e. omega (arith, e, some)), le-ltb 127 seed most)

  -- with a seed the settings are accepted too
  pub seeded : check_of (with_seed o seed) ≡ Ok (settings_of (with_seed o seed))
  seeded =
      let p = passed (open_raw o) (settings_for o) ready in
      sym (accepted_is (with_seed o seed) p.width p.mcs p.format p.length seed_passes)

  -- and have the same plan, count and floats
  pub one_count : symbols_of (settings_of (with_seed o seed)) ≡ symbols_of (settings_for o)
  unfolding symbols_of plan_for
  one_count = refl

  pub one_size : floats_of (settings_of (with_seed o seed)) ≡ floats_of (settings_for o)
  unfolding plan_for
  one_size = refl

  -- a slice with room for a symbol
  abbrev lent : List Float
  lent = firsts (λ k. nan) (floats_of (settings_for o))

  lent_room : floats_of (settings_for o) ≤ length lent
  lent_room = omega (arith, length_firsts (λ (k : ℕ). nan) (floats_of (settings_for o)))

  -- a symbol that is given is in the frame
  pub gives_inside : (p : List ℕ) (n : ℕ) (points : List Float) → GivesSymbol o seed p n points → n < symbols_of (settings_for o)
  gives_inside p n points gives =
      let g = given (settings_of (with_seed o seed)) (length p) n (length lent)
      (ap (λ (x : Result Settings Refusal). points_number (points_of x (length p) n (length lent))) (sym seeded) ∙ (gives lent lent_room).0) in
      omega (arith, g.in_frame, one_count)

  module _ (p : List ℕ) (n : ℕ) (whole : o.length ≤ length p) (inside : n < symbols_of (settings_for o)) where
    abbrev sentFloat : ℕ → Float
    sentFloat g = symbol_float (plan_for (settings_for o)) (half_label (plan_for (settings_for o)) (sent_input (settings_for o) (payload_bit p) seed) n) (settings_for o).format n g

    same_float : (g : ℕ) → point_float (settings_of (with_seed o seed)) p n g ≡ sentFloat g
    unfolding plan_for
    same_float g = refl

    given_in : (out : List Float) → floats_of (settings_for o) ≤ length out → Given (settings_of (with_seed o seed)) (length p) n (length out)
    given_in out room = record { payload_whole = whole; in_frame = omega (arith, inside, one_count); room_enough = omega (arith, room, one_size) }

    -- a float that the points call writes
    pub written_is : (out : List Float) → floats_of (settings_for o) ≤ length out → (g : ℕ) → g < floats_of (settings_for o)
        → get_or (points_into (check_of (with_seed o seed)) p n out) g nan ≡ sentFloat g
    written_is out room g h =
        ap (λ (x : Result Settings Refusal). get_or (points_into x p n out) g nan) seeded
        ∙ level_at (settings_of (with_seed o seed)) p n out (given_in out room) g (omega (arith, h, one_size))
        ∙ same_float g

    -- the slice keeps its length
    pub written_long : (out : List Float) → floats_of (settings_for o) ≤ length out → length (points_into (check_of (with_seed o seed)) p n out) ≡ length out
    written_long out room =
        let g = given_in out room in
        let f = point_float (settings_of (with_seed o seed)) p n in
        let k = floats_of (settings_of (with_seed o seed)) in
        ap length (sym (points_by (settings_of (with_seed o seed)) p n out (check_of (with_seed o seed)) false false false seeded
        (le-ltb (length p) o.length whole) (lt-leb (symbols_of (settings_of (with_seed o seed))) n g.in_frame) (le-ltb (length out) k g.room_enough)).1)
        ∙ omega (arith, length-append (firsts f k) (drop k out), length_firsts f k, length-drop k out, g.room_enough)

    -- the call is not refused
    pub call_given : (out : List Float) → floats_of (settings_for o) ≤ length out → points_number (points_of (check_of (with_seed o seed)) (length p) n (length out)) ≡ 0
    call_given out room =
        let g = given_in out room in
        ap points_number (sym (points_by (settings_of (with_seed o seed)) p n out (check_of (with_seed o seed)) false false false seeded
        (le-ltb (length p) o.length whole) (lt-leb (symbols_of (settings_of (with_seed o seed))) n g.in_frame)
        (le-ltb (length out) (floats_of (settings_of (with_seed o seed))) g.room_enough)).0)

    module _ (points : List Float) where
      pub gives_sent : GivesSymbol o seed p n points → FloatsSent (settings_for o) (payload_bit p) seed n points
      gives_sent gives g h = (gives lent lent_room).1 g h ∙ ap (to_bits binary32) (written_is lent lent_room g h)

      pub sent_gives : FloatsSent (settings_for o) (payload_bit p) seed n points → GivesSymbol o seed p n points
      sent_gives sent out room = (call_given out room, λ g h. sent g h ∙ sym (ap (to_bits binary32) (written_is out room g h)))
