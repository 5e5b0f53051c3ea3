-- The points call: a symbol from its half labels, and the answer by the tests. Assumes nothing.
use Rattle.std.specs.Prelude.{Err, Ok, Result}
use mathlib.Core.Path.{◌≡◌, ◌∙◌, refl, sym, subst}
use mathlib.Core.Bool.{Bool, true, false, cond}
use mathlib.Core.List.{List}
use Prim.Native.Nat.{ℕ, ◌*◌, ◌≤◌}
use native.Mathlib.Omega.{arith}
use borrow.Author.Tests.{ltb-false}
use lib.Dec.{ltb, leb}
use lib.ListN.{length}
use lib.Ieee.{Float, nan}
use Rattle.laws.specs.Filled.{Filled}
use Rattle.laws.proofs.Filling.{fill_as}
use Rattle.laws.proofs.Firsts.{fill_list}
use Rattle.chain.specs.declared.plan.Plan.{Plan}
use Rattle.chain.specs.Labels.{halves_of}
use Rattle.settings.specs.declared.settings.Refusal.{Refusal}
use Rattle.settings.specs.declared.settings.Refusal.TheVariants.{Source, Place, Room}
use Rattle.settings.specs.declared.settings.RawSettings.{RawSettings}
use Rattle.settings.specs.declared.settings.Settings.{Settings}
use Rattle.settings.specs.Settings.{check_of, plan_for, Right}
use Rattle.symbols.specs.Symbols.{symbols_of}
use Rattle.settings.proofs.SettingsLaws.{right, plan_fits}
use Rattle.subcarriers.specs.Subcarriers.{places_of}
use Rattle.modulator.specs.Symbol.{stream_floats, symbol_float}
use Rattle.modulator.specs.Asked.{halves_in, SymbolAsked}
use Rattle.modulator.proofs.SymbolLaws.{symbol_ext}
use Rattle.frame.specs.Points.{labels_of, point_float, floats_of, points_of, points_into_by, points_into}
use Rattle.frame.specs.Asked.{LabelsHeld, WriteAsked}
use Rattle.frame.proofs.FrameLaws.{symbol_near, floats_are, held_small}

module _ (s : Settings) (payload : List ℕ) (n : ℕ) (halves : List ℕ) (held : LabelsHeld s payload n halves) (p : Plan) (e : p ≡ plan_for s) where
  -- what the points of a symbol ask, where its half labels stand
  pub symbol_asked : (out : List Float) → WriteAsked out s payload n → SymbolAsked out halves p n
  symbol_asked out asked =
      let r = asked.in_frame.right in
      subst (λ (v : Plan). SymbolAsked out halves v n) (sym e)
      (record {
        fits = plan_fits s r;
        room = asked.room;
        whole_halves = held.sized;
        label = held_small s payload n halves held;
        near = symbol_near s n r asked.in_frame.below_count;
      })

  -- they are the frame's
  pub symbol_filled : Right s → (out out' : List Float)
      → Filled nan 0 (symbol_float p (halves_in halves (halves_of p)) s.format n) (p.streams * stream_floats p.width) out out'
      → Filled nan 0 (point_float s payload n) (floats_of s) out out'
  symbol_filled r out out' f =
      let g : Filled nan 0 (symbol_float (plan_for s) (halves_in halves (halves_of (plan_for s))) s.format n) (floats_of s) out out' =
      subst (λ (v : Plan). Filled nan 0 (symbol_float v (halves_in halves (halves_of v)) s.format n) (v.streams * stream_floats v.width) out out') e f in
      fill_as nan 0 (symbol_float (plan_for s) (halves_in halves (halves_of (plan_for s))) s.format n) (point_float s payload n) (floats_of s) out out'
      (symbol_ext (plan_for s) (plan_fits s r) (halves_in halves (halves_of (plan_for s))) (labels_of s payload n) s.format n held.held) g

module _ (s : Settings) (payload : List ℕ) (symbol : ℕ) (out : List Float) where
  abbrev answer : (short past small : Bool) → Result ℕ Refusal
  answer short past small = cond short (Err Source) (cond past (Err Place) (cond small (Err Room) (Ok (floats_of s))))

  -- the answer and the slice where the settings are accepted, by the tests' values
  pub points_by : (x : Result Settings Refusal) (short past small : Bool) → x ≡ Ok s
      → ltb (length payload) s.length ≡ short → leb (symbols_of s) symbol ≡ past → ltb (length out) (floats_of s) ≡ small
      → (answer short past small ≡ points_of x (length payload) symbol (length out))
      × (points_into_by (answer short past small) (point_float s payload symbol) out ≡ points_into x payload symbol out)
  points_by x short past small e f g h = rw e (simp (f, g, h), simp (f, g, h))

  -- with the floats written
  pub points_written : (x : Result Settings Refusal) (out' : List Float) → x ≡ Ok s
      → ltb (length payload) s.length ≡ false → leb (symbols_of s) symbol ≡ false → ltb (length out) (floats_of s) ≡ false
      → Filled nan 0 (point_float s payload symbol) (floats_of s) out out'
      → (Ok (floats_of s) ≡ points_of x (length payload) symbol (length out)) × (out' ≡ points_into x payload symbol out)
  points_written x out' e f g h filled =
      let w = points_by x false false false e f g h in
      (w.0, fill_list nan (point_float s payload symbol) (floats_of s) out out' (ltb-false (length out) (floats_of s) h) filled ∙ w.1)

-- a number of floats that the call gives is small
pub written_few : (a : RawSettings) (bytes symbol room n : ℕ) → points_of (check_of a) bytes symbol room ≡ Ok n → n ≤ 912
written_few a bytes symbol room n = go (check_of a) refl
  where
    none : (r : Refusal) → Err r ≡ Ok n → n ≤ 912
    none r e = let z : ◌≡◌ {A = ℕ} 0 1 = cc in absurd (omega (arith, z))

    tested : (s : Settings) → Right s → (u v w : Bool)
        → cond u (Err Source) (cond v (Err Place) (cond w (Err Room) (Ok (floats_of s)))) ≡ Ok n → n ≤ 912
    tested s r true v w e = none Source e
    tested s r false true w e = none Place e
    tested s r false false true e = none Room e
    tested s r false false false e =
        let same : floats_of s ≡ n = cc in
        omega (arith, (floats_are s r (plan_for s) (places_of (plan_for s).width) refl refl).1, same)

    go : (k : Result Settings Refusal) → check_of a ≡ k → points_of k bytes symbol room ≡ Ok n → n ≤ 912
    go (Ok s) e q = tested s (right a s e) (ltb bytes s.length) (leb (symbols_of s) symbol) (ltb room (floats_of s)) q
    go (Err r) e q = none r q
