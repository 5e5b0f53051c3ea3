-- What the payload slices hold that a run's steps are lent: the frame's bytes that are complete, and all else as it was. Assumes nothing.
use Rattle.std.specs.Prelude.{Ok}
use mathlib.Core.Path.{◌≡◌, ◌∙◌, sym, ap, subst}
use mathlib.Core.List.{List, ◌++◌}
use Prim.Native.Nat.{ℕ, zero, suc, ◌+◌, ◌-◌, ◌*◌, ◌/◌, ◌<◌, ◌≤◌}
use native.Mathlib.Nat.{zero-mul, suc-mul}
use native.Mathlib.Numerals.{add-one}
use native.Mathlib.Omega.{arith}
use lib.ListN.{length, take, drop}
use lib.Ieee.{Float}
use Rattle.laws.specs.Filled.{Filled}
use Rattle.laws.specs.Firsts.{firsts}
use Rattle.laws.proofs.Filling.{fill_none, fill_join, fill_from, fill_end}
use Rattle.laws.proofs.Firsts.{into_fill}
use Rattle.settings.specs.declared.settings.Settings.{Settings}
use Rattle.settings.specs.Settings.{check_of, plan_for, Right}
use Rattle.symbols.specs.Symbols.{symbols_of}
use Rattle.symbols.proofs.CountLaws.{symbols_least}
use Rattle.assembler.specs.Assembled.{byte_of}
use Rattle.reader_state.specs.declared.state.OpenSettings.{OpenSettings}
use Rattle.reader_state.specs.State.{open_raw}
use Rattle.acceptance.specs.Accepted.{bits_before}
use Rattle.reader_runs.specs.Run.{slice_after, memory_before}
use Rattle.reader_runs.specs.Sent.{settings_for, SentBy, Rooms}
use Rattle.reader_runs.proofs.Steps.{sound}
use Rattle.reader_runs.proofs.Runs.{run_writes}

-- bytes of a frame that are complete before symbol n
abbrev pub bytes_before : (s : Settings) (n : ℕ) → ℕ
bytes_before s n = bits_before s n / 8

module _ (s : Settings) where
  -- they grow, and stay within the payload
  pub bytes_more : (n : ℕ) → bytes_before s n ≤ bytes_before s (n + 1)
  bytes_more n =
      let e : (n + 1) * (plan_for s).dbps ≡ n * (plan_for s).dbps + (plan_for s).dbps = rw (add-one n, suc-mul) (omega arith) in
      omega arith

  pub bytes_within : (n : ℕ) → bytes_before s n ≤ s.length
  bytes_within n = omega arith

  pub bytes_none : bytes_before s 0 ≡ 0
  bytes_none = omega (arith, zero-mul (plan_for s).dbps)

  -- after the last symbol all are
  pub bytes_all : Right s → bytes_before s (symbols_of s) ≡ s.length
  bytes_all right = let e = (symbols_least s right).0 in omega (arith, e)

-- ends of a part
part_ends : (a b : ℕ) → a ≤ b → a + (b - a) ≡ b
part_ends a b l = omega arith

module _ (o : OpenSettings) (ready : check_of (open_raw o) ≡ Ok (settings_for o)) (S : ℕ → List Float) (bytes : ℕ → ℕ)
    (m : ℕ) (few : m ≤ symbols_of (settings_for o)) (rooms : Rooms (settings_for o) S bytes m) (f : SentBy (settings_for o) S m) where
  abbrev s : Settings
  s = settings_for o

  -- step n fills in the bytes now complete
  pub slice_filled : (n : ℕ) → n < m → (slice : List ℕ) → (settings_for o).length ≤ length slice
      → Filled 0 (bytes_before s n) (λ k. byte_of f.v (bytes_before s n + k)) (bytes_before s (n + 1) - bytes_before s n) slice (slice_after o S bytes n slice)
  slice_filled n l slice whole =
      let a = bytes_before s n in
      let b = bytes_before s (n + 1) in
      let e : a + (b - a) ≡ b = part_ends a b (bytes_more s n) in
      subst (λ (d : List ℕ). Filled 0 a (λ k. byte_of f.v (a + k)) (b - a) slice d)
      (ap (λ (k : ℕ). take a slice ++ (firsts (λ k. byte_of f.v (a + k)) (b - a) ++ drop k slice)) e ∙ sym (run_writes o ready S bytes m few rooms f n l slice whole))
      (into_fill 0 a (λ k. byte_of f.v (a + k)) (b - a) slice (omega (arith, e, bytes_within s (n + 1), whole)))

  -- one slice lent to every step holds the first bytes of the payload
  pub memory_filled : (slice : List ℕ) → (settings_for o).length ≤ length slice → (n : ℕ) → n ≤ m
      → Filled 0 0 (byte_of f.v) (bytes_before s n) slice (memory_before o S bytes n slice)
  unfolding memory_before
  memory_filled slice whole zero l = fill_end 0 0 (byte_of f.v) (sym (bytes_none s)) (fill_none 0 0 (byte_of f.v) slice)
  memory_filled slice whole (suc n) l =
      let before = memory_before o S bytes n slice in
      let p = memory_filled slice whole n (omega arith) in
      let q = slice_filled n l before (omega (arith, p.same, whole)) in
      fill_end 0 0 (byte_of f.v) (part_ends (bytes_before s n) (bytes_before s (n + 1)) (bytes_more s n) ∙ ap (bytes_before s) (add-one n))
      (fill_join 0 0 (byte_of f.v) (bytes_before s n) (bytes_before s (n + 1) - bytes_before s n) slice before _ p
      (fill_from 0 (λ k. byte_of f.v (bytes_before s n + k)) {a = bytes_before s n} {b = 0 + bytes_before s n} (omega arith) q))

-- after the last symbol it holds the whole payload
pub memory_whole : (o : OpenSettings) (ready : check_of (open_raw o) ≡ Ok (settings_for o)) (S : ℕ → List Float) (bytes : ℕ → ℕ)
    → Rooms (settings_for o) S bytes (symbols_of (settings_for o)) → (f : SentBy (settings_for o) S (symbols_of (settings_for o)))
    → (slice : List ℕ) → (settings_for o).length ≤ length slice
    → Filled 0 0 (byte_of f.v) (settings_for o).length slice (memory_before o S bytes (symbols_of (settings_for o)) slice)
memory_whole o ready S bytes rooms f slice whole =
    fill_end 0 0 (byte_of f.v) (bytes_all (settings_for o) (sound o ready))
    (memory_filled o ready S bytes (symbols_of (settings_for o)) (omega arith) rooms f slice whole (symbols_of (settings_for o)) (omega arith))
