-- Demand 2 of runs in which any steps are 8: a term for each sentence of specs/Retried. Such a run goes through the states of the run of
-- those of its attempts that are not 8, for which demand 2 is proved. Assumes nothing.
use Rattle.std.specs.Prelude.{None, Ok, Some}
use mathlib.Core.Path.{◌≡◌, ◌∙◌, refl, sym, ap, subst}
use mathlib.Core.Bool.{Bool, true, false, cond}
use mathlib.Core.List.{List}
use mathlib.Core.Logic.{◌⊎◌, inl, inr, ⊎_elim}
use Prim.Native.Nat.{ℕ, zero, suc, ◌+◌, ◌-◌, ◌*◌, ◌<◌, ◌≤◌}
use native.Mathlib.Nat.{not-suc-le-zero, eq-or-lt_of_le, le_of_suc-le-suc}
use native.Mathlib.Numerals.{add-one}
use native.Mathlib.Omega.{arith}
use borrow.Author.Tests.{eqb-true, eqb-false, eq-eqb, ne_eqb}
use lib.Dec.{eqb}
use lib.ListN.{length}
use lib.Ieee.{Float}
use Rattle.chain.specs.DataBits.{payload_bit}
use Rattle.chain.proofs.InputLaws.{payload_bit_lem}
use Rattle.settings.specs.Settings.{settings_of, plan_for}
use Rattle.symbols.specs.Symbols.{symbols_of}
use Rattle.frame.specs.Points.{floats_of}
use Rattle.reader_state.specs.declared.state.OpenSettings.{OpenSettings}
use Rattle.reader_state.specs.declared.state.Reader.{Reader}
use Rattle.acceptance.specs.declared.accept.Stepped.{Stepped}
use Rattle.reader_state.specs.State.{open_raw}
use Rattle.reader.specs.Step.{step_of, step_into, step_number}
use Rattle.verdicts.specs.Statements.{settings_in, InReach}
use Rattle.verdicts.proofs.StepCases.{reach}
use Rattle.verdicts.proofs.Refusals.{step_refusals, refused_step_unchanged, refused_step_state}
use Rattle.reader_runs.specs.Run.{state_before, answer_to}
use Rattle.reader_runs.specs.Sent.{settings_for}
use Rattle.reader_runs.proofs.Steps.{in_reach_after}
use Rattle.reader_runs.proofs.Endings.{run_kept}
use Rattle.demands.specs.Demand2.{Begun, IsFrame, GivesSymbol, lengths, RoomAt, Accepts, LeavesBytes, state_of}
use Rattle.demands.specs.Retried.{symbols_before, attempt_number, AcceptedOr8, GivesAttempts, RetriedExactly, RetriedReturns, RetriedTells, EightChangesNothing, RetriedCloses}
use Rattle.demands.proofs.Reading.{begun_ready, gives_inside}
use Rattle.demands.proofs.Demand2.{accepted_given, demand_2b, demand_2c, closed_from, next_state, ended_last, demand_2d, steps_exactly, states_lead}

-- ---- counting the attempts that are not 8

is_8 : (n : ℕ) → (n ≡ 8) ⊎ (n ≡ 8 → ⊥)
is_8 n = go (eqb n 8) refl
  where
    go : (b : Bool) → eqb n 8 ≡ b → (n ≡ 8) ⊎ (n ≡ 8 → ⊥)
    go true e = inl (eqb-true n 8 e)
    go false e = inr (eqb-false n 8 e)

-- an attempt before K that is not 8 and is of symbol n
record Attempt (number : ℕ → ℕ) (K n : ℕ) : Type 0 where
  at : ℕ
  before : at < K
  tried : number at ≡ 8 → ⊥
  of_symbol : symbols_before number at ≡ n

module _ (number : ℕ → ℕ) where
  count_8 : (k : ℕ) → number k ≡ 8 → symbols_before number (suc k) ≡ symbols_before number k
  unfolding symbols_before
  count_8 k e = ap (λ (b : Bool). cond b (symbols_before number k) (symbols_before number k + 1)) (eq-eqb (number k) 8 e)

  count_more : (k : ℕ) → (number k ≡ 8 → ⊥) → symbols_before number (suc k) ≡ symbols_before number k + 1
  unfolding symbols_before
  count_more k n = ap (λ (b : Bool). cond b (symbols_before number k) (symbols_before number k + 1)) (ne_eqb (number k) 8 n)

  count_grows : (j k : ℕ) → j ≤ k → symbols_before number j ≤ symbols_before number k
  count_grows j zero l =
      let e : j ≡ 0 = omega arith in
      subst (λ (i : ℕ). symbols_before number i ≤ symbols_before number 0) (sym e) (omega arith)
  count_grows j (suc k) l =
      let earlier = count_grows j k in
      ⊎_elim
      (λ (e : j ≡ suc k). subst (λ (i : ℕ). symbols_before number i ≤ symbols_before number (suc k)) (sym e) (omega arith))
      (λ (h : j < suc k). ⊎_elim
      (λ (e : number k ≡ 8). omega (arith, earlier (le_of_suc-le-suc h), count_8 k e))
      (λ (n : number k ≡ 8 → ⊥). omega (arith, earlier (le_of_suc-le-suc h), count_more k n))
      (is_8 (number k)))
      (eq-or-lt_of_le l)

  -- attempts that are not 8 are of earlier symbols than all after them
  count_below : (k K : ℕ) → k < K → (number k ≡ 8 → ⊥) → symbols_before number k < symbols_before number K
  count_below k K l n = omega (arith, count_more k n, count_grows (suc k) K l)

  -- the last attempt before K that is of symbol n: the one that is not 8, where there is one
  attempt_at : (K n : ℕ) → ℕ
  attempt_at zero n = 0
  attempt_at (suc K) n = cond (eqb (symbols_before number K) n) K (attempt_at K n)

  attempt_found : (K k : ℕ) → k < K → (number k ≡ 8 → ⊥) → attempt_at K (symbols_before number k) ≡ k
  unfolding attempt_at
  attempt_found zero k l n = absurd (not-suc-le-zero l)
  attempt_found (suc K) k l n =
      let earlier = attempt_found K k in
      ⊎_elim
      (λ (e : k ≡ K). ap (λ (b : Bool). cond b K (attempt_at K (symbols_before number k))) (eq-eqb _ _ (ap (symbols_before number) (sym e)))
      ∙ sym e)
      (λ (h : k < K). ap (λ (b : Bool). cond b K (attempt_at K (symbols_before number k)))
      (ne_eqb (symbols_before number K) (symbols_before number k) (λ e. omega (arith, e, count_below k K h n))) ∙ earlier h n)
      (eq-or-lt_of_le (le_of_suc-le-suc l))

  -- every symbol that the attempts have come to is that of one of them
  attempt_of : (K n : ℕ) → n < symbols_before number K → Attempt number K n
  unfolding symbols_before
  attempt_of zero n l = absurd (not-suc-le-zero l)
  attempt_of (suc K) n l =
      let earlier : n < symbols_before number K → Attempt number (suc K) n = λ h.
      let a = attempt_of K n h in
      record { at = a.at; before = omega (arith, a.before); tried = a.tried; of_symbol = a.of_symbol } in
      ⊎_elim
      (λ (e : number K ≡ 8). earlier (omega (arith, l, count_8 K e)))
      (λ (t : number K ≡ 8 → ⊥). ⊎_elim
      (λ (e : n ≡ symbols_before number K). record { at = K; before = omega arith; tried = t; of_symbol = sym e })
      earlier
      (eq-or-lt_of_le (le_of_suc-le-suc (omega (arith, l, count_more K t)))))
      (is_8 (number K))

-- ---- room

-- a step from a state in range that is not 8 has room
room_unless_8 : (st : Reader) → InReach st → (points : List Float) (bytes : ℕ) → (step_number (step_of st points bytes).answer ≡ 8 → ⊥)
    → (floats_of (settings_in st) ≤ length points) × ((settings_in st).length ≤ bytes)
room_unless_8 st o points bytes tried =
    let row = ((step_refusals st points bytes).1 o).0.1 in
    let floats : length points < floats_of (settings_in st) → ⊥ = λ l. tried (row (inl l, tt)) in
    let whole : bytes < (settings_in st).length → ⊥ = λ l. tried (row (inr l, tt)) in
    (omega arith, omega arith)

-- an accepted step is from a state in range
accepted_in_reach : (st : Reader) (points : List Float) (bytes : ℕ) → step_number (step_of st points bytes).answer ≡ 0 → InReach st
accepted_in_reach st points bytes e =
    ⊎_elim (λ (o : InReach st). o)
    (λ closed. absurd (let n : ◌≡◌ {A = ℕ} 12 0 = ap (λ (r : Stepped). step_number r.answer) (sym closed) ∙ e in omega (arith, n)))
    (reach st points bytes)

module _ (o : OpenSettings) (S : ℕ → List Float) (M : ℕ → List ℕ) where
  abbrev number : ℕ → ℕ
  number = attempt_number o S M

  abbrev symbols : ℕ → ℕ
  symbols = symbols_before (attempt_number o S M)

  room_in_reach : (k : ℕ) → InReach (state_before o S (lengths M) k) → (number k ≡ 8 → ⊥) → RoomAt o S M k
  room_in_reach k in_reach tried =
      subst (λ (x : OpenSettings). (floats_of (settings_of (open_raw x)) ≤ length (S k)) × ((settings_of (open_raw x)).length ≤ length (M k)))
      (run_kept o S (lengths M) k)
      (room_unless_8 (state_before o S (lengths M) k) in_reach (S k) (length (M k)) tried)

  -- ---- the run of the attempts before K that are not 8

  abbrev points_of : (K n : ℕ) → List Float
  points_of K n = S (attempt_at number K n)

  abbrev slicesOf : (K n : ℕ) → List ℕ
  slicesOf K n = M (attempt_at number K n)

  -- it goes through the same states
  same_state : (K k : ℕ) → k ≤ K → state_before o S (lengths M) k ≡ state_before o (points_of K) (lengths (slicesOf K)) (symbols k)
  unfolding state_before symbols_before
  same_state K zero l = refl
  same_state K (suc k) l =
      let st = state_before o (points_of K) (lengths (slicesOf K)) (symbols k) in
      let here : state_before o S (lengths M) k ≡ st = same_state K k (omega arith) in
      ⊎_elim
      (λ (e : number k ≡ 8). (refused_step_state (state_before o S (lengths M) k) (S k) (length (M k))).1 (inl e) ∙ here
      ∙ ap (state_before o (points_of K) (lengths (slicesOf K))) (sym (count_8 number k e)))
      (λ (n : number k ≡ 8 → ⊥). ap (λ (t : Reader). (step_of t (S k) (length (M k))).state) here
      ∙ ap (λ (i : ℕ). (step_of st (S i) (length (M i))).state) (sym (attempt_found number K k l n))
      ∙ ap (state_before o (points_of K) (lengths (slicesOf K))) (sym (add-one (symbols k)) ∙ sym (count_more number k n)))
      (is_8 (number k))

  -- what holds of an attempt that is not 8, by its state, holds of its symbol in that run, and the other way
  module _ (P : Reader → List Float → List ℕ → Type 0) (K k : ℕ) (l : k < K) (tried : number k ≡ 8 → ⊥) where
    to_symbol : P (state_before o S (lengths M) k) (S k) (M k)
        → P (state_before o (points_of K) (lengths (slicesOf K)) (symbols k)) (points_of K (symbols k)) (slicesOf K (symbols k))
    to_symbol h =
        subst (λ (i : ℕ). P (state_before o (points_of K) (lengths (slicesOf K)) (symbols k)) (S i) (M i))
        (sym (attempt_found number K k l tried))
        (subst (λ (t : Reader). P t (S k) (M k)) (same_state K k (omega (arith, l))) h)

    to_attempt : P (state_before o (points_of K) (lengths (slicesOf K)) (symbols k)) (points_of K (symbols k)) (slicesOf K (symbols k))
        → P (state_before o S (lengths M) k) (S k) (M k)
    to_attempt h =
        subst (λ (t : Reader). P t (S k) (M k)) (sym (same_state K k (omega (arith, l))))
        (subst (λ (i : ℕ). P (state_before o (points_of K) (lengths (slicesOf K)) (symbols k)) (S i) (M i))
        (attempt_found number K k l tried) h)

  -- where every attempt is accepted or 8, its symbols have room and are accepted
  module _ (K : ℕ) (all : AcceptedOr8 (attempt_number o S M) K) where
    accepted_at : (n : ℕ) (a : Attempt number K n) → number a.at ≡ 0
    accepted_at n a = ⊎_elim (λ (e : number a.at ≡ 0). e) (λ (e : number a.at ≡ 8). absurd (a.tried e)) (all a.at a.before)

    taken : (n : ℕ) → n < symbols K → RoomAt o (points_of K) (slicesOf K) n × Accepts (answer_to o (points_of K) (lengths (slicesOf K)) n)
    taken n l =
        let a = attempt_of number K n l in
        let k = a.at in
        let accepted = accepted_at n a in
        let room = room_in_reach k (accepted_in_reach (state_before o S (lengths M) k) (S k) (length (M k)) accepted) a.tried in
        subst (λ (i : ℕ). RoomAt o (points_of K) (slicesOf K) i × Accepts (answer_to o (points_of K) (lengths (slicesOf K)) i)) a.of_symbol
        (to_symbol
        (λ t points slice. ((floats_of (settings_for o) ≤ length points) × (o.length ≤ length slice))
        × (step_number (step_of t points (length slice)).answer ≡ 0))
        K k a.before a.tried (room, accepted))

    -- they are symbols of the frame: after the last one a step is 12
    few : Begun o → symbols K ≤ symbols_of (settings_for o)
    few begun =
        let more : symbols_of (settings_for o) < symbols K → ⊥ = λ l.
        let before : (n : ℕ) → n < symbols_of (settings_for o) → n < symbols K = λ n b. omega (arith, b, l) in
        let closed = ((demand_2d o (points_of K) (slicesOf K)).1 begun (λ n b. (taken n (before n b)).0) (λ n b. (taken n (before n b)).1)
        (symbols_of (settings_for o)) (omega arith)).0 in
        omega (arith, closed, (taken (symbols_of (settings_for o)) l).1) in
        omega arith

  -- a frame that gives the attempts gives the symbols
  module _ (seed : ℕ) (p : List ℕ) (K : ℕ) where
    to_symbols : GivesAttempts o seed p S (attempt_number o S M) K → (n : ℕ) → n < symbols K → GivesSymbol o seed p n (points_of K n)
    to_symbols gives n l =
        let a = attempt_of number K n l in
        subst (λ (i : ℕ). GivesSymbol o seed p i (points_of K i)) a.of_symbol
        (subst (λ (i : ℕ). GivesSymbol o seed p (symbols a.at) (S i)) (sym (attempt_found number K a.at a.before a.tried))
        (gives a.at a.before a.tried))

    to_attempts : ((n : ℕ) → n < symbols K → GivesSymbol o seed p n (points_of K n)) → GivesAttempts o seed p S (attempt_number o S M) K
    to_attempts gives k l tried =
        subst (λ (i : ℕ). GivesSymbol o seed p (symbols k) (S i)) (attempt_found number K k l tried)
        (gives (symbols k) (count_below number k K l tried))

  -- ---- (a) and (b)

  module _ (begun : Begun o) (seed : ℕ) (p : List ℕ) (frame : IsFrame o seed p) where
    -- an attempt after accepted ones whose symbol is given is accepted
    next_accepted : (k : ℕ) → AcceptedOr8 number k → GivesAttempts o seed p S (attempt_number o S M) (suc k) → (number k ≡ 8 → ⊥)
        → number k ≡ 0
    next_accepted k all gives tried =
        let ready = begun_ready o begun in
        let some : 1 ≤ seed = frame.0 in
        let most : seed ≤ 127 = frame.1.0 in
        let here = gives k (omega arith) tried in
        let inside = gives_inside o ready seed some most p (symbols k) (S k) here in
        let st : state_before o S (lengths M) k ≡ state_of o seed p (symbols k) =
        same_state k k (omega arith)
        ∙ states_lead o (points_of k) (slicesOf k) (symbols k) begun (omega (arith, inside)) (λ n l. (taken k all n l).0) seed p frame
        (to_symbols seed p k (λ j l t. gives j (omega (arith, l)) t)) in
        let open-state =
        in_reach_after o ready (payload_bit p) seed (payload_bit_lem p) (omega (arith, some)) (omega (arith, most)) (symbols k) inside in
        let room = room_in_reach k (subst InReach (sym st) open-state) tried in
        ap (λ (t : Reader). step_number (step_of t (S k) (length (M k))).answer) st
        ∙ (steps_exactly o (symbols k) begun inside seed p frame (S k) (length (M k)) room.0 room.1).0.1
        (seed, (p, (frame, ((λ h. refl, λ j h. refl), here))))

    all_accepted : (K : ℕ) → GivesAttempts o seed p S (attempt_number o S M) K → AcceptedOr8 (attempt_number o S M) K
    all_accepted zero gives k l = absurd (not-suc-le-zero l)
    all_accepted (suc K) gives k l =
        let before = all_accepted K (λ j h. gives j (omega (arith, h))) in
        ⊎_elim
        (λ (e : k ≡ K). subst (λ (i : ℕ). (number i ≡ 0) ⊎ (number i ≡ 8)) (sym e)
        (⊎_elim (λ (h : number K ≡ 8). inr h) (λ (h : number K ≡ 8 → ⊥). inl (next_accepted K before gives h)) (is_8 (number K))))
        (λ (h : k < K). before k h)
        (eq-or-lt_of_le (le_of_suc-le-suc l))

pub retried_exactly : RetriedExactly
retried_exactly o S M K begun = (
  λ all.
      let g = accepted_given o (begun_ready o begun) (points_of o S M K) (lengths (slicesOf o S M K)) (symbols o S M K)
      (few o S M K all begun) (λ n l. (taken o S M K all n l).0) (λ n l. (taken o S M K all n l).1) in
      (g.0, (g.1.0, (g.1.1.0, to_attempts o S M g.0 g.1.0 K g.1.1.1))),
  λ (seed, (p, (frame, gives))). all_accepted o S M begun seed p frame K gives,
)

pub retried_returns : RetriedReturns
retried_returns o S M K begun seed p frame gives k l tried =
    let all = all_accepted o S M begun seed p frame K gives in
    let n = symbols o S M k in
    let below : n < symbols o S M K = count_below (number o S M) k K l tried in
    to_attempt o S M
    (λ t points slice.
    ((step_of t points (length slice)).answer ≡ cond (eqb n 0) (Ok (Some seed)) (Ok None)) × LeavesBytes o p n slice (step_into t points slice))
    K k l tried
    (demand_2b o (points_of o S M K) (slicesOf o S M K) (symbols o S M K - 1) begun (omega (arith, below, few o S M K all begun))
    (λ m b. (taken o S M K all m (omega (arith, b, below))).0) seed p frame
    (λ m b. to_symbols o S M seed p K gives m (omega (arith, b, below))) n (omega (arith, below)))

-- ---- (c)

pub retried_tells : RetriedTells
retried_tells o S M K begun some seed seed' p q frame frame' gives gives' =
    let n = symbols o S M K in
    let last : n - 1 + 1 ≡ n = omega (arith, some) in
    let most = few o S M K (all_accepted o S M begun seed p frame K gives) begun in
    let told = demand_2c o (points_of o S M K) (n - 1) begun (omega (arith, some, most)) seed seed' p q frame frame'
    (λ m b. to_symbols o S M seed p K gives m (omega (arith, b, some)))
    (λ m b. to_symbols o S M seed' q K gives' m (omega (arith, b, some))) in (
      told.0,
      (
        λ j inside early. told.1.0 j inside (subst (λ (k : ℕ). 16 + 8 * j + 8 ≤ k * (plan_for (settings_for o)).dbps) (sym last) early),
        λ end. told.1.1 (last ∙ end),
      ),
    )

-- ---- 8

pub eight_changes_nothing : EightChangesNothing
eight_changes_nothing o S M k e = (
  next_state o S (lengths M) k ∙ (refused_step_state (state_before o S (lengths M) k) (S k) (length (M k))).1 (inl e),
  refused_step_unchanged (state_before o S (lengths M) k) (S k) (M k) (λ z. omega (arith, z, e)),
)

-- ---- (d)

pub retried_closes : RetriedCloses
retried_closes o S M K begun all last =
    let ready = begun_ready o begun in
    let at : ℕ → Reader = state_before o (points_of o S M K) (lengths (slicesOf o S M K)) in
    closed_from o S M K
    (ap (λ (t : Reader). t.ended) (same_state o S M K K (omega arith) ∙ ap at last)
    ∙ ended_last o ready (points_of o S M K) (lengths (slicesOf o S M K))
    (λ n l. (taken o S M K all n (omega (arith, l, last))).0) (λ n l. (taken o S M K all n (omega (arith, l, last))).1))
