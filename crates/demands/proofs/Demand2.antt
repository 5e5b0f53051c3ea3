-- Demand 2 of the reader: a term for each sentence of specs/Demand2. Assumes nothing.
use Rattle.std.specs.Prelude.{None, Ok, Some}
use mathlib.Core.Path.{◌≡◌, ◌∙◌, refl, sym, ap, subst}
use mathlib.Core.Bool.{true, cond}
use mathlib.Core.List.{List, ◌++◌}
use Prim.Native.Nat.{ℕ, ◌+◌, ◌-◌, ◌*◌, ◌<◌, ◌≤◌}
use native.Mathlib.Numerals.{add-one}
use native.Mathlib.Omega.{arith}
use borrow.Author.Tests.{eq-eqb}
use lib.Dec.{eqb}
use lib.ListN.{length, get_or, take, drop}
use lib.Seq.{ext_get_or}
use lib.Ieee.{Float, binary32, to_bits}
use Rattle.laws.proofs.Firsts.{length_firsts, firsts_ext, fill_list}
use Rattle.laws.proofs.Search.{parts}
use Rattle.chain.specs.DataBits.{payload_bit}
use Rattle.chain.proofs.InputLaws.{payload_bit_lem}
use Rattle.settings.specs.declared.settings.RawSettings.{RawSettings}
use Rattle.settings.specs.declared.settings.Settings.{Settings}
use Rattle.settings.specs.Settings.{settings_of, check_of, plan_for, Right}
use Rattle.settings.proofs.SettingsLaws.{accepted_is, passed, right}
use Rattle.symbols.specs.Symbols.{symbols_of}
use Rattle.symbols.proofs.CountLaws.{symbols_some}
use Rattle.frame.specs.Points.{floats_of}
use Rattle.frame.specs.Compared.{SameSymbol}
use Rattle.assembler.specs.Assembled.{byte_of}
use Rattle.reader_state.specs.declared.state.OpenSettings.{OpenSettings}
use Rattle.reader_state.specs.declared.state.Reader.{Reader}
use Rattle.acceptance.specs.declared.accept.Stepped.{Stepped}
use Rattle.reader_state.specs.State.{with_seed, open_raw}
use Rattle.acceptance.specs.Accepted.{answered}
use Rattle.reader.specs.Step.{step_of, step_number}
use Rattle.verdicts.proofs.StepCases.{accepted_zero}
use Rattle.reader_runs.specs.Run.{state_before, answer_to, slice_after, memory_before}
use Rattle.reader_runs.specs.Sent.{settings_for, FloatsSent, state_after, SentBy, Rooms}
use Rattle.reader_runs.proofs.Steps.{sound, step_gives, step_agrees}
use Rattle.reader_runs.proofs.Runs.{floats_agree, run_state, run_takes, run_gives}
use Rattle.reader_runs.proofs.Memory.{bytes_before, bytes_all, slice_filled, memory_whole}
use Rattle.reader_runs.proofs.Payloads.{byte_back, first_bytes, payload_of, payload_small, payload_bits, sent_payload, payload_sent}
use Rattle.reader_runs.proofs.Unique.{seed_told, bytes_told}
use Rattle.reader_runs.proofs.Endings.{ended_step, ended_slice, ended_by, stays_from}
use Rattle.demands.specs.Frames.{WholePayload}
use Rattle.demands.specs.Demand2.{IsFrame, GivesSymbol, lengths, CompleteWith, ClosedFrom, AgreeBefore, state_of, StepsExactly, StatesLead, without_seed, symbols_of_frame, Demand2a, Demand2b, Demand2c, Demand2d, Demand2e, Demand2f, Demand2g}
use Rattle.demands.proofs.Reading.{begun_ready, written_is, written_long, gives_sent, sent_gives}

-- a frame of bytes whose first m symbols are given, as a frame of payload bits
abbrev pub gives_all : (o : OpenSettings) → check_of (open_raw o) ≡ Ok (settings_for o) → (S : ℕ → List Float) (m : ℕ) → m ≤ symbols_of (settings_for o)
    → (seed : ℕ) (p : List ℕ) → IsFrame o seed p → ((n : ℕ) → n < m → GivesSymbol o seed p n (S n)) → SentBy (settings_for o) S m
gives_all o ready S m few seed p frame gives =
    payload_sent (settings_for o) S m seed p (omega (arith, frame.0)) (omega (arith, frame.1.0))
    (λ n l. gives_sent o ready seed (omega (arith, frame.0)) (omega (arith, frame.1.0)) p n (omega (arith, frame.1.1.0)) (omega (arith, l, few)) (S n) (gives n l))

-- ---- (a)

-- accepted symbols are given by some payload and seed
pub accepted_given : (o : OpenSettings) → check_of (open_raw o) ≡ Ok (settings_for o) → (S : ℕ → List Float) (bytes : ℕ → ℕ) (m : ℕ)
    → m ≤ symbols_of (settings_for o) → Rooms (settings_for o) S bytes m → ((n : ℕ) → n < m → step_number (answer_to o S bytes n) ≡ 0)
    → (seed : ℕ) × ((p : List ℕ) × (IsFrame o seed p × ((n : ℕ) → n < m → GivesSymbol o seed p n (S n))))
accepted_given o ready S bytes m few rooms accepted =
    let s = settings_for o in
    let f = run_gives o ready S bytes m few rooms accepted in
    let long : length (payload_of f.v s.length) ≡ o.length = length_firsts (byte_of f.v) s.length in
    let some : 1 ≤ f.seed = f.seed_some in
    let most : f.seed ≤ 127 = omega (arith, f.seed_small) in (
      f.seed,
      (
        payload_of f.v s.length,
        (
          (omega (arith, some), (most, (long, λ i l. omega (arith, payload_small f.v f.bits s.length i l)))),
          λ n l. sent_gives o ready f.seed some most (payload_of f.v s.length) n (omega (arith, long)) (omega (arith, l, few)) (S n)
              (sent_payload s (sound o ready) o S m f n l),
        ),
      ),
    )

pub demand_2a : Demand2a
demand_2a o S M m begun below room =
    let ready = begun_ready o begun in
    let s = settings_for o in
    let rooms : Rooms s S (lengths M) (m + 1) = λ n l. room n (omega (arith, l)) in (
      λ accepted.
          let g = accepted_given o ready S (lengths M) (m + 1) (omega (arith, below)) rooms (λ n l. accepted n (omega (arith, l))) in
          (g.0, (g.1.0, (g.1.1.0, λ n l. g.1.1.1 n (omega (arith, l))))),
      λ (seed, (p, (frame, gives))) n l.
          ap step_number (run_takes o ready S (lengths M) (m + 1) (omega (arith, below)) rooms
          (gives_all o ready S (m + 1) (omega (arith, below)) seed p frame (λ k b. gives k (omega (arith, b)))) n (omega (arith, l)))
          ∙ accepted_zero (eqb n 0) seed,
    )

-- ---- (b)

pub demand_2b : Demand2b
demand_2b o S M m begun below room seed p (some, (most, (long, small))) gives n l =
    let ready = begun_ready o begun in
    let s = settings_for o in
    let few : m + 1 ≤ symbols_of s = omega (arith, below) in
    let rooms : Rooms s S (lengths M) (m + 1) = λ k b. room k (omega (arith, b)) in
    let f = gives_all o ready S (m + 1) few seed p (some, (most, (long, small))) (λ k b. gives k (omega (arith, b))) in
    let here : n < m + 1 = omega (arith, l) in
    let put = slice_filled o ready S (lengths M) (m + 1) few rooms f n here (M n) (room n l).1 in
    let from = bytes_before s n in
    let to = bytes_before s (n + 1) in (
      run_takes o ready S (lengths M) (m + 1) few rooms f n here,
      (
        put.same,
        (
          λ j (inside, (late, early)).
              let low : from ≤ j = omega (arith, late) in
              let high : j - from < to - from = omega (arith, early, inside, low) in
              let at : from + (j - from) ≡ j = omega (arith, low) in
              ap (λ (k : ℕ). get_or (slice_after o S (lengths M) n (M n)) k 0) (sym at)
              ∙ put.done (j - from) high
              ∙ ap (byte_of (payload_bit p)) at
              ∙ byte_back p j (small j (omega (arith, inside, long))),
          λ j other. parts from (from + (to - from)) j
              (λ b. put.before j b)
              (λ b c. absurd (other (complete o n j b c)))
              (λ b. put.after j b),
        ),
      ),
    )
  where
    complete : (o : OpenSettings) (n j : ℕ) → bytes_before (settings_for o) n ≤ j → j < bytes_before (settings_for o) n + (bytes_before (settings_for o) (n + 1) - bytes_before (settings_for o) n)
        → CompleteWith o n j
    complete o n j low high = (omega (arith, low, high), (omega (arith, low, high), omega (arith, low, high)))

-- ---- (c)

-- the first m symbols are the frame's
abbrev AllSent : (o : OpenSettings) (S : ℕ → List Float) (m seed : ℕ) (p : List ℕ) → Type 0
AllSent o S m seed p = (n : ℕ) → n < m → FloatsSent (settings_for o) (payload_bit p) seed n (S n)

-- two frames with the same first m symbols
module _ (o : OpenSettings) (ready : check_of (open_raw o) ≡ Ok (settings_for o)) (S : ℕ → List Float) (m : ℕ) (some : 0 < m) (few : m ≤ symbols_of (settings_for o))
    (seed seed' : ℕ) (p q : List ℕ) (s1 : 1 ≤ seed) (m1 : seed ≤ 127) (s2 : 1 ≤ seed') (m2 : seed' ≤ 127)
    (sent : AllSent o S m seed p) (sent' : AllSent o S m seed' q) where
  same_seed : seed ≡ seed'
  same_seed = seed_told o ready S m some few (payload_sent (settings_for o) S m seed p s1 m1 sent) (payload_sent (settings_for o) S m seed' q s2 m2 sent')

  same_byte : (j : ℕ) → j < bytes_before (settings_for o) m → byte_of (payload_bit p) j ≡ byte_of (payload_bit q) j
  same_byte = bytes_told o ready S m some few (payload_sent (settings_for o) S m seed p s1 m1 sent) (payload_sent (settings_for o) S m seed' q s2 m2 sent')

pub demand_2c : Demand2c
demand_2c o S m begun below seed seed' p q (s1, (m1, (l1, b1))) (s2, (m2, (l2, b2))) gives gives' =
    let ready = begun_ready o begun in
    let s = settings_for o in
    let sent : AllSent o S (m + 1) seed p =
    λ n l. gives_sent o ready seed s1 m1 p n (omega (arith, l1)) (omega (arith, l, below)) (S n) (gives n (omega (arith, l))) in
    let sent' : AllSent o S (m + 1) seed' q =
    λ n l. gives_sent o ready seed' s2 m2 q n (omega (arith, l2)) (omega (arith, l, below)) (S n) (gives' n (omega (arith, l))) in
    let byte : (j : ℕ) → j < bytes_before s (m + 1) → get_or p j 0 ≡ get_or q j 0 =
    λ j l.
    let inside : j < o.length = omega (arith, l) in
    sym (byte_back p j (b1 j (omega (arith, inside, l1))))
    ∙ same_byte o ready S (m + 1) (omega arith) (omega (arith, below)) seed seed' p q s1 m1 s2 m2 sent sent' j l
    ∙ byte_back q j (b2 j (omega (arith, inside, l2))) in (
      same_seed o ready S (m + 1) (omega arith) (omega (arith, below)) seed seed' p q s1 m1 s2 m2 sent sent',
      (
        λ j inside early. byte j (omega (arith, inside, early)),
        λ last. ext_get_or 0 p q (l1 ∙ sym l2)
            (λ j l. byte j (omega (arith, l, l1, bytes_all s (sound o ready), ap (bytes_before s) last))),
      ),
    )

-- ---- (d)

pub closed_from : (o : OpenSettings) (S : ℕ → List Float) (M : ℕ → List ℕ) (n : ℕ) → (state_before o S (lengths M) n).ended ≡ true
    → ClosedFrom o S M n
closed_from o S M n ended k l =
    let here = stays_from o S (lengths M) n ended k l in
    let ended' : (state_before o S (lengths M) k).ended ≡ true = ap (λ (t : Reader). t.ended) here ∙ ended in (
      ap (λ (r : Stepped). step_number r.answer) (ended_step (state_before o S (lengths M) k) ended' (S k) (lengths M k)),
      (stays_from o S (lengths M) n ended (k + 1) (omega (arith, l)), ended_slice (state_before o S (lengths M) k) ended' (S k) (M k)),
    )

pub next_state : (o : OpenSettings) (S : ℕ → List Float) (bytes : ℕ → ℕ) (n : ℕ)
    → state_before o S bytes (n + 1) ≡ (step_of (state_before o S bytes n) (S n) (bytes n)).state
unfolding state_before
next_state o S bytes n = ap (state_before o S bytes) (add-one n)

-- the state after the last symbol is ended
last_ended : (o : OpenSettings) (s : Settings) (v : ℕ → ℕ) (seed : ℕ) → (state_after o s v seed (symbols_of s)).ended ≡ true
unfolding state_after
last_ended o s v seed = eq-eqb (symbols_of s) (symbols_of s) refl

pub ended_last : (o : OpenSettings) → check_of (open_raw o) ≡ Ok (settings_for o) → (S : ℕ → List Float) (bytes : ℕ → ℕ)
    → Rooms (settings_for o) S bytes (symbols_of (settings_for o))
    → ((n : ℕ) → n < symbols_of (settings_for o) → step_number (answer_to o S bytes n) ≡ 0)
    → (state_before o S bytes (symbols_of (settings_for o))).ended ≡ true
ended_last o ready S bytes room accepted =
    let s = settings_for o in
    let f = run_gives o ready S bytes (symbols_of s) (omega arith) room accepted in
    ap (λ (t : Reader). t.ended) (run_state o ready S bytes (symbols_of s) (omega arith) room f (symbols_of s) (omega arith))
    ∙ last_ended o s f.v f.seed

pub demand_2d : Demand2d
demand_2d o S M = (
  λ n refused. closed_from o S M (n + 1)
      (ap (λ (t : Reader). t.ended) (next_state o S (lengths M) n) ∙ ended_by (state_before o S (lengths M) n) (S n) (lengths M n) refused),
  λ begun room accepted. closed_from o S M (symbols_of (settings_for o)) (ended_last o (begun_ready o begun) S (lengths M) room accepted),
)

-- ---- (e)

pub steps_exactly : StepsExactly
steps_exactly o n begun below seed p (s1, (m1, (l1, b1))) points bytes room whole = (
  (
    λ accepted.
        let e = step_gives o ready (payload_bit p) seed (payload_bit_lem p) s1 (omega (arith, m1)) n below points room bytes whole accepted in
        let g = e.0 in
        let q = payload_of g.w s.length in
        let long : length q ≡ o.length = length_firsts (byte_of g.w) s.length in
        let most : g.seed' ≤ 127 = omega (arith, g.seed_small) in
        let same : (k : ℕ) → k < 8 * s.length → payload_bit q k ≡ g.w k = payload_bits g.w g.w_bit s.length in
        let sent = floats_agree s (sound o ready) o (n + 1) g.w g.seed' (payload_bit q) g.seed'
        (record { bits = λ k h. same k (omega (arith, h)); seeds = λ h. refl }) n (omega arith) points e.1 in (
          g.seed',
          (
            q,
            (
              (omega (arith, g.seed_some), (most, (long, λ i l. omega (arith, payload_small g.w g.w_bit s.length i l)))),
              (
                (g.agree.seeds, λ k h. same k (omega (arith, h)) ∙ g.agree.bits k (omega (arith, h))),
                sent_gives o ready g.seed' g.seed_some most q n (omega (arith, long)) below points sent,
              ),
            ),
          ),
        ),
    λ (seed', (q, (frame, (agree, gives)))).
        ap (λ (r : Stepped). step_number r.answer) (goes_on seed' q frame agree gives) ∙ accepted_zero (eqb n 0) seed',
  ),
  λ seed' q frame agree gives. ap (λ (r : Stepped). r.state) (goes_on seed' q frame agree gives),
)
  where
    s : Settings
    s = settings_for o

    ready : check_of (open_raw o) ≡ Ok (settings_for o)
    ready = begun_ready o begun

    goes_on : (seed' : ℕ) (q : List ℕ) → IsFrame o seed' q → AgreeBefore o n seed p seed' q → GivesSymbol o seed' q n points
        → step_of (state_of o seed p n) points bytes ≡ answered (cond (eqb n 0) (Ok (Some seed')) (Ok None)) (state_of o seed' q (n + 1))
    goes_on seed' q (s2, (m2, (l2, b2))) agree gives =
        step_agrees o ready (payload_bit p) seed (payload_bit q) seed' (payload_bit_lem q) s2 (omega (arith, m2)) n below
        (record { bits = agree.1; seeds = agree.0 }) points room
        (gives_sent o ready seed' s2 m2 q n (omega (arith, l2)) below points gives) bytes whole

pub states_lead : StatesLead
states_lead o S M m begun few room seed p frame gives =
    let ready = begun_ready o begun in
    run_state o ready S (lengths M) m few room (gives_all o ready S m few seed p frame gives) m (omega arith)

pub demand_2e : Demand2e
demand_2e = (steps_exactly, states_lead)

-- ---- (f)

-- accepted settings are accepted without their seed
open_ready : (a : RawSettings) → check_of a ≡ Ok (settings_of a) → check_of (open_raw (without_seed a)) ≡ Ok (settings_for (without_seed a))
open_ready a accepted =
    let t = passed a (settings_of a) accepted in
    sym (accepted_is (open_raw (without_seed a)) t.width t.mcs t.format t.length refl)

module _ (a : RawSettings) (accepted : check_of a ≡ Ok (settings_of a)) (p : List ℕ) (whole : WholePayload a p) (out : ℕ → List Float)
    (slice : List ℕ) (enough : a.length ≤ length slice) where
  abbrev o : OpenSettings
  o = without_seed a

  ready : check_of (open_raw o) ≡ Ok (settings_for o)
  ready = open_ready a accepted

  in_range : Right (settings_of a)
  in_range = right a (settings_of a) accepted

  most : a.seed ≤ 127
  most = omega (arith, in_range.seed_most)

  abbrev S : ℕ → List Float
  S = symbols_of_frame a p out

  module _ (room : (n : ℕ) → floats_of (settings_for o) ≤ length (out n)) where
    abbrev read : SentBy (settings_for o) S (symbols_of (settings_for o))
    read = payload_sent (settings_for o) S (symbols_of (settings_for o)) a.seed p in_range.seed_some most
        (λ n l g h. ap (to_bits binary32) (written_is o ready a.seed in_range.seed_some most p n whole.0 l (out n) (room n) g h))

    rooms : Rooms (settings_for o) S (λ k. length slice) (symbols_of (settings_for o))
    rooms n l = (omega (arith, room n, written_long o ready a.seed in_range.seed_some most p n whole.0 l (out n) (room n)), enough)

    read_answers : (n : ℕ) → n < symbols_of (settings_for o) → answer_to o S (λ k. length slice) n ≡ cond (eqb n 0) (Ok (Some a.seed)) (Ok None)
    read_answers n l = run_takes o ready S (λ k. length slice) (symbols_of (settings_for o)) (omega arith) rooms read n l

    read_bytes : memory_before o S (λ k. length slice) (symbols_of (settings_for o)) slice ≡ take a.length p ++ drop a.length slice
    read_bytes =
        fill_list 0 (byte_of (payload_bit p)) a.length slice _ enough
        (memory_whole o ready S (λ k. length slice) rooms read slice enough)
        ∙ ap (λ (l : List ℕ). l ++ drop a.length slice) (first_bytes p a.length whole.0 whole.1)

-- what is said of the settings that raw settings mean
abbrev ReadBack : (a : RawSettings) (p : List ℕ) (out : ℕ → List Float) (slice : List ℕ) → Settings → Type 0
ReadBack a p out slice s = ((n : ℕ) → floats_of s ≤ length (out n))
    → ((n : ℕ) → n < symbols_of s → answer_to (without_seed a) (symbols_of_frame a p out) (λ k. length slice) n ≡ cond (eqb n 0) (Ok (Some a.seed)) (Ok None))
    × (memory_before (without_seed a) (symbols_of_frame a p out) (λ k. length slice) (symbols_of s) slice ≡ take a.length p ++ drop a.length slice)

meant_back : (a : RawSettings) → check_of a ≡ Ok (settings_of a) → (p : List ℕ) → WholePayload a p → (out : ℕ → List Float) (slice : List ℕ)
    → a.length ≤ length slice → ReadBack a p out slice (settings_of a)
unfolding symbols_of plan_for
meant_back a accepted p whole out slice enough room =
    (read_answers a accepted p whole out slice enough room, read_bytes a accepted p whole out slice enough room)

pub demand_2f : Demand2f
demand_2f a p s accepted whole out room slice enough =
    let meant = (passed a s accepted).meant in
    subst (ReadBack a p out slice) meant (meant_back a (accepted ∙ ap Ok (sym meant)) p whole out slice enough) room

-- ---- (g)

-- two frames of one settings but for the seed
abbrev ToldApart : (a a' : RawSettings) (p q : List ℕ) (out out' : ℕ → List Float) (s : Settings) → Type 0
ToldApart a a' p q out out' s = ((n : ℕ) → (floats_of s ≤ length (out n)) × (floats_of s ≤ length (out' n)))
    → ((n : ℕ) → n < symbols_of s → SameSymbol s (symbols_of_frame a p out n) (symbols_of_frame a' q out' n))
    → (a.seed ≡ a'.seed) × (take a.length p ≡ take a.length q)

module _ (o : OpenSettings) (ready : check_of (open_raw o) ≡ Ok (settings_for o)) (seed seed' : ℕ) (p q : List ℕ) (s1 : 1 ≤ seed) (m1 : seed ≤ 127)
    (s2 : 1 ≤ seed') (m2 : seed' ≤ 127) (w1 : WholePayload (with_seed o seed) p) (w2 : WholePayload (with_seed o seed') q) (out out' : ℕ → List Float) where
  frames_told : ToldApart (with_seed o seed) (with_seed o seed') p q out out' (settings_for o)
  frames_told room same =
      let s = settings_for o in
      let right = sound o ready in
      let S = symbols_of_frame (with_seed o seed) p out in
      let sent : AllSent o S (symbols_of s) seed p =
      λ n l g h. ap (to_bits binary32) (written_is o ready seed s1 m1 p n w1.0 l (out n) (room n).0 g h) in
      let sent' : AllSent o S (symbols_of s) seed' q =
      λ n l g h. same n l g h ∙ ap (to_bits binary32) (written_is o ready seed' s2 m2 q n w2.0 l (out' n) (room n).1 g h) in (
        same_seed o ready S (symbols_of s) (symbols_some s right) (omega arith) seed seed' p q s1 m1 s2 m2 sent sent',
        sym (first_bytes p o.length w1.0 w1.1)
            ∙ firsts_ext (byte_of (payload_bit p)) (byte_of (payload_bit q)) o.length
            (λ j l. same_byte o ready S (symbols_of s) (symbols_some s right) (omega arith) seed seed' p q s1 m1 s2 m2 sent sent' j (omega (arith, l, bytes_all s right)))
            ∙ first_bytes q o.length w2.0 w2.1,
      )

meant_told : (a : RawSettings) → check_of a ≡ Ok (settings_of a) → (seed' : ℕ) → 1 ≤ seed' → seed' ≤ 127 → (p q : List ℕ) → WholePayload a p
    → WholePayload (with_seed (without_seed a) seed') q → (out out' : ℕ → List Float) → ToldApart a (with_seed (without_seed a) seed') p q out out' (settings_of a)
unfolding symbols_of plan_for
meant_told a accepted seed' some most p q w1 w2 out out' =
    let r = right a (settings_of a) accepted in
    frames_told (without_seed a) (open_ready a accepted) a.seed seed' p q r.seed_some (omega (arith, r.seed_most)) some most w1 w2 out out'

pub demand_2g : Demand2g
demand_2g a a' p q s s' accepted accepted' same w1 w2 out out' room equal =
    let meant = (passed a s accepted).meant in
    let r = right a' (settings_of a') (accepted' ∙ ap Ok (sym (passed a' s' accepted').meant)) in
    subst (λ (x : RawSettings). WholePayload x q → ((n : ℕ) → n < symbols_of s → SameSymbol s (symbols_of_frame a p out n) (symbols_of_frame x q out' n))
    → (a.seed ≡ x.seed) × (take a.length p ≡ take a.length q))
    (ap (λ (o : OpenSettings). with_seed o a'.seed) same)
    (λ w e. subst (ToldApart a (with_seed (without_seed a) a'.seed) p q out out') meant
    (meant_told a (accepted ∙ ap Ok (sym meant)) a'.seed r.seed_some (omega (arith, r.seed_most)) p q w1 w out out') room e)
    w2 equal
