-- The whole frame's reading from its symbols': bytes read apart and copied, and the public call's cases. Assumes nothing.
use Rattle.std.specs.Prelude.{Err, Ok, Result}
use Rattle.frame_steps.specs.declared.steps.FrameRefusal.{FrameRefusal}
use Rattle.settings.specs.declared.settings.Refusal.{Refusal}
use Rattle.frame_steps.specs.declared.steps.FrameRefusal.TheVariants.{Refused as FrameRefused}
use mathlib.Core.Path.{◌≡◌, ◌∙◌, sym, ap, subst}
use mathlib.Core.Bool.{Bool, true, false, cond, ◌||◌}
use mathlib.Core.List.{List}
use Prim.Native.Nat.{ℕ, ◌*◌, ◌≤◌}
use native.Mathlib.Nat.{mul-le-mul}
use native.Mathlib.Omega.{arith}
use borrow.Author.Tests.{ltb-false}
use lib.Dec.{ltb}
use lib.ListN.{length, get_or}
use lib.Ieee.{Float}
use Rattle.laws.specs.Filled.{Filled}
use Rattle.laws.proofs.Reflect.{or_false}
use Rattle.settings.specs.declared.settings.Refusal.TheVariants.{Room}
use Rattle.settings.specs.declared.settings.Settings.{Settings}
use Rattle.settings.specs.Settings.{check_of, Right}
use Rattle.settings.proofs.SettingsLaws.{right, passed}
use Rattle.symbols.specs.Symbols.{symbols_of}
use Rattle.symbols.proofs.CountLaws.{symbols_few}
use Rattle.frame.specs.Points.{floats_of}
use Rattle.reader_state.specs.declared.state.OpenSettings.{OpenSettings}
use Rattle.reader_state.specs.declared.state.Reader.{Reader}
use Rattle.reader_state.specs.State.{open_raw, start_of}
use Rattle.reader_runs.specs.Sent.{settings_for}
use Rattle.reader_runs.proofs.Endings.{start_kept}
use Rattle.frame_steps.specs.WholeFrame.{memory_at, symbols_answer, frame_no_room, read_frame_by, read_frame_of, frame_into_by, read_frame_into}
use Rattle.frame_steps.specs.Asked.{FrameAsked, SymbolsAsked, SymbolsRead}
use Rattle.frame_reader.specs.Asked.{FrameLeft}
use Rattle.frame_steps.proofs.AnswerLaws.{first_count, none_refused}
use Rattle.frame_steps.specs.Statements.{ReadsFrame}
use Rattle.frame_steps.proofs.FrameLaws.{answer_room, copied}
use Rattle.frame_steps.proofs.Exactly.{unread, reads_frame}

-- ---- bytes read apart

module _ (s : Settings) (reader : Reader) (points : List Float) (payload : List ℕ) (pre : FrameAsked s reader points payload) where
  abbrev o : OpenSettings
  o = reader.settings

  pub asked_right : Right s
  asked_right = right (open_raw o) s pre.accepted

  meant : settings_for o ≡ s
  meant = (passed (open_raw o) s pre.accepted).meant

  ready : check_of (open_raw o) ≡ Ok (settings_for o)
  ready = pre.accepted ∙ ap Ok (sym meant)

  whole : symbols_of (settings_for o) * floats_of (settings_for o) ≤ length points
  whole = subst (λ (t : Settings). symbols_of t * floats_of t ≤ length points) (sym meant) pre.whole_points

  same_length : o.length ≡ s.length
  same_length = ap (λ (t : Settings). t.length) meant

  -- 65,535 bytes hold the payload
  pub size_holds : (bytes : ℕ) → 65535 ≡ bytes → s.length ≤ bytes
  size_holds bytes e = omega (arith, asked_right.length_most)

  module _ (apart : List ℕ) (holds : s.length ≤ length apart) where
    fits : o.length ≤ length apart
    fits = omega (arith, same_length)

    pub symbols_asked : (count floats : ℕ) → count ≡ symbols_of s → floats ≡ floats_of s → SymbolsAsked reader count floats points apart
    symbols_asked count floats c f = record {
      asked = record { accepted = ready; begun = pre.begun; whole_points = whole; whole_payload = fits };
      counted = c ∙ ap symbols_of (sym meant);
      floats_are = f ∙ ap floats_of (sym meant);
    }

    module _ (apart' : List ℕ) (r : Result ℕ FrameRefusal) (read : SymbolsRead reader points r apart apart') where
      answer_is : r ≡ symbols_answer o points (length payload)
      answer_is =
          read.answered ∙ answer_room o ready points whole (length apart) (length payload) fits (omega (arith, same_length, pre.whole_payload))

      -- a refused frame leaves the payload
      pub left_refused : ((k : ℕ) → r ≡ Ok k → ⊥) → FrameLeft reader points r payload payload
      left_refused n = record { answered = answer_is; left = sym (unread r _ payload n) }

      -- a frame read is copied
      pub left_read : (k : ℕ) → r ≡ Ok k → (payload' : List ℕ) → Filled 0 0 (λ i. get_or apart' i 0) s.length payload payload'
          → FrameLeft reader points r payload payload'
      left_read k e payload' filled =
          let all = none_refused o points (length apart) k (sym read.answered ∙ e) in
          let held : apart' ≡ memory_at o points (symbols_of (settings_for o)) apart
          = read.left ∙ ap (λ (m : ℕ). memory_at o points m apart) (first_count o points (length apart) all) in
          record {
            answered = answer_is;
            left =
                copied o ready points whole apart payload payload' fits (omega (arith, same_length, pre.whole_payload)) all
                (subst (λ (l : ℕ). Filled 0 0 (λ i. get_or (memory_at o points (symbols_of (settings_for o)) apart) i 0) l payload payload') (sym same_length)
                (subst (λ (m : List ℕ). Filled 0 0 (λ i. get_or m i 0) s.length payload payload') held filled))
                ∙ sym (ap (λ (a : Result ℕ FrameRefusal). frame_into_by a (memory_at o points (symbols_of (settings_for o)) payload) payload) e);
          }

-- ---- the public call

-- what the call promises
abbrev pub Promised : (o : OpenSettings) (points : List Float) (r : Result ℕ FrameRefusal) (payload payload' : List ℕ) → Type 0
Promised o points r payload payload' =
    (r ≡ read_frame_of o points (length payload)) × ((payload' ≡ read_frame_into o points payload) × ReadsFrame o points r payload payload')

-- by the settings' answer
pub frame_as : (o : OpenSettings) (points : List Float) (payload : List ℕ) (x : Result Settings Refusal) → x ≡ check_of (open_raw o) → (r : Result ℕ FrameRefusal) (payload' : List ℕ)
    → r ≡ read_frame_by x o points (length payload) → payload' ≡ frame_into_by r (memory_at o points (symbols_of (settings_for o)) payload) payload
    → Promised o points r payload payload'
frame_as o points payload x e r payload' g h =
    let answer : r ≡ read_frame_of o points (length payload) = g ∙ ap (λ (y : Result Settings Refusal). read_frame_by y o points (length payload)) e in
    let left : payload' ≡ read_frame_into o points payload = h ∙ ap (λ (a : Result ℕ FrameRefusal). frame_into_by a (memory_at o points (symbols_of (settings_for o)) payload) payload) answer in
    (answer, (left, rw (answer, left) (reads_frame o points payload)))

pub product_few : (s : Settings) → Right s → (count floats : ℕ) → count ≡ symbols_of s → floats ≤ 912 → count * floats ≤ 18391392
product_few s r count floats c f = mul-le-mul {n₁ = count} {m₁ = floats} {n₂ = 20166} {m₂ = 912} (omega (arith, symbols_few s r)) f

module _ (s : Settings) (o : OpenSettings) (accepted : Ok s ≡ check_of (open_raw o)) (count floats : ℕ) (counted : count ≡ symbols_of s) (counted-floats : floats ≡ floats_of s)
    (points : List Float) (payload : List ℕ) where
  abbrev small : Bool
  small = ltb (length points) (count * floats) || ltb (length payload) s.length

  small_is : small ≡ frame_no_room s (length points) (length payload)
  small_is =
      ap (λ (k : ℕ). ltb (length points) (k * floats) || ltb (length payload) s.length) counted
      ∙ ap (λ (k : ℕ). ltb (length points) (symbols_of s * k) || ltb (length payload) s.length) counted-floats

  pub no_room_lem : small ≡ true → Err (FrameRefused Room) ≡ read_frame_by (Ok s) o points (length payload)
  no_room_lem e = ap (λ (t : Bool). cond t (Err (FrameRefused Room)) (symbols_answer o points (length payload))) (sym (sym small_is ∙ e))

  module _ (e : small ≡ false) (begun : Reader) (is : begun ≡ (start_of o).state) where
    settings_are : begun.settings ≡ o
    settings_are = ap (λ (r : Reader). r.settings) is ∙ start_kept (check_of (open_raw o)) o

    pub frame_asked : FrameAsked s begun points payload
    frame_asked =
        let f = or_false (ltb (length points) (count * floats)) (ltb (length payload) s.length) e in
        record {
          accepted = ap (λ (p : OpenSettings). check_of (open_raw p)) settings_are ∙ sym accepted;
          begun = is ∙ ap (λ (p : OpenSettings). (start_of p).state) (sym settings_are);
          whole_points =
              subst (λ (k : ℕ). symbols_of s * k ≤ length points) counted-floats
              (subst (λ (k : ℕ). k * floats ≤ length points) counted (ltb-false (length points) (count * floats) f.0));
          whole_payload = ltb-false (length payload) s.length f.1;
        }

    pub frame_read : (r : Result ℕ FrameRefusal) (payload' : List ℕ) → FrameLeft begun points r payload payload'
        → Promised o points r payload payload'
    frame_read r payload' left =
        frame_as o points payload (Ok s) accepted r payload'
        (left.answered ∙ ap (λ (p : OpenSettings). symbols_answer p points (length payload)) settings_are
        ∙ ap (λ (t : Bool). cond t (Err (FrameRefused Room)) (symbols_answer o points (length payload))) (sym (sym small_is ∙ e)))
        (left.left ∙ ap (λ (p : OpenSettings). frame_into_by r (memory_at p points (symbols_of (settings_for p)) payload) payload) settings_are)
