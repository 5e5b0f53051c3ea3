-- What accepted settings and a frame's half labels give the calls' inner functions. Assumes nothing.
use Rattle.std.proofs.Common.{◌≡◌, ◌∙◌, sym, ap, subst, List, ℕ, ◌+◌, ◌-◌, ◌*◌, ◌/◌, ◌^◌, ◌<◌, ◌≤◌, length, take, get_or}
use Rattle.std.proofs.Common.{length-take, get_or-take, arith}
use Rattle.laws.specs.Claim.{Claim, ◌under◌, each, Holds, sound}
use Rattle.chain.specs.declared.plan.Plan.{Plan}
use Rattle.chain.specs.Plan.{widths, stream_counts}
use Rattle.chain.specs.Parser.{axis_bits}
use Rattle.chain.specs.DataBits.{payload_bit, coder_input}
use Rattle.chain.specs.Labels.{half_label, halves_of}
use Rattle.chain.proofs.InputLaws.{input_local}
use Rattle.chain.proofs.LabelLaws.{half_lt, halves_most}
use Rattle.coding.specs.Halves.{HalvesFilled, LabelsAsked}
use Rattle.subcarriers.specs.Subcarriers.{places_of}
use Rattle.settings.specs.declared.settings.Settings.{Settings}
use Rattle.settings.specs.Settings.{plan_for, Right}
use Rattle.symbols.specs.Symbols.{symbols_of}
use Rattle.settings.proofs.SettingsLaws.{plan_fits}
use Rattle.symbols.proofs.CountLaws.{symbols_few}
use Rattle.frame.specs.Points.{input_of, floats_of}
use Rattle.frame.specs.Asked.{InFrame, LabelsHeld}

-- the number of a frame's symbol is small
pub symbol_near : (s : Settings) (n : ℕ) → Right s → n < symbols_of s → n ≤ 32768
symbol_near s n r h = omega (arith, h, symbols_few s r)

-- ---- sizes

abbrev floats_claim : Claim
floats_claim = each widths λ w. each stream_counts λ n. n * (2 * places_of w) under 913

few_floats : Holds floats_claim
few_floats = sound floats_claim tt

-- the floats of a symbol: at most 912
pub floats_are : (s : Settings) → Right s → (p : Plan) (places : ℕ) → p ≡ plan_for s → places ≡ places_of p.width
    → (p.streams * (2 * places) ≡ floats_of s) × (p.streams * (2 * places) ≤ 912)
floats_are s r p places e g =
    let fits = plan_fits s r in
    let same : p.streams * (2 * places) ≡ floats_of s =
    ap (λ (k : ℕ). p.streams * (2 * k)) g ∙ ap (λ (q : Plan). q.streams * (2 * places_of q.width)) e in
    (same, omega (arith, same, few_floats (plan_for s).width fits.width (plan_for s).streams fits.streams))

-- ---- half labels

module _ (s : Settings) (payload : List ℕ) (n : ℕ) where
  -- what the half labels of a symbol ask
  pub labels_asked : (halves : List ℕ) → InFrame s payload n → 864 ≤ length halves
      → LabelsAsked halves (take s.length payload) s.seed (plan_for s) n
  labels_asked halves q h =
      let r = q.right in
      record {
        fits = plan_fits s r;
        room = omega (arith, h, halves_most (plan_for s) (plan_fits s r));
        short = omega (arith, length-take s.length payload, r.length_most);
        seeded = r.seed_most;
        near = symbol_near s n r q.below_count;
      }

  -- the frame's bytes of the payload by themselves
  own : List ℕ
  own = take s.length payload

  -- they give the frame's inputs
  own_inputs : s.length ≤ length payload → (d : ℕ)
      → coder_input (payload_bit own) (length own) (plan_for s).encoders s.seed d ≡ input_of s payload d
  unfolding own
  own_inputs whole d =
      let sized : length own ≡ s.length = simp length-take (omega arith) in
      rw sized (input_local (payload_bit own) (payload_bit payload) s.length (plan_for s).encoders _ d
      (λ a b. rw (get_or-take s.length payload ((d - 16) / 8) 0 (omega arith))))

  -- the half labels stand where they were filled in
  pub labels_held : (halves₀ halves : List ℕ) → InFrame s payload n → 864 ≤ length halves₀
      → HalvesFilled (plan_for s) (half_label (plan_for s)
      (coder_input (payload_bit (take s.length payload)) (length (take s.length payload)) (plan_for s).encoders s.seed) n)
      (plan_for s).streams halves₀ halves → LabelsHeld s payload n halves
  unfolding own
  labels_held halves₀ halves q h f =
      record {
        sized = omega (arith, h, f.same, halves_most (plan_for s) (plan_fits s q.right));
        held = λ i m l b. f.done i m l b ∙ ap (λ (x : ℕ → ℕ). half_label (plan_for s) x n i m) (λ j d. own_inputs q.whole_payload d j);
      }

-- and each is one of its axis's numbers
pub held_small : (s : Settings) (payload : List ℕ) (n : ℕ) (halves : List ℕ) → LabelsHeld s payload n halves
    → (i m : ℕ) → i < (plan_for s).streams → m < halves_of (plan_for s) → get_or halves (i * halves_of (plan_for s) + m) 0 < 2 ^ axis_bits (plan_for s).bits
held_small s payload n halves l i m h k =
    subst (λ (x : ℕ). x < 2 ^ axis_bits (plan_for s).bits) (sym (l.held i m h k)) (half_lt (plan_for s) (input_of s payload) n i m)
