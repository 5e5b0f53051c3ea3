-- The call's parts together: coded bits placed by the table, then decoded by every encoder, are the definition's inputs, test and histories.
-- Assumes of the plan that it fits.
use mathlib.Core.Path.{◌≡◌, ◌∙◌, refl, sym, ap₂}
use mathlib.Core.Bool.{Bool}
use mathlib.Core.List.{List, [], ◌∷◌}
use mathlib.Core.Logic.{⊎_elim}
use Prim.Native.Nat.{ℕ, ◌+◌, ◌-◌, ◌*◌, ◌<◌, ◌≤◌}
use native.Mathlib.Nat.{mul_comm, mul-le-mul}
use native.Mathlib.Omega.{arith}
use lib.ListN.{length, get_or}
use borrow.Author.Tests.{lt-ltb, le-ltb}
use Rattle.laws.specs.Filled.{Filled}
use Rattle.laws.proofs.Filling.{fill_as, fill_end}
use Rattle.laws.proofs.Radix.{rem_of, quot_of}
use Rattle.laws.proofs.Search.{lt_or_le}
use Rattle.chain.specs.declared.plan.Plan.{Plan}
use Rattle.chain.specs.Plan.{groups_of, Fits}
use Rattle.chain.specs.Decoder.{history_after, forced_history, forced_input, dealt, inputs_of, coded_in, decoded_input, decodes}
use Rattle.chain.proofs.Counts.{encoders_some, kept_low}
use Rattle.chain.proofs.Window.{share_is}
use Rattle.chain.proofs.Inverse.{forced_history_lem}
use Rattle.chain.proofs.Dealing.{history_ext}
use Rattle.chain.proofs.ParserLaws.{parses}
use Rattle.deinterleaver.specs.Deinterleaved.{label_bit_in, coded_of}
use Rattle.deinterleaver.specs.Asked.{Placed}
use Rattle.decoder.specs.Decoded.{history_moved, SymbolInputsAsked}
use Rattle.decoder.specs.Asked.{EncodersAsked, EncodersDone}
use Rattle.decoder.proofs.ExtLaws.{forced_history_ext, inputs_ext, checks_ext}

-- a list of two by its elements
listed : (l : List ℕ) → length l ≡ 2 → l ≡ get_or l 0 0 ∷ (get_or l 1 0 ∷ [])
listed [] e = absurd (omega (arith, e))
listed (x ∷ []) e = absurd (omega (arith, e))
listed (x ∷ (y ∷ [])) e = refl
listed (x ∷ (y ∷ (z ∷ l))) e = absurd (omega (arith, e))

-- what is dealt to an encoder
deal : (hs : ℕ → ℕ) (c : ℕ → ℕ → ℕ) (e q j t : ℕ) → j < e → forced_input (hs j) (c j) q t ≡ inputs_of hs c e q (e * t + j)
unfolding inputs_of
deal hs c e q j t l =
    let f : e * t + j ≡ t * e + j = rw (mul_comm e t) in
    rw (rem_of e t j (e * t + j) l f, quot_of e t j (e * t + j) l f)

-- every coded bit of label bits is one of them
coded_small : (p : Plan) (bits : List ℕ) → ((k : ℕ) → get_or bits k 0 < 2) → (j y : ℕ) → coded_in p (label_bit_in p bits) j y < 2
unfolding coded_in
coded_small p bits small j y = small _

module _ (p : Plan) (f : Fits p) where
  some : 1 ≤ p.encoders
  some = encoders_some p.encoders f.encoders

  two : 2 ≤ p.kept
  two = kept_low p.kept f.kept

  groups_few : groups_of p ≤ 1296
  groups_few =
      let low : 1 * (2 * groups_of p) ≤ p.encoders * (p.kept * groups_of p) = mul-le-mul some (mul-le-mul two (omega arith)) in
      omega (arith, low, f.coded_groups, f.coded_most)

  module _ {bits coded₀ coded : List ℕ} (placed : Placed p bits p.streams coded₀ coded) where
    coded_is : (j y : ℕ) → j < p.encoders → y < p.kept * groups_of p → coded_of coded j y ≡ coded_in p (label_bit_in p bits) j y
    coded_is j y h l = placed.done j y h (rw (share_is p f) l) ((parses p f).stream_lt y)

    -- what the decoder of all encoders asks
    pub encoders_asked : {inputs histories : List ℕ} (groups : ℕ) → groups ≡ groups_of p → SymbolInputsAsked inputs bits histories p → length coded ≡ 2592
        → EncodersAsked inputs coded histories p.encoders p.kept groups
    encoders_asked groups e asked sized = rw e (record {
      one_or_two = f.encoders;
      rate = f.kept;
      few = groups_few;
      six_bits = asked.six_bits;
      sized = sized;
      source = omega (arith, f.coded_groups, f.coded_most);
      room = omega (arith, f.dbps_groups, asked.room);
      one_bit = λ j y h l. omega (arith, coded_is j y h l, coded_small p bits asked.one_bit j y);
    })

    module _ (hs : ℕ → ℕ) where
      abbrev X : ℕ → ℕ
      X = decoded_input p hs (label_bit_in p bits)

      -- a history after the coded bits is that after the inputs
      moved_is : (j : ℕ) → j < p.encoders
          → forced_history (hs j) (coded_of coded j) p.kept ((p.kept - 1) * groups_of p)
          ≡ history_after (hs j) (dealt X p.encoders j) ((p.kept - 1) * groups_of p)
      moved_is j h =
          forced_history_ext p.kept two (hs j) (coded_of coded j) (coded_in p (label_bit_in p bits) j) (groups_of p) (λ i l. coded_is j i h l)
          ((p.kept - 1) * groups_of p) (omega arith)
          ∙ forced_history_lem p.kept two (hs j) (coded_in p (label_bit_in p bits) j) ((p.kept - 1) * groups_of p)
          ∙ history_ext (hs j) _ _ ((p.kept - 1) * groups_of p) (λ t l. deal hs (coded_in p (label_bit_in p bits)) p.encoders p.kept j t h)

      -- an encoder's history is moved, another stays
      history_is : {histories : List ℕ} {sound : Bool} {inputs₀ inputs : List ℕ}
          → EncodersDone hs (coded_of coded) p.encoders p.kept (groups_of p) histories sound inputs₀ inputs
          → (j : ℕ) → get_or histories j 0 ≡ history_moved p hs X j
      unfolding history_moved
      history_is done j = ⊎_elim
          (λ (l : j < p.encoders). simp (lt-ltb j p.encoders) (done.moved j l ∙ moved_is j l))
          (λ (l : p.encoders ≤ j). simp (le-ltb j p.encoders) (done.others j l))
          (lt_or_le j p.encoders)

      module _ (groups : ℕ) (e : groups ≡ groups_of p) {histories : List ℕ} {sound : Bool} {inputs₀ inputs : List ℕ}
          (done : EncodersDone hs (coded_of coded) p.encoders p.kept groups histories sound inputs₀ inputs) where
        done' : EncodersDone hs (coded_of coded) p.encoders p.kept (groups_of p) histories sound inputs₀ inputs
        done' = rw e at done

        pub symbol_filled : Filled 0 0 (decoded_input p hs (label_bit_in p bits)) p.dbps inputs₀ inputs
        symbol_filled =
            fill_end 0 0 (decoded_input p hs (label_bit_in p bits)) (sym f.dbps_groups)
            (fill_as 0 0 _ (decoded_input p hs (label_bit_in p bits)) (p.encoders * ((p.kept - 1) * groups_of p)) inputs₀ inputs
            (inputs_ext hs (coded_of coded) (coded_in p (label_bit_in p bits)) p.encoders p.kept (groups_of p) some two coded_is) done'.filled)

        pub symbol_sound : sound ≡ decodes p hs (label_bit_in p bits)
        symbol_sound =
            done'.checked ∙ checks_ext hs (coded_of coded) (coded_in p (label_bit_in p bits)) p.encoders p.kept (groups_of p) some two coded_is

        pub symbol_moved : histories ≡ history_moved p hs (decoded_input p hs (label_bit_in p bits)) 0 ∷ (history_moved p hs (decoded_input p hs (label_bit_in p bits)) 1 ∷ [])
        symbol_moved = listed histories done'.two ∙ ap₂ (λ (x y : ℕ). x ∷ (y ∷ [])) (history_is done' 0) (history_is done' 1)
