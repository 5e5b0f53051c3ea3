-- The call's parts together: inputs of the symbol's window, coded bits of that line, and labels from those bits are the definition's half labels.
use Rattle.std.proofs.Common.{◌≡◌, ◌∙◌, sym, List, ℕ, ◌+◌, ◌*◌, ◌<◌, ◌≤◌, ◌^◌, mul-le-mul, arith, get_or}
use Rattle.laws.specs.Filled.{Filled}
use Rattle.laws.proofs.Filling.{fill_at}
use Rattle.chain.specs.Plan.{groups_of, Fits}
use Rattle.chain.specs.declared.plan.Plan.{Plan}
use Rattle.chain.specs.Encoder.{with_history}
use Rattle.chain.specs.Parser.{axis_bits}
use Rattle.chain.specs.Interleaver.{source}
use Rattle.chain.specs.Labels.{share, coded_bit, stream_bit, label_bit, half_label}
use Rattle.chain.proofs.Counts.{encoders_most}
use Rattle.chain.proofs.Window.{share_is, symbol_window, window_only}
use Rattle.chain.proofs.ParserLaws.{parses}
use Rattle.chain.proofs.InterleaverLaws.{interleaves_plan}
use Rattle.chain.proofs.LabelLaws.{label_bit_lem, half_below, written_from}
use Rattle.puncturing.specs.Coded.{Coded}
use Rattle.coding.specs.Halves.{label_in, half_in, HalvesFilled}

-- the sizes of a call
pub record Sizes (p : Plan) (n : ℕ) : Type 0 where
  pub two : p.encoders ≤ 2
  pub first : n * p.dbps ≤ 2 ^ 27
  pub coded_is : p.encoders * (p.kept * groups_of p) ≡ p.coded
  pub coded_most : p.coded ≤ 2592

pub sizes : (p : Plan) (n : ℕ) → Fits p → n ≤ 32768 → Sizes p n
sizes p n f h =
    record {
      two = encoders_most p.encoders f.encoders;
      first = omega (arith, mul-le-mul h f.dbps_most);
      coded_is = sym f.coded_groups;
      coded_most = f.coded_most;
    }

module _ (p : Plan) (fits : Fits p) (x : ℕ → ℕ) (n : ℕ) {line₀ line coded₀ coded : List ℕ}
    (inputs : Filled 0 0 (λ j. with_history x p.encoders (n * p.dbps + j)) (p.dbps + 6 * p.encoders) line₀ line)
    (bits : Coded (λ e. get_or line e 0) p.encoders p.kept (p.kept * groups_of p) coded₀ coded) where
  -- a coded bit is the frame's
  coded_is : (j y : ℕ) → j < p.encoders → y < share p → get_or coded (1296 * j + y) 0 ≡ coded_bit p x n j y
  coded_is j y h l =
      bits.done j y h (rw (share_is p fits) at l)
      ∙ window_only p fits (λ e. get_or line e 0) (λ e. with_history x p.encoders (n * p.dbps + e))
      (λ d b. fill_at 0 (λ j. with_history x p.encoders (n * p.dbps + j)) inputs d b) j y h l
      ∙ symbol_window p fits x n j y h

  -- a label bit read from the coded bits is the definition's
  pub label_is : (i r : ℕ) → i < p.streams → r < p.block → label_in p coded i r ≡ label_bit p x n i r
  unfolding label_bit stream_bit
  label_is i r h l =
      let k = source p.width p.bits i r in
      let inside : k < p.block = (interleaves_plan p fits i h).source_lt r l in
      let e = coded_is _ _ ((parses p fits).encoder_lt k) ((parses p fits).index_lt i k h inside) in
      omega (arith, e, label_bit_lem p x n i r)

  -- and so are the half labels
  pub halves_are : {halves₀ halves : List ℕ} → HalvesFilled p (half_in p coded) p.streams halves₀ halves
      → HalvesFilled p (half_label p x n) p.streams halves₀ halves
  halves_are f =
      record {
        same = f.same;
        done = λ i m h l.
            f.done i m h l
            ∙ written_from (label_in p coded i) (label_bit p x n i) (m * axis_bits p.bits) (m * axis_bits p.bits) (axis_bits p.bits)
            (λ t b. label_is i _ h (half_below p m t l b));
        rest = f.rest;
      }
