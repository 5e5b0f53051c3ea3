-- What the calls that scatter label bits ask and leave: a run, a stream, all streams.
use Rattle.std.specs.Prelude.{◌≡◌, List, ℕ, ◌+◌, ◌*◌, ◌<◌, ◌≤◌, length, get_or}
use Rattle.chain.specs.declared.plan.Plan.{Plan}
use Rattle.chain.specs.Plan.{Fits, most_coded}
use Rattle.chain.specs.Labels.{share}
use Rattle.chain.specs.Statements.{coded_stream}
use Rattle.chain.specs.Decoder.{coded_in}
use Rattle.sources.specs.Sources.{label_source}
use Rattle.deinterleaver.specs.Deinterleaved.{label_bit_in, coded_of}

-- label bits, each with a place of its own
pub record CodedRunAsked (coded bits places : List ℕ) (shift : ℕ) : Type 0 where
  pub sized : length coded ≡ most_coded
  pub inside : length bits ≤ length places
  pub reached : (k : ℕ) → k < length bits → get_or places k 0 + shift < length coded
  pub apart : (k l : ℕ) → k < l → l < length bits → get_or places k 0 + shift ≡ get_or places l 0 + shift → ⊥

-- with the table of label sources at hand, for stream i
pub record CodedStreamAsked (coded bits table : List ℕ) (p : Plan) (i : ℕ) : Type 0 where
  pub fits : Fits p
  pub sized : length coded ≡ most_coded
  pub whole_bits : p.streams * p.block ≤ length bits
  pub stream : i < p.streams
  pub wide_enough : p.block ≤ length table
  pub tabled : (r : ℕ) → r < p.block → get_or table r 0 ≡ label_source p r

pub record SymbolCodedAsked (coded bits : List ℕ) (p : Plan) : Type 0 where
  pub fits : Fits p
  pub sized : length coded ≡ most_coded
  pub whole_bits : p.streams * p.block ≤ length bits

-- the coded bits of the first streams are their label bits'
pub record Placed (p : Plan) (bits : List ℕ) (streams : ℕ) (coded₀ coded : List ℕ) : Type 0 where
  pub same : length coded ≡ length coded₀
  pub done : (j y : ℕ) → j < p.encoders → y < share p → coded_stream p y < streams → coded_of coded j y ≡ coded_in p (label_bit_in p bits) j y
