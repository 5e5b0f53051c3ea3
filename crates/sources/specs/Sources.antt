-- Where each label bit stands among a symbol's coded bits, as the code tables it.
use Rattle.std.specs.Prelude.{◌≡◌, List, ℕ, ◌+◌, ◌*◌, ◌<◌, ◌≤◌, T, length, get_or}
use Rattle.laws.specs.Test.{among}
use Rattle.chain.specs.Plan.{widths, bit_counts, encoder_counts, Fits, axis_counts, most_block}
use Rattle.chain.specs.declared.plan.Plan.{Plan}
use Rattle.chain.specs.Parser.{axis_bits, encoder_of, index_of}
use Rattle.chain.specs.Interleaver.{columns, rows, block_of, source}

-- bit k of stream i among the coded bits, those of encoder 1 from 1296 on
abbrev pub coded_slot : (s streams encoders i k : ℕ) → ℕ
coded_slot s streams encoders i k = 1296 * encoder_of s encoders k + index_of s streams encoders i k

-- label bit r of stream 0 among the coded bits
abbrev pub label_source : (p : Plan) (r : ℕ) → ℕ
label_source p r = coded_slot (axis_bits p.bits) p.streams p.encoders 0 (source p.width p.bits 0 r)

-- N_COL, N_ROW and s are those of a width and of B bits a carrier
pub record Laid (n_col n_row s width bits : ℕ) : Type 0 where
  pub known_width : T (among widths width)
  pub known_bits : T (among bit_counts bits)
  pub columns_is : n_col ≡ columns width
  pub rows_is : n_row ≡ rows width bits
  pub axis_is : s ≡ axis_bits bits

-- what those numbers are within, at every width and B
pub record Grid (n_col n_row s : ℕ) : Type 0 where
  pub few_columns : n_col ≤ 18
  pub some_rows : 0 < n_row
  pub few_rows : n_row ≤ 36
  pub some_bits : 0 < s
  pub few_bits : s ≤ 3

pub record SourceAsked (n_col n_row s r : ℕ) : Type 0 where
  pub grid : Grid n_col n_row s
  pub inside : r < n_col * n_row

pub record SourcesAsked (table : List ℕ) (width bits : ℕ) : Type 0 where
  pub known_width : T (among widths width)
  pub known_bits : T (among bit_counts bits)
  pub room : block_of width bits ≤ length table

pub record ParsedAsked (s streams encoders k : ℕ) : Type 0 where
  pub axis : T (among axis_counts s)
  pub few_streams : streams ≤ 4
  pub one_or_two : T (among encoder_counts encoders)
  pub inside : k < most_block

pub record ParseAsked (table : List ℕ) (s streams encoders : ℕ) : Type 0 where
  pub axis : T (among axis_counts s)
  pub few_streams : streams ≤ 4
  pub one_or_two : T (among encoder_counts encoders)
  pub few : length table ≤ most_block
  pub inside : (r : ℕ) → r < length table → get_or table r 0 < most_block

pub record TableAsked (table : List ℕ) (p : Plan) : Type 0 where
  pub fits : Fits p
  pub room : p.block ≤ length table
