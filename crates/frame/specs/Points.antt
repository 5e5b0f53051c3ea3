-- The points call (document 01, 'From payload to points' and 'Numbered refusals').
use Rattle.settings.specs.declared.settings.Refusal.{Refusal}
use Rattle.std.specs.Prelude.{cond, List, ◌++◌, ℕ, ◌*◌, ltb, leb, length, drop, Float, Err, Ok, Result}
use Rattle.std.specs.Float.{nan}
use Rattle.laws.specs.Firsts.{firsts}
use Rattle.chain.specs.DataBits.{payload_bit, coder_input}
use Rattle.chain.specs.Labels.{half_label}
use Rattle.settings.specs.declared.settings.Refusal.TheVariants.{Source, Place, Room}
use Rattle.settings.specs.declared.settings.Settings.{Settings}
use Rattle.settings.specs.Settings.{number_of, plan_for}
use Rattle.symbols.specs.Symbols.{symbols_of}
use Rattle.modulator.specs.Symbol.{stream_floats, symbol_float}

-- the encoders' input bits of a frame (step 1), and the half labels of its symbol n (steps 2 to 5)
abbrev pub input_of : (s : Settings) (payload : List ℕ) (d : ℕ) → ℕ
input_of s payload d = coder_input (payload_bit payload) s.length (plan_for s).encoders s.seed d

abbrev pub labels_of : (s : Settings) (payload : List ℕ) (n i m : ℕ) → ℕ
labels_of s payload n i m = half_label (plan_for s) (input_of s payload) n i m

-- float g of symbol n (steps 6 to 8)
abbrev pub point_float : (s : Settings) (payload : List ℕ) (n g : ℕ) → Float
point_float s payload n g = symbol_float (plan_for s) (labels_of s payload n) s.format n g

-- how many there are
abbrev pub floats_of : Settings → ℕ
floats_of s = (plan_for s).streams * stream_floats (plan_for s).width

-- the answer: the settings' refusals, then 6, 7, 8, or how many floats are written
abbrev pub points_of : Result Settings Refusal → (bytes symbol room : ℕ) → Result ℕ Refusal
points_of (Ok s) bytes symbol room =
    cond (ltb bytes s.length) (Err Source)
    (cond (leb (symbols_of s) symbol) (Err Place)
    (cond (ltb room (floats_of s)) (Err Room) (Ok (floats_of s))))
points_of (Err r) bytes symbol room = Err r

-- the lent floats where an answer was given: those of the symbol and the rest as they were, or on a refusal all as they were
abbrev pub points_into_by : Result ℕ Refusal → (symbol : ℕ → Float) → List Float → List Float
points_into_by (Ok count) symbol out = firsts symbol count ++ drop count out
points_into_by (Err r) symbol out = out

-- the floats of the frame's symbol; a refused frame has none, and what stands for them is never written
abbrev pub floats_in : Result Settings Refusal → (payload : List ℕ) (symbol g : ℕ) → Float
floats_in (Ok s) payload symbol g = point_float s payload symbol g
floats_in (Err r) payload symbol g = nan

abbrev pub points_into : Result Settings Refusal → (payload : List ℕ) (symbol : ℕ) → List Float → List Float
points_into checked payload symbol out =
    points_into_by (points_of checked (length payload) symbol (length out)) (floats_in checked payload symbol) out

-- document 01's number of each case, 0 where the points are written
abbrev pub points_number : Result ℕ Refusal → ℕ
points_number (Ok count) = 0
points_number (Err r) = number_of r
