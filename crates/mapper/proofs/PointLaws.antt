-- What the mapper's code does, over plain lists and numbers: its tables of levels, a carrier's point, the turn. Assumes nothing.
use Rattle.std.proofs.Common.{◌≡◌, ◌∙◌, refl, sym, ap, subst, List, [], ◌∷◌, ℕ, zero, suc, ◌+◌, ◌-◌, ◌*◌, ◌^◌, ◌<◌, le_of_suc-le-suc}
use Rattle.std.proofs.Common.{not-suc-le-zero, arith, eq-eqb, ne_eqb, T, pos, length, get_or}
use lib.Ieee.{Float, nan}
use Rattle.laws.specs.Test.{among}
use Rattle.laws.specs.Claim.{Claim, ◌is◌, ◌under◌, ◌and◌, each, given, unless, Holds, sound}
use Rattle.chain.specs.Plan.{bit_counts, axis_counts}
use Rattle.chain.specs.Parser.{axis_bits}
use Rattle.mapper.specs.Levels.{whole, level_of, Levels, carrier_levels, turned, point_of}
use Rattle.mapper.specs.Mapped.{LevelTable, carrier_halves, PointAsked, Small, turned_point}
use Rattle.mapper.proofs.LevelLaws.{negated_whole}

-- f 0, .., f (n - 1)
abbrev pub listed : (ℕ → Float) → ℕ → List Float
listed f zero = []
listed f (suc n) = f 0 ∷ listed (λ k. f (suc k)) n

listed_at : (f : ℕ → Float) (n k : ℕ) → k < n → get_or (listed f n) k nan ≡ f k
listed_at f zero k h = absurd (not-suc-le-zero h)
listed_at f (suc n) zero h = refl
listed_at f (suc n) (suc k) h = listed_at (λ j. f (suc j)) n k (le_of_suc-le-suc h)

abbrev axis_claim : Claim
axis_claim = each axis_counts λ s. 2 ^ s under 9 and unless s 1 (unless s 2 (s is 3))

-- an axis has at most eight levels; where it has neither one bit nor two, it has three
pub axes : Holds axis_claim
axes = sound axis_claim tt

-- the eight floats of the labels 0 to 7 are a table of the levels
pub tabled : (s t : ℕ) (table : List Float) → s ≡ t → T (among axis_counts t)
    → table ≡ listed (λ k. whole (level_of t k)) 8 → LevelTable s table
tabled s t table e h f = subst (λ (n : ℕ). LevelTable n table) (sym e) (record {
  sized = ap length f;
  level = λ label l.
      ap (λ (x : List Float). get_or x label nan) f ∙ listed_at (λ k. whole (level_of t k)) 8 label (omega (arith, l, (axes t h).0));
})

-- three rows, of one, two and three bits, are the tables of them all
pub row_tabled : (rows : List (List Float)) (none : List Float) (s : ℕ) → T (among axis_counts s)
    → get_or rows 0 none ≡ listed (λ k. whole (level_of 1 k)) 8 → get_or rows 1 none ≡ listed (λ k. whole (level_of 2 k)) 8
    → get_or rows 2 none ≡ listed (λ k. whole (level_of 3 k)) 8 → LevelTable s (get_or rows (s - 1) none)
row_tabled rows none zero h e₁ e₂ e₃ = absurd h
row_tabled rows none (suc zero) h e₁ e₂ e₃ = tabled 1 1 _ refl h e₁
row_tabled rows none (suc (suc zero)) h e₁ e₂ e₃ = tabled 2 2 _ refl h e₂
row_tabled rows none (suc (suc (suc zero))) h e₁ e₂ e₃ = tabled 3 3 _ refl h e₃
row_tabled rows none (suc (suc (suc (suc s)))) h e₁ e₂ e₃ =
    absurd (omega (arith, (axes (suc (suc (suc (suc s)))) h).1 (λ e. omega (arith, e)) (λ e. omega (arith, e))))

abbrev halves_claim : Claim
halves_claim = each bit_counts λ b.
    2 ^ axis_bits b under 9 and given b 1 (carrier_halves b is 1) and given b 1 (axis_bits b is 1) and unless b 1 (carrier_halves b is 2)

-- a carrier has one half label where its label is one bit, and else two
halves_are : Holds halves_claim
unfolding axis_bits
halves_are = sound halves_claim tt

module _ {halves : List ℕ} {table : List Float} {bits from c : ℕ} (a : PointAsked halves table bits from c) where
  -- a half label of the carriers up to c stands in the slice
  pub half_in_lem : (m : ℕ) → m < carrier_halves bits * (c + 1) → from + m < length halves
  half_in_lem m l = omega (arith, a.stands.inside)

  -- it is a place of the table
  pub half_known : (m : ℕ) → m < carrier_halves bits * (c + 1) → get_or halves (from + m) 0 < length table
  half_known m l = omega (arith, a.stands.label m l, a.tabled.sized, (halves_are bits a.known).0)

  -- where its level stands
  pub half_level : (m : ℕ) → m < carrier_halves bits * (c + 1)
      → get_or table (get_or halves (from + m) 0) nan ≡ whole (level_of (axis_bits bits) (get_or halves (from + m) 0))
  half_level m l = a.tabled.level (get_or halves (from + m) 0) (a.stands.label m l)

  -- carrier c's only half label
  pub only : bits ≡ 1 → c < carrier_halves bits * (c + 1)
  only e = rw ((halves_are bits a.known).1.0 e) (omega arith)

  -- carrier c's first half label
  pub first_half_lem : (bits ≡ 1 → ⊥) → 2 * c < carrier_halves bits * (c + 1)
  first_half_lem n = rw ((halves_are bits a.known).1.1.1 n) (omega arith)

  -- and its second
  pub second_half_lem : (bits ≡ 1 → ⊥) → 2 * c + 1 < carrier_halves bits * (c + 1)
  second_half_lem n = rw ((halves_are bits a.known).1.1.1 n) (omega arith)

  -- the point of a carrier whose label is one bit
  pub one_level : (x : Float) → bits ≡ 1 → x ≡ get_or table (get_or halves (from + c) 0) nan
      → record { first = x; second = whole (pos 0) } ≡ point_of (carrier_levels bits (λ m. get_or halves (from + m) 0) c)
  unfolding carrier_levels
  one_level x e g =
      let f : x ≡ whole (level_of (axis_bits bits) (get_or halves (from + c) 0)) = g ∙ half_level c (only e) in
      let s : axis_bits bits ≡ 1 = (halves_are bits a.known).1.1.0 e in
      simp (eq-eqb bits 1 e, f, s)

  -- and of a carrier with two half labels
  pub two_levels : (x y : Float) → (bits ≡ 1 → ⊥)
      → x ≡ get_or table (get_or halves (from + 2 * c) 0) nan → y ≡ get_or table (get_or halves (from + 2 * c + 1) 0) nan
      → record { first = x; second = y } ≡ point_of (carrier_levels bits (λ m. get_or halves (from + m) 0) c)
  unfolding carrier_levels
  two_levels x y n g g' =
      let next : from + 2 * c + 1 ≡ from + (2 * c + 1) = omega arith in
      let f : x ≡ whole (level_of (axis_bits bits) (get_or halves (from + 2 * c) 0)) = g ∙ half_level (2 * c) (first_half_lem n) in
      let f' : y ≡ whole (level_of (axis_bits bits) (get_or halves (from + (2 * c + 1)) 0)) =
      g' ∙ ap (λ (k : ℕ). get_or table (get_or halves k 0) nan) next ∙ half_level (2 * c + 1) (second_half_lem n) in
      simp (ne_eqb bits 1 n, f, f')

-- the turned point of small whole numbers is the point of the turned whole numbers
pub turned_whole : (l : Levels) → Small l → turned_point (point_of l) ≡ point_of (turned l)
turned_whole l h = ap (λ (x : Float). record { first = x; second = whole l.first }) (negated_whole l.second h.second)
